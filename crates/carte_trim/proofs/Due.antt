-- A whole run, and that the status that is due comes.
use Rattle.std.proofs.Common.{◌≡◌, ◌⊎◌, ℕ, true, List, Some, None, Ok, Err, refl, ap, sym, ◌∙◌, subst, inl, inr, arith}
use Rattle.carte_record.specs.Kept.{SomeKept}
use Rattle.carte_record_one.specs.Kept.{SomeKeptOne}
use Rattle.carte_state.specs.Folding.{IsBadState, Keeps}
use Rattle.carte_state.specs.States.{Stand, kept_in}
use Rattle.carte_state.specs.Versions.{InOne, InTwo}
use Rattle.carte_state.proofs.Folds.{bad_at_one, keeps_one, keeps_or_bad}
use Rattle.carte_trim.specs.Around.{OverDisk, OverSink, IsUntouched, IsUnvisited}
use Rattle.carte_trim.specs.Outcome.{Asks, Did, Found, HasRoomFor, IsRun, IsSpared, Made, MadeLeaves, MadeOf, Ran, Reports, TellsState}
use Rattle.carte_trim.specs.Parts.{LoadsState, RunsFor, RunsOver}
use Rattle.carte_trim.specs.Texts.{is_long}
use Rattle.carte_trim.specs.Trimmed.{IsTrimmed}
use Rattle.carte_trim.specs.Whole.{IsDue, IsHindered, Overfills}
use Rattle.carte_trim.specs.Words.{count_of}
use Rattle.carte_trim.specs.declared.status.Status.{Status}
use Rattle.carte_trim.specs.declared.status.Status.TheVariants.{Done, Usage, WriteFault, StateFault, BadState, Full, NoMemory, NotNew, NewFault, OldState}

-- ---- with the state

module _ (limit n : ℕ) (s d : OverDisk) (k : OverSink) where
  -- there is none
  pub runs_without : (status : Status) → LoadsState limit s (Err status) → IsUnvisited d → IsUntouched k → RunsFor limit n s d k status
  runs_without StateFault loads unvisited untouched = record {
    did = (unvisited, untouched);
    spared = loads.spared;
    leaves = inl (λ told. unvisited.story);
    state = loads.loaded;
    new = unvisited.faults;
    sink = untouched.2;
  }
  runs_without (BadState offset) loads unvisited untouched = record {
    did = (loads.loaded.0, unvisited, untouched);
    spared = loads.spared;
    leaves = inl (λ told. unvisited.story);
    state = loads.loaded.1;
    new = unvisited.faults;
    sink = untouched.2;
  }
  runs_without NoMemory loads unvisited untouched = record {
    did = untouched;
    spared = loads.spared;
    leaves = inl (λ told. unvisited.story);
    state = loads.loaded;
    new = unvisited.faults;
    sink = untouched.2;
  }
  runs_without OldState loads unvisited untouched = record {
    did = (loads.loaded.0, unvisited, untouched);
    spared = loads.spared;
    leaves = inl (λ told. unvisited.story);
    state = loads.loaded.1;
    new = unvisited.faults;
    sink = untouched.2;
  }
  runs_without Done loads unvisited untouched = absurd loads.loaded
  runs_without Usage loads unvisited untouched = absurd loads.loaded
  runs_without WriteFault loads unvisited untouched = absurd loads.loaded
  runs_without (Full needed most) loads unvisited untouched = absurd loads.loaded
  runs_without NotNew loads unvisited untouched = absurd loads.loaded
  runs_without NewFault loads unvisited untouched = absurd loads.loaded

  -- it was loaded
  module _ (r : Stand × ℕ) (loads : LoadsState limit s (Ok r)) where
    abbrev K : SomeKept
    K = kept_in r.0

    made_of : (status : Status) → Made limit n K r.1 d k status → MadeOf limit n s d k status
    made_of status made = (K, loads.loaded.0, (r.1, loads.loaded.1, made))

    did_of : (status : Status) → Made limit n K r.1 d k status → Did limit n s d k status
    did_of Done made = made_of Done made
    did_of WriteFault made = made_of WriteFault made
    did_of (Full needed most) made = made_of (Full needed most) made
    did_of NotNew made = made_of NotNew made
    did_of NewFault made = made_of NewFault made
    did_of NoMemory made = made
    did_of Usage made = absurd made
    did_of StateFault made = absurd made
    did_of (BadState offset) made = absurd made
    did_of OldState made = absurd made

    tells_of : (status : Status) → Made limit n K r.1 d k status → TellsState s status
    tells_of Done made = loads.loaded.2
    tells_of WriteFault made = loads.loaded.2
    tells_of (Full needed most) made = loads.loaded.2
    tells_of NotNew made = loads.loaded.2
    tells_of NewFault made = loads.loaded.2
    tells_of NoMemory made = loads.loaded.2
    tells_of Usage made = absurd made
    tells_of StateFault made = absurd made
    tells_of (BadState offset) made = absurd made
    tells_of OldState made = absurd made

    pub runs_with : (status : Status) → RunsOver limit n K r.1 d k status → RunsFor limit n s d k status
    runs_with status runs = record {
      did = did_of status runs.made;
      spared = loads.spared;
      leaves = inr (K, loads.loaded.0, runs.leaves);
      state = tells_of status runs.made;
      new = runs.new;
      sink = runs.sink;
    }

-- ---- with the words

module _ (limit : ℕ) (words : List (List ℕ)) (s d : OverDisk) (k : OverSink) where
  module _ (n : ℕ) (asks : count_of words ≡ Some n) where
    ran_of : (status : Status) → Did limit n s d k status → Ran limit words s d k status
    ran_of Done did = (n, asks, did)
    ran_of WriteFault did = (n, asks, did)
    ran_of StateFault did = (n, asks, did)
    ran_of (BadState offset) did = (n, asks, did)
    ran_of (Full needed most) did = (n, asks, did)
    ran_of NoMemory did = (n, asks, did)
    ran_of NotNew did = (n, asks, did)
    ran_of NewFault did = (n, asks, did)
    ran_of OldState did = (n, asks, did)
    ran_of Usage (K, keeps, (m, is, never)) = absurd never

    leaves_of : IsSpared d ⊎ Found limit s (λ K. MadeLeaves limit n K d) → IsSpared d ⊎ Asks words (λ m. Found limit s (λ K. MadeLeaves limit m K d))
    leaves_of (inl spared) = inl spared
    leaves_of (inr found) = inr (n, asks, found)

    pub is_run : (status : Status) → RunsFor limit n s d k status → IsRun limit words s d k status
    is_run status runs = record {
      ran = ran_of status runs.did;
      spared = runs.spared;
      leaves = leaves_of runs.leaves;
      state = runs.state;
      new = runs.new;
      sink = runs.sink;
    }

  pub is_usage : count_of words ≡ None → IsUnvisited s → IsUnvisited d → IsUntouched k → IsRun limit words s d k Usage
  is_usage none state new untouched = record {
    ran = (none, state, new, untouched);
    spared = λ told. state.story;
    leaves = inl (λ told. new.story);
    state = state.faults;
    new = new.faults;
    sink = untouched.2;
  }

  -- and where there was no memory for the error line
  short_of : (status : Status) → is_long status ≡ true → IsRun limit words s d k status → IsRun limit words s d k NoMemory
  short_of (BadState offset) long run = let (n, asks, (bad, unvisited, untouched)) = run.ran in
      record { ran = (n, asks, untouched); spared = run.spared; leaves = run.leaves; state = run.state; new = run.new; sink = run.sink }
  short_of (Full needed most) long run = let (n, asks, (K, keeps, (m, is, (short, left, spared, untouched)))) = run.ran in
      record { ran = (n, asks, untouched); spared = run.spared; leaves = run.leaves; state = run.state; new = run.new; sink = run.sink }
  short_of Done long run = absurd (cc)
  short_of Usage long run = absurd (cc)
  short_of WriteFault long run = absurd (cc)
  short_of StateFault long run = absurd (cc)
  short_of NoMemory long run = absurd (cc)
  short_of NotNew long run = absurd (cc)
  short_of NewFault long run = absurd (cc)
  short_of OldState long run = absurd (cc)

  pub reported : (old new : Status) → Reports old new → IsRun limit words s d k old → IsRun limit words s d k new
  reported old new (inl same) run = subst (IsRun limit words s d k) (sym same) run
  reported old new (inr (long, short)) run = subst (IsRun limit words s d k) (sym short) (short_of old long run)

  -- ---- the status that is due

  same_count : (m n : ℕ) → count_of words ≡ Some m → count_of words ≡ Some n → m ≡ n
  same_count m n one two = let is : Some m ≡ Some n = sym one ∙ two in cc

  some_none : {A : Type 0} (n : ℕ) → count_of words ≡ Some n → count_of words ≡ None → A
  some_none n one two = let is : Some n ≡ None = sym one ∙ two in absurd (cc)

  no_state : {A : Type 0} (K : SomeKept) (at : ℕ) → Keeps limit (InTwo K) s.old.now.reads → IsBadState limit s.old.now.reads at → A
  no_state K at keeps bad = absurd (keeps_or_bad limit s.old.now.reads (InTwo K) at keeps bad)

  no_old : {A : Type 0} (K : SomeKeptOne) (at : ℕ) → Keeps limit (InOne K) s.old.now.reads → IsBadState limit s.old.now.reads at → A
  no_old K at keeps bad = absurd (keeps_or_bad limit s.old.now.reads (InOne K) at keeps bad)

  -- of one version alone
  one_version : {A : Type 0} (K : SomeKeptOne) (M : SomeKept) → Keeps limit (InOne K) s.old.now.reads → Keeps limit (InTwo M) s.old.now.reads → A
  one_version K M old kept = let clash : InOne K ≡ InTwo M = keeps_one limit s.old.now.reads (InOne K) (InTwo M) old kept in absurd (cc)

  trims_same : (K M L : SomeKept) (n m : ℕ) → Keeps limit (InTwo K) s.old.now.reads → Keeps limit (InTwo M) s.old.now.reads → count_of words ≡ Some n → count_of words ≡ Some m
      → IsTrimmed K n L → IsTrimmed M m L
  trims_same K M L n m one two asks also trimmed =
      let same : K ≡ M = (let both : InTwo K ≡ InTwo M = keeps_one limit s.old.now.reads (InTwo K) (InTwo M) one two in cc) in
      subst (λ j. IsTrimmed M j L) (same_count n m asks also) (subst (λ N. IsTrimmed N n L) same trimmed)

  no_room : (L : SomeKept) (needed most : ℕ) → HasRoomFor limit d L → Overfills limit needed most L → ⊥
  no_room L needed most (inl (none, spared)) over = over.0 none
  no_room L needed most (inr (other, is, fits)) over = omega (arith, fits, over.2, over.3 other is)

  pub completes : (status due : Status) → Ran limit words s d k status → IsDue limit words s d due → (status ≡ due) ⊎ IsHindered status
  completes WriteFault due ran is = inr tt
  completes StateFault due ran is = inr tt
  completes NewFault due ran is = inr tt
  completes NoMemory due ran is = inr tt
  completes Usage Usage ran is = inl refl
  completes Usage (BadState at) ran (n, asks, is) = some_none n asks ran.0
  completes Usage OldState ran (n, asks, is) = some_none n asks ran.0
  completes Usage NotNew ran (n, asks, is) = some_none n asks ran.0
  completes Usage (Full needed most) ran (n, asks, is) = some_none n asks ran.0
  completes Usage Done ran (n, asks, is) = some_none n asks ran.0
  completes (BadState offset) Usage (n, asks, did) is = some_none n asks is
  completes (BadState offset) (BadState at) (n, asks, did) (m, also, (told, bad)) = inl (ap BadState (bad_at_one limit s.old.now.reads offset at (did.0 told) bad))
  completes (BadState offset) OldState (n, asks, did) (m, also, (told, K, keeps)) = no_old K offset keeps (did.0 told)
  completes (BadState offset) NotNew (n, asks, did) (m, also, (told, K, keeps, rest)) = no_state K offset keeps (did.0 told)
  completes (BadState offset) (Full needed most) (n, asks, did) (m, also, (told, K, keeps, rest)) = no_state K offset keeps (did.0 told)
  completes (BadState offset) Done (n, asks, did) (m, also, (told, K, keeps, rest)) = no_state K offset keeps (did.0 told)
  completes OldState Usage (n, asks, did) is = some_none n asks is
  completes OldState (BadState at) (n, asks, ((K, keeps), unvisited, untouched)) (m, also, (told, bad)) = no_old K at (keeps told) bad
  completes OldState OldState ran is = inl refl
  completes OldState NotNew (n, asks, ((K, keeps), unvisited, untouched)) (m, also, (told, M, kept, over)) = one_version K M (keeps told) kept
  completes OldState (Full needed most) (n, asks, ((K, keeps), unvisited, untouched)) (m, also, (told, M, kept, over)) = one_version K M (keeps told) kept
  completes OldState Done (n, asks, ((K, keeps), unvisited, untouched)) (m, also, (told, M, kept, over)) = one_version K M (keeps told) kept
  completes NotNew Usage (n, asks, did) is = some_none n asks is
  completes NotNew (BadState at) (n, asks, (K, keeps, did)) (m, also, (told, bad)) = no_state K at (keeps told) bad
  completes NotNew OldState (n, asks, (M, kept, did)) (m, also, (told, K, keeps)) = one_version K M keeps (kept told)
  completes NotNew NotNew ran is = inl refl
  completes NotNew (Full needed most) (n, asks, (K, keeps, (b, is, (long, spared, untouched)))) (m, also, (told, M, kept, (tells, short, over))) = absurd (omega (arith, long tells, short))
  completes NotNew Done (n, asks, (K, keeps, (b, is, (long, spared, untouched)))) (m, also, (told, M, kept, (tells, short, over))) = absurd (omega (arith, long tells, short))
  completes (Full needed most) Usage (n, asks, did) is = some_none n asks is
  completes (Full needed most) (BadState at) (n, asks, (K, keeps, did)) (m, also, (told, bad)) = no_state K at (keeps told) bad
  completes (Full needed most) OldState (n, asks, (M, kept, did)) (m, also, (told, K, keeps)) = one_version K M keeps (kept told)
  completes (Full needed most) NotNew (n, asks, (K, keeps, (b, is, (short, left, spared, untouched)))) (m, also, (told, M, kept, (tells, long))) = absurd (omega (arith, long, short tells))
  completes (Full needed most) (Full other limited) (n, asks, (K, keeps, (b, is, (short, (L, trimmed, over), spared, untouched)))) (m, also, (told, M, kept, (tells, new, all))) =
      let (some, limit_is, above, one) = all L (trims_same K M L n m (keeps told) kept asks also trimmed) in
      inl (ap (λ (a : ℕ). Full a most) (one needed over.needed_is) ∙ ap (λ (a : ℕ). Full other a) (over.most_is ∙ sym limit_is))
  completes (Full needed most) Done (n, asks, (K, keeps, (b, is, (short, (L, trimmed, over), spared, untouched)))) (m, also, (told, M, kept, (tells, new, all))) =
      let fits = all L (trims_same K M L n m (keeps told) kept asks also trimmed) needed over.needed_is in absurd (omega (arith, fits, over.over))
  completes Done Usage (n, asks, did) is = some_none n asks is
  completes Done (BadState at) (n, asks, (K, keeps, did)) (m, also, (told, bad)) = no_state K at (keeps told) bad
  completes Done OldState (n, asks, (M, kept, did)) (m, also, (told, K, keeps)) = one_version K M keeps (kept told)
  completes Done NotNew (n, asks, (K, keeps, (b, is, (short, rest)))) (m, also, (told, M, kept, (tells, long))) = absurd (omega (arith, long, short tells))
  completes Done Done ran is = inl refl
  completes Done (Full needed most) (n, asks, (K, keeps, (b, is, (short, (L, trimmed, (made, replied)))))) (m, also, (told, M, kept, (tells, new, all))) =
      absurd (no_room L needed most made.room (all L (trims_same K M L n m (keeps told) kept asks also trimmed)))
  completes status WriteFault ran never = absurd never
  completes status StateFault ran never = absurd never
  completes status NewFault ran never = absurd never
  completes status NoMemory ran never = absurd never
