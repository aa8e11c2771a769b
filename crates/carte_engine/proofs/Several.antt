-- What commits of several batches come to, one after another.
use Rattle.std.proofs.Common.{◌≡◌, ◌⊎◌, ℕ, ◌+◌, ◌<◌, Bool, true, false, List, [], ◌∷◌, ◌++◌, Result, Ok, Err, refl, sym, ◌∙◌, ap, subst, inl, inr, arith, append_assoc}
use Rattle.carte_io.specs.Causes.{Rose}
use Rattle.carte_io.specs.Disk.{LeavesOnly, Story}
use Rattle.carte_io.specs.Stations.{Step, StepsThrough, calls_in, last_of}
use Rattle.carte_io.proofs.Acknowledged.{AreMade, last_of-append}
use Rattle.carte_io.proofs.Images.{leaves_more, leaves_none, leaves_then}
use Rattle.carte_record.specs.Empty.{is_empty}
use Rattle.carte_record.specs.declared.batch.Batch.{Batch}
use Rattle.carte_state.specs.Around.{OverDisk}
use Rattle.carte_state.specs.Folding.{Keeps}
use Rattle.carte_state.specs.Runs.{applied_to}
use Rattle.carte_state.specs.States.{HasRoom, IsKeptOn, Stand, any_in, needs_for}
use Rattle.carte_state.specs.Versions.{AnyKept, apply_to}
use Rattle.carte_state.specs.declared.fault.ApplyFault.{ApplyFault}
use Rattle.carte_state.specs.declared.fault.ApplyFault.TheVariants.{DiskFault, Full, NoMemory}
use Rattle.carte_state.proofs.Applies.{kept_leaves}
use Rattle.carte_engine.specs.Committing.{Commits, CommitsAll, FitAll, HasPassed, IsBase, Overfill, PutsAll, StopsAt, behind, is_first, seen, steps_once, steps_put, steps_stopped, until}
use Rattle.carte_engine.proofs.Committing.{commit_leaves, commit_limit, failed_commit, full_commit, full_faults, has_put, once_calls, once_last, once_made, once_passed, once_through, once_well, put_follows, ready_base, ready_limit, short_faults}
use Rattle.carte_engine.proofs.Steps.{EndsWell, both_calls, both_made, both_passed, both_through, both_well, none_through}

pub applied_to-append : (A : AnyKept) (Bs Cs : List Batch) → applied_to A (Bs ++ Cs) ≡ applied_to (applied_to A Bs) Cs
applied_to-append A [] Cs = refl
applied_to-append A (B ∷ Bs) Cs = applied_to-append (apply_to B A) Bs Cs

-- ---- all were put

pub puts_kept : (first : Bool) (d : OverDisk) (old : Stand) (Bs : List Batch) (new : Stand) → PutsAll first d old Bs new → any_in new ≡ applied_to (any_in old) Bs
puts_kept first d old [] new puts = ap any_in puts.0
puts_kept first d old (B ∷ Bs) new (mid, between, commits, puts) =
    puts_kept false (behind d between) mid Bs new puts ∙ ap (λ K. applied_to K Bs) (has_put first (until d between) old mid B commits).any

pub puts_limit : (first : Bool) (d : OverDisk) (old : Stand) (Bs : List Batch) (new : Stand) → PutsAll first d old Bs new → new.journal.limit ≡ old.journal.limit
puts_limit first d old [] new puts = ap (λ (s : Stand). s.journal.limit) puts.0
puts_limit first d old (B ∷ Bs) new (mid, between, commits, puts) =
    puts_limit false (behind d between) mid Bs new puts ∙ commit_limit first (until d between) old mid B (Ok tt) commits

pub puts_whole : (first : Bool) (d : OverDisk) (old : Stand) (Bs : List Batch) (new : Stand) → PutsAll first d old Bs new → old.journal.broken ≡ false → new.journal.broken ≡ false
puts_whole first d old [] new puts whole = ap (λ (s : Stand). s.journal.broken) puts.0 ∙ whole
puts_whole first d old (B ∷ Bs) new (mid, between, commits, puts) whole =
    puts_whole false (behind d between) mid Bs new puts (has_put first (until d between) old mid B commits).whole

pub puts_faults : (first : Bool) (d : OverDisk) (old : Stand) (Bs : List Batch) (new : Stand) → PutsAll first d old Bs new → d.failed ≡ d.failed_before
puts_faults first d old [] new puts = puts.2
puts_faults first d old (B ∷ Bs) new (mid, between, commits, puts) = puts_faults false (behind d between) mid Bs new puts

pub puts_rest : (first : Bool) (d : OverDisk) (old : Stand) (Bs : List Batch) (new : Stand) → PutsAll first d old Bs new → d.tells → IsKeptOn old d.old → IsKeptOn new d.new
puts_rest first d old [] new puts told on = subst (IsKeptOn new) (sym puts.1) (subst (λ (s : Stand). IsKeptOn s d.old) (sym puts.0) on)
puts_rest first d old (B ∷ Bs) new (mid, between, commits, puts) told on =
    puts_rest false (behind d between) mid Bs new puts told ((has_put first (until d between) old mid B commits).rest told on)

-- ---- as steps

puts_made : (first : Bool) (d : OverDisk) (old : Stand) (Bs : List Batch) (new : Stand) (puts : PutsAll first d old Bs new) → AreMade (steps_put first d old Bs new puts)
puts_made first d old [] new puts = tt
puts_made first d old (B ∷ Bs) new (mid, between, commits, puts) =
    both_made (steps_once first (until d between) old mid B (Ok tt) commits) (steps_put false (behind d between) mid Bs new puts)
    (once_made first (until d between) old mid B (Ok tt) commits) (puts_made false (behind d between) mid Bs new puts)

puts_last : (first : Bool) (d : OverDisk) (old : Stand) (Bs : List Batch) (new : Stand) (puts : PutsAll first d old Bs new) → last_of (any_in old) (steps_put first d old Bs new puts) ≡ any_in new
puts_last first d old [] new puts = sym (ap any_in puts.0)
puts_last first d old (B ∷ Bs) new (mid, between, commits, puts) =
    last_of-append (any_in old) (steps_once first (until d between) old mid B (Ok tt) commits) (steps_put false (behind d between) mid Bs new puts)
    ∙ (ap (λ K. last_of K (steps_put false (behind d between) mid Bs new puts)) (once_last first (until d between) old mid B commits)
    ∙ puts_last false (behind d between) mid Bs new puts)

puts_well : (first : Bool) (d : OverDisk) (old : Stand) (Bs : List Batch) (new : Stand) (puts : PutsAll first d old Bs new) → d.tells → EndsWell (steps_put first d old Bs new puts) d.old d.new
puts_well first d old [] new puts told = inl (refl, puts.1)
puts_well first d old (B ∷ Bs) new (mid, between, commits, puts) told =
    both_well (steps_once first (until d between) old mid B (Ok tt) commits) (steps_put false (behind d between) mid Bs new puts) d.old between d.new
    (once_well first (until d between) old mid B (Ok tt) commits told) (puts_well false (behind d between) mid Bs new puts told)

pub puts_calls : (first : Bool) (d : OverDisk) (old : Stand) (Bs : List Batch) (new : Stand) (puts : PutsAll first d old Bs new) → d.tells → d.new.now.passed ≡ d.old.now.passed + calls_in (steps_put first d old Bs new puts)
puts_calls first d old [] new puts told = omega (arith, ap (λ (u : Story). u.now.passed) puts.1)
puts_calls first d old (B ∷ Bs) new (mid, between, commits, puts) told =
    both_calls (steps_once first (until d between) old mid B (Ok tt) commits) (steps_put false (behind d between) mid Bs new puts) d.old.now.passed between.now.passed d.new.now.passed
    (once_calls first (until d between) old mid B commits told) (puts_calls false (behind d between) mid Bs new puts told)

-- what was acknowledged stands
pub puts_through : (first : Bool) (d : OverDisk) (old : Stand) (Bs : List Batch) (new : Stand) (puts : PutsAll first d old Bs new) → d.tells → IsKeptOn old d.old
    → StepsThrough (Keeps old.journal.limit) (any_in old) (steps_put first d old Bs new puts) d.old d.new
puts_through first d old [] new puts told on = none_through old d.old d.new puts.1 on
puts_through first d old (B ∷ Bs) new (mid, between, commits, puts) told on =
    let e = until d between in
    let front = steps_once first e old mid B (Ok tt) commits in
    let back = steps_put false (behind d between) mid Bs new puts in
    let here = puts_through false (behind d between) mid Bs new puts told ((has_put first e old mid B commits).rest told on) in
    let there = subst (λ limit. StepsThrough (Keeps limit) (any_in mid) back between d.new) (commit_limit first e old mid B (Ok tt) commits) here in
    both_through (Keeps old.journal.limit) (any_in old) front back d.old between d.new (once_through first e old mid B (Ok tt) commits told on) (once_calls first e old mid B commits told)
    (puts_well false (behind d between) mid Bs new puts told) (puts_made false (behind d between) mid Bs new puts)
    (subst (λ K. StepsThrough (Keeps old.journal.limit) K back between d.new) (sym (once_last first e old mid B commits)) there)

-- ---- one of them was not put

module _ (d : OverDisk) (old : Stand) (Bs : List Batch) (new : Stand) where
  pub stops_limit : (fault : ApplyFault) → StopsAt d old Bs new fault → new.journal.limit ≡ old.journal.limit
  stops_limit fault s = commit_limit (is_first s.front) (behind d s.between) s.mid new s.batch (Err fault) s.stops ∙ puts_limit true (until d s.between) old s.front s.mid s.puts

  pub stops_rose : StopsAt d old Bs new DiskFault → Rose d.failed_before d.failed
  stops_rose s = failed_commit (is_first s.front) (behind d s.between) s.mid new s.batch s.stops

  pub stops_faults : (fault : ApplyFault) → StopsAt d old Bs new fault → ¬ (fault ≡ DiskFault) → d.failed ≡ d.failed_before
  stops_faults DiskFault s other = absurd (other refl)
  stops_faults (Full needed limit) s other = full_faults (is_first s.front) (behind d s.between) s.mid new s.batch needed limit s.stops
  stops_faults NoMemory s other = short_faults (is_first s.front) (behind d s.between) s.mid new s.batch s.stops

  module _ (fault : ApplyFault) (stops : StopsAt d old Bs new fault) (told : d.tells) where
    abbrev steps_front : List (Step AnyKept)
    steps_front = steps_put true (until d stops.between) old stops.front stops.mid stops.puts

    abbrev steps_next : List (Step AnyKept)
    steps_next = steps_once (is_first stops.front) (behind d stops.between) stops.mid new stops.batch (Err fault) stops.stops

    pub stops_calls : HasPassed d stops.between (steps_stopped d old Bs new fault stops) fault
    stops_calls =
        both_passed d stops.between stops.between steps_front steps_next fault (puts_calls true (until d stops.between) old stops.front stops.mid stops.puts told)
        (once_passed (is_first stops.front) (behind d stops.between) stops.mid new stops.batch fault stops.stops told)

    pub stops_through : IsKeptOn old d.old → StepsThrough (Keeps old.journal.limit) (any_in old) (steps_stopped d old Bs new fault stops) d.old d.new
    stops_through on =
        let e = until d stops.between in
        let kept : IsKeptOn stops.mid stops.between = puts_rest true e old stops.front stops.mid stops.puts told on in
        let here = once_through (is_first stops.front) (behind d stops.between) stops.mid new stops.batch (Err fault) stops.stops told kept in
        let there = subst (λ limit. StepsThrough (Keeps limit) (any_in stops.mid) steps_next stops.between d.new) (puts_limit true e old stops.front stops.mid stops.puts) here in
        both_through (Keeps old.journal.limit) (any_in old) steps_front steps_next d.old stops.between d.new
        (puts_through true e old stops.front stops.mid stops.puts told on) (puts_calls true e old stops.front stops.mid stops.puts told)
        (once_well (is_first stops.front) (behind d stops.between) stops.mid new stops.batch (Err fault) stops.stops told)
        (once_made (is_first stops.front) (behind d stops.between) stops.mid new stops.batch (Err fault) stops.stops)
        (subst (λ K. StepsThrough (Keeps old.journal.limit) K steps_next stops.between d.new) (sym (puts_last true e old stops.front stops.mid stops.puts)) there)

-- ---- what a crash leaves: the first batches, each whole

abbrev pub KeepsSome : ℕ → AnyKept → List Batch → List ℕ → Type 0
KeepsSome limit K Bs file = (some : List Batch) × (rest : List Batch) × (Bs ≡ some ++ rest) × Keeps limit (applied_to K some) file

puts_leave : (first : Bool) (d : OverDisk) (old : Stand) (Bs : List Batch) (new : Stand) → PutsAll first d old Bs new → d.tells → IsKeptOn old d.old
    → LeavesOnly d.old d.new (KeepsSome old.journal.limit (any_in old) Bs)
puts_leave first d old [] new puts told on = leaves_none d.old d.new (KeepsSome old.journal.limit (any_in old) []) puts.1 (λ file image. ([], [], refl, kept_leaves old d.old on file image))
puts_leave first d old (B ∷ Bs) new (mid, between, commits, puts) told on =
    let e = until d between in
    let put = has_put first e old mid B commits in
    let limit = old.journal.limit in
    let K = any_in old in
    leaves_then d.old between d.new (KeepsSome limit K (B ∷ Bs))
    (leaves_more d.old between (λ file. Keeps limit K file ⊎ Keeps limit (apply_to B K) file) (KeepsSome limit K (B ∷ Bs))
    (λ file at. elim at [ inl before ↦ ([], B ∷ Bs, refl, before) | inr after ↦ (B ∷ [], Bs, refl, after) ])
    (commit_leaves first e old B told on mid (Ok tt) commits))
    (leaves_more between d.new (KeepsSome mid.journal.limit (any_in mid) Bs) (KeepsSome limit K (B ∷ Bs))
    (λ file at. (
      B ∷ at.0,
      at.1,
      ap (λ Cs. B ∷ Cs) at.2,
      subst (λ n. Keeps n (applied_to (apply_to B K) at.0) file) (commit_limit first e old mid B (Ok tt) commits)
          (subst (λ L. Keeps mid.journal.limit (applied_to L at.0) file) put.any at.3),
    ))
    (puts_leave false (behind d between) mid Bs new puts told (put.rest told on)))

stops_leave : (d : OverDisk) (old : Stand) (Bs : List Batch) (new : Stand) (fault : ApplyFault) → StopsAt d old Bs new fault → d.tells → IsKeptOn old d.old
    → LeavesOnly d.old d.new (KeepsSome old.journal.limit (any_in old) Bs)
stops_leave d old Bs new fault s told on =
    let e = until d s.between in
    let limit = old.journal.limit in
    let K = any_in old in
    let L = applied_to K s.front in
    let kept : IsKeptOn s.mid s.between = puts_rest true e old s.front s.mid s.puts told on in
    subst (λ Cs. LeavesOnly d.old d.new (KeepsSome limit K Cs)) (sym s.all)
    (leaves_then d.old s.between d.new (KeepsSome limit K (s.front ++ s.batch ∷ s.rest))
    (leaves_more d.old s.between (KeepsSome limit K s.front) (KeepsSome limit K (s.front ++ s.batch ∷ s.rest))
    (λ file at. (at.0, at.1 ++ s.batch ∷ s.rest, ap (λ Cs. Cs ++ s.batch ∷ s.rest) at.2 ∙ append_assoc at.0 at.1 (s.batch ∷ s.rest), at.3))
    (puts_leave true e old s.front s.mid s.puts told on))
    (leaves_more s.between d.new (λ file. Keeps s.mid.journal.limit (any_in s.mid) file ⊎ Keeps s.mid.journal.limit (apply_to s.batch (any_in s.mid)) file) (KeepsSome limit K (s.front ++ s.batch ∷ s.rest))
    (λ file at. elim at [
      | inl before ↦ (s.front, s.batch ∷ s.rest, refl, here L kept_is file before)
      | inr after ↦ (s.front ++ s.batch ∷ [], s.rest, sym (append_assoc s.front (s.batch ∷ []) s.rest), here (applied_to K (s.front ++ s.batch ∷ [])) (ap (apply_to s.batch) kept_is ∙ sym (applied_to-append K s.front (s.batch ∷ []))) file after)
    ])
    (commit_leaves (is_first s.front) (behind d s.between) s.mid s.batch told kept new (Err fault) s.stops)))
  where
    kept_is : any_in s.mid ≡ applied_to (any_in old) s.front
    kept_is = puts_kept true (until d s.between) old s.front s.mid s.puts

    here : {M : AnyKept} (N : AnyKept) → M ≡ N → (file : List ℕ) → Keeps s.mid.journal.limit M file → Keeps old.journal.limit N file
    here {M = M} N is file keeps = subst (λ n. Keeps n N file) (puts_limit true (until d s.between) old s.front s.mid s.puts) (subst (λ X. Keeps s.mid.journal.limit X file) is keeps)

pub all_leaves : (d : OverDisk) (old new : Stand) (Bs : List Batch) (result : Result (Unit {0}) ApplyFault) → CommitsAll d old new Bs result → d.tells → IsKeptOn old d.old
    → LeavesOnly d.old d.new (λ file. (some : List Batch) × (rest : List Batch) × (Bs ≡ some ++ rest) × Keeps old.journal.limit (applied_to (any_in old) some) file)
all_leaves d old new Bs (Ok done) commits = puts_leave true d old Bs new commits
all_leaves d old new Bs (Err fault) commits = stops_leave d old Bs new fault commits

-- ---- room

-- whether the batch behind these is the first of its build, where the first of these is or isn't
abbrev pub first_behind : Bool → List Batch → Bool
first_behind first [] = first
first_behind first (B ∷ Bs) = false

later_behind : (Bs : List Batch) → first_behind false Bs ≡ false
later_behind [] = refl
later_behind (B ∷ Bs) = refl

pub is_first_behind : (Bs : List Batch) → first_behind true Bs ≡ is_first Bs
is_first_behind [] = refl
is_first_behind (B ∷ Bs) = refl

-- a batch has room, or it is over
over_room : (base : Stand) (B : Batch) (needed limit : ℕ) → is_empty B ≡ false → needed ≡ needs_for base B → limit ≡ base.journal.limit → limit < needed → ¬ (HasRoom base B)
over_room base B needed limit filled needed_is limit_is over (inl empty) = let e : true ≡ false = sym empty ∙ filled in cc
over_room base B needed limit filled needed_is limit_is over (inr fits) = absurd (omega (arith, needed_is, limit_is, over, fits))

module _ (new : Stand) (B : Batch) (rest : List Batch) (needed limit : ℕ) where
  -- where each has room, none is over
  no_room : (first at : Bool) (d e : OverDisk) (old : Stand) (front : List Batch) (mid : Stand) → first_behind first front ≡ at → PutsAll first d old front mid
      → Commits at e mid new B (Err (Full needed limit)) → ¬ (FitAll first old (front ++ B ∷ rest))
  no_room first at d e old [] mid is puts stops fit =
      let f = full_commit at e mid new B needed limit stops in
      let o = f.applies.comes.0 in
      let based = subst (λ (s : Stand). IsBase first s B f.base) puts.0 (subst (λ t. IsBase t mid B f.base) (sym is) (ready_base at (until e f.between) mid f.base B f.ready)) in
      over_room f.base B needed limit o.filled o.needed_is o.limit_is o.over (fit f.base based).0
  no_room first at d e old (C ∷ front) mid is (next, between, commits, puts) stops fit =
      let f = put_follows first (until d between) old next C commits in
      no_room false at (behind d between) e next front mid (later_behind front ∙ is) puts stops
      ((fit f.base (ready_base first (until (until d between) f.between) old f.base C f.ready)).1 next f.applies.comes.after)

  -- where one is over, it is this one
  same_need : (other : ℕ) (first at : Bool) (d e : OverDisk) (old : Stand) (front : List Batch) (mid : Stand) → first_behind first front ≡ at → PutsAll first d old front mid
      → Commits at e mid new B (Err (Full needed limit)) → Overfill other first old (front ++ B ∷ rest) → needed ≡ other
  same_need other first at d e old [] mid is puts stops over =
      let f = full_commit at e mid new B needed limit stops in
      let o = f.applies.comes.0 in
      let based = subst (λ (s : Stand). IsBase first s B f.base) puts.0 (subst (λ t. IsBase t mid B f.base) (sym is) (ready_base at (until e f.between) mid f.base B f.ready)) in
      elim (over f.base based) [
        | inl here ↦ o.needed_is ∙ sym here.1
        | inr later ↦ absurd (over_room f.base B needed limit o.filled o.needed_is o.limit_is o.over later.0)
      ]
  same_need other first at d e old (C ∷ front) mid is (next, between, commits, puts) stops over =
      let f = put_follows first (until d between) old next C commits in
      elim (over f.base (ready_base first (until (until d between) f.between) old f.base C f.ready)) [
        | inl here ↦ absurd (over_room f.base C other f.base.journal.limit here.0 here.1 refl here.2 f.applies.comes.room)
        | inr later ↦ same_need other false at (behind d between) e next front mid (later_behind front ∙ is) puts stops (later.1 next f.applies.comes.after)
      ]

-- where one is over, not all are put
not_all : (needed : ℕ) (first : Bool) (d : OverDisk) (old : Stand) (Bs : List Batch) (new : Stand) → PutsAll first d old Bs new → ¬ (Overfill needed first old Bs)
not_all needed first d old [] new puts over = over
not_all needed first d old (B ∷ Bs) new (mid, between, commits, puts) over =
    let f = put_follows first (until d between) old mid B commits in
    elim (over f.base (ready_base first (until (until d between) f.between) old f.base B f.ready)) [
      | inl here ↦ over_room f.base B needed f.base.journal.limit here.0 here.1 refl here.2 f.applies.comes.room
      | inr later ↦ not_all needed false (behind d between) mid Bs new puts (later.1 mid f.applies.comes.after)
    ]

pub fit_not_full : (d : OverDisk) (old new : Stand) (Bs : List Batch) (needed limit : ℕ) → StopsAt d old Bs new (Full needed limit) → ¬ (FitAll true old Bs)
fit_not_full d old new Bs needed limit s fit =
    no_room new s.batch s.rest needed limit true (is_first s.front) (until d s.between) (behind d s.between) old s.front s.mid (is_first_behind s.front) s.puts s.stops
    (subst (FitAll true old) s.all fit)

pub full_over : (d : OverDisk) (old new : Stand) (Bs : List Batch) (needed limit : ℕ) → StopsAt d old Bs new (Full needed limit) → (limit ≡ old.journal.limit) × (limit < needed)
full_over d old new Bs needed limit s =
    let e = behind d s.between in
    let f = full_commit (is_first s.front) e s.mid new s.batch needed limit s.stops in
    let o = f.applies.comes.0 in
    (o.limit_is ∙ (ready_limit (is_first s.front) (until e f.between) s.mid f.base s.batch f.ready ∙ puts_limit true (until d s.between) old s.front s.mid s.puts), o.over)

pub overfilled : (d : OverDisk) (old new : Stand) (Bs : List Batch) (result : Result (Unit {0}) ApplyFault) (needed : ℕ) → CommitsAll d old new Bs result → Overfill needed true old Bs
    → (result ≡ Err (Full needed old.journal.limit)) ⊎ (result ≡ Err DiskFault) ⊎ (result ≡ Err NoMemory)
overfilled d old new Bs (Ok done) needed commits over = absurd (not_all needed true d old Bs new commits over)
overfilled d old new Bs (Err DiskFault) needed commits over = inr (inl refl)
overfilled d old new Bs (Err NoMemory) needed commits over = inr (inr refl)
overfilled d old new Bs (Err (Full n limit)) needed s over =
    let need : n ≡ needed = same_need new s.batch s.rest n limit needed true (is_first s.front) (until d s.between) (behind d s.between) old s.front s.mid (is_first_behind s.front) s.puts s.stops
    (subst (Overfill needed true old) s.all over) in
    let most : limit ≡ old.journal.limit = (full_over d old new Bs n limit s).0 in
    inl (ap (λ m. Err (Full m limit)) need ∙ ap (λ m. Err (Full needed m)) most)

-- ---- the same disk, by its story and its faults alone

pub puts_seen : (first : Bool) (d : OverDisk) (old : Stand) (Bs : List Batch) (new : Stand) → PutsAll first d old Bs new → PutsAll first (seen d) old Bs new
puts_seen first d old [] new puts = puts
puts_seen first d old (B ∷ Bs) new puts = puts

pub stops_seen : (d : OverDisk) (old : Stand) (Bs : List Batch) (new : Stand) (fault : ApplyFault) → StopsAt d old Bs new fault → StopsAt (seen d) old Bs new fault
stops_seen d old Bs new fault s = record { front = s.front; batch = s.batch; rest = s.rest; all = s.all; mid = s.mid; between = s.between; puts = s.puts; stops = s.stops }

pub all_seen : (d : OverDisk) (old new : Stand) (Bs : List Batch) (result : Result (Unit {0}) ApplyFault) → CommitsAll d old new Bs result → CommitsAll (seen d) old new Bs result
all_seen d old new Bs (Ok done) commits = puts_seen true d old Bs new commits
all_seen d old new Bs (Err fault) commits = stops_seen d old Bs new fault commits
