-- A whole wave: its jobs were driven, and put back one after another.
use Rattle.std.proofs.Common.{◌≡◌, ℕ, ◌<◌, Bool, true, false, List, [], ◌∷◌, length, Option, Some, None, Result, Ok, Err, refl, ap, sym, ◌∙◌, subst, inl, inr, arith}
use Rattle.std.specs.Prelude.{OnOk}
use Rattle.std.specs.BTreeSet.{BTreeSet, contains}
use Rattle.carte_name.specs.Names.{name_cmp}
use Rattle.carte_value.specs.Truths.{Among, NoneTwice, IsListOf}
use Rattle.carte_book.specs.Book.{Book, content}
use Rattle.carte_effect.specs.Ledger.{Ledger, no_runs, with_later}
use Rattle.carte_effect.specs.Sights.{Sight}
use Rattle.carte_sound.specs.Held.{How}
use Rattle.carte_note.specs.declared.finished.Finished.{Finished}
use Rattle.carte_bench.specs.declared.slot.Slot.{Slot}
use Rattle.carte_bench.specs.declared.slot.Slot.TheVariants.{Ready, Stopped, Out, Done}
use Rattle.carte_bench.specs.Spots.{Spots, is_done, is_ready, job_in, done_in, sight_at, sight_in, seen_in}
use Rattle.carte_bench.specs.Steps.{GivesOf}
use Rattle.carte_progress.specs.Standing.{StaysKnown}
use Rattle.carte_progress.proofs.Puts.{undone_none}
use Rattle.carte_wave.specs.declared.wave.Driven.{Driven}
use Rattle.carte_wave.specs.Drives.{DroveAll}
use Rattle.carte_wave.specs.Front.{Line, IsTaken}
use Rattle.carte_wave.specs.Settling.{AreOut, AreJobs, AreBack, StopEach, names_in, SettlesEach}
use Rattle.carte_wave.specs.Standing.{IsLined, AreWanted, IsFewer, waves_left}
use Rattle.carte_wave.specs.Waves.{DrivesKeys, IsWave}
use Rattle.carte_wave.proofs.Drives.{behind, later_nil}
use Rattle.carte_wave.proofs.Lighter.{left_most}
use Rattle.carte_wave.proofs.Outs.{ready_undone, among_or_not}
use Rattle.carte_wave.proofs.Sets.{in_keys, in_set, rising_once}
use Rattle.carte_wave.proofs.Stops.{stops_in}
use Rattle.carte_wave.proofs.Stepping.{IsAmid}
use Rattle.carte_wave.proofs.Stepped.{stepped}

pub jobs_kept : {J : Type 0} (s d : Spots J) (ks : List (List ℕ)) (ps : List J) → ((q : List ℕ) → Among ks q → d q ≡ s q) → AreJobs s ks ps → AreJobs d ks ps
jobs_kept s d [] [] keeps jobs = tt
jobs_kept s d [] (p ∷ ps) keeps jobs = jobs
jobs_kept s d (k ∷ ks) [] keeps jobs = jobs
jobs_kept s d (k ∷ ks) (p ∷ ps) keeps (stood, rest) = (rw (keeps k (inl refl)) stood, jobs_kept s d ks ps (λ q here. keeps q (inr here)) rest)

module _ {J : Type 0} (name : J → List ℕ) (started : J → Bool) (gives : GivesOf J) (begins : List ℕ → J → Type 0) (h : How) (b : Book) (v0 : Spots J) where
  -- what all of them come to
  pub record Waved (v : Spots J) (ks : List (List ℕ)) (d : Spots J) (g : Line) (r r' : Ledger) (fs gs : List Finished) : Type 0 where
    pub now : Spots J
    pub amid : IsAmid name b v0 now d [] g
    pub drove : DrivesKeys name started gives begins h b (seen_in b v0) ks (record { spots = v; finished = fs; runs = r }) (record { spots = now; finished = gs; runs = r' })
    pub known : StaysKnown v now

  pub waved : (ks : List (List ℕ)) (ps : List J) (ds : List (Driven J)) (v s d : Spots J) (f g : Line) (r r' : Ledger) (fs gs : List Finished) → IsAmid name b v0 v s ks f → AreJobs v ks ps → DroveAll name started gives (sight_in b v0) ps ds r r' → SettlesEach name started begins h b ds s d f g fs gs → Waved v ks d g r r' fs gs
  waved [] [] [] v s d f g r r' fs gs amid jobs same (there, line, finished) = record {
    now = v;
    amid = rw (there, line) amid;
    drove = rw (finished, same) refl;
    known = λ q x is. (x, is);
  }
  waved [] [] (p ∷ ps) v s d f g r r' fs gs amid jobs never settles = absurd never
  waved [] (p ∷ ps) ds v s d f g r r' fs gs amid never drove settles = absurd never
  waved (k ∷ ks) [] ds v s d f g r r' fs gs amid never drove settles = absurd never
  waved (k ∷ ks) (p ∷ ps) [] v s d f g r r' fs gs amid jobs never settles = absurd never
  waved (k ∷ ks) (p ∷ ps) (e ∷ ds) v s d f g r r' fs gs amid (stood, jobs) (m, drove, later) (mid, line, hs, settles, rest) =
      let one = stepped name started gives begins h b v0 v s k ks f amid p stood e r m drove mid line fs hs settles in
      let others = waved ks ps ds one.now mid d line g m r' hs gs one.amid (jobs_kept v one.now ks ps one.keeps jobs) later rest in
      record {
        now = others.now;
        amid = others.amid;
        drove = (record { spots = one.now; finished = hs; runs = m }, one.drives, others.drove);
        known = λ q x is. (let there = one.known q x is in others.known q there.0 there.1);
      }

  -- the jobs are those of the keys
  pub names_are : (ks : List (List ℕ)) (ps : List J) (ds : List (Driven J)) (v : Spots J) (sight : List ℕ → Sight) (r r' : Ledger) → ((k : List ℕ) (j : J) → job_in (v k) ≡ Some j → name j ≡ k) → AreJobs v ks ps → DroveAll name started gives sight ps ds r r' → names_in name ds ≡ ks
  names_are [] [] [] v sight r r' named jobs drove = refl
  names_are [] [] (e ∷ ds) v sight r r' named jobs never = absurd never
  names_are [] (p ∷ ps) ds v sight r r' named never drove = absurd never
  names_are (k ∷ ks) [] ds v sight r r' named never drove = absurd never
  names_are (k ∷ ks) (p ∷ ps) [] v sight r r' named jobs never = absurd never
  names_are (k ∷ ks) (p ∷ ps) (e ∷ ds) v sight r r' named (stood, jobs) (m, drove, later) = rw (drove.named ∙ named k p stood, names_are ks ps ds v sight m r' named jobs later) refl

  stops_each : (ps : List J) (ds : List (Driven J)) (r r' : Ledger) → DroveAll name started gives (sight_in b v0) ps ds r r' → StopEach b ds
  stops_each [] [] r r' drove = tt
  stops_each [] (e ∷ ds) r r' never = absurd never
  stops_each (p ∷ ps) [] r r' never = absurd never
  stops_each (p ∷ ps) (e ∷ ds) r r' (m, drove, later) = (stops_in name started gives b v0 p e r m drove, stops_each ps ds m r' later)

  -- so they may be put back
  pub may_go_back : (s : Spots J) (ks : List (List ℕ)) (ps : List J) (ds : List (Driven J)) (r r' : Ledger) → ((k : List ℕ) (j : J) → job_in (v0 k) ≡ Some j → name j ≡ k) → AreOut v0 s ks → NoneTwice ks → AreJobs v0 ks ps → DroveAll name started gives (sight_in b v0) ps ds r r' → AreBack name b s ds
  may_go_back s ks ps ds r r' named out once jobs drove =
      let names = names_are ks ps ds v0 (sight_in b v0) r r' named jobs drove in
      record {
        out = λ q here. out.out q (subst (λ l. Among l q) names here);
        once = rw names once;
        stops = stops_each ps ds r r' drove;
      }

-- keys that are out show what they showed before, since they weren't done
pub sight_out : {J : Type 0} (b : Book) (v s : Spots J) (ks : List (List ℕ)) → AreOut v s ks → ((q : List ℕ) → Among ks q → is_ready v (v q) ≡ true) → sight_in b s ≡ sight_in b v
sight_out b v s ks out ready = λ i q. same q i
  where
    same : (q : List ℕ) → sight_in b s q ≡ sight_in b v q
    same q = elim (among_or_not ks q) [
      | inl here ↦ ap (sight_at (content b q)) (rw (out.out q here) (sym (undone_none (v q) (ready_undone v (v q) (ready q here)))))
      | inr off ↦ ap (λ o. sight_at (content b q) (done_in o)) (out.else_same q off)
    ]

-- where the wave begins
module _ {J : Type 0} (name : J → List ℕ) (b : Book) (v s : Spots J) (f g : Line) (keys : BTreeSet (List ℕ)) (taken : IsTaken f g keys) (lined : IsLined name b v [] f) where
  pub taken_ready : (k : List ℕ) → Among keys.keys k → is_ready v (v k) ≡ true
  taken_ready k here = lined.ready_is k (sym (taken.keys_are k) ∙ in_set keys k here)

  pub taken_once : NoneTwice keys.keys
  taken_once = rising_once keys.keys taken.rising

  ready_taken : (k : List ℕ) → f.ready k ≡ true → Among keys.keys k
  ready_taken k is = in_keys keys k (taken.keys_are k ∙ is)

  pub taken_list : IsListOf (λ k. is_ready v (v k) ≡ true) keys.keys
  taken_list = record {
    rising = taken.rising;
    only = taken_ready;
    each = λ k is. each_of k (v k) refl is;
  }
    where
      each_of : (k : List ℕ) (o : Option (Slot J)) → v k ≡ o → is_ready v o ≡ true → Among keys.keys k
      each_of k None there is = cc
      each_of k (Some (Ready p)) there is = elim (lined.fresh k p there) [
        | inl ready ↦ ready_taken k ready
        | inr never ↦ absurd never
      ]
      each_of k (Some (Stopped p n)) there is = elim (lined.stopped k n p there) [
        | inl now ↦ elim now [
          | inl ready ↦ ready_taken k ready
          | inr never ↦ absurd never
        ]
        | inr held ↦ elim held [
          | inl none ↦ absurd (none_done k n none (v n) refl is)
          | inr waits ↦ (let both : true ≡ false = sym is ∙ waits.1 in cc)
        ]
      ]
        where
          none_done : (k n : List ℕ) → content b n ≡ None → (o : Option (Slot J)) → v n ≡ o → is_done o ≡ true → ⊥
          none_done k n none None there is = cc
          none_done k n none (Some x) there is = let held = lined.rules n x there in let both = sym none ∙ held.1 in cc
      each_of k (Some Out) there is = cc
      each_of k (Some (Done m)) there is = cc

  pub begun_amid : AreWanted v f → AreOut v s keys.keys → IsAmid name b v v s keys.keys g
  begun_amid wanted out = record {
    lined = record {
      rules = lined.rules;
      named = lined.named;
      none_out = lined.none_out;
      ready_is = λ k is. (let both : false ≡ true = sym (taken.ready k) ∙ is in cc);
      taken_is = taken_ready;
      apart = λ k is here. (let both : false ≡ true = sym (taken.ready k) ∙ is in cc);
      waits_is = λ n k here open_n. lined.waits_is n k (rw (taken.waits n) at here) open_n;
      fresh = λ k p is. elim (lined.fresh k p is) [
        | inl ready ↦ inr (ready_taken k ready)
        | inr never ↦ absurd never
      ];
      stopped = λ k n p is. elim (lined.stopped k n p is) [
        | inl now ↦ elim now [
          | inl ready ↦ inl (inr (ready_taken k ready))
          | inr never ↦ absurd never
        ]
        | inr held ↦ elim held [
          | inl none ↦ inr (inl none)
          | inr waits ↦ inr (inr (rw (taken.waits n) waits.0, waits.1))
        ]
      ];
    };
    wanted = λ n k here. wanted n k (rw (taken.waits n) at here);
    fewer = record { lighter = λ q. omega arith; fewer = λ k is. (let both : false ≡ true = sym (taken.ready k) ∙ is in cc) };
    out = out;
    once = taken_once;
  }

module _ {J : Type 0} (name : J → List ℕ) (started : J → Bool) (gives : GivesOf J) (begins : List ℕ → J → Type 0) (h : How) (b : Book) (v s : Spots J) (f g : Line) (keys : BTreeSet (List ℕ)) (taken : IsTaken f g keys) (lined : IsLined name b v [] f) (wanted : AreWanted v f) (ps : List J) (jobs : AreJobs v keys.keys ps) (out : AreOut v s keys.keys) (ds : List (Driven J)) (q : Ledger) (drove : DroveAll name started gives (sight_in b s) ps ds no_runs q) where
  drove_before : DroveAll name started gives (sight_in b v) ps ds no_runs q
  drove_before = subst (λ sight. DroveAll name started gives sight ps ds no_runs q) (sight_out b v s keys.keys out (taken_ready name b v s f g keys taken lined)) drove

  pub wave_back : AreBack name b s ds
  wave_back = may_go_back name started gives begins h b v s keys.keys ps ds no_runs q lined.named out (taken_once name b v s f g keys taken lined) jobs drove_before

  -- what a wave comes to
  pub record Whole (d : Spots J) (e : Line) (r r' : Ledger) (fs gs : List Finished) : Type 0 where
    pub lined_now : IsLined name b d [] e
    pub wanted_now : AreWanted d e
    pub fewer : IsFewer b v d e
    pub known : StaysKnown v d
    pub wave : IsWave name started gives begins h b (record { spots = v; finished = fs; runs = r }) (record { spots = d; finished = gs; runs = r' })

  pub whole : (d : Spots J) (e : Line) (r r' : Ledger) (fs gs : List Finished) → r' ≡ with_later r q → SettlesEach name started begins h b ds s d g e fs gs → Whole d e r r' fs gs
  whole d e r r' fs gs runs settles =
      let counted = subst (λ l. DroveAll name started gives (sight_in b v) ps ds l (with_later r q)) (later_nil r) (behind name started gives (sight_in b v) r no_runs q ps ds drove_before) in
      let all = waved name started gives begins h b v keys.keys ps ds v s d g e r (with_later r q) fs gs (begun_amid name b v s f g keys taken lined wanted out) jobs counted settles in
      let here : all.now ≡ d = λ i k. sym (all.amid.out.else_same k (λ never. never)) i in
      let drives = subst (λ n. DrivesKeys name started gives begins h b (seen_in b v) keys.keys (record { spots = v; finished = fs; runs = r }) (record { spots = n; finished = gs; runs = with_later r q })) here all.drove in
      record {
        lined_now = subst (λ n. IsLined name b n [] e) here all.amid.lined;
        wanted_now = subst (λ n. AreWanted n e) here all.amid.wanted;
        fewer = subst (λ n. IsFewer b v n e) here all.amid.fewer;
        known = subst (λ n. StaysKnown v n) here all.known;
        wave = rw runs (record { keys = keys.keys; ready = taken_list name b v s f g keys taken lined; drove = drives });
      }

pub waves_fewer : {J : Type 0} (b : Book) (v d : Spots J) (e : Line) (before : List (List ℕ)) (now : BTreeSet (List ℕ)) → ((k : List ℕ) → contains name_cmp now k ≡ true → e.ready k ≡ true) → IsFewer b v d e → 0 < length before → waves_left b d now.keys < waves_left b v before
waves_fewer b v d e [] now ready fewer some = absurd (omega (arith, some))
waves_fewer b v d e (i ∷ is) now ready fewer some = at now.keys (λ k here. ready k (in_set now k here))
  where
    at : (ks : List (List ℕ)) → ((k : List ℕ) → Among ks k → e.ready k ≡ true) → waves_left b d ks < waves_left b v (i ∷ is)
    at [] each = omega (arith, left_most v d fewer.lighter b)
    at (k ∷ ks) each = omega (arith, fewer.fewer k (each k (inl refl)))

pub on_ok_both : {A E : Type 0} {P Q R : Type 0} (r : Result A E) → (P → Q → R) → OnOk r P → OnOk r Q → OnOk r R
on_ok_both (Ok x) both p q = both p q
on_ok_both (Err e) both p q = tt
