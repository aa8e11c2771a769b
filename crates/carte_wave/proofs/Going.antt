-- What is known of a build, and of its ledger, is kept by each wave.
use Rattle.std.proofs.Common.{◌≡◌, ℕ, Bool, true, false, List, [], ◌∷◌, Option, Some, None, Result, Ok, Err, refl, sym, ◌∙◌, subst, inl, inr}
use Rattle.carte_value.specs.declared.value.Value.{Value}
use Rattle.carte_value.specs.Truths.{Truth, Extends, Among, NoneTwice}
use Rattle.carte_book.specs.Book.{Book, input, content}
use Rattle.carte_book.specs.Needs.{IsRule}
use Rattle.carte_effect.specs.declared.look.Stuck.{Stuck}
use Rattle.carte_effect.specs.declared.outcome.Made.{Made}
use Rattle.carte_effect.specs.Ledger.{Ledger}
use Rattle.carte_record.specs.Kept.{SomeKept}
use Rattle.carte_sound.specs.Held.{How}
use Rattle.carte_sound.specs.Treated.{IsTreated}
use Rattle.carte_note.specs.declared.finished.Finished.{Finished}
use Rattle.carte_note.specs.Right.{ran_in}
use Rattle.carte_bench.specs.declared.slot.Slot.{Slot}
use Rattle.carte_bench.specs.declared.slot.Slot.TheVariants.{Ready, Stopped, Out, Done}
use Rattle.carte_bench.specs.Spots.{Spots, is_done, is_ready, job_in, name_of, slot_after, seen_in}
use Rattle.carte_bench.specs.Steps.{FitsOf, GivesOf, IsCore, IsPartOf}
use Rattle.carte_bench.proofs.Cores.{put_core, job_fits, after_fits, sees_inputs}
use Rattle.carte_bench.proofs.Puts.{put_here, put_apart}
use Rattle.carte_progress.specs.Driven.{DroveOver, IsDriven}
use Rattle.carte_progress.proofs.Alongs.{GoOn, FitAll, along_same}
use Rattle.carte_progress.proofs.Driving.{along_stopped, along_ended, ran_ended, not_run, stop_treated}
use Rattle.carte_progress.proofs.Puts.{job_undone, undone_none}
use Rattle.carte_progress.proofs.Seeing.{seen_put}
use Rattle.carte_progress.specs.Counted.{IsCounted, IsGoing}
use Rattle.carte_progress.proofs.Ledgers.{counted_same, counted_stop, counted_end}
use Rattle.carte_progress.proofs.Goings.{going_opens}
use Rattle.carte_wave.specs.Laws.{FitsOn}
use Rattle.carte_wave.specs.Waves.{State, Follows, DrivesKey, DrivesKeys, IsWave, Waves, ended, next, DemandsEach}
use Rattle.carte_wave.proofs.Sets.{rising_once}

-- what a schedule of waves knows of jobs
pub record WaveLaws {J : Type 0} (fits : FitsOf J) (gives : GivesOf J) (begun : Truth → List ℕ → J → Type 0) (h : How) (K : SomeKept) (b : Book) : Type 0 where
  pub fits_on : FitsOn fits gives
  pub goes_on : GoOn gives begun h K b
  pub fit : FitAll fits begun h b

module _ {J : Type 0} (name : J → List ℕ) (started : J → Bool) (fits : FitsOf J) (gives : GivesOf J) (begun : Truth → List ℕ → J → Type 0) (h : How) (K : SomeKept) (b : Book) (targets : List (List ℕ)) (laws : WaveLaws fits gives begun h K b) where
  abbrev begins : List ℕ → J → Type 0
  begins k j = begun (λ q. None) k j

  abbrev Going : State J → Type 0
  Going s = IsGoing started fits begun h K b targets s.spots s.finished s.runs

  -- one key, over a part of what is done which has all over which its job was driven before
  module _ (t : Truth) (k : List ℕ) (s d : State J) (drives : DrivesKey name started gives begins h b t k s d) (over : IsPartOf b s.spots t) (before : (j : J) → job_in (s.spots k) ≡ Some j → (u : Truth) × Extends u t × begun u k j) (going : Going s) where
    drove : DroveOver name started gives t s.spots drives.mid s.runs d.runs k drives.outcome
    drove = drives.drove

    core_mid : IsCore fits b drives.mid
    core_mid =
        let fit = job_fits fits b s.spots k drove.before going.along.known.core drove.stood in
        put_core fits b s.spots drives.mid k (slot_after drove.after drives.outcome) going.along.known.core fit.0
        (after_fits fits b name gives laws.fits_on s.spots k drove.before drove.after t drove.further drives.outcome going.along.known.core fit.1 over drove.gave)
        drove.put

    new_run : ¬ (Among (ran_in s.finished) k)
    new_run = not_run fits begun h K b targets s.spots s.finished k going.along drove.before drove.stood

    driven : IsDriven name started gives begun b t s.spots drives.mid s.runs d.runs k drives.outcome
    driven = record { drove = drove; over = over; begins = before drove.before drove.stood }

    followed : (o : Result Made Stuck) → DroveOver name started gives t s.spots drives.mid s.runs d.runs k o → IsDriven name started gives begun b t s.spots drives.mid s.runs d.runs k o → Follows name started gives begins h b o drives.mid d.spots s.finished d.finished → Going d
    followed (Ok m) drove_so driven_so (ends, same) =
        let along = along_ended name started fits gives begun h K b targets laws.goes_on t s.spots drives.mid k s.finished s.runs d.runs going.along core_mid m d.finished driven_so ends in
        let ran = ran_ended name started fits gives begun h K b targets laws.goes_on t s.spots drives.mid k s.finished s.runs d.runs going.along core_mid m d.finished driven_so ends in
        let counted = counted_end started s.spots drives.mid k drove_so.before drove_so.after m (ran_in s.finished) s.runs d.runs going.counted drove_so.stood new_run drove_so.put drove_so.counted in
        let counted_mid : IsCounted started drives.mid (ran_in d.finished) d.runs = subst (λ l. IsCounted started drives.mid l d.runs) (sym ran) counted in
        record {
          along = along_same name started fits begun h K b targets laws.fit drives.mid d.spots k d.finished along same;
          counted = counted_same started drives.mid d.spots (ran_in d.finished) d.runs same counted_mid;
        }
    followed (Err x) drove_so driven_so (same, (path, opens)) =
        let mid : IsGoing started fits begun h K b targets drives.mid s.finished d.runs = record {
          along = along_stopped name started fits gives begun h K b targets laws.goes_on t s.spots drives.mid k s.finished s.runs d.runs going.along core_mid x driven_so;
          counted = counted_stop started s.spots drives.mid k drove_so.before drove_so.after x (ran_in s.finished) s.runs d.runs going.counted drove_so.stood new_run drove_so.put drove_so.counted;
        } in
        let stop = put_here s.spots drives.mid k (Stopped drove_so.after (name_of x)) drove_so.put in
        let treated = stop_treated fits begun h K b targets drives.mid k (name_of x) drove_so.after mid.along.known stop in
        let all = going_opens name started fits begun h K b targets laws.fit drives.mid d.spots (name_of x) s.finished d.runs mid [] path treated opens in
        subst (λ l. IsGoing started fits begun h K b targets d.spots l d.runs) (sym same) all

    pub going_key : Going d
    going_key = followed drives.outcome drove driven drives.follows

    undone : is_done (s.spots k) ≡ false
    undone = job_undone (s.spots k) drove.before drove.stood

    -- what is shown grows, and what has another job stays
    opened_more : (mid new : Spots J) (o : Result Made Stuck) (fs gs : List Finished) → Follows name started gives begins h b o mid new fs gs → Extends (seen_in b mid) (seen_in b new)
    opened_more mid new (Ok m) fs gs (ends, same) i v has = rw (same i) has
    opened_more mid new (Err x) fs gs (finished, (path, inl demands)) i v has = seen_put b mid new (name_of x) (Ready demands.job) demands.put (rw demands.fresh.1 refl) i v has
    opened_more mid new (Err x) fs gs (finished, (path, inr leaves)) i v has = rw (leaves.1 i) has

    pub key_grows : Extends (seen_in b s.spots) (seen_in b d.spots)
    key_grows i v has = opened_more drives.mid d.spots drives.outcome s.finished d.finished drives.follows i v (seen_put b s.spots drives.mid k (slot_after drove.after drives.outcome) drove.put (undone_none (s.spots k) undone) i v has)

    opened_same : (mid new : Spots J) (o : Result Made Stuck) (fs gs : List Finished) (q : List ℕ) (j : J) → Follows name started gives begins h b o mid new fs gs → job_in (mid q) ≡ Some j → new q ≡ mid q
    opened_same mid new (Ok m) fs gs q j (ends, same) has = same q
    opened_same mid new (Err x) fs gs q j (finished, (path, inl demands)) has = put_apart mid new (name_of x) (Ready demands.job) q (λ same. (let both : None ≡ Some j = rw (← same, demands.fresh.1) at has in cc)) demands.put
    opened_same mid new (Err x) fs gs q j (finished, (path, inr leaves)) has = leaves.1 q

    pub key_keeps : (q : List ℕ) (j : J) → ¬ (k ≡ q) → job_in (s.spots q) ≡ Some j → d.spots q ≡ s.spots q
    key_keeps q j other has =
        let same = put_apart s.spots drives.mid k (slot_after drove.after drives.outcome) q other drove.put in
        opened_same drives.mid d.spots drives.outcome s.finished d.finished q j drives.follows (rw same has) ∙ same

  -- each of these has a job, which was driven over parts of this truth before
  abbrev HaveJobs : Truth → State J → List (List ℕ) → Type 0
  HaveJobs t s ks = (q : List ℕ) → Among ks q → (j : J) × (job_in (s.spots q) ≡ Some j) × (u : Truth) × Extends u t × begun u q j

  going_keys : (t : Truth) (ks : List (List ℕ)) (s d : State J) → NoneTwice ks → Extends t (seen_in b s.spots) → ((i : List ℕ) (v : Value) → content b i ≡ Some (input v) → t i ≡ Some v) → HaveJobs t s ks → DrivesKeys name started gives begins h b t ks s d → Going s → Going d
  going_keys t [] s d once part inputs jobs same going = rw same going
  going_keys t (k ∷ ks) s d once part inputs jobs (m, drives, rest) going =
      let over : IsPartOf b s.spots t = record { part = part; inputs = inputs } in
      let first = jobs k (inl refl) in
      let before : (j : J) → job_in (s.spots k) ≡ Some j → (u : Truth) × Extends u t × begun u k j = λ j is. (let both : Some first.0 ≡ Some j = sym first.1 ∙ is in let same : first.0 ≡ j = cc in (first.2, first.3, subst (begun first.2 k) same first.4)) in
      going_keys t ks m d once.1
      (λ i v has. key_grows t k s m drives over before going i v (part i v has))
      inputs
      (λ q here. (let job = jobs q (inr here) in let keeps = key_keeps t k s m drives over before going q job.0 (λ same. once.0 (subst (Among ks) (sym same) here)) job.1 in (job.0, rw keeps job.1, job.2, job.3, job.4)))
      rest (going_key t k s m drives over before going)

  job_of : (s : Spots J) (o : Option (Slot J)) → is_ready s o ≡ true → (j : J) × (job_in o ≡ Some j)
  job_of s None is = cc
  job_of s (Some (Ready j)) is = (j, refl)
  job_of s (Some (Stopped j n)) is = (j, refl)
  job_of s (Some Out) is = cc
  job_of s (Some (Done m)) is = cc

  pub going_wave : (s d : State J) → IsWave name started gives begins h b s d → Going s → Going d
  going_wave s d wave going =
      going_keys (seen_in b s.spots) wave.keys s d (rising_once wave.keys wave.ready.rising) (λ i v has. has) (λ i v is. sees_inputs b s.spots i v is)
      (λ q here. (let job = job_of s.spots (s.spots q) (wave.ready.only q here) in let begun_so = going.along.known.jobs q job.0 job.1 in (job.0, job.1, begun_so.0, begun_so.1, begun_so.2)))
      wave.drove going

  pub going_waves : (s d : State J) → Waves name started gives begins h b s d → Going s → Going d
  going_waves s d (ended none) going = going
  going_waves s d (next {m = m} wave rest) going = going_waves m d rest (going_wave s m wave going)

  -- demands of targets keep it too
  pub going_demands : (ns : List (List ℕ)) (s d : Spots J) (fs : List Finished) (r : Ledger) → ((n : List ℕ) → Among ns n → IsRule b n → IsTreated h K b targets n) → DemandsEach name started gives begins h b ns s d → IsGoing started fits begun h K b targets s fs r → IsGoing started fits begun h K b targets d fs r
  going_demands [] s d fs r treated same going = record {
    along = along_same name started fits begun h K b targets laws.fit s d [] fs going.along same;
    counted = counted_same started s d (ran_in fs) r same going.counted;
  }
  going_demands (n ∷ ns) s d fs r treated (m, (path, opens), rest) going =
      going_demands ns m d fs r (λ i here. treated i (inr here)) rest
      (going_opens name started fits begun h K b targets laws.fit s m n fs r going [] path (treated n (inl refl)) opens)
