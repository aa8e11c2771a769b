-- A whole build in waves.
use Rattle.std.proofs.Common.{◌≡◌, ℕ, Bool, List, [], None, subst}
use Rattle.carte_value.specs.Truths.{Truth}
use Rattle.carte_book.specs.Book.{Book}
use Rattle.carte_effect.specs.Ledger.{no_runs}
use Rattle.carte_record.specs.Kept.{SomeKept}
use Rattle.carte_sound.specs.Held.{How}
use Rattle.carte_sound.specs.Treated.{IsTreated}
use Rattle.carte_rebuild.specs.declared.work.Work.{Work}
use Rattle.carte_bench.specs.Spots.{Spots, IsSame}
use Rattle.carte_bench.specs.Steps.{FitsOf, GivesOf}
use Rattle.carte_progress.specs.Counted.{IsGoing}
use Rattle.carte_progress.proofs.Goings.{going_none}
use Rattle.carte_wave.specs.Waves.{State, DemandsEach, Waves, IsByWaves}
use Rattle.carte_wave.proofs.Going.{WaveLaws, going_waves, going_demands}

module _ {J : Type 0} (name : J → List ℕ) (started : J → Bool) (gives : GivesOf J) (begins : List ℕ → J → Type 0) (h : How) (b : Book) where
  -- whatever comes behind, it is what comes from the first
  abbrev pub WentOn : State J → State J → Type 0
  WentOn first now = (e : State J) → Waves name started gives begins h b now e → Waves name started gives begins h b first e

  pub by_waves : (targets : List (List ℕ)) (s0 s1 s : Spots J) (w0 w : Work) → IsSame (λ q. None) s0 → w0.finished ≡ [] → w0.runs ≡ no_runs → DemandsEach name started gives begins h b targets s0 s1 → Waves name started gives begins h b (record { spots = s1; finished = w0.finished; runs = w0.runs }) (record { spots = s; finished = w.finished; runs = w.runs }) → IsByWaves name started gives begins h b targets w
  by_waves targets s0 s1 s w0 w empty finished runs demands waves = record {
    first = s1;
    last = s;
    demanded = subst (λ e. DemandsEach name started gives begins h b targets e s1) none demands;
    waves = rw (finished, runs) at waves;
  }
    where
      none : s0 ≡ (λ q. None)
      none = λ i q. empty q i

module _ {J : Type 0} (name : J → List ℕ) (started : J → Bool) (fits : FitsOf J) (gives : GivesOf J) (begun : Truth → List ℕ → J → Type 0) (h : How) (K : SomeKept) (b : Book) (targets : List (List ℕ)) (laws : WaveLaws fits gives begun h K b) where
  pub going_all : (s0 s1 s : Spots J) (w0 w : Work) → IsSame (λ q. None) s0 → w0.finished ≡ [] → w0.runs ≡ no_runs → DemandsEach name started gives (λ k j. begun (λ q. None) k j) h b targets s0 s1 → Waves name started gives (λ k j. begun (λ q. None) k j) h b (record { spots = s1; finished = w0.finished; runs = w0.runs }) (record { spots = s; finished = w.finished; runs = w.runs }) → IsGoing started fits begun h K b targets s w.finished w.runs
  going_all s0 s1 s w0 w empty finished runs demands waves =
      let first = going_none started fits begun h K b targets s0 empty in
      let demanded = going_demands name started fits gives begun h K b targets laws targets s0 s1 [] no_runs (λ n here is. IsTreated.target here is) demands first in
      going_waves name started fits gives begun h K b targets laws (record { spots = s1; finished = []; runs = no_runs }) (record { spots = s; finished = w.finished; runs = w.runs }) (rw (finished, runs) at waves) demanded
