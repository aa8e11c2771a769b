-- The schedule of waves: which keys are driven, over which truth, and what is demanded.
use Rattle.std.specs.Prelude.{ℕ, ◌≡◌, Bool, true, false, List, [], ◌∷◌, None, Result, Ok, Err}
use Rattle.carte_value.specs.Truths.{Truth, IsListOf}
use Rattle.carte_book.specs.Book.{Book}
use Rattle.carte_effect.specs.declared.look.Stuck.{Stuck}
use Rattle.carte_effect.specs.declared.outcome.Made.{Made}
use Rattle.carte_effect.specs.Ledger.{Ledger, no_runs}
use Rattle.carte_sound.specs.Held.{How}
use Rattle.carte_note.specs.declared.finished.Finished.{Finished}
use Rattle.carte_rebuild.specs.declared.work.Work.{Work}
use Rattle.carte_rebuild.specs.declared.work.WorkEnd.{WorkEnd}
use Rattle.carte_rebuild.specs.declared.work.WorkEnd.TheVariants.{All, Refused}
use Rattle.carte_bench.specs.Spots.{Spots, IsSame, is_ready, name_of, seen_in}
use Rattle.carte_bench.specs.Steps.{GivesOf}
use Rattle.carte_progress.specs.Driven.{DroveOver}
use Rattle.carte_progress.specs.Opening.{Opens, EndsKey}

-- what stands on the bench, what is finished, and the ledger
pub record State (J : Type 0) : Type 0 where
  pub spots : Spots J
  pub finished : List Finished
  pub runs : Ledger

module _ {J : Type 0} (name : J → List ℕ) (started : J → Bool) (gives : GivesOf J) (begins : List ℕ → J → Type 0) (h : How) (b : Book) where
  -- a rule that wasn't demanded is demanded; any other name changes nothing
  abbrev pub DemandsOne : Spots J → Spots J → List ℕ → Type 0
  DemandsOne s d n = (path : List (List ℕ)) × Opens name started begins b s d [] path n

  -- what was made is finished; the rule at which a key stopped is demanded
  abbrev pub Follows : Result Made Stuck → Spots J → Spots J → List Finished → List Finished → Type 0
  Follows (Ok m) s d fs gs = EndsKey h b fs gs m × IsSame s d
  Follows (Err x) s d fs gs = (gs ≡ fs) × DemandsOne s d (name_of x)

  -- the key's job is driven over this truth, and what it comes to is followed
  pub record DrivesKey (t : Truth) (k : List ℕ) (s d : State J) : Type 0 where
    pub outcome : Result Made Stuck
    pub mid : Spots J
    pub drove : DroveOver name started gives t s.spots mid s.runs d.runs k outcome
    pub follows : Follows outcome mid d.spots s.finished d.finished

  -- so are these keys, one after another, each over the same truth
  abbrev pub DrivesKeys : Truth → List (List ℕ) → State J → State J → Type 0
  DrivesKeys t [] s d = d ≡ s
  DrivesKeys t (k ∷ ks) s d = (m : State J) × DrivesKey t k s m × DrivesKeys t ks m d

  -- each key that can go on is driven once, in name order, over what was done as the wave began
  pub record IsWave (s d : State J) : Type 0 where
    pub keys : List (List ℕ)
    pub ready : IsListOf (λ k. is_ready s.spots (s.spots k) ≡ true) keys
    pub drove : DrivesKeys (seen_in b s.spots) keys s d

  -- wave after wave, until no key can go on
  pub data Waves : State J → State J → Type 0 where
    ended : {s : State J} → ((k : List ℕ) → is_ready s.spots (s.spots k) ≡ false) → Waves s s
    next : {s m d : State J} → IsWave s m → Waves m d → Waves s d

  -- these names are demanded, one after another
  abbrev pub DemandsEach : List (List ℕ) → Spots J → Spots J → Type 0
  DemandsEach [] s d = IsSame s d
  DemandsEach (n ∷ ns) s d = (m : Spots J) × DemandsOne s m n × DemandsEach ns m d

  -- The targets were demanded of an empty bench, and then went wave after wave; this is what they finished and their ledger.
  pub record IsByWaves (targets : List (List ℕ)) (w : Work) : Type 0 where
    pub first : Spots J
    pub last : Spots J
    pub demanded : DemandsEach targets (λ k. None) first
    pub waves : Waves (record { spots = first; finished = []; runs = no_runs }) (record { spots = last; finished = w.finished; runs = w.runs })

  -- however the build ended
  abbrev pub EndsByWaves : List (List ℕ) → WorkEnd → Type 0
  EndsByWaves targets (All w) = IsByWaves targets w
  EndsByWaves targets (Refused w reason) = IsByWaves targets w
