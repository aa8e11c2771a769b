-- What the drives of a list of jobs come to.
use Rattle.std.specs.Prelude.{ℕ, ◌≡◌, Bool, List, [], ◌∷◌, ◌++◌, None}
use Rattle.carte_value.specs.Once.{Answers}
use Rattle.carte_value.specs.Truths.{Truth}
use Rattle.carte_effect.specs.declared.look.Stuck.{Stuck}
use Rattle.carte_effect.specs.Jobs.{Step, Gave, Counted}
use Rattle.carte_effect.specs.Ledger.{Ledger}
use Rattle.carte_effect.specs.Sights.{Sight, value_seen, IsStuck}
use Rattle.carte_wave.specs.declared.wave.Driven.{Driven}
use Rattle.carte_wave.specs.declared.wave.Wave.{Wave}

-- what the sights of names have as values, and which stops come at them
abbrev pub seen_by : (List ℕ → Sight) → Truth
seen_by sight k = value_seen (sight k)

abbrev pub stops_by : (List ℕ → Sight) → List ℕ → Stuck → Type 0
stops_by sight k x = IsStuck (sight k) k x

module _ {J : Type 0} (name : J → List ℕ) (started : J → Bool) (gives : J → Truth → Answers → Step → J → Type 0) (sight : List ℕ → Sight) where
  -- one drive of this job over what is seen, which the ledger counts
  pub record Drove (p : J) (d : Driven J) (r r' : Ledger) : Type 0 where
    pub gave : Gave gives (seen_by sight) (stops_by sight) None None p d.job d.outcome
    pub named : name d.job ≡ name p
    pub counted : Counted (name p) (started p) (started d.job) r r' d.outcome

  -- each job of the list was driven once over what is seen, and the ledger counts them in order
  abbrev pub DroveAll : List J → List (Driven J) → Ledger → Ledger → Type 0
  DroveAll [] [] r r' = r' ≡ r
  DroveAll [] (d ∷ ds) r r' = ⊥
  DroveAll (p ∷ ps) [] r r' = ⊥
  DroveAll (p ∷ ps) (d ∷ ds) r r' = (m : Ledger) × Drove p d r m × DroveAll ps ds m r'

  -- one job more was driven
  abbrev pub DrivesOne : J → Wave J → Wave J → Type 0
  DrivesOne p w w' = (d : Driven J) × (w'.driven.items ≡ w.driven.items ++ d ∷ []) × Drove p d w.runs w'.runs
