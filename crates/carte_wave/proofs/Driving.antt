-- What one drive gave, by what the job's drive says.
use Rattle.std.proofs.Common.{◌≡◌, ℕ, List, None, Result, sym, subst}
use Rattle.carte_value.specs.Once.{Answers}
use Rattle.carte_value.specs.Truths.{Truth}
use Rattle.carte_effect.specs.declared.effect.Halt.{Halt}
use Rattle.carte_effect.specs.declared.look.Stuck.{Stuck}
use Rattle.carte_effect.specs.declared.outcome.Made.{Made}
use Rattle.carte_effect.specs.Jobs.{Step, Gave}
use Rattle.carte_effect.specs.Sights.{Sight}
use Rattle.carte_wave.specs.Drives.{seen_by, stops_by}

-- the same is seen, and the same outcome
pub gave_same : {J L : Type 0} (gives : J → Truth → Answers → Step → J → Type 0) (sight : L → List ℕ → Sight) (m l : L) (p q : J) (o d : Result Made (Halt Stuck)) → m ≡ l → d ≡ o → Gave gives (seen_by (sight m)) (stops_by (sight m)) None None p q o → Gave gives (seen_by (sight l)) (stops_by (sight l)) None None p q d
gave_same gives sight m l p q o d same is gave =
    subst (λ (r : Result Made (Halt Stuck)). Gave gives (seen_by (sight l)) (stops_by (sight l)) None None p q r) (sym is) (subst (λ n. Gave gives (seen_by (sight n)) (stops_by (sight n)) None None p q o) same gave)
