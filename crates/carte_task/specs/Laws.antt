-- What a drive is for the formula of a machine.
use Rattle.std.specs.Prelude.{ℕ, List, [], ◌∷◌, ◌++◌, ◌≡◌, map, Result, Ok, Err}
use Rattle.carte_value.specs.Truths.{Truth}
use Rattle.carte_value.specs.Asks.{run, asked, firsts}
use Rattle.carte_value.specs.Once.{once, Went, and_answers, names_of}
use Rattle.carte_effect.specs.declared.effect.Halt.{Halt}
use Rattle.carte_effect.specs.declared.effect.Halt.TheVariants.{Stop, NoMemory}
use Rattle.carte_effect.specs.Outcomes.{Outcome}
use Rattle.carte_task.specs.Machines.{State}

-- its answers lead from the start of what it computes to what is left
abbrev pub IsUnderWay : State → Type 0
IsUnderWay p = Went (once [] p.whole) p.answers p.rest

-- the names that it looks up over a truth, each once, up to and with the first without a value
abbrev pub looks_up : Truth → State → List (List ℕ)
looks_up t p = firsts (asked t p.whole)

-- of a machine under way, over the truth and the answers of before: the value; or the stuck name, with the answers that there are; or some of them
abbrev pub Steps : {S : Type 0} → Truth → (List ℕ → S → Type 0) → State → State → Result Outcome (Halt S) → Type 0
Steps t own p q (Ok o) = (run (and_answers p.answers t) p.whole ≡ Ok o.value) × (names_of q.answers ≡ looks_up (and_answers p.answers t) p) × (map (λ l. l.name) o.links ≡ looks_up (and_answers p.answers t) p)
Steps t own p q (Err (Stop s)) = (k : List ℕ) × (run (and_answers p.answers t) p.whole ≡ Err k) × own k s × (names_of q.answers ++ k ∷ [] ≡ looks_up (and_answers p.answers t) p)
Steps t own p q (Err NoMemory) = (ks : List (List ℕ)) × (names_of q.answers ++ ks ≡ looks_up (and_answers p.answers t) p)
