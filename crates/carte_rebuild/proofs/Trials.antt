-- Checks, of which the last comes first.
use Rattle.std.proofs.Common.{◌≡◌, ℕ, List, [], ◌∷◌, ◌++◌, ◌⊎◌, Option, Some, None, Result, Ok, Err, refl, ap, sym, ◌∙◌, subst, inl, inr}
use Rattle.carte_value.specs.Truths.{Truth, Among}
use Rattle.carte_value.specs.Asks.{Asks, run, asked}
use Rattle.carte_value.proofs.Asks.{run_then_ok, run_then_err, asked_then_ok, asked_then_err}
use Rattle.carte_value.proofs.Members.{among_append}
use Rattle.carte_effect.specs.declared.outcome.Made.{Made}
use Rattle.carte_effect.specs.declared.outcome.Made.TheVariants.{Reused}
use Rattle.carte_task.specs.Checking.{Checking}
use Rattle.carte_task.specs.Checks.{rest_from}
use Rattle.carte_value.specs.Lists.{Has}
use Rattle.carte_rebuild.specs.Trying.{judged_by, checked, tries}

pub last_first : (cs : List Checking) (c : Checking) (m : Asks Made) → tries (cs ++ c ∷ []) m ≡ checked c (tries cs m)
last_first [] c m = refl
last_first (d ∷ cs) c m = last_first cs c (checked d m)

-- what one check comes to
pub data CheckedAs (t : Truth) (c : Checking) (m : Asks Made) (r : Made) : Type 0 where
  given_again : run t (rest_from c) ≡ Ok None → r ≡ Reused c.earlier → CheckedAs t c m r
  goes_past : (i : ℕ) → run t (rest_from c) ≡ Ok (Some i) → run t m ≡ Ok r → CheckedAs t c m r

pub checked_cases : (t : Truth) (c : Checking) (m : Asks Made) (r : Made) → run t (checked c m) ≡ Ok r → CheckedAs t c m r
checked_cases t c m r ends = on (run t (rest_from c)) refl
  where
    on : (o : Result (Option ℕ) (List ℕ)) → run t (rest_from c) ≡ o → CheckedAs t c m r
    on (Err k) is = (let e : run t (checked c m) ≡ Err k = run_then_err t (rest_from c) (judged_by c.earlier m) k is in cc)
    on (Ok None) is = (let e : run t (checked c m) ≡ Ok (Reused c.earlier) = run_then_ok t (rest_from c) (judged_by c.earlier m) None is in given_again is (let s : r ≡ Reused c.earlier = cc in s))
    on (Ok (Some i)) is = goes_past i is (sym (run_then_ok t (rest_from c) (judged_by c.earlier m) (Some i) is) ∙ ends)

-- an earlier end is given again whose check holds; or each differs, and what comes behind them ends
abbrev pub IsGivenAgain : Truth → List Checking → Made → Type 0
IsGivenAgain t cs r = (c : Checking) × Has cs c × (run t (rest_from c) ≡ Ok None) × (r ≡ Reused c.earlier)

abbrev pub AllDiffer : Truth → List Checking → Type 0
AllDiffer t cs = (c : Checking) → Has cs c → (i : ℕ) × (run t (rest_from c) ≡ Ok (Some i))

pub tries_cases : (t : Truth) (cs : List Checking) (m : Asks Made) (r : Made) → run t (tries cs m) ≡ Ok r → IsGivenAgain t cs r ⊎ (AllDiffer t cs × (run t m ≡ Ok r))
tries_cases t [] m r ends = inr ((λ c has. absurd has), ends)
tries_cases t (d ∷ cs) m r ends = elim (tries_cases t cs (checked d m) r ends) [
  | inl (c, has, holds, is) ↦ inl (c, inr has, holds, is)
  | inr (differ, then) ↦ last (checked_cases t d m r then) differ
]
  where
    last : CheckedAs t d m r → AllDiffer t cs → IsGivenAgain t (d ∷ cs) r ⊎ (AllDiffer t (d ∷ cs) × (run t m ≡ Ok r))
    last (given_again is same) differ = inl (d, inl refl, is, same)
    last (goes_past i is then) differ = inr (
      (λ c has. elim has [
        | inl same ↦ (i, ap (λ x. run t (rest_from x)) same ∙ is)
        | inr later ↦ differ c later
      ]),
      then,
    )

-- where it stops, a check stops, or what comes behind them
pub tries_stop : (t : Truth) (cs : List Checking) (m : Asks Made) (n : List ℕ) → run t (tries cs m) ≡ Err n → ((c : Checking) × Has cs c × (run t (rest_from c) ≡ Err n)) ⊎ (run t m ≡ Err n)
tries_stop t [] m n stops = inr stops
tries_stop t (d ∷ cs) m n stops = elim (tries_stop t cs (checked d m) n stops) [
  | inl (c, has, is) ↦ inl (c, inr has, is)
  | inr then ↦ last (run t (rest_from d)) refl then
]
  where
    last : (o : Result (Option ℕ) (List ℕ)) → run t (rest_from d) ≡ o → run t (checked d m) ≡ Err n → ((c : Checking) × Has (d ∷ cs) c × (run t (rest_from c) ≡ Err n)) ⊎ (run t m ≡ Err n)
    last (Err k) is then = (let e : run t (checked d m) ≡ Err k = run_then_err t (rest_from d) (judged_by d.earlier m) k is in let same : k ≡ n = cc in inl (d, inl refl, is ∙ ap Err same))
    last (Ok None) is then = (let e : run t (checked d m) ≡ Ok (Reused d.earlier) = run_then_ok t (rest_from d) (judged_by d.earlier m) None is in cc)
    last (Ok (Some i)) is then = inr (sym (run_then_ok t (rest_from d) (judged_by d.earlier m) (Some i) is) ∙ then)

-- each name asked for is asked for by a check, or by what comes behind them
pub tries_asked : (t : Truth) (cs : List Checking) (m : Asks Made) (j : List ℕ) → Among (asked t (tries cs m)) j → ((c : Checking) × Has cs c × Among (asked t (rest_from c)) j) ⊎ Among (asked t m) j
tries_asked t [] m j among = inr among
tries_asked t (d ∷ cs) m j among = elim (tries_asked t cs (checked d m) j among) [
  | inl (c, has, is) ↦ inl (c, inr has, is)
  | inr then ↦ last (run t (rest_from d)) refl then
]
  where
    last : (o : Result (Option ℕ) (List ℕ)) → run t (rest_from d) ≡ o → Among (asked t (checked d m)) j → ((c : Checking) × Has (d ∷ cs) c × Among (asked t (rest_from c)) j) ⊎ Among (asked t m) j
    last (Err k) is then = inl (d, inl refl, subst (λ ks. Among ks j) (asked_then_err t (rest_from d) (judged_by d.earlier m) k is) then)
    last (Ok o) is then = elim (among_append (asked t (rest_from d)) (asked t (judged_by d.earlier m o)) j (subst (λ ks. Among ks j) (asked_then_ok t (rest_from d) (judged_by d.earlier m) o is) then)) [
      | inl here ↦ inl (d, inl refl, here)
      | inr there ↦ behind o there
    ]
      where
        behind : (o : Option ℕ) → Among (asked t (judged_by d.earlier m o)) j → ((c : Checking) × Has (d ∷ cs) c × Among (asked t (rest_from c)) j) ⊎ Among (asked t m) j
        behind None none = absurd none
        behind (Some i) there = inr there
