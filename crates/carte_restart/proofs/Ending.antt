-- How often jobs were given up.
use Rattle.std.specs.Prelude.{filter}
use Rattle.std.proofs.Common.{◌≡◌, ℕ, Bool, true, false, cond, List, [], ◌∷◌, length, Option, Some, None, refl, sym, ◌∙◌, subst, inl, inr, arith}
use Rattle.carte_value.specs.Truths.{Among}
use Rattle.carte_value.proofs.Members.{no_longer}
use Rattle.carte_effect.specs.Ledger.{Ledger}
use Rattle.carte_book.specs.Book.{Item, input, rule, Book, content}
use Rattle.carte_book.specs.Edits.{IsInput}
use Rattle.carte_book.specs.Needs.{needs, need}
use Rattle.carte_book.specs.Reason.{IsClean, AllClean}
use Rattle.carte_book.proofs.Clean.{clean_nothing}
use Rattle.carte_rebuild.specs.Ends.{GivenUpAtMost, GivesUp, StartsAnew, is_rule, rules_needed}
use Rattle.carte_sound.proofs.Reached.{reached_clean}
use Rattle.carte_bench.specs.Spots.{Spots}
use Rattle.carte_progress.specs.Standing.{IsDemanded}
use Rattle.carte_restart.specs.Going.{IsTallied}

-- what passes a test is among what was picked by it
picked : (p : List ℕ → Bool) (ks : List (List ℕ)) (k : List ℕ) → Among ks k → p k ≡ true → Among (filter p ks) k
picked p [] k here is = absurd here
picked p (j ∷ js) k (inl same) is = let here : p j ≡ true = subst (λ i. p i ≡ true) same is in rw here (inl same)
picked p (j ∷ js) k (inr later) is = elim (p j) as (λ t. Among (cond t (j ∷ filter p js) (filter p js)) k) [
  | true ↦ inr (picked p js k later is)
  | false ↦ picked p js k later is
]

-- what has a clean value and is no input is a rule
clean_rule_there : (b : Book) (k : List ℕ) → IsClean b k → ¬ (IsInput b k) → is_rule (content b k) ≡ true
clean_rule_there b k clean_there no_input = at (content b k) refl
  where
    at : (o : Option Item) → content b k ≡ o → is_rule o ≡ true
    at None is = let both : None ≡ Some clean_there.0 = sym (clean_nothing b k is) ∙ clean_there.1 in cc
    at (Some (input v)) is = absurd (no_input (v, is))
    at (Some (rule e)) is = refl

module _ {J : Type 0} (started : J → Bool) (b : Book) (s : Spots J) (ran : List (List ℕ)) (r : Ledger) (tallied : IsTallied started b s ran r) where
  at_most : (k : List ℕ) (ns : List (List ℕ)) → ((n : List ℕ) → Among (tallied.given_up k).names n → Among ns n) → GivenUpAtMost r k (length ns)
  at_most k ns within = omega (arith, (tallied.given_up k).bound, no_longer (tallied.given_up k).names ns (tallied.given_up k).once within)

  pub starts_anew : (treated : List ℕ → Type 0) → ((k : List ℕ) → IsDemanded s k → treated k) → StartsAnew b treated r
  starts_anew treated known = record {
    only = λ k here. known k (tallied.demanded k here);
    each = tallied.each;
    others = λ k. at_most k (needs b k) (λ n here. ((tallied.given_up k).waited n here).need);
  }

  -- where the targets have clean values, no key that they reach waits for a name that has nothing
  pub gives_up : (targets : List (List ℕ)) (treated : List ℕ → Type 0) → AllClean b targets → ((k : List ℕ) → IsDemanded s k → treated k) → GivesUp b targets treated r
  gives_up targets treated all known = record {
    starts = starts_anew treated known;
    reached = λ k reached. at_most k (rules_needed b k) (λ n here. (let w = (tallied.given_up k).waited n here in picked (λ j. is_rule (content b j)) (needs b k) n w.need (clean_rule_there b n (reached_clean b targets all n (need reached.1 w.need)) w.no_input)));
  }
