-- The names that a computation asks for, each once.
use Rattle.std.proofs.Common.{◌≡◌, ℕ, Bool, true, false, not, cond, ◌&&◌, is_some, List, [], ◌∷◌, ◌++◌, Option, Some, None, refl, ap, sym, ◌∙◌, filter}
use Rattle.std.specs.Cmp.Lexicographic.{bytes_decides, nat_list_eq_equiv}
use Rattle.carte_value.specs.declared.value.Value.{Value}
use Rattle.carte_name.specs.Names.{name_eq}
use Rattle.carte_value.specs.Truths.{Truth}
use Rattle.carte_value.specs.Asks.{Asks, done, ask, asked, asked_on, firsts}
use Rattle.carte_value.specs.Once.{Answers, answer_in, once_on, once, or_else}
use Rattle.carte_value.proofs.Laws.{answer_on}

-- the truth has these answers
abbrev pub Agrees : Answers → Truth → Type 0
Agrees a t = (k : List ℕ) (v : Value) → answer_in a k ≡ Some v → t k ≡ Some v

abbrev pub unknown : Answers → List ℕ → Bool
unknown a j = not (is_some (answer_in a j))

-- a test that passes only what a second one passes
filter_under : (p q : List ℕ → Bool) (ks : List (List ℕ)) → ((j : List ℕ) → q j ≡ false → p j ≡ false) → filter p (filter q ks) ≡ filter p ks
filter_under p q [] under = refl
filter_under p q (j ∷ js) under =
    elim (q j) as (λ b. q j ≡ b → filter p (cond b (j ∷ filter q js) (filter q js)) ≡ cond (p j) (j ∷ filter p js) (filter p js)) [
      | true ↦ λ is. rw (filter_under p q js under) refl
      | false ↦ λ is. rw (under j is) (filter_under p q js under)
    ] refl

-- two tests, one behind the other, are the test by both
filter_both : (p q r : List ℕ → Bool) (ks : List (List ℕ)) → ((j : List ℕ) → r j ≡ (q j && p j)) → filter r ks ≡ filter p (filter q ks)
filter_both p q r [] both = refl
filter_both p q r (j ∷ js) both =
    elim (q j) as (λ b. q j ≡ b → cond (r j) (j ∷ filter r js) (filter r js) ≡ filter p (cond b (j ∷ filter q js) (filter q js))) [
      | true ↦ λ is. rw (both j, is, filter_both p q r js both) refl
      | false ↦ λ is. rw (both j, is) (filter_both p q r js both)
    ] refl

-- a name that has an answer is another than one that has none
known_apart : (a : Answers) (k : List ℕ) (v : Value) (j : List ℕ) → answer_in a k ≡ Some v → not (name_eq k j) ≡ false → unknown a j ≡ false
known_apart a k v j is same =
    elim (name_eq k j) as (λ b. name_eq k j ≡ b → not b ≡ false → unknown a j ≡ false) [
      | true ↦ λ equal _. let e : k ≡ j = (bytes_decides k j).0 equal in rw (← e, is) refl
      | false ↦ λ _ never. cc
    ] refl same

-- with one more answer one name more is known
unknown_more : (a : Answers) (k : List ℕ) (v : Value) (j : List ℕ) → unknown (a ++ (k, v) ∷ []) j ≡ (not (name_eq k j) && unknown a j)
unknown_more a k v j = rw (answer_on a ((k, v) ∷ []) j, nat_list_eq_equiv.symm j k) (cases (answer_in a j) (name_eq k j))
  where
    cases : (o : Option Value) (b : Bool) → not (is_some (or_else o (cond b (Some v) None))) ≡ (not b && not (is_some o))
    cases None true = refl
    cases None false = refl
    cases (Some w) true = refl
    cases (Some w) false = refl

agrees_more : (a : Answers) (t : Truth) (k : List ℕ) (v : Value) → Agrees a t → t k ≡ Some v → Agrees (a ++ (k, v) ∷ []) t
agrees_more a t k v agrees is j w = rw (answer_on a ((k, v) ∷ []) j) (cases (answer_in a j) refl)
  where
    last : (b : Bool) → name_eq j k ≡ b → cond b (Some v) None ≡ Some w → t j ≡ Some w
    last true same h = let e : j ≡ k = (bytes_decides j k).0 same in rw e (is ∙ h)
    last false other h = cc

    cases : (o : Option Value) → answer_in a j ≡ o → or_else o (cond (name_eq j k) (Some v) None) ≡ Some w → t j ≡ Some w
    cases None none h = last (name_eq j k) refl h
    cases (Some x) known h = agrees j w (known ∙ h)

-- with answers of the truth it asks for the names that it would ask for, each once, but for those that have an answer
pub once_asks : {A : Type 0} (t : Truth) (m : Asks A) (a : Answers) → Agrees a t → asked t (once a m) ≡ filter (unknown a) (firsts (asked t m))
once_asks t (done x) a agrees = refl
once_asks {A = A} t (ask k go) a agrees =
    elim (answer_in a k) as (λ o. answer_in a k ≡ o → asked t (once_on o a k (λ b v. once b (go v))) ≡ cond (not (is_some o)) (k ∷ filter (unknown a) (others (t k))) (filter (unknown a) (others (t k)))) [
      | Some v ↦ λ is. rw (agrees k v is) (once_asks t (go v) a agrees ∙ sym (filter_under (unknown a) (λ j. not (name_eq k j)) (firsts (asked t (go v))) (λ j. known_apart a k v j is)))
      | None ↦ λ is. ap (λ ks. k ∷ ks) (elim (t k) as (λ o. t k ≡ o → asked_on o (λ v. asked t (once (a ++ (k, v) ∷ []) (go v))) ≡ filter (unknown a) (others o)) [
        | None ↦ λ none. refl
        | Some v ↦ λ known. once_asks t (go v) (a ++ (k, v) ∷ []) (agrees_more a t k v agrees known) ∙ filter_both (unknown a) (λ j. not (name_eq k j)) (unknown (a ++ (k, v) ∷ [])) (firsts (asked t (go v))) (unknown_more a k v)
      ] refl)
    ] refl
  where
    others : Option Value → List (List ℕ)
    others o = filter (λ j. not (name_eq k j)) (firsts (asked_on o (λ v. asked t (go v))))

-- the names that a computation asks for, each once, are those that it asks for when it asks each once
pub fetches : {A : Type 0} (t : Truth) (m : Asks A) → asked t (once [] m) ≡ firsts (asked t m)
fetches t m = once_asks t m [] (λ k v h. cc) ∙ all_pass (firsts (asked t m))
  where
    all_pass : (ks : List (List ℕ)) → filter (unknown []) ks ≡ ks
    all_pass [] = refl
    all_pass (k ∷ ks) = ap (λ js. k ∷ js) (all_pass ks)
