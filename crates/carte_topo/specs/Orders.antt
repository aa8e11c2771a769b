-- Orders in which rules can be worked out one after the other.
use Rattle.std.specs.Prelude.{ℕ, ◌≡◌, ◌⊎◌, true, List, [], ◌∷◌, ◌++◌, Some, Result, Ok, Err}
use Rattle.carte_value.specs.declared.value.Value.{Value}
use Rattle.carte_value.specs.Truths.{Among, NoneTwice}
use Rattle.carte_tree.specs.Tree.{Tree}
use Rattle.carte_tree.specs.Formula.{refs_of, is_static_tree}
use Rattle.carte_tree.specs.InTurn.{Each}
use Rattle.carte_book.specs.Book.{input, rule, Book, content}
use Rattle.carte_book.specs.Needs.{IsReachedRule}
use Rattle.carte_book.specs.Reason.{AllClean}
use Rattle.carte_book.specs.Dynamic.{NoDynamicPath, IsOrderReason}
use Rattle.carte_rebuild.specs.declared.work.PlanFault.{PlanFault}
use Rattle.carte_rebuild.specs.declared.work.PlanFault.TheVariants.{Refused, NoMemory}

-- a name that a rule may use by now: an input, or one of the rules before
abbrev pub IsReady : Book → List (List ℕ) → List ℕ → Type 0
IsReady b before k = ((v : Value) × (content b k ≡ Some (input v))) ⊎ Among before k

-- a static rule whose references are ready
pub record IsNext (b : Book) (before : List (List ℕ)) (k : List ℕ) : Type 0 where
  pub formula : Tree
  pub is_rule : content b k ≡ Some (rule formula)
  pub is_static : is_static_tree formula ≡ true
  pub ready : Each (IsReady b before) (refs_of formula)

-- each rule stands behind those that it refers to
abbrev pub InOrder : Book → List (List ℕ) → List (List ℕ) → Type 0
InOrder b before [] = Unit {0}
InOrder b before (k ∷ ks) = IsNext b before k × InOrder b (before ++ k ∷ []) ks

-- the rules that the targets reach, each once and in order; no dynamic rule can be reached, and each target has a clean value
pub record IsOrder (b : Book) (targets ks : List (List ℕ)) : Type 0 where
  pub no_dynamic : NoDynamicPath b targets
  pub all_clean : AllClean b targets
  pub once : NoneTwice ks
  pub only : (k : List ℕ) → Among ks k → IsReachedRule b targets k
  pub each : (k : List ℕ) → IsReachedRule b targets k → Among ks k
  pub in_order : InOrder b [] ks
  pub known : (k : List ℕ) → Among targets k → IsReady b ks k

abbrev pub Orders : Book → List (List ℕ) → Result (List (List ℕ)) PlanFault → Type 0
Orders b targets (Ok ks) = IsOrder b targets ks
Orders b targets (Err NoMemory) = Unit {0}
Orders b targets (Err (Refused reason)) = IsOrderReason b targets reason
