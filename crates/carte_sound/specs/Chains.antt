-- The kept chain: the order in which keys were finished last, with which a restarting build begins.
use Rattle.std.specs.Prelude.{ℕ, ◌≡◌, ◌⊎◌, List, [], ◌∷◌, ◌++◌, Some}
use Rattle.carte_value.specs.Truths.{Among, IsListOf}
use Rattle.carte_book.specs.Book.{Book}
use Rattle.carte_book.specs.Needs.{IsRule, needs, IsReachedRule}
use Rattle.carte_record.specs.Kept.{SomeKept}
use Rattle.carte_record.specs.declared.entry.Entry.{Entry}
use Rattle.carte_sound.specs.Treated.{IsLedRule}

-- this name stands in the list, and that one behind it
abbrev pub StandsBefore : List (List ℕ) → List ℕ → List ℕ → Type 0
StandsBefore [] j k = ⊥
StandsBefore (x ∷ xs) j k = ((x ≡ j) × Among xs k) ⊎ StandsBefore xs j k

-- the chain has each rule that is reached behind the rules that it needs, and entries tell of these needs as they are
pub record IsRightChain (K : SomeKept) (b : Book) (targets : List (List ℕ)) : Type 0 where
  pub stands : (k : List ℕ) → IsReachedRule b targets k → Among K.chain k
  pub before : (j k : List ℕ) → IsReachedRule b targets k → Among (needs b k) j → IsRule b j → StandsBefore K.chain j k
  pub entries : (k : List ℕ) → IsReachedRule b targets k → (e : Entry) × (K.entries k ≡ Some e) × (e.needs ≡ needs b k)

-- those of the first list that have the property, in its order
abbrev pub ArePicked : (List ℕ → Type 0) → List (List ℕ) → List (List ℕ) → Type 0
ArePicked P [] ys = ys ≡ []
ArePicked P (x ∷ xs) ys = (P x × (zs : List (List ℕ)) × (ys ≡ x ∷ zs) × ArePicked P xs zs) ⊎ ((¬ (P x)) × ArePicked P xs ys)

-- the rules that targets lead to: those of the chain in its order, and then the others in name order
pub record IsFirstList (K : SomeKept) (b : Book) (targets ls : List (List ℕ)) : Type 0 where
  pub chained : List (List ℕ)
  pub others : List (List ℕ)
  pub parts : ls ≡ chained ++ others
  pub in_chain : ArePicked (IsLedRule K b targets) K.chain chained
  pub besides : IsListOf (λ k. IsLedRule K b targets k × ¬ (Among K.chain k)) others
