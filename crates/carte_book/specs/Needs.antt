-- The needs of names, and what is reached by them.
use Rattle.std.specs.Prelude.{ℕ, ◌≡◌, List, [], Option, Some, None, IsTrue}
use Rattle.carte_name.specs.Kinds.{is_name_of}
use Rattle.carte_value.specs.Truths.{Among}
use Rattle.carte_tree.specs.Tree.{Tree}
use Rattle.carte_tree.specs.Meaning.{fetched}
use Rattle.carte_book.specs.Book.{Item, input, rule, Book, content, clean}

abbrev pub needs_of : Option Item → (Tree → List (List ℕ)) → List (List ℕ)
needs_of None f = []
needs_of (Some (input v)) f = []
needs_of (Some (rule e)) f = f e

-- the names that a rule looks up over the clean values; an input has none
abbrev pub needs : Book → List ℕ → List (List ℕ)
needs b k = needs_of (content b k) (λ e. fetched b.kind (clean b) e)

-- each of them is a name of the book's kind
abbrev pub NeedsAreNames : Book → Type 0
NeedsAreNames b = (k j : List ℕ) → Among (needs b k) j → IsTrue (is_name_of b.kind j)

-- a target, or a need of what is reached
pub data Reaches (b : Book) (targets : List (List ℕ)) : List ℕ → Type 0 where
  target : {k : List ℕ} → Among targets k → Reaches b targets k
  need : {j k : List ℕ} → Reaches b targets j → Among (needs b j) k → Reaches b targets k

abbrev pub IsRule : Book → List ℕ → Type 0
IsRule b k = (e : Tree) × (content b k ≡ Some (rule e))

-- a rule that is reached from the targets
abbrev pub IsReachedRule : Book → List (List ℕ) → List ℕ → Type 0
IsReachedRule b targets k = IsRule b k × Reaches b targets k
