-- Generated books as far as they are made.
use Rattle.std.specs.Prelude.{ℕ, ◌≡◌, ◌<◌, List, Some, None, IsTrue}
use Rattle.std.specs.FinMap.{get}
use Rattle.carte_name.specs.declared.kind.Kind.TheVariants.{Rules}
use Rattle.carte_name.specs.Names.{is_rule_name}
use Rattle.carte_book.specs.Book.{Item, Book}
use Rattle.carte_book.specs.Edits.{keys_of}
use Rattle.carte_generate.specs.Draws.{state_after}
use Rattle.carte_generate.specs.Generated.{key, draws_before, item}

-- the book has the first i keys, or some of them, and nothing else
pub record HasKeys (i : ℕ) (b : Book) : Type 0 where
  pub kind : b.kind ≡ Rules
  pub count : keys_of b ≡ i
  pub only : (k : List ℕ) (x : Item) → get b.items k ≡ Some x → (j : ℕ) × (j < i) × (k ≡ key j)

-- the name may be added to it
pub record IsNew (b : Book) (k : List ℕ) : Type 0 where
  pub kind : b.kind ≡ Rules
  pub name : IsTrue (is_rule_name k)
  pub absent : get b.items k ≡ None
  pub room : keys_of b < 262144

-- the first i keys are made, where n keys are inputs, and the draws are in this state
pub record IsMade (seed n i state : ℕ) (b : Book) : Type 0 where
  pub each : (j : ℕ) → j < i → get b.items (key j) ≡ Some (item seed n j)
  pub drawn : state ≡ state_after seed (draws_before n i)
