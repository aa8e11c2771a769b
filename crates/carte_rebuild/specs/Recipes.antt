-- What the task of a rule is made of.
use Rattle.std.specs.Prelude.{ℕ, ◌≡◌, List, Some}
use Rattle.std.specs.Arc.{arc_value}
use Rattle.carte_value.specs.declared.value.Value.{Value}
use Rattle.carte_value.specs.Asks.{Asks}
use Rattle.carte_tree.specs.Tree.{Tree}
use Rattle.carte_tree.specs.Code.{tree_of}
use Rattle.carte_tree.specs.Meaning.{asks}
use Rattle.carte_book.specs.Book.{Book, rule, content}
use Rattle.carte_rebuild.specs.declared.recipe.Recipe.{Recipe}

abbrev pub formula_in : Recipe → Tree
formula_in r = tree_of (arc_value r.formula)

-- what the task asks for
abbrev pub asks_in : Recipe → Asks Value
asks_in r = asks r.kind (formula_in r)

-- it has the key, the kind of the book, and the formula of the key's rule
pub record IsRecipeOf (b : Book) (k : List ℕ) (r : Recipe) : Type 0 where
  pub key : r.key ≡ k
  pub kind : r.kind ≡ b.kind
  pub is_rule : content b k ≡ Some (rule (formula_in r))
