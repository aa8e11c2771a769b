-- What stands on a bench stands at rules of the book.
use Rattle.std.specs.Prelude.{ℕ, Bool, true, false, List, Option, Some, IsSome, IsTrue}
use Rattle.carte_book.specs.Alike.{truth_alike}
use Rattle.carte_book.specs.Book.{Item, rule, Book, content}
use Rattle.carte_bench.specs.Spots.{Spots}

-- a rule stands there
abbrev pub is_rule : Option Item → Bool
is_rule (Some (rule e)) = true
is_rule x = false

-- each name at which something stands is a rule
abbrev pub AreRules : {J : Type 0} → Book → Spots J → Type 0
AreRules b s = (k : List ℕ) → IsSome (s k) → IsTrue (is_rule (content b k))

pub AreRules-prop : {J : Type 0} (b : Book) (s : Spots J) → IsProp (AreRules b s)
AreRules-prop b s x y i k there = truth_alike (is_rule (content b k)) (x k there) (y k there) i
