-- The digest of one rule's task: of its formula, and of the kind of its book.
use Rattle.std.specs.Prelude.{ℕ, List, ◌∷◌, ◌≡◌, Option, Some, None}
use Rattle.sha2.specs.Sha256.{sha256}
use Rattle.carte_name.specs.declared.kind.Kind.{Kind}
use Rattle.carte_name.specs.declared.kind.Kind.TheVariants.{Rules, Sheet}
use Rattle.carte_value.specs.declared.digest.Digest.{Digest}
use Rattle.carte_tree.specs.Tree.{Tree}
use Rattle.carte_tree.specs.Printed.{printed}
use Rattle.carte_book.specs.declared.book.Item.{Item as CodeItem}
use Rattle.carte_book.specs.declared.book.Item.TheVariants.{Input as InputItem, Rule as RuleItem}
use Rattle.carte_book.specs.Content.{Item, input, rule, Book, content, formula_of}

-- other bytes than those of a digest of all rules, so that no task is spelled as the rules of a book are
abbrev pub task_code : Kind → ℕ
task_code Rules = 2
task_code Sheet = 3

-- SHA-256 of a byte for the kind and the printed formula
abbrev pub task_digest_of : Kind → Tree → Digest
task_digest_of q e = record { 0 = sha256 (task_code q ∷ printed e) }

abbrev pub task_in : Kind → Option Item → Option Digest
task_in q None = None
task_in q (Some (input v)) = None
task_in q (Some (rule e)) = Some (task_digest_of q e)

-- the digest of a rule's task; of what is no rule there is none
abbrev pub task_now : Book → List ℕ → Option Digest
task_now b k = task_in b.kind (content b k)

-- the task of what stands in memory
abbrev pub task_held : Kind → Option CodeItem → Option Digest
task_held q None = None
task_held q (Some (InputItem v)) = None
task_held q (Some (RuleItem r)) = Some (task_digest_of q (formula_of r))

-- rules with one formula have one task in books of one kind, whatever texts they were read from and whatever else these books have
abbrev pub OneTask : Type 0
OneTask = (a b : Book) (j k : List ℕ) (e : Tree) → a.kind ≡ b.kind → content a j ≡ Some (rule e) → content b k ≡ Some (rule e) → task_now a j ≡ task_now b k
