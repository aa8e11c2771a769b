-- Tasks are of formulas and kinds alone.
use Rattle.std.proofs.Common.{◌≡◌, ℕ, true, false, List, Option, Some, None, if◌then◌else◌, option_map, refl, ap, sym, ◌∙◌}
use Rattle.std.specs.HashMap as hash
use Rattle.carte_name.specs.Names.{name_eq, is_cell_name}
use Rattle.carte_name.specs.declared.kind.Kind.{Kind}
use Rattle.carte_name.specs.declared.kind.Kind.TheVariants.{Rules, Sheet}
use Rattle.carte_value.specs.declared.value.Value.TheVariants.{Empty}
use Rattle.carte_tree.specs.Tree.{Tree}
use Rattle.carte_book.specs.declared.book.Book.{Book as CodeBook}
use Rattle.carte_book.specs.declared.book.Item.{Item as CodeItem}
use Rattle.carte_book.specs.declared.book.Item.TheVariants.{Input as InputItem, Rule as RuleItem}
use Rattle.carte_book.specs.Book.{input, rule, Book, default_of, or_default, content, item_view, book_view}
use Rattle.carte_book.specs.Task.{task_digest_of, task_held, task_in, task_now, OneTask}
use Rattle.carte_book.proofs.Books.{item_found}

-- a rule has the task of its formula
pub task_of_rule : (b : Book) (k : List ℕ) (e : Tree) → content b k ≡ Some (rule e) → task_now b k ≡ Some (task_digest_of b.kind e)
task_of_rule b k e is = ap (task_in b.kind) is

pub one_task : OneTask
one_task a b j k e kind at_j at_k = task_of_rule a j e at_j ∙ ap (λ q. Some (task_digest_of q e)) kind ∙ sym (task_of_rule b k e at_k)

no_task : (q : Kind) (k : List ℕ) → task_in q (default_of q k) ≡ None
no_task Rules k = refl
no_task Sheet k = elim (is_cell_name k) as (λ b. task_in Sheet (if b then Some (input Empty) else None) ≡ None) [
  | true ↦ refl
  | false ↦ refl
]

held : (q : Kind) (k : List ℕ) (o : Option CodeItem) → task_in q (or_default (option_map item_view o) (default_of q k)) ≡ task_held q o
held q k None = no_task q k
held q k (Some (InputItem v)) = refl
held q k (Some (RuleItem r)) = refl

pub task_found : (b : CodeBook) (k : List ℕ) (o : Option CodeItem) → hash.get name_eq b.items k ≡ o → task_now (book_view b) k ≡ task_held b.kind o
task_found b k o is = ap (λ i. task_in b.kind (or_default i (default_of b.kind k))) (item_found b k ∙ ap (option_map item_view) is) ∙ held b.kind k o
