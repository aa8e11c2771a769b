-- Jobs under dirty bits.
use Rattle.std.specs.Prelude.{ℕ, ◌≡◌, List, Some}
use Rattle.carte_value.specs.Truths.{Truth, Extends}
use Rattle.carte_value.specs.Once.{Answers, AnswersOf, Went}
use Rattle.carte_tree.specs.Tree.{Tree}
use Rattle.carte_tree.specs.Meaning.{asks}
use Rattle.carte_book.specs.Book.{Book, rule, content, clean}
use Rattle.carte_record.specs.Kept.{SomeKept}
use Rattle.carte_rebuild.specs.declared.tries.Tries.{Tries}
use Rattle.carte_rebuild.specs.Trying.{task_left, tries}
use Rattle.carte_rebuild.specs.Left.{left_of}
use Rattle.carte_dirty.specs.Fresh.{fresh_checks}

-- answers of this truth, a part of the clean values, lead from the start of the check, if there is one, and the rule's task to what is left
pub record IsDirtyJob (K : SomeKept) (b : Book) (t : Truth) (k : List ℕ) (p : Tries) : Type 0 where
  pub formula : Tree
  pub is_rule : content b k ≡ Some (rule formula)
  pub within : Extends t (clean b)
  pub further : Answers
  pub known : AnswersOf t further
  pub went : Went (tries (fresh_checks K k) (task_left k (asks b.kind formula))) further (left_of p)
