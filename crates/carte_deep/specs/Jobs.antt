-- Jobs under deep traces.
use Rattle.std.specs.Prelude.{ℕ, ◌≡◌, List, Option, Some}
use Rattle.carte_value.specs.Truths.{Truth, Extends}
use Rattle.carte_value.specs.Once.{Answers, AnswersOf, Went}
use Rattle.carte_tree.specs.Tree.{Tree}
use Rattle.carte_tree.specs.Meaning.{asks}
use Rattle.carte_book.specs.Book.{Book, rule, content, clean}
use Rattle.carte_effect.specs.Outcomes.{Outcome}
use Rattle.carte_record.specs.Kept.{SomeKept}
use Rattle.carte_rebuild.specs.Trying.{task_left}
use Rattle.carte_deep.specs.declared.job.DeepJob.{DeepJob}
use Rattle.carte_deep.specs.Holding.{Finds}
use Rattle.carte_deep.specs.Work.{again_or, left_in}

-- answers of this truth, a part of the clean values, lead from the end that was found, or else the rule's task, to what is left
pub record IsDeepJob (K : SomeKept) (b : Book) (t : Truth) (k : List ℕ) (p : DeepJob) : Type 0 where
  pub formula : Tree
  pub is_rule : content b k ≡ Some (rule formula)
  pub found : Option Outcome
  pub finds : Finds K b k found
  pub within : Extends t (clean b)
  pub further : Answers
  pub known : AnswersOf t further
  pub went : Went (again_or found (task_left k (asks b.kind formula))) further (left_in p)
