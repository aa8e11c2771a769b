-- The jobs of rebuilders that compare the needs of a key.
use Rattle.std.specs.Prelude.{ℕ, ◌≡◌, List, Some}
use Rattle.carte_value.specs.declared.value.Value.{Value}
use Rattle.carte_value.specs.Truths.{Truth, Extends}
use Rattle.carte_value.specs.Once.{Answers, AnswersOf, Went}
use Rattle.carte_tree.specs.Tree.{Tree}
use Rattle.carte_tree.specs.Meaning.{asks}
use Rattle.carte_task.specs.Checking.{Checking}
use Rattle.carte_book.specs.Book.{Book, rule, content, clean}
use Rattle.carte_record.specs.declared.way.Way.{Way}
use Rattle.carte_record.specs.Kept.{SomeKept}
use Rattle.carte_record.specs.Ways.{TraceBy, links_by, result_by}
use Rattle.carte_value.specs.Lists.{Has}
use Rattle.carte_sound.specs.Held.{IsTasked, IsTrusted}
use Rattle.carte_rebuild.specs.declared.tries.Tries.{Tries}
use Rattle.carte_rebuild.specs.Earlier.{check_of}
use Rattle.carte_rebuild.specs.Trying.{task_left, tries}
use Rattle.carte_rebuild.specs.Left.{left_of}

pub record IsCheckOf (w : Way) (K : SomeKept) (b : Book) (k : List ℕ) (c : Checking) : Type 0 where
  pub trace : TraceBy w
  pub kept : Has (K.traces w k) trace
  pub task : IsTasked w b k trace
  pub trusted : IsTrusted w K k trace
  pub value : Value
  pub stored : K.stored (result_by w trace) ≡ Some value
  pub is : c ≡ check_of k (links_by w trace) value

-- the checks of all traces of the key that have the task that is wanted now, may be reused and have their values in the store
pub record AreTried (w : Way) (K : SomeKept) (b : Book) (k : List ℕ) (cs : List Checking) : Type 0 where
  pub only : (c : Checking) → Has cs c → IsCheckOf w K b k c
  pub each : (t : TraceBy w) (v : Value) → Has (K.traces w k) t → IsTasked w b k t → IsTrusted w K k t → K.stored (result_by w t) ≡ Some v → Has cs (check_of k (links_by w t) v)

-- answers of this truth, a part of the clean values, lead from the start of such checks and the rule's task to what is left
pub record IsTracedJob (w : Way) (K : SomeKept) (b : Book) (t : Truth) (k : List ℕ) (p : Tries) : Type 0 where
  pub formula : Tree
  pub is_rule : content b k ≡ Some (rule formula)
  pub checks : List Checking
  pub tried : AreTried w K b k checks
  pub within : Extends t (clean b)
  pub further : Answers
  pub known : AnswersOf t further
  pub went : Went (tries checks (task_left k (asks b.kind formula))) further (left_of p)

-- nothing was asked for yet
pub record IsStart (b : Book) (k : List ℕ) (cs : List Checking) (p : Tries) : Type 0 where
  pub formula : Tree
  pub is_rule : content b k ≡ Some (rule formula)
  pub left : left_of p ≡ tries cs (task_left k (asks b.kind formula))
