-- What is left of a job under deep traces.
use Rattle.std.specs.Prelude.{ℕ, ◌≡◌, Bool, false, List, Option, Some, None}
use Rattle.carte_value.specs.Asks.{Asks, done}
use Rattle.carte_tree.specs.Tree.{Tree}
use Rattle.carte_tree.specs.Meaning.{asks}
use Rattle.carte_book.specs.Book.{Book, rule, content}
use Rattle.carte_effect.specs.declared.outcome.Made.{Made}
use Rattle.carte_effect.specs.declared.outcome.Made.TheVariants.{Reused}
use Rattle.carte_effect.specs.Outcomes.{Outcome}
use Rattle.carte_rebuild.specs.Trying.{task_left}
use Rattle.carte_rebuild.specs.Left.{name_of, is_started, left_of}
use Rattle.carte_deep.specs.declared.job.DeepJob.{DeepJob}
use Rattle.carte_deep.specs.declared.job.Work.{Work}
use Rattle.carte_deep.specs.declared.job.Work.TheVariants.{Held, Task}

abbrev pub left_of_work : Work → Asks Made
left_of_work (Held o) = done (Reused o)
left_of_work (Task p) = left_of p

abbrev pub left_in : DeepJob → Asks Made
left_in j = left_of_work j.work

abbrev pub name_of_work : Work → List ℕ
name_of_work (Held o) = o.key
name_of_work (Task p) = name_of p

abbrev pub name_in : DeepJob → List ℕ
name_in j = name_of_work j.work

abbrev pub is_begun : Work → Bool
is_begun (Held o) = false
is_begun (Task p) = is_started p

abbrev pub has_begun : DeepJob → Bool
has_begun j = is_begun j.work

-- an end that is given again, or else that comes
abbrev pub again_or : Option Outcome → Asks Made → Asks Made
again_or None m = m
again_or (Some o) m = done (Reused o)

abbrev pub key_or : Option Outcome → List ℕ → List ℕ
key_or None k = k
key_or (Some o) k = o.key

-- nothing was asked for yet
pub record Starts (b : Book) (k : List ℕ) (found : Option Outcome) (p : DeepJob) : Type 0 where
  pub formula : Tree
  pub is_rule : content b k ≡ Some (rule formula)
  pub left : left_in p ≡ again_or found (task_left k (asks b.kind formula))
  pub name : name_in p ≡ key_or found k
