-- Whatever a job that compares the needs of a key comes to has the key.
use Rattle.std.proofs.Common.{ℕ, List, ap}
use Rattle.carte_value.specs.Truths.{Truth}
use Rattle.carte_tree.specs.Meaning.{asks}
use Rattle.carte_book.specs.Book.{Book}
use Rattle.carte_record.specs.declared.way.Way.{Way}
use Rattle.carte_record.specs.Kept.{SomeKept}
use Rattle.carte_task.specs.Checking.{Checking}
use Rattle.carte_rebuild.specs.declared.tries.Tries.{Tries}
use Rattle.carte_rebuild.specs.Keyed.{EndsAs, left_ends_as, task_ends_as, tries_end_as}
use Rattle.carte_rebuild.specs.Left.{left_of}
use Rattle.carte_rebuild.specs.Traced.{IsTracedJob}
use Rattle.carte_rebuild.specs.Trying.{task_left, tries}

pub traced_keyed : (w : Way) (K : SomeKept) (b : Book) (t : Truth) (k : List ℕ) (p : Tries) → IsTracedJob w K b t k p → EndsAs (left_of p) k
traced_keyed w K b t k p job =
    let task = task_left k (asks b.kind job.formula) in
    left_ends_as (tries job.checks task) (left_of p) job.further k
    (tries_end_as k job.checks task (λ c has. ap (λ (x : Checking). x.earlier.key) (job.tried.only c has).is) (task_ends_as k (asks b.kind job.formula)))
    job.went
