-- Traces and the tasks that they name.
use Rattle.std.proofs.Common.{◌≡◌, ℕ, true, List, Some, ap, sym, ◌∙◌, subst}
use Rattle.carte_value.specs.Lists.{Has}
use Rattle.carte_book.specs.Book.{Book}
use Rattle.carte_book.specs.Task.{task_now}
use Rattle.carte_book.proofs.Tasks.{task_of_rule}
use Rattle.carte_record.specs.declared.way.Way.{Way}
use Rattle.carte_record.specs.Kept.{SomeKept}
use Rattle.carte_record.specs.Ways.{TraceBy}
use Rattle.carte_sound.specs.Held.{tracing, IsTasked, IsHeldBy, IsHeld, looks_into_held}
use Rattle.carte_sound.specs.True.{or_none, IsTraceOf}
use Rattle.carte_sound.proofs.Held.{needs_task}
use Rattle.carte_sound.proofs.Minimal.{own_tasked}

-- a trace of a book names the tasks of there
pub task_there : (w : Way) (c : Book) (k : List ℕ) (t : TraceBy w) → IsTraceOf w c k t → IsTasked w c k t
task_there w c k t of = subst (IsTasked w c k) (sym of.trace) (own_tasked w c k (of.formula, of.is_rule))

-- one of needs that holds names the present one
pub same_tasks : (w : Way) → looks_into_held (tracing w) ≡ true → (K : SomeKept) (b c : Book) (k : List ℕ) (t : TraceBy w) → IsTraceOf w c k t → IsHeldBy w K b k t → task_now b k ≡ task_now c k
same_tasks w needs K b c k t of held =
    let own = task_of_rule c k of.formula of.is_rule in
    needs_task w needs c b k t of.trace held.task ∙ ap (λ o. Some (or_none o)) own ∙ sym own

-- and without a trace of the present tasks nothing holds
pub other_task : (w : Way) (K : SomeKept) (b : Book) (k : List ℕ) → ((t : TraceBy w) → Has (K.traces w k) t → ¬ (IsTasked w b k t)) → ¬ (IsHeld (tracing w) K b k)
other_task w K b k differ (t, held) = differ t held.kept held.task
