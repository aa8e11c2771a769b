-- Over a history what is kept stays sound.
use Rattle.std.proofs.Common.{List, [], ◌∷◌, ◌++◌, drop, take, sym, subst, append-nil, append_assoc}
use Rattle.std.proofs.lemmas.List.{take-append-drop}
use Rattle.carte_book.specs.Book.{Book}
use Rattle.carte_sound.specs.Base.{HasDistinctDigests}
use Rattle.carte_sound.proofs.Begins.{front_distinct}
use Rattle.carte_state.specs.Versions.{AnyKept}
use Rattle.carte_engine.specs.Answers.{IsPlan, Leads}
use Rattle.carte_engine.specs.Versions.{IsSoundAny}
use Rattle.carte_engine.specs.Histories.{AreRuns, HistoryIsRight, IsRightNext, Run, books_of, kept_after, kept_behind}
use Rattle.carte_engine.proofs.Keeping.{plan_sound}

-- digests are distinct over the books up to the next one
next_distinct : (H : List Book) (b : Book) (J : List Book) → HasDistinctDigests (H ++ b ∷ J) → HasDistinctDigests (H ++ b ∷ [])
next_distinct H b J distinct = front_distinct (H ++ b ∷ []) J (subst HasDistinctDigests (sym (append_assoc H (b ∷ []) J)) distinct)

behind : (A : AnyKept) (H : List Book) (run : Run) → IsSoundAny A H → HasDistinctDigests (H ++ run.book ∷ []) → IsPlan run.scheduler run.how A run.book run.targets run.plan.batches.items run.plan.answer
    → IsSoundAny (kept_behind A run) (H ++ run.book ∷ [])
behind A H run sound distinct plan =
    let Bs = run.plan.batches.items in
    plan_sound run.scheduler run.how A H run.book run.targets run.plan.answer (take run.committed Bs) (drop run.committed Bs) sound distinct
    (subst (Leads run.scheduler run.how A run.book run.targets run.plan.answer) (sym (take-append-drop run.committed Bs)) plan.leads)

next_right : (A : AnyKept) (H : List Book) (after : List Run) → IsSoundAny A H → AreRuns A after → HasDistinctDigests (H ++ books_of after) → IsRightNext A after
next_right A H [] sound runs distinct = tt
next_right A H (run ∷ after) sound runs distinct = runs.0 H sound (next_distinct H run.book (books_of after) distinct)

from : (A : AnyKept) (H : List Book) (before after : List Run) → IsSoundAny A H → AreRuns A (before ++ after) → HasDistinctDigests (H ++ books_of (before ++ after))
    → IsSoundAny (kept_after A before) (H ++ books_of before) × IsRightNext (kept_after A before) after
from A H [] after sound runs distinct = (subst (IsSoundAny A) (sym (append-nil H)) sound, next_right A H after sound runs distinct)
from A H (run ∷ before) after sound runs distinct =
    let b = run.book in
    let one : HasDistinctDigests (H ++ b ∷ []) = next_distinct H b (books_of (before ++ after)) distinct in
    let rest = from (kept_behind A run) (H ++ b ∷ []) before after (behind A H run sound one (runs.0 H sound one)) runs.1
    (subst HasDistinctDigests (sym (append_assoc H (b ∷ []) (books_of (before ++ after)))) distinct) in
    (subst (IsSoundAny (kept_after (kept_behind A run) before)) (append_assoc H (b ∷ []) (books_of before)) rest.0, rest.1)

pub history_right : HistoryIsRight
history_right A H before after sound runs distinct = from A H before after sound runs distinct
