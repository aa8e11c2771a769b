-- The checks of all traces of a key are those of all that may be reused.
use Rattle.std.proofs.Common.{◌≡◌, ℕ, List, None, refl, sym, subst}
use Rattle.carte_task.specs.Checking.{Checking}
use Rattle.carte_book.specs.Book.{Book}
use Rattle.carte_book.specs.Task.{task_now}
use Rattle.carte_record.specs.declared.kept.Kept.{Kept}
use Rattle.carte_record.specs.declared.way.Way.TheVariants.{Constructive}
use Rattle.carte_record.specs.Kept.{kept_view}
use Rattle.carte_rebuild.specs.Earlier.{checks_now}
use Rattle.carte_rebuild.specs.Traced.{AreTried}
use Rattle.carte_rebuild.proofs.Starting.{tried_constructive}

pub all_tried : (K : Kept) (b : Book) (k : List ℕ) (cs : List Checking) → cs ≡ checks_now (task_now b k) None K.values k K.constructive → AreTried Constructive (kept_view K) b k cs
all_tried K b k cs is = subst (AreTried Constructive (kept_view K) b k) (sym is) (tried_constructive (kept_view K) b k K.values K.constructive refl refl)
