use Rattle.std.proofs.Common.{ℕ, List}
use Rattle.carte_book.specs.Book.{Book}
use Rattle.carte_book.proofs.FirstDynamic.{order_reason_or_clean}
use Rattle.carte_book.proofs.Reasoned.{reason_or_clean}
use Rattle.carte_engine.specs.Schedulers.{IsServedOrRefused}
use Rattle.carte_engine.specs.declared.scheduler.Scheduler.{Scheduler}
use Rattle.carte_engine.specs.declared.scheduler.Scheduler.TheVariants.{Topological, Restarting, Suspending}
use Rattle.carte_engine.proofs.laws.served_or_refused.Goals as goal

either : (s : Scheduler) (b : Book) (targets : List (List ℕ)) → IsServedOrRefused s b targets
either Topological b targets = order_reason_or_clean b targets
either Restarting b targets = reason_or_clean b targets
either Suspending b targets = reason_or_clean b targets

pub returns : goal.returns
returns c = either
