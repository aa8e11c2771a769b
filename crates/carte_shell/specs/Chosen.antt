-- What the words choose for all builds of a session.
use Rattle.carte_record.specs.declared.way.Way.TheVariants.{Verifying, Constructive, Deep}
use Rattle.carte_sound.specs.Held.{How, dirty, tracing}
use Rattle.carte_words.specs.declared.words.Scheduler4.{Scheduler4}
use Rattle.carte_words.specs.declared.words.Scheduler4.TheVariants as word
use Rattle.carte_words.specs.declared.words.Rebuilder4.{Rebuilder4}
use Rattle.carte_words.specs.declared.words.Rebuilder4.TheVariants as rebuilder
use Rattle.carte_engine.specs.declared.scheduler.Scheduler.{Scheduler}
use Rattle.carte_engine.specs.declared.scheduler.Scheduler.TheVariants.{Topological, Restarting, Suspending}

abbrev pub scheduler_of : Scheduler4 → Scheduler
scheduler_of word.Topological = Topological
scheduler_of word.Restarting = Restarting
scheduler_of word.Suspending = Suspending

abbrev pub how_of : Rebuilder4 → How
how_of rebuilder.Dirty = dirty
how_of rebuilder.Verifying = tracing Verifying
how_of rebuilder.Constructive = tracing Constructive
how_of rebuilder.Deep = tracing Deep
