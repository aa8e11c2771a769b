-- The values that the arguments may have, one table each.
use Rattle.std.specs.Prelude.{ℕ, ◌==◌, List, codes, Option, Some, None, bytes_eq, if◌then◌else◌}
use Rattle.std.specs.List.{ends_with}
use Rattle.carte_name.specs.declared.kind.Kind.{Kind}
use Rattle.carte_name.specs.declared.kind.Kind.TheVariants.{Rules, Sheet}
use Rattle.carte_words.specs.declared.words.Command.{Command}
use Rattle.carte_words.specs.declared.words.Command.TheVariants as command
use Rattle.carte_words.specs.declared.words.Scheduler4.{Scheduler4}
use Rattle.carte_words.specs.declared.words.Scheduler4.TheVariants as scheduler
use Rattle.carte_words.specs.declared.words.Rebuilder4.{Rebuilder4}
use Rattle.carte_words.specs.declared.words.Rebuilder4.TheVariants as rebuilder

abbrev pub command_named : List ℕ → Option Command
command_named t =
    if bytes_eq t (codes "build") then Some command.Build else
    (if bytes_eq t (codes "session") then Some command.Session else
    (if bytes_eq t (codes "explain") then Some command.Explain else
    (if bytes_eq t (codes "clean") then Some command.Clean else
    (if bytes_eq t (codes "generate") then Some command.Generate else None))))

abbrev pub scheduler_named : List ℕ → Option Scheduler4
scheduler_named t =
    if bytes_eq t (codes "topological") then Some scheduler.Topological else
    (if bytes_eq t (codes "restarting") then Some scheduler.Restarting else
    (if bytes_eq t (codes "suspending") then Some scheduler.Suspending else None))

abbrev pub rebuilder_named : List ℕ → Option Rebuilder4
rebuilder_named t =
    if bytes_eq t (codes "dirty") then Some rebuilder.Dirty else
    (if bytes_eq t (codes "verifying") then Some rebuilder.Verifying else
    (if bytes_eq t (codes "constructive") then Some rebuilder.Constructive else
    (if bytes_eq t (codes "deep") then Some rebuilder.Deep else None)))

abbrev pub kind_named : List ℕ → Option Kind
kind_named t =
    if bytes_eq t (codes "rules") then Some Rules else
    (if bytes_eq t (codes "sheet") then Some Sheet else None)

-- the kind of a book whose kind isn't said: a sheet's file ends with `.csv`
abbrev pub kind_by_ending : List ℕ → Kind
kind_by_ending book = if ends_with ◌==◌ book (codes ".csv") then Sheet else Rules
