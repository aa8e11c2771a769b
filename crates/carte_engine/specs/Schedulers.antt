-- What a build does, by its scheduler.
use Rattle.std.specs.Prelude.{ℕ, ◌⊎◌, List}
use Rattle.carte_book.specs.Book.{Book}
use Rattle.carte_book.specs.Dynamic.{NoDynamicPath, IsOrderReason}
use Rattle.carte_book.specs.Needs.{IsRule, Reaches}
use Rattle.carte_book.specs.Reason.{AllClean, IsReason}
use Rattle.carte_book.specs.declared.reason.Reason.{Reason}
use Rattle.carte_record.specs.Kept.{SomeKept}
use Rattle.carte_record.specs.declared.way.Way.TheVariants.{Verifying, Constructive, Deep}
use Rattle.carte_sound.specs.Begun.{Beginning, IsBeginning, begin}
use Rattle.carte_sound.specs.Held.{How, dirty, tracing}
use Rattle.carte_sound.specs.Results.{IsKeptNow}
use Rattle.carte_sound.specs.Treated.{IsDoneInOrder, IsDoneRestarting, IsDoneSuspending}
use Rattle.carte_engine.specs.declared.scheduler.Scheduler.{Scheduler}
use Rattle.carte_engine.specs.declared.scheduler.Scheduler.TheVariants.{Topological, Restarting, Suspending}

-- the rules that are done over what the build begins with
abbrev pub IsDoneBy : Scheduler → How → SomeKept → Book → List (List ℕ) → List ℕ → Type 0
IsDoneBy Topological h M b targets k = IsDoneInOrder b targets k
IsDoneBy Restarting h M b targets k = IsDoneRestarting h M b targets k
IsDoneBy Suspending h M b targets k = IsDoneSuspending h M b targets k

-- it has nothing to refuse
abbrev pub IsServed : Scheduler → Book → List (List ℕ) → Type 0
IsServed Topological b targets = NoDynamicPath b targets × AllClean b targets
IsServed Restarting b targets = AllClean b targets
IsServed Suspending b targets = AllClean b targets

-- it refuses for this
abbrev pub IsRefusedFor : Scheduler → Book → List (List ℕ) → Reason → Type 0
IsRefusedFor Topological b targets reason = IsOrderReason b targets reason
IsRefusedFor Restarting b targets reason = IsReason b targets reason
IsRefusedFor Suspending b targets reason = IsReason b targets reason

-- it has nothing to refuse, or something
abbrev pub IsServedOrRefused : Scheduler → Book → List (List ℕ) → Type 0
IsServedOrRefused s b targets = IsServed s b targets ⊎ ((reason : Reason) × IsRefusedFor s b targets reason)

-- each rule that the targets reach is kept with its clean value
abbrev pub KeepsReached : SomeKept → Book → List (List ℕ) → Type 0
KeepsReached L b targets = (k : List ℕ) → Reaches b targets k → IsRule b k → IsKeptNow L b k

-- each rule that is done over what a build of K begins with
abbrev pub KeepsDone : Scheduler → How → SomeKept → SomeKept → Book → List (List ℕ) → Type 0
KeepsDone s h K L b targets = (x : Beginning) → IsBeginning K b x → (k : List ℕ) → IsDoneBy s h (begin K x) b targets k → IsKeptNow L b k

-- What a build that was served keeps: all that is reached, but where deep traces leave what lies beneath a held key alone; there all that is done.
abbrev pub KeepsBy : Scheduler → How → SomeKept → SomeKept → Book → List (List ℕ) → Type 0
KeepsBy Topological h K L b targets = KeepsReached L b targets
KeepsBy Restarting dirty K L b targets = KeepsReached L b targets
KeepsBy Restarting (tracing Verifying) K L b targets = KeepsReached L b targets
KeepsBy Restarting (tracing Constructive) K L b targets = KeepsReached L b targets
KeepsBy Restarting (tracing Deep) K L b targets = KeepsDone Restarting (tracing Deep) K L b targets
KeepsBy Suspending dirty K L b targets = KeepsReached L b targets
KeepsBy Suspending (tracing Verifying) K L b targets = KeepsReached L b targets
KeepsBy Suspending (tracing Constructive) K L b targets = KeepsReached L b targets
KeepsBy Suspending (tracing Deep) K L b targets = KeepsDone Suspending (tracing Deep) K L b targets
