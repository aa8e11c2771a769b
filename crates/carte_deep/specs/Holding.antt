-- Traces of a key that hold: the rules that they name have the tasks of then, and the inputs that they link the values of then.
use Rattle.std.specs.Prelude.{ℕ, ◌≡◌, Bool, ◌&&◌, List, ◌++◌, Option, Some, None, option_map, if◌then◌else◌}
use Rattle.carte_value.specs.declared.digest.Digest.{Digest}
use Rattle.carte_value.specs.declared.value.Value.{Value}
use Rattle.carte_value.specs.Lists.{Has}
use Rattle.carte_book.specs.Book.{Book}
use Rattle.carte_book.specs.Task.{task_now}
use Rattle.carte_effect.specs.Outcomes.{Outcome}
use Rattle.carte_record.specs.declared.deep_trace.DeepTrace.{DeepTrace}
use Rattle.carte_record.specs.declared.way.Way.TheVariants.{Deep}
use Rattle.carte_record.specs.Kept.{SomeKept}
use Rattle.carte_sound.specs.Held.{are_so}
use Rattle.carte_sound.specs.Marks.{present}

-- the inputs of the trace have their values, and its rules their tasks
abbrev pub holds : Book → DeepTrace → Bool
holds b t = are_so (present b) t.links && are_so (task_now b) t.tasks

-- the end that a trace with this value tells of, with all that was compared
abbrev pub outcome_at : List ℕ → DeepTrace → Value → Outcome
outcome_at k t v = record { key = k; value = v; links = t.tasks ++ t.links }

-- that end, where the trace holds and its value is there
abbrev pub given_by : (Digest → Option Value) → Book → List ℕ → Option DeepTrace → Option Outcome
given_by stored b k None = None
given_by stored b k (Some t) = if holds b t then option_map (outcome_at k t) (stored t.result) else None

-- a trace of the key gives this; or none gives anything
abbrev pub Finds : SomeKept → Book → List ℕ → Option Outcome → Type 0
Finds K b k (Some o) = (t : DeepTrace) × Has (K.traces Deep k) t × (given_by K.stored b k (Some t) ≡ Some o)
Finds K b k None = (t : DeepTrace) → Has (K.traces Deep k) t → given_by K.stored b k (Some t) ≡ None
