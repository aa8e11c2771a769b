-- The checks of the traces of a key.
use Rattle.std.specs.Prelude.{ℕ, Bool, true, ◌&&◌, List, [], ◌∷◌, ◌++◌, Option, Some, None, if◌then◌else◌}
use Rattle.carte_value.specs.declared.digest.Digest.{Digest}
use Rattle.carte_value.specs.declared.link.Link.{Link}
use Rattle.carte_value.specs.declared.value.Value.{Value}
use Rattle.carte_task.specs.Checking.{Checking}
use Rattle.carte_record.specs.declared.trace.Trace.{Trace}
use Rattle.carte_table.specs.Lookups.{digest_eq, first_value}
use Rattle.carte_record.specs.Lookups.{is_trace_of}

-- the check of a trace with these links that tells of this value
abbrev pub check_of : List ℕ → List Link → Value → Checking
check_of k ls v = record { earlier = record { key = k; value = v; links = ls }; at = 0 }

abbrev pub check_at : Option Value → List ℕ → Trace → List Checking
check_at None k t = []
check_at (Some v) k t = check_of k t.links v ∷ []

abbrev pub is_wanted : Option Digest → Digest → Bool
is_wanted None d = true
is_wanted (Some e) d = digest_eq e d

-- of this task, with a result that is wanted
abbrev pub may_hold : Digest → Option Digest → Trace → Bool
may_hold task wanted t = digest_eq t.task task && is_wanted wanted t.result

-- of such a trace whose result has a value
abbrev pub checks_for : Digest → Option Digest → List Value → List ℕ → Trace → List Checking
checks_for task wanted vs k t = if may_hold task wanted t then check_at (first_value vs t.result) k t else []

abbrev pub checks_if : Digest → Option Digest → List Value → List ℕ → Option Trace → List Checking
checks_if task wanted vs k None = []
checks_if task wanted vs k (Some t) = checks_for task wanted vs k t

-- of each such trace of the key, in their order
abbrev pub checks_in : Digest → Option Digest → List Value → List ℕ → List Trace → List Checking
checks_in task wanted vs k [] = []
checks_in task wanted vs k (t ∷ ts) = (if is_trace_of k t then checks_for task wanted vs k t else []) ++ checks_in task wanted vs k ts

-- of those with the key's own task, where it has one
abbrev pub checks_now : Option Digest → Option Digest → List Value → List ℕ → List Trace → List Checking
checks_now None wanted vs k ts = []
checks_now (Some task) wanted vs k ts = checks_in task wanted vs k ts
