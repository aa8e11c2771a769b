-- The check of a key whose entry is fresh.
use Rattle.std.specs.Prelude.{ℕ, List, [], ◌∷◌, Option, Some, None, if◌then◌else◌}
use Rattle.carte_value.specs.declared.value.Value.{Value}
use Rattle.carte_task.specs.Checking.{Checking}
use Rattle.carte_record.specs.declared.entry.Entry.{Entry}
use Rattle.carte_record.specs.Kept.{SomeKept, is_fresh}

abbrev pub value_of : SomeKept → Option Entry → Option Value
value_of K None = None
value_of K (Some e) = if is_fresh e then K.stored e.result else None

-- the value of a fresh entry of the key
abbrev pub fresh_value : SomeKept → List ℕ → Option Value
fresh_value K k = value_of K (K.entries k)

-- the check of an end that has no links
abbrev pub unlinked : List ℕ → Value → Checking
unlinked k v = record { earlier = record { key = k; value = v; links = [] }; at = 0 }

abbrev pub check_for : List ℕ → Option Value → List Checking
check_for k None = []
check_for k (Some v) = unlinked k v ∷ []

abbrev pub fresh_checks : SomeKept → List ℕ → List Checking
fresh_checks K k = check_for k (fresh_value K k)
