-- What a look sees.
use Rattle.std.specs.Prelude.{ℕ, List, ◌≡◌, Option, Some, None}
use Rattle.carte_value.specs.declared.value.Value.{Value}
use Rattle.carte_effect.specs.declared.look.Seen.{Seen}
use Rattle.carte_effect.specs.declared.look.Seen.TheVariants as seen
use Rattle.carte_effect.specs.declared.look.Stuck.{Stuck}
use Rattle.carte_effect.specs.declared.look.Stuck.TheVariants as stuck

-- a value, or why there is none
pub data Sight : Type 0 where
  sight_of : Value → Sight
  not_done : Sight
  missing : Sight

abbrev pub value_seen : Sight → Option Value
value_seen (sight_of v) = Some v
value_seen not_done = None
value_seen missing = None

abbrev pub Sees : Seen → Sight → Type 0
Sees (seen.Value r) s = s ≡ sight_of r.now
Sees (seen.Made r) s = s ≡ sight_of r.now
Sees (seen.NotDone hint) s = s ≡ not_done
Sees seen.Missing s = s ≡ missing

-- the stop has the name, and the cause that was seen
abbrev pub IsStuck : Sight → List ℕ → Stuck → Type 0
IsStuck s k (stuck.NotDone j) = (j ≡ k) × (s ≡ not_done)
IsStuck s k (stuck.Missing j) = (j ≡ k) × (s ≡ missing)

-- the value, where there is one, and else that
abbrev pub seen_or : Option Value → Sight → Sight
seen_or (Some v) s = sight_of v
seen_or None s = s
