-- Digests beside values.
use Rattle.std.specs.Prelude.{◌≡◌, ℤ, Option, Some, None}
use Rattle.carte_value.specs.declared.digest.Digest.{Digest}
use Rattle.carte_value.specs.declared.value.Value.{Value}
use Rattle.carte_value.specs.declared.value.Value.TheVariants.{Number}
use Rattle.carte_value.specs.Spelling.{digest_of}

-- a digest that was taken is the value's
abbrev pub IsOwn : Option Digest → Value → Type 0
IsOwn None v = Unit {0}
IsOwn (Some d) v = d ≡ digest_of v

-- each digest that is kept for a number is the number's
abbrev pub AreOwn : (ℤ → Option Digest) → Type 0
AreOwn kept = (n : ℤ) → IsOwn (kept n) (Number n)
