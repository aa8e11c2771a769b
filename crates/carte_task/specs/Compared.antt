-- One link, compared.
use Rattle.std.specs.Prelude.{ℕ, Bool, List, [], ◌∷◌, ◌≡◌, Option, Some, Result, Ok, Err, bytes_eq}
use Rattle.carte_value.specs.declared.value.Value.{Value}
use Rattle.carte_value.specs.declared.digest.Digest.{Digest}
use Rattle.carte_value.specs.declared.link.Link.{Link}
use Rattle.carte_value.specs.Truths.{Truth}
use Rattle.carte_value.specs.Once.{Answers}
use Rattle.carte_value.specs.Spelling.{digest_of}
use Rattle.carte_effect.specs.declared.effect.Halt.{Halt}
use Rattle.carte_effect.specs.Effects.{more, Fetched, Logged}

abbrev pub same_digest : Digest → Digest → Bool
same_digest d e = bytes_eq d.0 e.0

-- the name's value was fetched, and it is told whether its digest is the link's
abbrev pub Compared : {S : Type 0} → Truth → (List ℕ → S → Type 0) → Option Answers → Option Answers → Link → Result Bool (Halt S) → Type 0
Compared t own log0 log l (Ok same) = (v : Value) × (t l.name ≡ Some v) × (log ≡ more log0 ((l.name, v) ∷ [])) × (same_digest l.digest (digest_of v) ≡ same)
Compared t own log0 log l (Err h) = Fetched t own l.name (Err h) × Logged log0 log l.name (Err h)
