-- A value that is found by a digest has it.
use Rattle.std.proofs.Common.{◌≡◌, true, false, cond, List, [], ◌∷◌, Some, find, refl, ap, ◌∙◌}
use Rattle.carte_value.specs.declared.digest.Digest.{Digest}
use Rattle.carte_value.specs.declared.value.Value.{Value}
use Rattle.carte_value.specs.Spelling.{digest_of}
use Rattle.carte_table.specs.Lookups.{is_value_of, first_value}
use Rattle.carte_sound.proofs.Tests.{same_digest}

pub own_digest : (vs : List Value) (d : Digest) (v : Value) → first_value vs d ≡ Some v → d ≡ digest_of v
own_digest [] d v none = cc
own_digest (w ∷ vs) d v found = elim (is_value_of d w) as (λ b. is_value_of d w ≡ b → cond b (Some w) (find (is_value_of d) vs) ≡ Some v → d ≡ digest_of v) [
  | true ↦ λ is here. let same : w ≡ v = cc in same_digest d (digest_of w) is ∙ ap digest_of same
  | false ↦ λ is later. own_digest vs d v later
] refl found
