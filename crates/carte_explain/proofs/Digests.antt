-- What the test of a digest that may not be there says.
use Rattle.std.proofs.Common.{◌≡◌, Bool, true, false, not, Option, Some, None, refl, ap, sym, ◌∙◌}
use Rattle.carte_value.specs.declared.digest.Digest.{Digest}
use Rattle.carte_table.specs.Lookups.{digest_eq}
use Rattle.carte_sound.specs.Begun.{is_digest}
use Rattle.carte_sound.proofs.Tests.{digest_self, same_digest}

pub alike : (o : Option Digest) (d : Digest) → not (is_digest o d) ≡ false → o ≡ Some d
alike None d is = cc
alike (Some c) d is = ap Some (same_digest c d (by (digest_eq c d) is))
  where
    by : (t : Bool) → not t ≡ false → t ≡ true
    by true off = refl
    by false off = cc

pub unlike : (o : Option Digest) (d : Digest) → not (is_digest o d) ≡ true → ¬ (o ≡ Some d)
unlike o d is same =
    let t : not (is_digest o d) ≡ false = ap (λ p. not (is_digest p d)) same ∙ ap not (digest_self d) in
    let n : true ≡ false = sym is ∙ t in
    cc
