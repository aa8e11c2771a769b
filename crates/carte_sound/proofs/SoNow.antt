-- What the test of links decides.
use Rattle.std.proofs.Common.{◌≡◌, ℕ, true, ◌&&◌, List, [], ◌∷◌, Option, Some, None, refl, ap, ◌∙◌}
use Rattle.carte_value.specs.declared.digest.Digest.{Digest}
use Rattle.carte_value.specs.declared.link.Link.{Link}
use Rattle.carte_sound.specs.Begun.{is_digest}
use Rattle.carte_sound.specs.Held.{AreLinks, are_so}
use Rattle.carte_sound.proofs.Entries.{both_true}
use Rattle.carte_sound.proofs.Tests.{same_digest, digest_self}

is_there : (o : Option Digest) (d : Digest) → is_digest o d ≡ true → o ≡ Some d
is_there None d is = cc
is_there (Some c) d is = ap Some (same_digest c d is)

pub so_links : (now : List ℕ → Option Digest) (ls : List Link) → are_so now ls ≡ true → AreLinks now ls
so_links now [] is = tt
so_links now (l ∷ ls) is =
    let both = both_true (is_digest (now l.name) l.digest) (are_so now ls) is in
    (is_there (now l.name) l.digest both.0, so_links now ls both.1)

pub links_so : (now : List ℕ → Option Digest) (ls : List Link) → AreLinks now ls → are_so now ls ≡ true
links_so now [] are = refl
links_so now (l ∷ ls) (here, are) =
    ap (λ o. is_digest o l.digest && are_so now ls) here ∙ ap (λ t. t && are_so now ls) (digest_self l.digest) ∙ links_so now ls are
