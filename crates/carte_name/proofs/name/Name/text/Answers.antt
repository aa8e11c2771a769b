use Rattle.std.proofs.Common.{◌≡◌, true, subst, sym, IsUtf8}
use Rattle.carte_name.specs.Names.{is_name}
use Rattle.carte_name.proofs.Ascii.{name_utf8}
use Rattle.carte_name.proofs.name.Name.text.Goals as goal

pub from_utf8_unchecked-requires : goal.from_utf8_unchecked-requires
from_utf8_unchecked-requires c =
    let name = subst (λ k. is_name k ≡ true) c.self.view_is c.self.invariant.is in
    subst IsUtf8 (sym c.bytes.ensures) (name_utf8 c.args.self.now name)
