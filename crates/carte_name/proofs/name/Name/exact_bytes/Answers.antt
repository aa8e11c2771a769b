use Rattle.std.proofs.Common.{sym}
use Rattle.carte_name.proofs.Ascii.{name_utf8}
use Rattle.carte_name.proofs.name.Name.exact_bytes.Goals as goal

pub from_utf8_unchecked-text-requires : goal.from_utf8_unchecked-text-requires
from_utf8_unchecked-text-requires c = name_utf8 c.args.text.now (sym (c.if-not-is_name.ensures {u = tt}))
