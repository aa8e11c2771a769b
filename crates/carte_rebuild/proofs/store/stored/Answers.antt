use Rattle.std.proofs.Common.{ap, ◌∙◌, sym}
use Rattle.carte_value.specs.Spelling.{digest_of}
use Rattle.carte_rebuild.proofs.OwnDigest.{own_digest}
use Rattle.carte_rebuild.proofs.store.stored.Goals as goal

pub with-requires : goal.with-requires
with-requires c = own_digest c.args.values.now c.args.digest.now c.in-Some.value.now (sym c.in-Some.ensures) ∙ ap digest_of (sym c.in_ok-copy-in-Some.ensures)
