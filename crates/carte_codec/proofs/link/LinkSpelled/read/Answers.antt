use Rattle.carte_value.specs.declared.link.Link.{Link}
use Rattle.carte_codec.specs.Parts.{FitsLink}
use Rattle.carte_codec.specs.Laws.{name_one, digest_one, pair_one}
use Rattle.carte_codec.proofs.Wholes.{as_fails}
use Rattle.carte_codec.proofs.link.LinkSpelled.read.Goals as goal

pub returns-in-Err : goal.returns-in-Err
returns-in-Err c = as_fails (λ (l : Link). (l.name, l.digest)) (pair_one name_one digest_one) FitsLink (λ l fit. fit) c.args.bytes.now c.in-Err.unread c.in-Err.ensures
