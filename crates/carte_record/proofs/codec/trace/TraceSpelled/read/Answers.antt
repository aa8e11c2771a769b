use Rattle.carte_codec.specs.Laws.{name_one, digest_one, link_one, list_one, pair_one}
use Rattle.carte_codec.proofs.Wholes.{as_fails}
use Rattle.carte_record.specs.Bodies.{FitsTrace}
use Rattle.carte_record.specs.BodyLaws.{trace_parts}
use Rattle.carte_record.proofs.codec.trace.TraceSpelled.read.Goals as goal

pub returns-in-Err : goal.returns-in-Err
returns-in-Err c = as_fails trace_parts (pair_one name_one (pair_one digest_one (pair_one (list_one link_one) digest_one))) FitsTrace (λ t fit. (fit.0, (fit.1, (fit.2, fit.3)))) c.args.bytes.now c.in-Err.unread c.in-Err.ensures
