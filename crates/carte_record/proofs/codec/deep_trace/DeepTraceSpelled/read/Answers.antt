use Rattle.carte_codec.specs.Laws.{name_one, digest_one, link_one, list_one, pair_one}
use Rattle.carte_codec.proofs.Wholes.{as_fails}
use Rattle.carte_record.specs.Bodies.{FitsDeep}
use Rattle.carte_record.specs.BodyLaws.{deep_parts}
use Rattle.carte_record.proofs.codec.deep_trace.DeepTraceSpelled.read.Goals as goal

pub returns-in-Err : goal.returns-in-Err
returns-in-Err c = as_fails deep_parts (pair_one name_one (pair_one (list_one link_one) (pair_one (list_one link_one) digest_one))) FitsDeep (λ t fit. (fit.0, (fit.1, (fit.2, fit.3)))) c.args.bytes.now c.in-Err.unread c.in-Err.ensures
