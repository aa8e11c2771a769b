use Rattle.carte_codec.specs.Laws.{name_one, digest_one, bool_one, pair_one}
use Rattle.carte_codec.proofs.Wholes.{as_fails}
use Rattle.carte_record_one.specs.Bodies.{FitsEntry}
use Rattle.carte_record_one.specs.BodyLaws.{entry_parts}
use Rattle.carte_record.specs.BodyLaws.{names_one}
use Rattle.carte_record_one.proofs.codec.entry.EntryOneSpelled.read.Goals as goal

pub returns-in-Err : goal.returns-in-Err
returns-in-Err c = as_fails entry_parts (pair_one name_one (pair_one digest_one (pair_one bool_one names_one))) FitsEntry (λ e fit. (fit.0, (fit.1, (tt, fit.2)))) c.args.bytes.now c.in-Err.unread c.in-Err.ensures
