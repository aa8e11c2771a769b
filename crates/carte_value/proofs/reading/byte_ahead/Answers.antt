use Rattle.carte_value.proofs.Quotes.{plain_ahead}
use Rattle.carte_value.proofs.reading.byte_ahead.Goals as goal

pub returns-in-len1-up : goal.returns-in-len1-up
returns-in-len1-up c = plain_ahead c.args.bytes.now c.in-len1-up.len_at_least c.if-is_plain.ensures
