use Rattle.carte_rules.specs.Entries.{data_of}
use Rattle.carte_rules.proofs.entries.put_input.Goals as goal

pub returns : goal.returns
returns c = λ m h. c.read_input.ensures m (data_of c.args.entry.now.held) c.value_of.ensures h
