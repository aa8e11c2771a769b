use Rattle.std.proofs.Common.{rules}
use Rattle.carte_words.proofs.script.read_command.Goals as goal

pub returns-in-clean : goal.returns-in-clean
returns-in-clean c = search (rules, c.read_clean.ensures c.args.kind)
