use Rattle.carte_words.proofs.NamedLemmas.{line_named}
use Rattle.carte_words.proofs.script.read_line.Goals as goal

pub returns-clause-names : goal.returns-clause-names
returns-clause-names c = line_named c.args.kind _ c.read_text.result c.read_text.ensures
