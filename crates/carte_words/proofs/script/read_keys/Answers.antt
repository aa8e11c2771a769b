use Rattle.std.proofs.Common.{sym, ◌∙◌}
use Rattle.std.proofs.lemmas.Bool.{eqb-true}
use Rattle.carte_words.proofs.Commands.{no_names}
use Rattle.carte_words.proofs.script.read_keys.Goals as goal

pub returns-then-is_empty : goal.returns-then-is_empty
returns-then-is_empty c = λ ks f. f.0 (no_names c.args.kind _ c.in-Some.names (c.in_ok-names.ensures ∙ c.in-Some.is) (eqb-true _ 0 (sym c.is_empty.ensures ∙ c.if-is_empty.true)))
