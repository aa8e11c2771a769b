use Rattle.carte_formula.proofs.ReadWhole.{text_told, ok_expr, ok_names}
use Rattle.carte_formula.proofs.reader.read_in.Goals as goal

pub returns-clause-read : goal.returns-clause-read
returns-clause-read c = text_told c.args.kind c.args.text.now c.formula_of.result c.if-text-gt-MOST_BYTES.false c.formula_of.ensures

pub returns-clause-formula : goal.returns-clause-formula
returns-clause-formula c = ok_expr c.args.kind c.args.text.now c.formula_of.result (text_told c.args.kind c.args.text.now c.formula_of.result c.if-text-gt-MOST_BYTES.false c.formula_of.ensures)

pub returns-clause-names : goal.returns-clause-names
returns-clause-names c = ok_names c.args.kind c.args.text.now c.formula_of.result (text_told c.args.kind c.args.text.now c.formula_of.result c.if-text-gt-MOST_BYTES.false c.formula_of.ensures)
