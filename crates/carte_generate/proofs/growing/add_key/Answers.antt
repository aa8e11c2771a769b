use Rattle.std.proofs.Common.{ℕ, List, subst, sym, arith}
use Rattle.carte_tree.specs.Code.{tree_of}
use Rattle.carte_book.specs.Book.{book_view, input, rule}
use Rattle.carte_generate.specs.Growing.{IsNew}
use Rattle.carte_generate.proofs.Made.{next_is_new, keys_ok, input_ok, rule_ok}
use Rattle.carte_generate.proofs.growing.add_key.Goals as goal

pub add_input-requires : goal.add_input-requires
add_input-requires c = subst (IsNew (book_view c.args.book.now)) (sym c.in_ok-name.ensures.key) (next_is_new c.args.number (book_view c.args.book.now) c.requires.few c.requires.keys)

pub add_rule-requires-clause-new : goal.add_rule-requires-clause-new
add_rule-requires-clause-new c = subst (IsNew (book_view c.args.book.now)) (sym c.in_ok-name.ensures.key) (next_is_new c.args.number (book_view c.args.book.now) c.requires.few c.requires.keys)

pub returns-then-number-inputs-clause-keys : goal.returns-then-number-inputs-clause-keys
returns-then-number-inputs-clause-keys c = keys_ok c.args.number (book_view c.args.book.now) (book_view c.add_input.new.book) c.in_ok-name.name (input c.draw_value-value.result) c.add_input.result c.requires.few c.requires.keys c.in_ok-name.ensures.key c.add_input.ensures

pub returns-then-number-inputs-clause-made : goal.returns-then-number-inputs-clause-made
returns-then-number-inputs-clause-made c = λ seed h. input_ok seed c.args.inputs c.args.number c.args.draws.now.state c.draw_value-value.new.draws.state (book_view c.args.book.now) (book_view c.add_input.new.book) c.in_ok-name.name c.draw_value-value.result c.add_input.result c.requires.few c.if-number-inputs.true c.in_ok-name.ensures.key c.draw_value-value.ensures.value c.draw_value-value.ensures.state h c.add_input.ensures

pub returns-in_ok-formula-clause-keys : goal.returns-in_ok-formula-clause-keys
returns-in_ok-formula-clause-keys c = keys_ok c.args.number (book_view c.args.book.now) (book_view c.add_rule.new.book) c.in_ok-name.name (rule (tree_of c.in_ok-formula.formula)) c.add_rule.result c.requires.few c.requires.keys c.in_ok-name.ensures.key c.add_rule.ensures

pub returns-in_ok-formula-clause-made : goal.returns-in_ok-formula-clause-made
returns-in_ok-formula-clause-made c = λ seed h. rule_ok seed c.args.inputs c.args.number c.args.draws.now.state c.draw_formula.new.draws.state (book_view c.args.book.now) (book_view c.add_rule.new.book) c.in_ok-name.name (tree_of c.in_ok-formula.formula) c.add_rule.result c.requires.few c.if-number-inputs.false c.in_ok-name.ensures.key c.in_ok-formula.ensures.formula c.in_ok-formula.ensures.state h c.add_rule.ensures
