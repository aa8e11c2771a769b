use Rattle.std.proofs.Common.{arith}
use Rattle.carte_book.specs.Book.{book_view}
use Rattle.carte_generate.proofs.Made.{no_keys, none_made, whole}
use Rattle.carte_generate.proofs.growing.generated.Goals as goal

pub loop-number-init : goal.loop-number-init
loop-number-init c = (no_keys _ c.in_ok-book.ensures.kind c.in_ok-book.ensures.items, none_made _ _ _)

pub loop-number-preserved : goal.loop-number-preserved
loop-number-preserved c = (c.in_ok-add_key.ensures.keys, c.in_ok-add_key.ensures.made c.args.seed c.loop-number.invariant.1)

pub returns : goal.returns
returns c = whole c.args.seed c.args.count c.inputs_of-inputs.result c.loop-number.number c.loop-number.draws.state (book_view c.loop-number.book) (omega arith) (omega arith) c.inputs_of-inputs.ensures c.loop-number.invariant

pub invariant_of-book : goal.invariant_of-book
invariant_of-book c =
    let grown = c.add_key.new.book in
    record { is_nothing = grown.is_nothing; fits = grown.fits; listed = grown.listed; knows = grown.knows }
