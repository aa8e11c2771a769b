use Rattle.std.proofs.Common.{◌∙◌, ap, sym, option_map}
use Rattle.carte_book.specs.Book.{entries_view, item_view}
use Rattle.carte_book.specs.declared.book.Item.TheVariants.{Input as InputItem}
use Rattle.carte_book.proofs.Books.{item_found, one_put}
use Rattle.carte_book.proofs.Fitting.{fits_put}
use Rattle.carte_book.proofs.InputNames.{err_of, listed_put, more_listed, ok_of, unlisted_absent}
use Rattle.carte_book.proofs.book.Book.put.Goals as goal

pub invariant_of-self-clause-listed : goal.invariant_of-self-clause-listed
invariant_of-self-clause-listed c = more_listed c.args.self.now.inputs c.list.new.inputs (entries_view c.args.self.now.items.entries) c.list.ensures.all c.args.self.now.listed

pub returns-then-is_err-clause-absent : goal.returns-then-is_err-clause-absent
returns-then-is_err-clause-absent c = unlisted_absent c.args.self.now c.args.name c.requires.input (err_of _ c.list.result (sym c.is_err.ensures.value ∙ c.if-is_err.true) c.list.ensures.lacking)

pub returns-in-Ok-clause-ok : goal.returns-in-Ok-clause-ok
returns-in-Ok-clause-ok c =
    ap (λ m. record { kind = c.args.self.now.kind; items = m }) (one_put c.args.self.now.items c.insert.new.self c.args.name (InputItem c.args.value) c.in-Ok.ensures.updates.0)

pub returns-clause-absent : goal.returns-clause-absent
returns-clause-absent c = item_found c.args.self.now c.args.name ∙ ap (option_map item_view) c.in-Err.ensures.absent

pub invariant_of-self-2-clause-fits : goal.invariant_of-self-2-clause-fits
invariant_of-self-2-clause-fits c = fits_put c.args.self.now.kind c.args.self.now.items c.insert.new.self c.args.name (InputItem c.args.value) c.insert.result c.requires.name tt c.insert.ensures.entries c.insert.ensures.err c.args.self.now.fits

pub invariant_of-self-2-clause-listed : goal.invariant_of-self-2-clause-listed
invariant_of-self-2-clause-listed c = listed_put c.args.self.now.inputs c.list.new.inputs c.args.self.now.items c.insert.new.self c.args.name (InputItem c.args.value) c.insert.result c.list.ensures.all (ok_of _ c.list.result (sym c.is_err.ensures.value ∙ c.if-is_err.false) c.list.ensures.listed) c.insert.ensures.entries c.insert.ensures.err c.args.self.now.listed
