use Rattle.std.proofs.Common.{◌∙◌, sym, arith}
use Rattle.carte_book.specs.Book.{entries_view}
use Rattle.carte_book.proofs.Books.{item_found}
use Rattle.carte_book.proofs.Fitting.{fits_put}
use Rattle.carte_book.proofs.Added.{added}
use Rattle.carte_book.proofs.InputNames.{listed_put, more_listed, ok_of}
use Rattle.carte_book.proofs.book.Book.add.Goals as goal

pub invariant_of-self-clause-listed : goal.invariant_of-self-clause-listed
invariant_of-self-clause-listed c = more_listed c.args.self.now.inputs c.list_item.new.inputs (entries_view c.args.self.now.items.entries) c.list_item.ensures.all c.args.self.now.listed

pub invariant_of-self-2-clause-fits : goal.invariant_of-self-2-clause-fits
invariant_of-self-2-clause-fits c = fits_put c.args.self.now.kind c.args.self.now.items c.put_new.new.items c.args.name c.args.item c.put_new.result c.requires.name c.requires.item c.put_new.ensures.put c.put_new.ensures.unchanged c.args.self.now.fits

pub invariant_of-self-2-clause-listed : goal.invariant_of-self-2-clause-listed
invariant_of-self-2-clause-listed c = listed_put c.args.self.now.inputs c.list_item.new.inputs c.args.self.now.items c.put_new.new.items c.args.name c.args.item c.put_new.result c.list_item.ensures.all (ok_of _ c.list_item.result (sym c.is_err.ensures.value ∙ c.if-is_err.false) c.list_item.ensures.listed) c.put_new.ensures.put c.put_new.ensures.unchanged c.args.self.now.listed

pub returns : goal.returns
returns c =
    added c.args.self.now.kind c.args.self.now.items c.put_new.new.items c.args.name c.args.item c.put_new.result (item_found c.args.self.now c.args.name) (omega (arith, c.keys.ensures, c.if-keys-ge-MOST_KEYS.false)) c.put_new.ensures.new c.put_new.ensures.updates c.put_new.ensures.fault c.put_new.ensures.unchanged
