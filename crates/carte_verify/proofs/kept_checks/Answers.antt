use Rattle.std.proofs.Common.{ap, sym, ◌∙◌, option_copied}
use Rattle.std.proofs.lemmas.Result.{IfOk-weaker}
use Rattle.carte_book.specs.Book.{book_view}
use Rattle.carte_verify.proofs.Tried.{with_entry, without_entry}
use Rattle.carte_verify.proofs.kept_checks.Goals as goal

pub returns-in-Some : goal.returns-in-Some
returns-in-Some c = IfOk-weaker c.checks_of.result _ _ (λ cs is. with_entry c.args.kept.now (book_view c.args.book.now) c.args.key.now c.in-Some.entry.now cs (sym c.find.ensures ∙ ap option_copied c.in-Some.is) is) c.checks_of.ensures

pub returns-in-None : goal.returns-in-None
returns-in-None c = without_entry c.args.kept.now (book_view c.args.book.now) c.args.key.now _ (sym c.find.ensures ∙ ap option_copied c.in-None.is) c.new.ensures
