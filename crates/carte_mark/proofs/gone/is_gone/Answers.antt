use Rattle.carte_tree.specs.Code.{tree_of}
use Rattle.carte_book.specs.Book.{book_view}
use Rattle.carte_record.specs.Kept.{kept_view}
use Rattle.carte_mark.proofs.Dropping.{input_gone, rule_gone, nothing_gone}
use Rattle.carte_mark.proofs.gone.is_gone.Goals as goal

pub returns-in-Input : goal.returns-in-Input
returns-in-Input c = input_gone (kept_view c.args.kept.now) (book_view c.args.book.now) c.args.name.now c.in-Input.field-0.now c.has_entry.result c.in-Input.ensures.answer c.has_entry.ensures

pub returns-in-Rule : goal.returns-in-Rule
returns-in-Rule c = rule_gone (kept_view c.args.kept.now) (book_view c.args.book.now) c.args.name.now (tree_of c.in-Rule.field-0.now) c.was_seen.result c.in-Rule.ensures.answer c.was_seen.ensures

pub returns-in-None : goal.returns-in-None
returns-in-None c = nothing_gone (kept_view c.args.kept.now) (book_view c.args.book.now) c.args.name.now c.is_kept.result c.in-None.ensures.answer c.is_kept.ensures
