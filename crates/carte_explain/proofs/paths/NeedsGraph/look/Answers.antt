use Rattle.std.proofs.Common.{ap, sym, ◌∙◌}
use Rattle.carte_book.specs.Book.{book_view}
use Rattle.carte_record.specs.Kept.{kept_view}
use Rattle.carte_explain.specs.Paths.{needs_in}
use Rattle.carte_explain.proofs.Changing.{changed, unchanged}
use Rattle.carte_explain.proofs.paths.NeedsGraph.look.Goals as goal

pub returns-then-branch : goal.returns-then-branch
returns-then-branch c = changed (kept_view c.args.self.now.kept.now) (book_view c.args.self.now.book.now) c.args.name.now (sym c.in_ok-is_changed.ensures ∙ c.if-branch.true)

pub returns : goal.returns
returns c = (
  unchanged (kept_view c.args.self.now.kept.now) (book_view c.args.self.now.book.now) c.args.name.now (sym c.in_ok-is_changed.ensures ∙ c.if-branch.false),
  c.in_ok-needs_of.ensures ∙ ap needs_in c.find.ensures,
)
