use Rattle.std.proofs.Common.{sym, ap, ◌∙◌, option_copied}
use Rattle.carte_book.specs.Book.{book_view}
use Rattle.carte_explain.specs.Found.{is_deep_with}
use Rattle.carte_explain.proofs.Finding.{last_fails, last_passes}
use Rattle.carte_explain.proofs.traces.newest_deep.Goals as goal
use Rattle.carte_explain.proofs.traces.newest_deep.Goals.{then-branch, else-branch}

pub loop-trace-preserved : goal.loop-trace-preserved
loop-trace-preserved c =
    elim c.if-branch.branch [
      | then-branch w ↦ ap option_copied w.last-is ∙ last_passes (is_deep_with c.args.told (book_view c.args.book.now) c.args.key.now) c.args.traces.now c.loop-trace.trace-index c.trace-item.result c.loop-trace-test.true c.trace-item.is (sym c.in_ok-is_deep_with.ensures ∙ w.if-branch.true)
      | else-branch w ↦ ap option_copied w.last-is ∙ last_fails (is_deep_with c.args.told (book_view c.args.book.now) c.args.key.now) c.args.traces.now c.loop-trace.trace-index c.trace-item.result (option_copied c.loop-trace.last) c.loop-trace.invariant c.loop-trace-test.true c.trace-item.is (sym c.in_ok-is_deep_with.ensures ∙ w.if-branch.false)
    ]
