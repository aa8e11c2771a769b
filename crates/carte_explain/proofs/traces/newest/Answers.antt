use Rattle.std.proofs.Common.{sym, ap, ◌∙◌, option_copied}
use Rattle.carte_explain.specs.Found.{is_trace_with}
use Rattle.carte_explain.proofs.Finding.{last_fails, last_passes}
use Rattle.carte_explain.proofs.traces.newest.Goals as goal
use Rattle.carte_explain.proofs.traces.newest.Goals.{then-is_trace_with, else-is_trace_with}

pub loop-trace-preserved : goal.loop-trace-preserved
loop-trace-preserved c =
    elim c.if-is_trace_with.branch [
      | then-is_trace_with w ↦ ap option_copied w.newest-is ∙ last_passes (is_trace_with c.args.key.now (option_copied c.args.wanted)) c.args.traces.now c.loop-trace.trace-index c.trace-item.result c.loop-trace-test.true c.trace-item.is (sym c.is_trace_with.ensures ∙ w.if-is_trace_with.true)
      | else-is_trace_with w ↦ ap option_copied w.newest-is ∙ last_fails (is_trace_with c.args.key.now (option_copied c.args.wanted)) c.args.traces.now c.loop-trace.trace-index c.trace-item.result (option_copied c.loop-trace.newest) c.loop-trace.invariant c.loop-trace-test.true c.trace-item.is (sym c.is_trace_with.ensures ∙ w.if-is_trace_with.false)
    ]
