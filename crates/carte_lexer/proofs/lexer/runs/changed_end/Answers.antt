use Rattle.std.proofs.Common.{◌∙◌, sym, ◌<◌, arith}
use Rattle.carte_lexer.proofs.Running.{starts, runs_on, runs_out, runs_ended}
use Rattle.carte_lexer.proofs.lexer.runs.changed_end.Goals as goal

pub loop-at-init : goal.loop-at-init
loop-at-init c = starts c.args.class c.args.bytes.now c.args.from c.requires.place c.requires.known

pub overflow_sub-at : goal.overflow_sub-at
overflow_sub-at c = let a : c.args.from < c.loop-at.at = c.loop-at.invariant.after in omega arith

pub loop-at-preserved : goal.loop-at-preserved
loop-at-preserved c = runs_on c.args.class c.loop-at.last c.in-Some.next c.args.bytes.now c.args.from c.loop-at.at c.loop-at.invariant c.loop-at-test.true (sym c.grown.ensures ∙ c.in-Some.is)

pub returns-in-None : goal.returns-in-None
returns-in-None c = runs_ended c.args.class c.loop-at.last c.args.bytes.now c.args.from c.loop-at.at c.loop-at.invariant c.loop-at-test.true (sym c.grown.ensures ∙ c.in-None.is)

pub returns : goal.returns
returns c = runs_out c.args.class c.loop-at.last c.args.bytes.now c.args.from c.loop-at.at c.loop-at.invariant c.loop-at-test.false
