use Rattle.std.proofs.Common.{Result, Ok, Err}
use Rattle.std.specs.Prelude.{IfOk}
use Rattle.carte_record.specs.Kept.{kept_view}
use Rattle.carte_mark.proofs.Spreading.{spreads_self, spreads_on}
use Rattle.carte_mark.proofs.Passing.{reached_done, reached_on}
use Rattle.carte_mark.proofs.reach.reached.Goals as goal

if_ok : {A E : Type 0} {P Q : A → Type 0} (r : Result A E) → ((x : A) → P x → Q x) → IfOk r P → IfOk r Q
if_ok (Ok x) f p = f x p
if_ok (Err e) f p = p

pub loop-init : goal.loop-init
loop-init c = spreads_self (kept_view c.args.kept.now) c.args.names

pub loop-preserved : goal.loop-preserved
loop-preserved c = spreads_on (kept_view c.args.kept.now) c.args.names c.loop.reached c.round.new.names c.loop.invariant ((c.in_ok-done.ensures {u = tt}).spreads)

pub returns-then-done : goal.returns-then-done
returns-then-done c = reached_done c.args.kept.now c.args.names c.loop.reached c.round.new.names c.in_ok-done.done c.loop.invariant (c.in_ok-done.ensures {u = tt}) c.if-done.true

pub returns : goal.returns
returns c = if_ok c.walk.result (λ all are. reached_on c.args.kept.now c.args.names c.loop.reached all c.loop.invariant are) c.walk.ensures
