use Rattle.std.proofs.Common.{[], ap, subst, sym, ◌∙◌}
use Rattle.carte_value.specs.Truths.{NoneTwice}
use Rattle.carte_value.specs.Once.{once}
use Rattle.carte_task.specs.Code.{exec}
use Rattle.carte_task.specs.Mentions.{mentions_in}
use Rattle.carte_task.specs.State.{answers_in}
use Rattle.carte_task.specs.Statics.{static_refs, static_asks}
use Rattle.carte_task.proofs.Filling.{firsts_once, over_done}
use Rattle.carte_task.proofs.Silent.{never_stops}
use Rattle.carte_task.proofs.static_task.StaticTask.over.Goals as goal

pub filled-requires : goal.filled-requires
filled-requires c = subst NoneTwice (sym c.args.self.now.mentioned) (firsts_once (mentions_in c.args.self.now.code.items))

pub returns-in-Ok : goal.returns-in-Ok
returns-in-Ok c =
    let s = c.args.self.now in
    let p = c.in_ok-progress.progress in
    let filled = c.in_ok-progress.ensures {u = tt} in
    let over = over_done {S = Unit {0}} s.kind c.as_slice.result.now (λ k stop. Unit {0}) _ _ p c.drive.new.self c.in-Ok.field-0 (c.in-Ok.ensures {u = tt}).proceeds in
    record {
      value = ap (λ a. once a (static_asks s)) (sym filled.answers) ∙ ap (λ cs. once (answers_in p) (exec s.kind 0 cs [])) (sym c.as_slice.ensures.value) ∙ sym (filled.rest s.kind c.as_slice.result.now) ∙ over.1;
      answers = over.0 ∙ filled.answers;
    }

pub unreachable-requires : goal.unreachable-requires
unreachable-requires c =
    let s = c.args.self.now in
    let p = c.in_ok-progress.progress in
    let filled = c.in_ok-progress.ensures {u = tt} in
    let rest = filled.rest s.kind c.as_slice.result.now ∙ ap (λ cs. once (answers_in p) (exec s.kind 0 cs [])) c.as_slice.ensures.value ∙ ap (λ a. once a (static_asks s)) filled.answers in
    never_stops {S = Unit {0}} s.kind c.as_slice.result.now (λ k stop. Unit {0}) _ _ p c.drive.new.self c.in-Err-Stop.field-0-0 (static_refs s) c.args.values (static_asks s) (rw c.in-Err-Stop.field-0-is at (c.in-Err-Stop.ensures {u = tt}).proceeds) rest s.only c.requires
