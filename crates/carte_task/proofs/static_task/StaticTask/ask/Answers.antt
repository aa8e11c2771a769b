use Rattle.std.proofs.Common.{Ok, subst}
use Rattle.carte_effect.specs.declared.list.Answers.{Answers}
use Rattle.carte_effect.specs.Lists.{FetchedList}
use Rattle.carte_task.specs.Statics.{static_refs}
use Rattle.carte_task.proofs.Filling.{static_end}
use Rattle.carte_task.proofs.Silent.{values_count}
use Rattle.carte_task.proofs.static_task.StaticTask.ask.Goals as goal

pub returns-in_ok-end-in-Values-clause-ran : goal.returns-in_ok-end-in-Values-clause-ran
returns-in_ok-end-in-Values-clause-ran g c =
    let asked = c.in-Ok.ensures {u = tt} in
    let P : Answers → Type 0 = λ a. FetchedList (g.B.FetchList.truth c.args.list.now) (g.B.FetchList.stops c.args.list.now) g.B.FetchList.withholds (static_refs c.args.self.now) (Ok a) in
    let got = subst P c.in-Values.is asked.fetched in
    let ended = c.in_ok-end-in-Values.ensures {u = tt} in
    (got.0, asked.logged, static_end (g.B.FetchList.truth c.args.list.now) c.args.self.now c.in-Values.values c.in_ok-end-in-Values.field-0 got.1 ended.ended, ended.runs)

pub end-requires : goal.end-requires
end-requires g c =
    let P : Answers → Type 0 = λ a. FetchedList (g.B.FetchList.truth c.args.list.now) (g.B.FetchList.stops c.args.list.now) g.B.FetchList.withholds (static_refs c.args.self.now) (Ok a) in
    let got = subst P c.in-Values.is (c.in-Ok.ensures {u = tt}).fetched in
    values_count (g.B.FetchList.truth c.args.list.now) (static_refs c.args.self.now) c.in-Values.values got.1
