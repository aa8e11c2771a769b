use Rattle.std.proofs.Common.{◌≡◌, None, sym, subst}
use Rattle.std.specs.Prelude.{IfOk, IfSome}
use Rattle.carte_book.specs.Book.{book_view}
use Rattle.carte_mark.specs.Bases.{BeginsWith, IsBegun}
use Rattle.carte_state.specs.States.{Stand, any_in}
use Rattle.carte_engine.specs.Shown.{ShowsBuild}
use Rattle.carte_engine.specs.Versions.{Raises, kept_for}
use Rattle.carte_engine.specs.Working.{StandsOn}
use Rattle.carte_engine.proofs.Found.{if_begins, if_plan, if_shows}
use Rattle.carte_engine.proofs.engine.Engine.plan_from.Goals as goal

pub returns-clause-begins : goal.returns-clause-begins
returns-clause-begins g c =
    let b = book_view c.args.book.now in
    let on = subst (λ (s : Stand). StandsOn b s c.begin_on.new.state c.in_ok-basis.basis) c.self.view_is c.in_ok-basis.ensures.begins in
    let back : c.leave.new.state ≡ c.args.self.now = c.leave.ensures c.args.self.now on.marked in
    if_begins (any_in c.args.self.now) b c.in_ok-plan.field-0 c.raising.result
    (subst (λ (s : Stand). IfOk c.raising.result (Raises (any_in s) b c.in_ok-plan.field-0)) back c.raising.ensures.raises)

pub returns-clause-plans : goal.returns-clause-plans
returns-clause-plans g c =
    let b = book_view c.args.book.now in
    let h = g.R.Rebuilder.how c.args.rebuilder.now in
    let on = subst (λ (s : Stand). StandsOn b s c.begin_on.new.state c.in_ok-basis.basis) c.self.view_is c.in_ok-basis.ensures.begins in
    let back : c.leave.new.state ≡ c.args.self.now = c.leave.ensures c.args.self.now on.marked in
    let found = kept_for (any_in c.args.self.now) b in
    let begins = subst (BeginsWith found b c.in_ok-basis.basis.begun) (sym c.base.ensures) on.begins in
    if_plan c.args.scheduler h b c.args.targets.now c.in_ok-plan.field-0 (any_in c.args.self.now) c.raising.result
    (subst (λ (s : Stand). IfOk c.raising.result (Raises (any_in s) b c.in_ok-plan.field-0)) back c.raising.ensures.raises)
    (c.in_ok-plan.ensures.plans found begins)

pub returns-clause-shows : goal.returns-clause-shows
returns-clause-shows g c =
    let b = book_view c.args.book.now in
    let on = subst (λ (s : Stand). StandsOn b s c.begin_on.new.state c.in_ok-basis.basis) c.self.view_is c.in_ok-basis.ensures.begins in
    let found = kept_for (any_in c.args.self.now) b in
    let begins = subst (BeginsWith found b c.in_ok-basis.basis.begun) (sym c.base.ensures) on.begins in
    if_shows (ShowsBuild g.R.Job.Job.name g.R.Job.Job.started g.R.Job.Job.gives (λ M k j. g.R.Rebuilder.begun c.args.rebuilder.now M b (λ q. None) k j) (g.R.Rebuilder.how c.args.rebuilder.now) b c.args.targets.now c.args.scheduler c.args.workers found)
    (any_in c.leave.new.state) b c.in_ok-plan.field-0 c.raising.result c.raising.ensures.raises (c.in_ok-plan.ensures.shows found begins)

pub begin_on-requires : goal.begin_on-requires
begin_on-requires g c =
    let b = book_view c.args.book.now in
    subst (λ (s : Stand). IfSome c.args.known (IsBegun (kept_for (any_in s) b) b)) (sym c.self.view_is) c.requires
