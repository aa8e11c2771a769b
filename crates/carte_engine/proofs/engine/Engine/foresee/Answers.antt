use Rattle.std.proofs.Common.{subst}
use Rattle.carte_book.specs.Book.{book_view}
use Rattle.carte_record.specs.Kept.{kept_view}
use Rattle.carte_state.specs.States.{Stand}
use Rattle.carte_engine.specs.Working.{StandsOn}
use Rattle.carte_engine.proofs.Foreseeing.{foresees_on}
use Rattle.carte_engine.proofs.engine.Engine.foresee.Goals as goal

pub returns-clause-foreseen : goal.returns-clause-foreseen
returns-clause-foreseen g c H sound distinct =
    let b = book_view c.args.book.now in
    let h = g.R.Rebuilder.how c.args.rebuilder.now in
    let marked = c.begin_on.new.state in
    let on = subst (λ (s : Stand). StandsOn b s marked c.in_ok-basis.basis) c.self.view_is c.in_ok-basis.ensures.begins in
    foresees_on h b c.args.targets.now c.args.self.now marked c.in_ok-basis.basis (kept_view c.base.result.now) on c.base.ensures H sound distinct c.build-end.result c.build-end.ensures.ends
