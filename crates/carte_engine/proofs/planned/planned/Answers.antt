use Rattle.std.proofs.Common.{refl, sym, subst}
use Rattle.carte_book.specs.Book.{book_view}
use Rattle.carte_record.specs.Kept.{kept_view}
use Rattle.carte_rebuild.specs.Ends.{HasTargets}
use Rattle.carte_rebuild.specs.declared.work.WorkEnd.{WorkEnd}
use Rattle.carte_engine.specs.Reckoned.{EndsBy, ShowsEnd}
use Rattle.carte_engine.specs.declared.answer.Answer.TheVariants.{Built, Refused}
use Rattle.carte_engine.proofs.Planning.{all_by, all_unmarked, refused_by}
use Rattle.carte_engine.proofs.planned.planned.Goals as goal

pub reckon-requires : goal.reckon-requires
reckon-requires g c = subst (HasTargets (book_view c.args.book.now) c.args.targets.now) c.in-All.is c.requires

pub returns-in_ok-built-in-All-clause-unmarked : goal.returns-in_ok-built-in-All-clause-unmarked
returns-in_ok-built-in-All-clause-unmarked g c = all_unmarked _ c.in_ok-batches-in-All.ensures.unmarked

pub returns-in_ok-built-in-All-clause-plans : goal.returns-in_ok-built-in-All-clause-plans
returns-in_ok-built-in-All-clause-plans g c s K begins ends H sound distinct =
    let h = g.R.Rebuilder.how c.args.rebuilder.now in
    let M = kept_view c.args.base.now in
    let b = book_view c.args.book.now in
    let end = subst (EndsBy s h M b c.args.targets.now) c.in-All.is ends in
    all_by h K b c.args.targets.now c.args.begun.now M begins H sound distinct
    s c.in-All.work c.in_ok-batches-in-All.batches.items c.in_ok-built-in-All.built end (c.in_ok-batches-in-All.ensures.brings K begins) (c.in_ok-built-in-All.ensures {u = tt})

pub returns-in_ok-built-in-All-clause-shows : goal.returns-in_ok-built-in-All-clause-shows
returns-in_ok-built-in-All-clause-shows g c =
    subst (λ (e : WorkEnd). ShowsEnd (book_view c.args.book.now) c.args.targets.now e (Built c.in_ok-built-in-All.built)) (sym c.in-All.is) (c.in_ok-built-in-All.ensures {u = tt})

pub returns-in_ok-batches-in-Refused-clause-unmarked : goal.returns-in_ok-batches-in-Refused-clause-unmarked
returns-in_ok-batches-in-Refused-clause-unmarked g c = all_unmarked _ c.in_ok-batches-in-Refused.ensures.unmarked

pub returns-in_ok-batches-in-Refused-clause-plans : goal.returns-in_ok-batches-in-Refused-clause-plans
returns-in_ok-batches-in-Refused-clause-plans g c s K begins ends H sound distinct =
    let h = g.R.Rebuilder.how c.args.rebuilder.now in
    let M = kept_view c.args.base.now in
    let b = book_view c.args.book.now in
    let end = subst (EndsBy s h M b c.args.targets.now) c.in-Refused.is ends in
    refused_by h K b c.args.targets.now c.args.begun.now M begins H sound distinct
    s c.in-Refused.work c.in-Refused.reason c.in_ok-batches-in-Refused.batches.items end (c.in_ok-batches-in-Refused.ensures.brings K begins)

pub returns-in_ok-batches-in-Refused-clause-shows : goal.returns-in_ok-batches-in-Refused-clause-shows
returns-in_ok-batches-in-Refused-clause-shows g c =
    subst (λ (e : WorkEnd). ShowsEnd (book_view c.args.book.now) c.args.targets.now e (Refused c.in-Refused.reason c.in-Refused.work.runs)) (sym c.in-Refused.is) (refl, refl)
