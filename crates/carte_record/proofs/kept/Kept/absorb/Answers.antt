use Rattle.std.proofs.Common.{sym, ap, ◌∙◌}
use Rattle.std.proofs.lemmas.Result.{on_ok_weaker}
use Rattle.carte_record.specs.Kept.{kept_view}
use Rattle.carte_record.specs.Growth.{put_in}
use Rattle.carte_record.proofs.Empties.{nothing_dropped}
use Rattle.carte_record.proofs.kept.Kept.absorb.Goals as goal

pub returns-then-drops_nothing-clause-ok : goal.returns-then-drops_nothing-clause-ok
returns-then-drops_nothing-clause-ok c =
    on_ok_weaker c.carry.result (λ is. is ∙ sym (nothing_dropped c.args.batch (kept_view c.args.self.now) (sym c.drops_nothing.ensures ∙ c.if-drops_nothing.true))) c.carry.ensures.ok

pub returns-clause-ok : goal.returns-clause-ok
returns-clause-ok c = (c.in_ok-carry.ensures {u = tt}).ok ∙ ap (put_in c.args.batch) (c.in_ok-left.ensures {u = tt})
