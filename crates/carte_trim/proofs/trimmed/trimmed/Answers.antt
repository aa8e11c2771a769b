use Rattle.std.proofs.Common.{sym, subst}
use Rattle.carte_record.specs.Kept.{kept_view}
use Rattle.carte_trim.specs.Trimmed.{IsNumberOf, IsTrimmed}
use Rattle.carte_trim.proofs.Cutting.{comes}
use Rattle.carte_trim.proofs.trimmed.trimmed.Goals as goal

pub returns-clause-kept : goal.returns-clause-kept
returns-clause-kept c =
    let all = comes c.args.kept.now c.args.count c.in_ok-batches.batches.items c.cut_all.new.batches.items c.in_ok-counts.counts ((c.in_ok-batches.ensures {u = tt}).live) (c.in_ok-counts.ensures {u = tt}) in
    subst (λ M. IsTrimmed (kept_view c.args.kept.now) c.args.count M) (sym (c.in_ok-kept.ensures {u = tt})) all.0

pub returns-clause-before : goal.returns-clause-before
returns-clause-before c =
    let all = comes c.args.kept.now c.args.count c.in_ok-batches.batches.items c.cut_all.new.batches.items c.in_ok-counts.counts ((c.in_ok-batches.ensures {u = tt}).live) (c.in_ok-counts.ensures {u = tt}) in
    all.1

pub returns-clause-after : goal.returns-clause-after
returns-clause-after c =
    let all = comes c.args.kept.now c.args.count c.in_ok-batches.batches.items c.cut_all.new.batches.items c.in_ok-counts.counts ((c.in_ok-batches.ensures {u = tt}).live) (c.in_ok-counts.ensures {u = tt}) in
    subst (λ M. IsNumberOf M c.in_ok-counts.counts.after) (sym (c.in_ok-kept.ensures {u = tt})) all.2
