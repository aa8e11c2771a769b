use Rattle.std.proofs.Common.{◌≡◌, true, false, [], inl, inr, rules}
use Rattle.std.proofs.lemmas.Result.{IfOk-weaker}
use Rattle.carte_record.specs.Empty.{is_bare}
use Rattle.carte_compact.proofs.Living.{is_kept}
use Rattle.carte_compact.proofs.Shut.{are_unmarked}
use Rattle.carte_compact.proofs.batches.live.Goals as goal

pub returns-then-is_bare-clause-kept : goal.returns-then-is_bare-clause-kept
returns-then-is_bare-clause-kept c =
    let none : is_bare c.args.kept.now ≡ true = search rules in
    let nothing : c.new.result.items ≡ [] = search rules in
    is_kept c.args.kept.now c.new.result.items (inl (none, nothing))

pub returns-clause-kept : goal.returns-clause-kept
returns-clause-kept c =
    let some : is_bare c.args.kept.now ≡ false = search rules in
    IfOk-weaker c.some_live.result _ _ (λ Bs live. is_kept c.args.kept.now Bs.items (inr (some, live))) c.some_live.ensures

pub returns-clause-unmarked : goal.returns-clause-unmarked
returns-clause-unmarked c =
    let some : is_bare c.args.kept.now ≡ false = search rules in
    IfOk-weaker c.some_live.result _ _ (λ Bs live. are_unmarked c.args.kept.now Bs.items (inr (some, live))) c.some_live.ensures
