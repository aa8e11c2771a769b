use Rattle.std.proofs.Common.{◌<◌, ◌≤◌, [], ◌∷◌, ◌++◌, length, take, ap, refl, sym, subst, ◌∙◌, rules, arith}
use Rattle.std.proofs.lemmas.List.{take_more}
use Rattle.carte_journal.specs.declared.bank.Bank.{Bank}
use Rattle.carte_table.proofs.Fronts.{take_whole}
use Rattle.carte_state.proofs.Writing.{FitsTo, one_more}
use Rattle.carte_state.specs.Writing.{FitInTurn}
use Rattle.carte_state.proofs.state.State.has_room_for.Goals as goal

pub loop-batch-init : goal.loop-batch-init
loop-batch-init c = record { fits = tt; below = omega (arith, ap (λ (b : Bank). b.end) c.bank-end.ensures); limit = refl }

pub loop-batch-preserved : goal.loop-batch-preserved
loop-batch-preserved c =
    let Bs = c.args.batches.now in
    let at = c.loop-batch.batch-index in
    let below : at < length Bs = search rules in
    let told = c.in-Some.ensures {u = tt} in
    let few = subst (λ n. c.in-Some.behind ≤ n) c.limit-limit.ensures told.1 in
    subst (λ front. FitsTo c.args.self.now.journal front c.in-Some.behind) (sym (take_more Bs at c.batch-item.result below ∙ ap (λ x. take at Bs ++ x ∷ []) (sym c.batch-item.is)))
    (one_more c.args.self.now.journal (take at Bs) c.batch-item.result c.loop-batch.end c.in-Some.behind c.loop-batch.invariant told.0 few)

pub returns : goal.returns
returns c told =
    let past : length c.args.batches.now ≤ c.loop-batch.batch-index = search rules in
    subst (FitInTurn c.args.self.now.journal) (take_whole c.loop-batch.batch-index c.args.batches.now past) c.loop-batch.invariant.fits
