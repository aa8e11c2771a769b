use Rattle.std.proofs.Common.{◌≡◌, ◌∙◌, OnOk, Some, subst, sym}
use Rattle.carte_journal.specs.Ready.{IsReadyAt}
use Rattle.carte_journal.specs.Regions.{gate_of, placed_at, turned_from}
use Rattle.carte_journal.proofs.Rewritings.{low_place}
use Rattle.carte_journal.proofs.rewrite.turn.Goals as goal

pub turn_bank-requires-clause-low : goal.turn_bank-requires-clause-low
turn_bank-requires-clause-low g c = low_place c.args.region.now c.in-Some.roots (sym c.bank.ensures.bank ∙ c.in-Some.is) c.bank.ensures.placed

pub returns-in-Some-clause-ok : goal.returns-in-Some-clause-ok
returns-in-Some-clause-ok g c told limit bodies new ready is fits =
    let p = c.args.region.now in
    let some : p.bank ≡ Some c.in-Some.roots = sym c.bank.ensures.bank ∙ c.in-Some.is in
    subst
    (λ b. OnOk c.turn_bank.result
    (IsReadyAt limit (Some (turned_from b p.gate p.at)) (gate_of p.at new) (placed_at p.at new) (g.D.Disk.story c.turn_bank.new.disk))) (sym some)
    (c.turn_bank.ensures.ok told limit bodies new (subst (λ b. IsReadyAt limit b p.gate bodies (g.D.Disk.story c.args.disk.now)) some ready) is fits)
