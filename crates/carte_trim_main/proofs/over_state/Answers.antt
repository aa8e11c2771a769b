use Rattle.std.proofs.Common.{ℕ, subst}
use Rattle.carte_io.specs.Disk.{untold}
use Rattle.carte_trim.specs.Around.{over_disk}
use Rattle.carte_trim_main.specs.Ends.{OverBoth}
use Rattle.carte_trim_main.proofs.over_state.Goals as goal

pub returns-in-Some : goal.returns-in-Some
returns-in-Some g c = record {
  new = c.over_both.new.new;
  over = subst (λ (n : ℕ). OverBoth c.args.words.now (over_disk g.S.Disk.tells g.S.Disk.story g.S.Disk.faults c.args.state.now c.over_both.new.state)
      (over_disk {A = ℕ} ⊥ (λ d. untold) (λ d. d) n c.over_both.new.new) c.over_both.result) c.of.ensures c.over_both.ensures;
}

pub returns-in-None : goal.returns-in-None
returns-in-None g c = record {
  new = c.over_both-in-None.new.new;
  over = subst (λ (n : ℕ). OverBoth c.args.words.now (over_disk g.S.Disk.tells g.S.Disk.story g.S.Disk.faults c.args.state.now c.over_both-in-None.new.state)
      (over_disk {A = ℕ} ⊥ (λ d. untold) (λ d. d) n c.over_both-in-None.new.new) c.over_both-in-None.result) c.of-in-None.ensures c.over_both-in-None.ensures;
}
