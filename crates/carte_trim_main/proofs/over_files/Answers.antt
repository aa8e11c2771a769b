use Rattle.std.proofs.Common.{ℕ, subst}
use Rattle.carte_io.specs.Disk.{untold}
use Rattle.carte_trim.specs.Around.{over_disk}
use Rattle.carte_trim_main.specs.Ends.{OverState}
use Rattle.carte_trim_main.proofs.over_files.Goals as goal

pub returns-in-Some : goal.returns-in-Some
returns-in-Some c = record {
  state = c.over_state.new.state;
  over = subst (λ (n : ℕ). OverState c.args.words.now (over_disk {A = ℕ} ⊥ (λ d. untold) (λ d. d) n c.over_state.new.state) c.over_state.result) c.of.ensures c.over_state.ensures;
}

pub returns-in-None : goal.returns-in-None
returns-in-None c = record {
  state = c.over_state-in-None.new.state;
  over = subst (λ (n : ℕ). OverState c.args.words.now (over_disk {A = ℕ} ⊥ (λ d. untold) (λ d. d) n c.over_state-in-None.new.state) c.over_state-in-None.result) c.of-in-None.ensures c.over_state-in-None.ensures;
}
