use Rattle.std.proofs.Common.{ℕ, subst}
use Rattle.carte_io.specs.Disk.{untold}
use Rattle.carte_top.specs.Around.{over_source, over_disk}
use Rattle.carte.specs.Ends.{OverBoth}
use Rattle.carte.proofs.over_book.Goals as goal

pub returns-in-Some : goal.returns-in-Some
returns-in-Some g c = record {
  state = c.over_both.new.state;
  over = subst (λ (n : ℕ). OverBoth c.args.words.now (over_source g.B.Source.tells g.B.Source.state c.args.book.now c.over_both.new.book)
      (over_disk {A = ℕ} ⊥ (λ d. untold) (λ d. d) n c.over_both.new.state) c.over_both.result) c.of.ensures c.over_both.ensures;
}

pub returns-in-None : goal.returns-in-None
returns-in-None g c = record {
  state = c.over_both-in-None.new.state;
  over = subst (λ (n : ℕ). OverBoth c.args.words.now (over_source g.B.Source.tells g.B.Source.state c.args.book.now c.over_both-in-None.new.book)
      (over_disk {A = ℕ} ⊥ (λ d. untold) (λ d. d) n c.over_both-in-None.new.state) c.over_both-in-None.result) c.of-in-None.ensures c.over_both-in-None.ensures;
}
