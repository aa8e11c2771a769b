use Rattle.std.proofs.Common.{Some, ap, sym, ◌∙◌}
use Rattle.carte_sound.specs.LeadsTo.{chain_behind}
use Rattle.carte_progress.proofs.Listing.{keys_same}
use Rattle.carte_restart.proofs.chains.with_chain.Goals as goal

pub returns-clause-chain : goal.returns-clause-chain
returns-clause-chain c = ap Some ((c.in_ok-chain.ensures {u = tt}) ∙ ap (λ ks. chain_behind ks c.args.kept.now.chain) (sym (keys_same c.index.new.self)))
