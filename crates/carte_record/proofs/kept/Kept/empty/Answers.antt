use Rattle.std.proofs.Common.{ap}
use Rattle.carte_table.specs.Lookups.{first_link, first_value}
use Rattle.carte_record.specs.Lookups.{first_entry}
use Rattle.carte_record.proofs.Growing.{kept_same, no_traces}
use Rattle.carte_record.proofs.kept.Kept.empty.Goals as goal

pub returns : goal.returns
returns c = kept_same _ _ (λ k. ap (λ ls. first_link ls k) c.new.ensures) (λ k. ap (λ es. first_entry es k) c.new-2.ensures) (no_traces _ c.new-3.ensures c.new-4.ensures c.new-5.ensures) c.new-6.ensures (λ d. ap (λ vs. first_value vs d) c.new-7.ensures)
