use Rattle.std.proofs.Common.{refl, ap}
use Rattle.carte_table.specs.Lookups.{first_link, first_value}
use Rattle.carte_record_one.specs.Lookups.{first_entry_one}
use Rattle.carte_record_one.proofs.Growing.{kept_one_same, no_traces}
use Rattle.carte_record_one.proofs.kept.KeptOne.under.Goals as goal

pub returns : goal.returns
returns c = kept_one_same _ _ refl (λ k. ap (λ ls. first_link ls k) c.new.ensures) (λ k. ap (λ es. first_entry_one es k) c.new-2.ensures) (no_traces _ c.new-3.ensures c.new-4.ensures c.new-5.ensures) c.new-6.ensures (λ d. ap (λ vs. first_value vs d) c.new-7.ensures)
