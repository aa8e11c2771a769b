use Rattle.std.proofs.Common.{ap, ◌∙◌}
use Rattle.carte_table.specs.Lookups.{first_value, is_value_of}
use Rattle.carte_table.proofs.store.Store.find.Goals as goal

pub returns : goal.returns
returns c = c.first.ensures (λ d. is_value_of (record { 0 = d })) (rw c.as_slice.ensures.value c.self.invariant.2) ∙ ap (λ k. first_value c.as_slice.result.now (record { 0 = k })) c.of-key.ensures ∙ ap (λ vs. first_value vs c.args.digest.now) (c.as_slice.ensures.value ∙ c.self.view_is)
