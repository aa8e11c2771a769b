use Rattle.std.proofs.Common.{sym, ◌∙◌}
use Rattle.carte_words.proofs.Cutting.{blank_boundary}
use Rattle.carte_words.proofs.cuts.skip.Goals as goal

pub split_at-requires : goal.split_at-requires
split_at-requires c = blank_boundary c.loop-rest.rest.now c.loop-rest.invariant.1 (sym c.begins_blank.ensures ∙ c.loop-rest-test.true)
