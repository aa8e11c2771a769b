use Rattle.std.proofs.Common.{ap, sym, ◌∙◌, rules}
use Rattle.carte_words.specs.Cuts.{trim_end}
use Rattle.carte_words.proofs.Trims.{trim_more, trim_done}
use Rattle.carte_words.proofs.cuts.trim_end.Goals as goal

pub loop-front-preserved : goal.loop-front-preserved
loop-front-preserved c = (ap trim_end c.split_at.ensures.front ∙ trim_more c.loop-front.front.now (sym c.ends_blank.ensures ∙ c.loop-front-test.true) ∙ c.loop-front.invariant.0, search rules)

pub returns : goal.returns
returns c = sym (trim_done c.loop-front.front.now (sym c.ends_blank.ensures ∙ c.loop-front-test.false)) ∙ c.loop-front.invariant.0
