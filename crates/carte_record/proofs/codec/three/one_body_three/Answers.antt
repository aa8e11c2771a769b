use Rattle.carte_record.specs.ThreeLaws as laws
use Rattle.carte_record.proofs.codec.three.one_body_three.Goals as goal

pub returns : goal.returns
returns c = laws.one_body_three
