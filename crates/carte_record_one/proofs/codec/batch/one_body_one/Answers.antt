use Rattle.carte_record_one.specs.BodyLaws as laws
use Rattle.carte_record_one.proofs.codec.batch.one_body_one.Goals as goal

pub returns : goal.returns
returns c = laws.one_body
