use Rattle.carte_record.specs.BodyLaws as laws
use Rattle.carte_record.proofs.codec.batch.one_body.Goals as goal

pub returns : goal.returns
returns c = laws.one_body
