use Rattle.carte_value.proofs.Bytes as bytes
use Rattle.carte_value.proofs.spelling_law.one_spelling.Goals as goal

pub returns : goal.returns
returns c = bytes.one_spelling
