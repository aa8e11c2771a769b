use Rattle.carte_value.proofs.Readings as readings
use Rattle.carte_value.proofs.reading_law.one_reading.Goals as goal

pub returns : goal.returns
returns c = readings.one_reading
