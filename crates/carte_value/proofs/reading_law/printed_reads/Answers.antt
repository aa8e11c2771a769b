use Rattle.carte_value.proofs.Readings as readings
use Rattle.carte_value.proofs.reading_law.printed_reads.Goals as goal

pub returns : goal.returns
returns c = readings.printed_reads
