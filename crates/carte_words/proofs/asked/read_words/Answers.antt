use Rattle.clap.specs.Words.{found_of, rows_of}
use Rattle.carte_words.proofs.NamedLemmas.{words_counted, words_named}
use Rattle.carte_words.proofs.asked.read_words.Goals as goal

pub returns-clause-names : goal.returns-clause-names
returns-clause-names c = words_named (rows_of (found_of c.in_ok-matches.matches)) c.read_matches.result c.read_matches.ensures

pub returns-clause-count : goal.returns-clause-count
returns-clause-count c = words_counted (rows_of (found_of c.in_ok-matches.matches)) c.read_matches.result c.read_matches.ensures
