-- What the parse of words answers.
use Rattle.std.specs.Prelude.{◌≡◌, List, [], Result, Ok, Err}
use Rattle.clap.specs.Words.{Text, found_of, rows_of}
use Rattle.clap.specs.declared.parser.matches.ArgMatches.{ArgMatches}
use Rattle.clap.specs.declared.error.kind.ErrorKind.{ErrorKind}
use Rattle.clap.specs.declared.error.kind.ErrorKind.TheVariants.{OutOfMemory}
use Rattle.carte_words.specs.declared.fault.WordsFault.{WordsFault}
use Rattle.carte_words.specs.declared.fault.WordsFault.TheVariants.{Words}
use Rattle.carte_words.specs.Arguments.{faults_of, values_of}
use Rattle.carte_words.specs.Words.{IsCause}

-- the values of the arguments where there is no fault, but that memory may run out
abbrev pub IsParse : List Text → Result ArgMatches WordsFault → Type 0
IsParse words (Ok m) = (faults_of words ≡ []) × (rows_of (found_of m) ≡ values_of words)
IsParse words (Err fault) = IsCause fault → ¬ (faults_of words ≡ []) × (fault ≡ Words)

abbrev pub IsParseFault : ErrorKind → WordsFault → Type 0
IsParseFault kind fault = IsCause fault → ¬ (kind ≡ OutOfMemory) × (fault ≡ Words)
