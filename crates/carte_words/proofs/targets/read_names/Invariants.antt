use Rattle.std.proofs.Common.{◌≡◌, drop}
use Rattle.clap.specs.Walk.{texts}
use Rattle.carte_words.specs.Words.{names_in}
use Rattle.carte_words.proofs.Naming.{put_before}
use Rattle.carte_words.proofs.targets.read_names.Given as goal

abbrev pub invariant-loop-word : goal.invariant-loop-word
invariant-loop-word l = put_before l.names (names_in l.kind (texts (drop l.word-index l.words))) ≡ names_in l.kind (texts l.words)
