use Rattle.std.proofs.Common.{◌≡◌, length}
use denote.Text.{Utf8}
use denote.Shadow.{shadow}
use Rattle.carte_words.specs.Cuts.{words_in}
use Rattle.carte_words.specs.Lines.{names_of}
use Rattle.carte_words.proofs.Commands.{all_before}
use Rattle.carte_words.proofs.script.read_names.Given as goal

abbrev pub invariant-loop-word : goal.invariant-loop-word
invariant-loop-word l = (all_before l.names (names_of l.kind (words_in l.left)) ≡ names_of l.kind (words_in l.text)) × shadow (Utf8 l.left)

abbrev pub decreases-loop-word : goal.decreases-loop-word
decreases-loop-word l = length l.left
