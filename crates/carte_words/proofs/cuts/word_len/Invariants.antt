use Rattle.std.proofs.Common.{◌≡◌, ◌+◌, length, drop}
use Rattle.carte_words.specs.Cuts.{word_of}
use Rattle.carte_words.proofs.cuts.word_len.Given as goal

abbrev pub invariant-loop-at : goal.invariant-loop-at
invariant-loop-at l = l.at + length (word_of (drop l.at l.bytes)) ≡ length (word_of l.bytes)
