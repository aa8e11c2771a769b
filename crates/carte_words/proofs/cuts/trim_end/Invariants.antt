use Rattle.std.proofs.Common.{◌≡◌, length}
use denote.Text.{Utf8}
use denote.Shadow.{shadow}
use Rattle.carte_words.specs.Cuts.{trim_end}
use Rattle.carte_words.proofs.cuts.trim_end.Given as goal

abbrev pub invariant-loop-front : goal.invariant-loop-front
invariant-loop-front l = (trim_end l.front ≡ trim_end l.text) × shadow (Utf8 l.front)

abbrev pub decreases-loop-front : goal.decreases-loop-front
decreases-loop-front l = length l.front
