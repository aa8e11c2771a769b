use Rattle.std.proofs.Common.{◌≡◌, ◌≤◌, length, slice_get}
use denote.Shadow.{shadow}
use denote.Text.{Utf8}
use Rattle.carte_tree.specs.Texts.{lines}
use Rattle.carte_functions.proofs.lines.line_at.Given as goal

abbrev pub invariant-loop-line : goal.invariant-loop-line
invariant-loop-line l = (length l.rest ≤ length l.text) × (slice_get (lines l.rest) l.left ≡ slice_get (lines l.text) l.place) × shadow (Utf8 l.rest)

abbrev pub decreases-loop-line : goal.decreases-loop-line
decreases-loop-line l = length l.rest
