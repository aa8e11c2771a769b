use Rattle.std.proofs.Common.{◌≤◌, length}
use denote.Text.{Utf8}
use denote.Shadow.{shadow}
use Rattle.carte_rules.specs.Entries.{ReadsPairs}
use Rattle.carte_rules.proofs.plain.pairs.Given as goal

abbrev pub invariant-lines : goal.invariant-lines
invariant-lines l = shadow (Utf8 l.rest) × (length l.rest ≤ length l.fn.s) × ReadsPairs l.fn.s l.entries.items l.rest

abbrev pub decreases-lines : goal.decreases-lines
decreases-lines l = length l.rest
