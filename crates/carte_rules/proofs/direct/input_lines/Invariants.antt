use Rattle.std.proofs.Common.{◌≡◌, ◌≤◌, List, Some, length}
use Rattle.std.specs.FinMap.{empty}
use denote.Text.{Utf8}
use denote.Shadow.{shadow}
use Rattle.carte_rules.specs.Drafts.{Holds}
use Rattle.carte_rules.specs.Entries.{ReadsPairs}
use Rattle.carte_rules.specs.Orders.{new_inputs}
use Rattle.carte_rules.specs.Reading.{Content}
use Rattle.carte_rules.specs.declared.entry.Entry.{Entry}
use Rattle.carte_rules.proofs.direct.input_lines.Given as goal

abbrev pub invariant-lines : goal.invariant-lines
invariant-lines l = shadow (Utf8 l.rest) × (length l.rest ≤ length l.fn.s) × (es : List Entry) × (m : Content) × ReadsPairs l.fn.s es l.rest × (new_inputs es empty ≡ Some m) × Holds l.draft m

abbrev pub decreases-lines : goal.decreases-lines
decreases-lines l = length l.rest
