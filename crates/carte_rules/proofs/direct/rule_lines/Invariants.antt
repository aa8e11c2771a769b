use Rattle.std.proofs.Common.{◌≤◌, List, Ok, length}
use denote.Text.{Utf8}
use denote.Shadow.{shadow}
use Rattle.carte_rules.specs.Drafts.{Holds}
use Rattle.carte_rules.specs.Entries.{members_of, ReadsPairs}
use Rattle.carte_rules.specs.Reading.{Content, RulesInto}
use Rattle.carte_rules.specs.declared.entry.Entry.{Entry}
use Rattle.carte_rules.proofs.direct.rule_lines.Given as goal

abbrev pub invariant-lines : goal.invariant-lines
invariant-lines l = shadow (Utf8 l.rest) × (length l.rest ≤ length l.fn.s) × ((m : Content) → Holds l.fn.draft m → (es : List Entry) × (n : Content) × ReadsPairs l.fn.s es l.rest × RulesInto (members_of es) m (Ok n) × Holds l.draft n)

abbrev pub decreases-lines : goal.decreases-lines
decreases-lines l = length l.rest
