use Rattle.std.proofs.Common.{◌≡◌, ◌≤◌, ◌+◌, ◌-◌, drop, false, length}
use Rattle.std.specs.List.{prefix_len}
use Rattle.toml_parser.specs.Strings.{is_plain}
use Rattle.carte_rules.proofs.line.plain_len.Given as goal

abbrev pub invariant-runs : goal.invariant-runs
invariant-runs l = (l.start ≤ length l.bytes) × (l.start + prefix_len (is_plain l.delim false) (drop l.start l.bytes) ≡ prefix_len (is_plain l.delim false) l.bytes)

abbrev pub decreases-runs : goal.decreases-runs
decreases-runs l = length l.bytes - l.start
