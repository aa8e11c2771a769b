use Rattle.std.proofs.Common.{◌≡◌, ◌++◌, drop, string_bytes}
use Rattle.carte_report.specs.Reply.{target_lines}
use Rattle.carte_report.proofs.replies.push_targets.Given as goal

abbrev pub invariant-loop-target : goal.invariant-loop-target
invariant-loop-target l = string_bytes l.text ++ target_lines (drop l.target-index l.targets) l.left ≡ string_bytes l.fn.text ++ target_lines l.targets l.values
