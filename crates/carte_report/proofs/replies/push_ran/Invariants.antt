use Rattle.std.proofs.Common.{◌≡◌, ◌++◌, drop, string_bytes}
use Rattle.carte_report.specs.Reply.{ran_lines}
use Rattle.carte_report.proofs.replies.push_ran.Given as goal

abbrev pub invariant-loop-name : goal.invariant-loop-name
invariant-loop-name l = string_bytes l.text ++ ran_lines (drop l.name-index l.ran) ≡ string_bytes l.fn.text ++ ran_lines l.ran
