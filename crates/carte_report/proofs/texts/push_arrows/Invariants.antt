use Rattle.std.proofs.Common.{◌≡◌, ◌++◌, drop, string_bytes}
use Rattle.carte_report.specs.Texts.{arrows}
use Rattle.carte_report.proofs.texts.push_arrows.Given as goal

abbrev pub invariant-loop-name : goal.invariant-loop-name
invariant-loop-name l = string_bytes l.out ++ arrows (drop l.name-index l.names) ≡ string_bytes l.fn.out ++ arrows l.names
