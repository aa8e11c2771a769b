use Rattle.std.proofs.Common.{◌≡◌, ◌==◌, ◌<◌, false, length, le_refl, rules, arith}
use Rattle.std.proofs.lemmas.Grind.{common_steps}
use Rattle.toml_parser.specs.Lexical.{skip_blank}
use Rattle.carte_rules.proofs.Document.{no_pairs, one_more}
use Rattle.carte_rules.proofs.plain.pairs.Goals as goal

pub lines-init : goal.lines-init
lines-init c = (search rules, le_refl _, rw c.new-entries.ensures.items (no_pairs c.args.s.now))

pub lines-preserved : goal.lines-preserved
lines-preserved c =
    let l = c.lines in
    let start_is = c.skip_blank-start.ensures.rest in
    let other : (length (skip_blank l.rest.now) == 0) ≡ false = grind (arith, common_steps) in
    let shorter : length c.in_ok-entry.after.now < length l.rest.now = omega (arith, c.in_ok-entry.ensures.shorter, c.skip_blank-start.ensures.within) in (
      search rules,
      omega (arith, l.invariant.1, shorter),
      rw c.in-Ok.ensures.items (one_more c.args.s.now l.rest.now c.in_ok-entry.after.now l.entries.items c.in_ok-entry.entry l.invariant.2 other (rw start_is at c.in_ok-entry.ensures.value) shorter),
    )
