use Rattle.std.proofs.Common.{◌≡◌, ◌==◌, ◌<◌, false, [], length, le_refl, refl, rules, arith}
use Rattle.std.proofs.lemmas.Grind.{common_steps}
use Rattle.toml_parser.specs.Lexical.{skip_blank}
use Rattle.carte_rules.proofs.Document.{no_pairs, one_more}
use Rattle.carte_rules.proofs.Lengthened.{one_rule}
use Rattle.carte_rules.proofs.direct.rule_lines.Goals as goal

pub lines-init : goal.lines-init
lines-init c = (search rules, le_refl _, λ m h. ([], m, no_pairs c.args.s.now, refl, h))

pub lines-preserved : goal.lines-preserved
lines-preserved c =
    let l = c.lines in
    let start_is = c.skip_blank-start.ensures.rest in
    let other : (length (skip_blank l.rest.now) == 0) ≡ false = grind (arith, common_steps) in
    let shorter : length c.in_ok-entry.after.now < length l.rest.now = omega (arith, c.in_ok-entry.ensures.shorter, c.skip_blank-start.ensures.within) in
    let entry = c.in_ok-entry.entry in (
      search rules,
      omega (arith, l.invariant.1, shorter),
      λ m h.
          let (es, n, pairs, read, holds) = l.invariant.2 m h in
          let p = c.in-Ok.ensures n holds in
          (_, _, one_more c.args.s.now l.rest.now c.in_ok-entry.after.now es entry pairs other (rw start_is at c.in_ok-entry.ensures.value) shorter, one_rule es entry m n p.0 read p.1, p.2),
    )
