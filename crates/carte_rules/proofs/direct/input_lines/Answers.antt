use Rattle.std.proofs.Common.{◌≡◌, ◌==◌, ◌<◌, false, [], length, le_refl, refl, rules, arith}
use Rattle.std.specs.FinMap.{empty}
use Rattle.std.proofs.lemmas.Grind.{common_steps}
use Rattle.toml_parser.specs.Lexical.{skip_blank}
use Rattle.carte_rules.proofs.Document.{no_pairs, one_more}
use Rattle.carte_rules.proofs.Lengthened.{one_input}
use Rattle.carte_rules.proofs.direct.input_lines.Goals as goal

pub lines-init : goal.lines-init
lines-init c = (search rules, le_refl _, [], empty, no_pairs c.args.s.now, refl, c.requires)

pub lines-preserved : goal.lines-preserved
lines-preserved c =
    let l = c.lines in
    let start_is = c.skip_blank-start.ensures.rest in
    let other : (length (skip_blank l.rest.now) == 0) ≡ false = grind (arith, common_steps) in
    let shorter : length c.in_ok-entry.after.now < length l.rest.now = omega (arith, c.in_ok-entry.ensures.shorter, c.skip_blank-start.ensures.within) in
    let entry = c.in_ok-entry.entry in
    let i = l.invariant in
    let es = i.2 in
    let m = i.3 in
    let p = c.in-Ok.ensures m i.6 in (
      search rules,
      omega (arith, i.1, shorter),
      _,
      p.0,
      one_more c.args.s.now l.rest.now c.in_ok-entry.after.now es entry i.4 other (rw start_is at c.in_ok-entry.ensures.value) shorter,
      one_input es entry _ m p.0 i.5 p.1 p.2,
      p.3,
    )
