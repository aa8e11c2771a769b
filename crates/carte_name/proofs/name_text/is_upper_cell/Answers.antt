use Rattle.std.proofs.Common.{◌≡◌, ◌∙◌, sym, ap, arith, false, nat_lt, ◌&&◌, drop}
use Rattle.std.proofs.lemmas.Bool.{lt-ltb, le-ltb, and_left}
use Rattle.carte_name.specs.Names.{is_row}
use Rattle.carte_name.proofs.CellPrefixes.{upper_by_letters}
use Rattle.carte_name.proofs.name_text.is_upper_cell.Goals as goal

pub returns-then-capitals-gt0 : goal.returns-then-capitals-gt0
returns-then-capitals-gt0 c =
    let t = c.args.text.now in
    let l = c.upper_letters-capitals.result in
    c.is_row.ensures ∙ ap is_row c.split_at.ensures.back ∙ sym (upper_by_letters t ∙ ap (λ n. nat_lt 0 n && is_row (drop n t)) (sym c.upper_letters-capitals.ensures.number) ∙ ap (λ b. b && is_row (drop l t)) (lt-ltb 0 l (omega arith)))

pub returns-else-capitals-gt0 : goal.returns-else-capitals-gt0
returns-else-capitals-gt0 c =
    let t = c.args.text.now in
    let l = c.upper_letters-capitals.result in
    let none : nat_lt 0 l ≡ false = le-ltb 0 l (omega arith) in
    none ∙ sym (upper_by_letters t ∙ ap (λ n. nat_lt 0 n && is_row (drop n t)) (sym c.upper_letters-capitals.ensures.number) ∙ and_left _ _ none)
