use Rattle.std.proofs.Common.{◌≡◌, true, false, ◌∙◌, ap, sym, slice_index, arith}
use Rattle.carte_name.specs.Names.{is_upper}
use Rattle.carte_name.specs.Places.{column_of}
use Rattle.carte_name.proofs.place.column.Goals as goal

pub returns-then-is_ascii_uppercase : goal.returns-then-is_ascii_uppercase
unfolding column_of
returns-then-is_ascii_uppercase c =
    let upper : is_upper (slice_index c.args.name.now 1) ≡ true = ap is_upper (sym c.byte_at-second.ensures) ∙ sym c.is_ascii_uppercase.ensures.value ∙ c.if-is_ascii_uppercase.true in
    rw upper (omega (arith, c.byte_at.ensures, c.byte_at-second.ensures, c.saturating_sub-first.ensures, c.saturating_sub.ensures))

pub returns-else-is_ascii_uppercase : goal.returns-else-is_ascii_uppercase
unfolding column_of
returns-else-is_ascii_uppercase c =
    let other : is_upper (slice_index c.args.name.now 1) ≡ false = ap is_upper (sym c.byte_at-second.ensures) ∙ sym c.is_ascii_uppercase.ensures.value ∙ c.if-is_ascii_uppercase.false in
    rw other (omega (arith, c.byte_at.ensures, c.saturating_sub-first.ensures))
