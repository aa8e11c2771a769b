use Rattle.std.proofs.Common.{◌≡◌, ◌≤◌, ◌+◌, ◌<◌, ◌^◌, length, string_bytes, arith, w64}
use lib.Signed.{mag}
use Rattle.std.specs.Fmt.{signed_decimal}
use Rattle.std.proofs.lemmas.Int.{to_z-of_z}
use Rattle.std.proofs.lemmas.Fmt.{length_signed_le}
use Rattle.carte_functions.proofs.texts.decimal.Goals as goal

-- no number of i64 has more than twenty digits and a sign
pub returns-clause-bound : goal.returns-clause-bound
returns-clause-bound c =
    let fits : mag c.args.number < 2 ^ 63 = c.ranges.number.sfits in
    let short : length (signed_decimal c.args.number) ≤ 20 + 1 = length_signed_le 20 c.args.number (omega (arith, fits)) fits in
    let is : string_bytes c.in_ok-format.field-0 ≡ signed_decimal c.args.number = rw (to_z-of_z w64 c.args.number c.ranges.number) at c.in_ok-format.ensures.ok in
    rw is (omega (arith, short))
