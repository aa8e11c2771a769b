use Rattle.std.proofs.Common.{ℕ, pos, true, false, Bool, Option, Some, None, length, ◌≡◌, ◌<◌, ◌^◌, if◌then◌else◌, nat_lt, refl, w64}
use Rattle.std.proofs.lemmas.Result.{OkIff-at_err}
use Rattle.std.specs.Str.Parse.{digits_value}
use Rattle.std.proofs.lemmas.Bool.{ltb-true}
use Rattle.std.proofs.lemmas.Str.Parse.{parse_signed_digits}
use Rattle.carte_lexer.specs.Tokens.{Token, digits}
use Rattle.carte_lexer.proofs.Bytes.{numerals}
use Rattle.carte_lexer.proofs.lexer.token_kinds.number_token.Goals as goal

too_big : (b : Bool) (n : ℕ) → nat_lt n (2 ^ 63) ≡ b → (n < 2 ^ 63 → ⊥) → ◌≡◌ {A = Option Token} None (if b then Some (digits (pos n)) else None)
too_big true n is h = absurd (h (ltb-true n (2 ^ 63) is))
too_big false n is h = refl

pub returns-in-Err : goal.returns-in-Err
returns-in-Err c =
    let bs = c.args.run.now in
    let p = parse_signed_digits numerals w64 bs c.parse.result c.parse.ensures.value.0 c.requires.digits in
    too_big (nat_lt (digits_value 10 bs) (2 ^ 63)) (digits_value 10 bs) refl (λ low. OkIff-at_err c.parse.result ((0 < length bs) × (digits_value 10 bs < 2 ^ 63)) (pos (digits_value 10 bs)) c.in-Err.field-0 p c.in-Err.is (c.requires.some, low))
