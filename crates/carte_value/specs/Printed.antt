-- The printed form of values.
use Rattle.std.specs.Prelude.{ℕ, List, [], ◌∷◌, ◌++◌, ◌==◌, codes, if◌then◌else◌}
use Rattle.std.specs.List.{flat_map}
use Rattle.std.specs.Fmt.{signed_decimal}
use Rattle.carte_value.specs.declared.value.Bad.{Bad}
use Rattle.carte_value.specs.declared.value.Bad.TheVariants as bad
use Rattle.carte_value.specs.declared.value.Value.{Value}
use Rattle.carte_value.specs.declared.value.Value.TheVariants as value

-- between quotes `\`, `"`, line feed, carriage return and tab are written by two bytes, and every other byte as it is
abbrev pub escaped : ℕ → List ℕ
escaped b =
    if b == 92 then codes "\\\\" else
    (if b == 34 then codes "\\\"" else
    (if b == 10 then codes "\\n" else
    (if b == 13 then codes "\\r" else
    (if b == 9 then codes "\\t" else b ∷ []))))

abbrev pub quoted : List ℕ → List ℕ
quoted bs = 34 ∷ (flat_map escaped bs ++ 34 ∷ [])

abbrev pub printed_bad : Bad → List ℕ
printed_bad bad.Div0 = codes "#DIV/0!"
printed_bad bad.Value = codes "#VALUE!"
printed_bad bad.Ref = codes "#REF!"
printed_bad bad.Num = codes "#NUM!"
printed_bad bad.Len = codes "#LEN!"

abbrev pub printed : Value → List ℕ
printed value.Empty = codes "empty"
printed (value.Number n) = signed_decimal n
printed (value.Text t) = quoted t
printed (value.Bad b) = printed_bad b
