-- Two values joined as texts.
use Rattle.std.proofs.Common.{◌≡◌, [], ◌∷◌, ◌++◌, None, ap, ◌∙◌, append-nil}
use Rattle.std.specs.List.{flat_map}
use Rattle.carte_value.specs.declared.value.Value.{Value}
use Rattle.carte_tree.specs.Coercions.{first_bad, unless_bad, text_of, text_value}
use Rattle.carte_tree.specs.Texts.{joined}

pub joined_two : (v w : Value) → first_bad (v ∷ w ∷ []) ≡ None → joined (v ∷ w ∷ []) ≡ text_value (text_of v ++ text_of w)
joined_two v w none = ap (λ b. unless_bad b (text_value (flat_map text_of (v ∷ w ∷ [])))) none ∙ ap (λ t. text_value (text_of v ++ t)) (append-nil (text_of w))
