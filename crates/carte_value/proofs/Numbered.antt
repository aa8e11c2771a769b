-- The name at the number that it has.
use Rattle.std.proofs.Common.{◌≡◌, ℕ, zero, suc, Bool, true, false, refl, ◌||◌, List, [], ◌∷◌, ◌++◌, Some, slice_get, get_or, sym, ap, ◌∙◌, cond}
use Rattle.std.specs.Cmp.Lexicographic.{bytes_decides}
use Rattle.std.specs.List.{list_any}
use Rattle.std.proofs.lemmas.List.Quantifiers.{position-Some}
use Rattle.std.proofs.lemmas.Option.{slice_get-get_or}
use Rattle.carte_name.specs.Names.{name_eq}
use Rattle.carte_value.specs.Firsts.{seen_also}
use Rattle.carte_value.specs.Numbers.{number_of}

pub numbered_there : (ks : List (List ℕ)) (k : List ℕ) (at : ℕ) → number_of ks k ≡ Some at → slice_get ks at ≡ Some k
numbered_there ks k at is =
    let found = position-Some (name_eq k) ks at [] is in
    let same : k ≡ get_or ks at [] = (bytes_decides k (get_or ks at [])).0 found.1 in
    slice_get-get_or ks at [] found.0 ∙ ap (λ i. Some i) (sym same)

or_true : (b : Bool) → (b || true) ≡ true
or_true true = refl
or_true false = refl

there_any : (ks : List (List ℕ)) (k : List ℕ) (at : ℕ) → slice_get ks at ≡ Some k → list_any (name_eq k) ks ≡ true
there_any [] k at is = cc
there_any (j ∷ ks) k zero is =
    let same : name_eq k j ≡ true = (bytes_decides k j).1 (cc) in
    ap (λ b. b || list_any (name_eq k) ks) same
there_any (j ∷ ks) k (suc at) is = ap (λ b. name_eq k j || b) (there_any ks k at is) ∙ or_true (name_eq k j)

-- a name that has a number gets no other
pub numbered_stays : (ks : List (List ℕ)) (k : List ℕ) (at : ℕ) → slice_get ks at ≡ Some k → seen_also ks k ≡ ks
numbered_stays ks k at is = ap (λ b. cond b ks (ks ++ k ∷ [])) (there_any ks k at is)
