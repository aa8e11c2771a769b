-- Names beside values, one more at the end.
use Rattle.std.proofs.Common.{◌≡◌, ℕ, List, [], ◌∷◌, ◌++◌, length, refl, ap}
use Rattle.carte_value.specs.declared.value.Value.{Value}
use Rattle.carte_effect.specs.Effects.{paired}

pub paired_end : (ks : List (List ℕ)) (vs : List Value) (k : List ℕ) (v : Value) → length ks ≡ length vs → paired (ks ++ k ∷ []) (vs ++ v ∷ []) ≡ paired ks vs ++ (k, v) ∷ []
paired_end [] [] k v same = refl
paired_end [] (w ∷ vs) k v same = absurd (cc)
paired_end (j ∷ ks) [] k v same = absurd (cc)
paired_end (j ∷ ks) (w ∷ vs) k v same = ap (λ a. (j, w) ∷ a) (paired_end ks vs k v (cc))
