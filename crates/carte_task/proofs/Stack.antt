-- The stack as a list, and names looked up onto it.
use Rattle.std.proofs.Common.{◌≡◌, ℕ, ◌-◌, List, [], ◌∷◌, ◌++◌, length, refl, ap, sym, ◌∙◌, append_assoc, append-nil, length-append, arith}
use Rattle.std.proofs.Math.Path.{fun_ext}
use Rattle.std.proofs.Math.Seq.{drop-append_seam, take-append_seam}
use Rattle.carte_value.specs.declared.value.Value.{Value}
use Rattle.carte_value.specs.Asks.{Asks, done, ask, and_then}
use Rattle.carte_tree.specs.Texts.{joined}
use Rattle.carte_tree.specs.Meaning.{asks_all}
use Rattle.carte_task.specs.Code.{newest, below, put, pushed}
use Rattle.carte_task.proofs.Binding.{and_then_assoc, and_then_same, Always, always_then}

height : (vs us : List Value) (n : ℕ) → length us ≡ n → length (vs ++ us) - n ≡ length vs
height vs us n is = omega (arith, length-append vs us)

pub newest_on : (vs us : List Value) (n : ℕ) → length us ≡ n → newest n (vs ++ us) ≡ us
newest_on vs us n is = rw (height vs us n is) (drop-append_seam vs us)

pub below_on : (vs us : List Value) (n : ℕ) → length us ≡ n → below n (vs ++ us) ≡ vs
below_on vs us n is = rw (height vs us n is) (take-append_seam vs us)

pub put_on : (vs us : List Value) (n : ℕ) (v : Value) → length us ≡ n → put n (vs ++ us) v ≡ vs ++ v ∷ []
put_on vs us n v is = ap (λ ws. ws ++ v ∷ []) (below_on vs us n is)

-- the two newest values were taken off, and what they are joined was put on
pub two_joined : (old mid rest new : List Value) (l r v : Value) → old ≡ mid ++ r ∷ [] → mid ≡ rest ++ l ∷ [] → v ≡ joined (l ∷ r ∷ []) → new ≡ rest ++ v ∷ [] → new ≡ put 2 old (joined (newest 2 old))
two_joined old mid rest new l r v first second is then =
    let us = l ∷ r ∷ [] in
    let whole : old ≡ rest ++ us = first ∙ ap (λ m. m ++ r ∷ []) second ∙ append_assoc rest (l ∷ []) (r ∷ []) in
    then ∙ ap (λ w. rest ++ w ∷ []) is ∙ sym (ap (λ o. put 2 o (joined (newest 2 o))) whole ∙ put_on rest us 2 (joined (newest 2 (rest ++ us))) refl ∙ ap (λ ws. rest ++ joined ws ∷ []) (newest_on rest us 2 refl))

-- looked up onto a stack, or looked up and then put on it
pub pushed_all : {A : Type 0} (ks : List (List ℕ)) (vs : List Value) (go : List Value → Asks A) → pushed ks vs go ≡ and_then (asks_all ks) (λ us. go (vs ++ us))
pushed_all [] vs go = ap go (sym (append-nil vs))
pushed_all (k ∷ ks) vs go = ap (ask k) (fun_ext (λ v.
    pushed_all ks (vs ++ v ∷ []) go
    ∙ and_then_same (asks_all ks) (λ us. go ((vs ++ v ∷ []) ++ us)) (λ us. go (vs ++ (v ∷ us))) (λ us. ap go (append_assoc vs (v ∷ []) us))
    ∙ sym (and_then_assoc (asks_all ks) (λ us. done (v ∷ us)) (λ us. go (vs ++ us)))))

pub all_counted : (ks : List (List ℕ)) → Always (λ (us : List Value). length us ≡ length ks) (asks_all ks)
all_counted [] = refl
all_counted (k ∷ ks) = λ v. always_then (λ (us : List Value). length us ≡ length ks) (λ (us : List Value). length us ≡ length (k ∷ ks)) (asks_all ks) (λ us. done (v ∷ us)) (all_counted ks) (λ us same. cc)
