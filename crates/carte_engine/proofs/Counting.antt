-- How often names stand in lists, and what that tells of lengths.
use Rattle.std.proofs.Common.{◌≡◌, ℕ, ◌+◌, ◌≤◌, Bool, true, false, cond, List, [], ◌∷◌, length, refl, ap, sym, arith}
use Rattle.carte_name.specs.Names.{name_eq}
use Rattle.carte_effect.specs.Ledger.{Ledger, given_up}
use Rattle.carte_table.proofs.Names.{name_eq_is, name_eq_self}
use Rattle.carte_rebuild.specs.Ends.{AllEnded, times}

-- one for a name that is meant, and none for any other
abbrev one : Bool → ℕ
one t = cond t 1 0

-- the list without the first place of a name
abbrev without : List ℕ → List (List ℕ) → List (List ℕ)
without k [] = []
without k (j ∷ js) = cond (name_eq k j) js (j ∷ without k js)

-- a name that stands there leaves the list shorter by one place, which was its own
shorter : (k : List ℕ) (ys : List (List ℕ)) → 1 ≤ times k ys → length ys ≡ 1 + length (without k ys)
shorter k [] there = absurd (omega (arith, there))
shorter k (j ∷ js) there = on (name_eq k j) (shorter k js) there
  where
    on : (t : Bool) → (1 ≤ times k js → length js ≡ 1 + length (without k js)) → 1 ≤ one t + times k js → length (j ∷ js) ≡ 1 + length (cond t js (j ∷ without k js))
    on true rest there = omega arith
    on false rest there =
        let later : 1 ≤ times k js = omega (arith, there) in
        let is = rest later in
        omega (arith, is)

fewer : (k q : List ℕ) (ys : List (List ℕ)) → 1 ≤ times k ys → times q ys ≡ one (name_eq q k) + times q (without k ys)
fewer k q [] there = absurd (omega (arith, there))
fewer k q (j ∷ js) there = on (name_eq k j) refl (fewer k q js) there
  where
    on : (t : Bool) → name_eq k j ≡ t → (1 ≤ times k js → times q js ≡ one (name_eq q k) + times q (without k js)) → 1 ≤ one t + times k js
        → one (name_eq q j) + times q js ≡ one (name_eq q k) + times q (cond t js (j ∷ without k js))
    on true same rest there = ap (λ (i : List ℕ). one (name_eq q i) + times q js) (sym (name_eq_is k j same))
    on false other rest there =
        let later : 1 ≤ times k js = omega (arith, there) in
        let is = rest later in
        omega (arith, is)

-- where each name stands at most as often in the one list as in the other, it is no longer
pub no_more : (xs ys : List (List ℕ)) → ((q : List ℕ) → times q xs ≤ times q ys) → length xs ≤ length ys
no_more [] ys most = omega arith
no_more (x ∷ xs) ys most =
    let here : one (name_eq x x) + times x xs ≤ times x ys = most x in
    let self : one (name_eq x x) ≡ 1 = ap one (name_eq_self x) in
    let there : 1 ≤ times x ys = omega (arith, here, self) in
    let rest : (q : List ℕ) → times q xs ≤ times q (without x ys) = λ q. less q there in
    let shorts = shorter x ys there in
    let lesser = no_more xs (without x ys) rest in
    omega (arith, shorts, lesser)
  where
    less : (q : List ℕ) → 1 ≤ times x ys → times q xs ≤ times q (without x ys)
    less q there =
        let all : one (name_eq q x) + times q xs ≤ times q ys = most q in
        let parts = fewer x q ys there in
        omega (arith, all, parts)

-- where each start has its end nothing was given up
pub none_given_up : (r : Ledger) → AllEnded r → given_up r ≡ 0
none_given_up r all =
    let most : length r.starts ≤ length r.ends = no_more r.starts r.ends (λ q. let same = all q in omega (arith, same)) in
    omega (arith, most)
