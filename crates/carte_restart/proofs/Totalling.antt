-- Lists of names that are counted name by name.
use Rattle.std.proofs.Common.{◌≡◌, ℕ, ◌+◌, ◌≤◌, true, false, if◌then◌else◌, List, [], ◌∷◌, length, refl, sym, subst, arith, inl, inr}
use Rattle.std.specs.Cmp.Lexicographic.{nat_list_eq_equiv}
use Rattle.carte_name.specs.Names.{name_eq}
use Rattle.carte_value.specs.Truths.{Among, NoneTwice}
use Rattle.carte_value.proofs.Members.{name_apart}
use Rattle.carte_rebuild.specs.Ends.{times}
use Rattle.carte_restart.specs.Totals.{AreFewInAll, total}

-- one where it is this name
abbrev one_at : List ℕ → List ℕ → ℕ
one_at x k = if name_eq k x then 1 else 0

total_none : (ks : List (List ℕ)) → total (λ k. 0) ks ≡ 0
total_none [] = refl
total_none (k ∷ ks) = omega (arith, total_none ks)

total_both : (f g : List ℕ → ℕ) (ks : List (List ℕ)) → total (λ k. f k + g k) ks ≡ total f ks + total g ks
total_both f g [] = refl
total_both f g (k ∷ ks) = omega (arith, total_both f g ks)

total_most : (f g : List ℕ → ℕ) (ks : List (List ℕ)) → ((k : List ℕ) → f k ≤ g k) → total f ks ≤ total g ks
total_most f g [] most = omega arith
total_most f g (k ∷ ks) most = omega (arith, most k, total_most f g ks most)

one_apart : (x k : List ℕ) → ¬ (k ≡ x) → one_at x k ≡ 0
one_apart x k other = let none : name_eq k x ≡ false = name_apart k x other in rw none refl

one_here : (x : List ℕ) → one_at x x ≡ 1
one_here x = let same : name_eq x x ≡ true = nat_list_eq_equiv.refl x in rw same refl

one_of_others : (x : List ℕ) (ks : List (List ℕ)) → ¬ (Among ks x) → total (one_at x) ks ≡ 0
one_of_others x [] none = refl
one_of_others x (k ∷ ks) none =
    let here = one_apart x k (λ same. none (inl (sym same))) in
    let there = one_of_others x ks (λ among. none (inr among)) in
    omega (arith, here, there)

-- a name stands once in a list in which none stands twice
one_among : (x : List ℕ) (ks : List (List ℕ)) → NoneTwice ks → Among ks x → total (one_at x) ks ≡ 1
one_among x [] once among = absurd among
one_among x (k ∷ ks) once (inl same) =
    let here : one_at x k ≡ 1 = subst (λ j. one_at x j ≡ 1) same (one_here x) in
    let others = one_of_others x ks (λ among. once.0 (subst (Among ks) same among)) in
    omega (arith, here, others)
one_among x (k ∷ ks) once (inr among) =
    let here = one_apart x k (λ same. once.0 (subst (Among ks) (sym same) among)) in
    let there = one_among x ks once.1 among in
    omega (arith, here, there)

-- so a list is as long as its names are often in it
length_counts : (xs ks : List (List ℕ)) → NoneTwice ks → ((k : List ℕ) → Among xs k → Among ks k) → length xs ≡ total (λ k. times k xs) ks
length_counts [] ks once within = sym (total_none ks)
length_counts (x ∷ xs) ks once within =
    let rest = length_counts xs ks once (λ k among. within k (inr among)) in
    let first = one_among x ks once (within x (inl refl)) in
    let both = total_both (one_at x) (λ k. times k xs) ks in
    omega (arith, rest, first, both)

pub few_in_all : AreFewInAll
few_in_all r n keys few within started once =
    let starts = length_counts r.starts keys once within in
    let ends = length_counts r.ends keys once (λ k among. within k (started k among)) in
    let most = total_most (λ k. times k r.starts) (λ k. times k r.ends + n k) keys few in
    let both = total_both (λ k. times k r.ends) n keys in
    omega (arith, starts, ends, most, both)
