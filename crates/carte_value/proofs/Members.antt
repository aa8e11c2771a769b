-- Names in lists.
use Rattle.std.proofs.Common.{◌≡◌, ℕ, ◌≤◌, false, not, List, [], ◌∷◌, ◌++◌, length, refl, ap, sym, ◌∙◌, subst, inl, inr, ◌⊎◌, arith, Option, Some, filter, length-append}
use Rattle.std.specs.Cmp.Lexicographic.{bytes_decides, nat_list_eq_equiv}
use Rattle.std.proofs.lemmas.Bool.{both_ways, cases_Bool, false_from_ne_true}
use Rattle.std.proofs.lemmas.List.Elements.{filter-append}
use Rattle.carte_name.specs.Names.{name_eq}
use Rattle.carte_value.specs.Truths.{Among, NoneTwice}
use Rattle.carte_value.specs.Lists.{Has, IsLast, put_at}
use Rattle.carte_value.specs.Asks.{firsts}

pub same_or_not : (k q : List ℕ) → (k ≡ q) ⊎ (¬ (k ≡ q))
same_or_not k q = elim (cases_Bool (name_eq k q)) [
  | inl same ↦ inl ((bytes_decides k q).0 same)
  | inr other ↦ inr (λ e. both_ways (name_eq k q) other ((bytes_decides k q).1 e))
]

-- names that differ are told apart
pub name_apart : (k q : List ℕ) → ¬ (k ≡ q) → name_eq k q ≡ false
name_apart k q other = false_from_ne_true (name_eq k q) (λ same. other ((bytes_decides k q).0 same))

-- lists behind one another

pub among_append : (xs ys : List (List ℕ)) (k : List ℕ) → Among (xs ++ ys) k → Among xs k ⊎ Among ys k
among_append [] ys k h = inr h
among_append (x ∷ xs) ys k h = elim h [
  | inl same ↦ inl (inl same)
  | inr later ↦ elim (among_append xs ys k later) [
    | inl left ↦ inl (inr left)
    | inr right ↦ inr right
  ]
]

pub among_left : (xs ys : List (List ℕ)) (k : List ℕ) → Among xs k → Among (xs ++ ys) k
among_left [] ys k h = absurd h
among_left (x ∷ xs) ys k h = elim h [
  | inl same ↦ inl same
  | inr later ↦ inr (among_left xs ys k later)
]

pub among_right : (xs ys : List (List ℕ)) (k : List ℕ) → Among ys k → Among (xs ++ ys) k
among_right [] ys k h = h
among_right (x ∷ xs) ys k h = inr (among_right xs ys k h)

pub apart_append : (xs ys : List (List ℕ)) → NoneTwice xs → NoneTwice ys → ((k : List ℕ) → Among xs k → ¬ (Among ys k)) → NoneTwice (xs ++ ys)
apart_append [] ys none none' apart = none'
apart_append (x ∷ xs) ys none none' apart = (
  (λ h. elim (among_append xs ys x h) [
    | inl left ↦ none.0 left
    | inr right ↦ apart x (inl refl) right
  ]),
  apart_append xs ys none.1 none' (λ k h. apart k (inr h)),
)

-- the last is among them
pub last_among : (ks : List (List ℕ)) (k : List ℕ) → IsLast ks k → Among ks k
last_among ks k (before, is) = rw is (among_right before (k ∷ []) k (inl refl))

-- a name that is new stands last among the first places too
pub firsts_end : (ks : List (List ℕ)) (k : List ℕ) → ¬ (Among ks k) → firsts (ks ++ k ∷ []) ≡ firsts ks ++ k ∷ []
firsts_end [] k new = refl
firsts_end (j ∷ js) k new =
    let apart : name_eq j k ≡ false = name_apart j k (λ same. new (inl (sym same))) in
    let last : filter (λ i. not (name_eq j i)) (k ∷ []) ≡ k ∷ [] = rw apart refl in
    ap (λ ks. j ∷ ks) (ap (filter (λ i. not (name_eq j i))) (firsts_end js k (λ h. new (inr h))) ∙ filter-append (λ i. not (name_eq j i)) (firsts js) (k ∷ []) ∙ ap (λ ks. filter (λ i. not (name_eq j i)) (firsts js) ++ ks) last)

-- names that stand once each in one list, and all in another: the other is no shorter

record Parts (ks : List (List ℕ)) (k : List ℕ) : Type 0 where
  pub before : List (List ℕ)
  pub behind : List (List ℕ)
  pub is : ks ≡ before ++ k ∷ behind

parted : (ks : List (List ℕ)) (k : List ℕ) → Among ks k → Parts ks k
parted [] k h = absurd h
parted (j ∷ js) k h = elim h [
  | inl same ↦ record { before = []; behind = js; is = ap (λ i. i ∷ js) (sym same) }
  | inr later ↦ (let p = parted js k later in record { before = j ∷ p.before; behind = p.behind; is = ap (λ ks. j ∷ ks) p.is })
]

other_among : (a b : List (List ℕ)) (k q : List ℕ) → Among (a ++ k ∷ b) q → ¬ (q ≡ k) → Among (a ++ b) q
other_among a b k q h other = elim (among_append a (k ∷ b) q h) [
  | inl left ↦ among_left a b q left
  | inr right ↦ elim right [
    | inl same ↦ absurd (other same)
    | inr later ↦ among_right a b q later
  ]
]

pub no_longer : (xs ys : List (List ℕ)) → NoneTwice xs → ((q : List ℕ) → Among xs q → Among ys q) → length xs ≤ length ys
no_longer [] ys none each = omega arith
no_longer (x ∷ xs) ys none each =
    let p = parted ys x (each x (inl refl)) in
    let rest : (q : List ℕ) → Among xs q → Among (p.before ++ p.behind) q = λ q h. other_among p.before p.behind x q (subst (λ ks. Among ks q) p.is (each q (inr h))) (λ same. none.0 (subst (Among xs) same h)) in
    let fewer : length xs ≤ length (p.before ++ p.behind) = no_longer xs (p.before ++ p.behind) none.1 rest in
    omega (arith, fewer, length-append p.before p.behind, length-append p.before (x ∷ p.behind), ap length p.is)

-- lists of anything

pub has_append : {A : Type 0} (xs ys : List A) (x : A) → Has (xs ++ ys) x → Has xs x ⊎ Has ys x
has_append [] ys x h = inr h
has_append (y ∷ xs) ys x h = elim h [
  | inl same ↦ inl (inl same)
  | inr later ↦ elim (has_append xs ys x later) [
    | inl left ↦ inl (inr left)
    | inr right ↦ inr right
  ]
]

pub has_left : {A : Type 0} (xs ys : List A) (x : A) → Has xs x → Has (xs ++ ys) x
has_left [] ys x h = absurd h
has_left (y ∷ xs) ys x h = elim h [
  | inl same ↦ inl same
  | inr later ↦ inr (has_left xs ys x later)
]

pub has_right : {A : Type 0} (xs ys : List A) (x : A) → Has ys x → Has (xs ++ ys) x
has_right [] ys x h = h
has_right (y ∷ xs) ys x h = inr (has_right xs ys x h)

-- functions with one answer more

pub put_here : {A : Type 0} (f : List ℕ → Option A) (k : List ℕ) (x : A) → put_at f k x k ≡ Some x
put_here f k x = rw (nat_list_eq_equiv.refl k) refl

pub put_apart : {A : Type 0} (f : List ℕ → Option A) (k : List ℕ) (x : A) (q : List ℕ) → ¬ (q ≡ k) → put_at f k x q ≡ f q
put_apart f k x q other = rw (name_apart q k other) refl
