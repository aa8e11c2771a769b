-- Lists that are parted at a name, and what holds of the names before it.
use Rattle.std.proofs.Common.{◌≡◌, ℕ, Bool, true, false, not, cond, List, [], ◌∷◌, ◌++◌, ◌⊎◌, Some, None, filter, refl, ap, sym, ◌∙◌, subst, inl, inr}
use Rattle.std.specs.Cmp.Lexicographic.{bytes_decides}
use Rattle.carte_value.specs.declared.value.Value.{Value}
use Rattle.carte_name.specs.Names.{name_eq}
use Rattle.carte_value.specs.Truths.{Truth, Among}
use Rattle.carte_value.specs.Asks.{Asks, done, ask, asked, asked_on, firsts}

pub record Parted (xs : List (List ℕ)) (j : List ℕ) (P : List ℕ → Type 0) : Type 0 where
  pub before : List (List ℕ)
  pub behind : List (List ℕ)
  pub is : xs ≡ before ++ j ∷ behind
  pub all : (i : List ℕ) → Among before i → P i

-- the name comes first
pub part_here : (k : List ℕ) (xs : List (List ℕ)) (j : List ℕ) (P : List ℕ → Type 0) → j ≡ k → Parted (k ∷ xs) j P
part_here k xs j P same = record { before = []; behind = xs; is = ap (λ i. i ∷ xs) (sym same); all = λ i none. absurd none }

-- another comes first
pub part_more : (k : List ℕ) (xs : List (List ℕ)) (j : List ℕ) (P Q : List ℕ → Type 0) → P k → ((i : List ℕ) → Q i → P i) → Parted xs j Q → Parted (k ∷ xs) j P
part_more k xs j P Q here on part = record {
  before = k ∷ part.before;
  behind = part.behind;
  is = ap (λ ks. k ∷ ks) part.is;
  all = λ i among. elim among [
    | inl same ↦ subst P (sym same) here
    | inr later ↦ on i (part.all i later)
  ];
}

-- behind a filter
pub filter_parted : (q : List ℕ → Bool) (ks before behind : List (List ℕ)) (j : List ℕ) → filter q ks ≡ before ++ j ∷ behind → Parted ks j (λ i. (q i ≡ false) ⊎ Among before i)
filter_parted q [] [] behind j is = cc
filter_parted q [] (x ∷ before) behind j is = cc
filter_parted q (k ∷ ks) before behind j is =
    elim (q k) as (λ b. q k ≡ b → cond b (k ∷ filter q ks) (filter q ks) ≡ before ++ j ∷ behind → Parted (k ∷ ks) j (λ i. (q i ≡ false) ⊎ Among before i)) [
      | false ↦ λ fails e. part_more k ks j (λ i. (q i ≡ false) ⊎ Among before i) (λ i. (q i ≡ false) ⊎ Among before i) (inl fails) (λ i h. h) (filter_parted q ks before behind j e)
      | true ↦ λ passes e. kept before e (λ bs more. filter_parted q ks bs behind j more)
    ] refl is
  where
    kept : (bs : List (List ℕ)) → k ∷ filter q ks ≡ bs ++ j ∷ behind → ((cs : List (List ℕ)) → filter q ks ≡ cs ++ j ∷ behind → Parted ks j (λ i. (q i ≡ false) ⊎ Among cs i)) → Parted (k ∷ ks) j (λ i. (q i ≡ false) ⊎ Among bs i)
    kept [] e rec = part_here k ks j (λ i. (q i ≡ false) ⊎ Among [] i) (let same : j ≡ k = cc in same)
    kept (x ∷ bs) e rec =
        let same : k ≡ x = cc in
        let more : filter q ks ≡ bs ++ j ∷ behind = cc in
        part_more k ks j (λ i. (q i ≡ false) ⊎ Among (x ∷ bs) i) (λ i. (q i ≡ false) ⊎ Among bs i) (inr (inl same)) (λ i h. elim h [
          | inl fails ↦ inl fails
          | inr later ↦ inr (inr later)
        ]) (rec bs more)

-- where each name stands once, at its first place
pub firsts_parted : (xs before behind : List (List ℕ)) (j : List ℕ) → firsts xs ≡ before ++ j ∷ behind → Parted xs j (Among before)
firsts_parted [] [] behind j is = cc
firsts_parted [] (x ∷ before) behind j is = cc
firsts_parted (x ∷ xs) [] behind j is = part_here x xs j (Among []) (let same : j ≡ x = cc in same)
firsts_parted (x ∷ xs) (y ∷ before) behind j is =
    let same : x ≡ y = cc in
    let more : filter (λ i. not (name_eq x i)) (firsts xs) ≡ before ++ j ∷ behind = cc in
    let part = filter_parted (λ i. not (name_eq x i)) (firsts xs) before behind j more in
    part_more x xs j (Among (y ∷ before)) (Among part.before) (inl same) (λ i h. elim (part.all i h) [
      | inl fails ↦ inl (sym ((bytes_decides x i).0 (is_true (name_eq x i) fails)) ∙ same)
      | inr later ↦ inr later
    ]) (firsts_parted xs part.before part.behind j part.is)
  where
    is_true : (b : Bool) → not b ≡ false → b ≡ true
    is_true true h = refl
    is_true false h = cc

-- both truths have the same value
abbrev pub HaveSame : Truth → Truth → List ℕ → Type 0
HaveSame t u i = (v : Value) × (t i ≡ Some v) × (u i ≡ Some v)

-- two truths that have the same values before a name: there the second asks for that name too, and for nothing more where it has no value
pub record AsksToo {A : Type 0} (u : Truth) (m : Asks A) (before : List (List ℕ)) (j : List ℕ) : Type 0 where
  pub behind : List (List ℕ)
  pub is : asked u m ≡ before ++ j ∷ behind
  pub stops : u j ≡ None → behind ≡ []

pub asks_too : {A : Type 0} (t u : Truth) (m : Asks A) (before behind : List (List ℕ)) (j : List ℕ) → asked t m ≡ before ++ j ∷ behind → ((i : List ℕ) → Among before i → HaveSame t u i) → AsksToo u m before j
asks_too t u (done a) [] behind j is same = cc
asks_too t u (done a) (x ∷ before) behind j is same = cc
asks_too {A = A} t u (ask k go) [] behind j is same =
    let here : k ≡ j = cc in
    record {
      behind = asked_on (u k) (λ v. asked u (go v));
      is = ap (λ i. i ∷ asked_on (u k) (λ v. asked u (go v))) here;
      stops = λ none. ap (λ o. asked_on o (λ v. asked u (go v))) (ap u here ∙ none);
    }
asks_too {A = A} t u (ask k go) (x ∷ before) behind j is same =
    let here : k ≡ x = cc in
    let both = same x (inl refl) in
    let in_t : t k ≡ Some both.0 = ap t here ∙ both.1 in
    let in_u : u k ≡ Some both.0 = ap u here ∙ both.2 in
    let more : asked_on (t k) (λ v. asked t (go v)) ≡ before ++ j ∷ behind = cc in
    let then : asked t (go both.0) ≡ before ++ j ∷ behind = sym (ap (λ o. asked_on o (λ v. asked t (go v))) in_t) ∙ more in
    let r = asks_too t u (go both.0) before behind j then (λ i among. same i (inr among)) in
    record {
      behind = r.behind;
      is = ap (λ i. i ∷ asked_on (u k) (λ v. asked u (go v))) here ∙ ap (λ o. x ∷ asked_on o (λ v. asked u (go v))) in_u ∙ ap (λ ks. x ∷ ks) r.is;
      stops = r.stops;
    }
