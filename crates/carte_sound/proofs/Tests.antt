-- What the tests of names, digests and entries decide.
use Rattle.std.proofs.Common.{◌≡◌, ◌⊎◌, ℕ, Bool, true, false, not, ◌&&◌, ◌||◌, cond, List, [], ◌∷◌, Option, Some, None, option_map, filter, refl, ap, sym, inl, inr}
use Rattle.std.specs.Cmp.Lexicographic.{bytes_decides, nat_list_eq_equiv}
use Rattle.carte_value.specs.declared.digest.Digest.{Digest}
use Rattle.carte_name.specs.Names.{name_eq}
use Rattle.carte_value.specs.Truths.{Among}
use Rattle.carte_record.specs.declared.entry.Entry.{Entry}
use Rattle.carte_record.specs.Folds.{is_among}
use Rattle.carte_record.specs.Kept.{is_fresh, put_at, staled}
use Rattle.carte_table.specs.Lookups.{digest_eq}
use Rattle.carte_value.specs.Lists.{Has}

pub name_self : (k : List ℕ) → name_eq k k ≡ true
name_self k = nat_list_eq_equiv.refl k

pub same_name : (j k : List ℕ) → name_eq j k ≡ true → j ≡ k
same_name j k = (bytes_decides j k).0

pub apart_name : (j k : List ℕ) → ¬ (j ≡ k) → name_eq j k ≡ false
apart_name j k apart = elim (name_eq j k) as (λ b. name_eq j k ≡ b → b ≡ false) [
  | true ↦ λ is. absurd (apart (same_name j k is))
  | false ↦ λ is. refl
] refl

-- either the same name or another one
pub eq_or_apart : (j k : List ℕ) → (j ≡ k) ⊎ (name_eq j k ≡ false)
eq_or_apart j k = elim (name_eq j k) as (λ b. name_eq j k ≡ b → (j ≡ k) ⊎ (name_eq j k ≡ false)) [
  | true ↦ λ is. inl (same_name j k is)
  | false ↦ λ is. inr is
] refl

digest_by : List ℕ → Digest
digest_by bs = record { 0 = bs }

pub same_digest : (c d : Digest) → digest_eq c d ≡ true → c ≡ d
unfolding digest_by
same_digest c d is = ap digest_by (same_name c.0 d.0 is)

pub digest_self : (d : Digest) → digest_eq d d ≡ true
digest_self d = name_self d.0

-- two digests that may not be there are the same or not
pub same_or_not : (o : Option Digest) (d : Digest) → (o ≡ Some d) ⊎ ¬ (o ≡ Some d)
same_or_not None d = inr (λ is. cc)
same_or_not (Some c) d = elim (digest_eq c d) as (λ b. digest_eq c d ≡ b → (Some c ≡ Some d) ⊎ ¬ (Some c ≡ Some d)) [
  | true ↦ λ is. inl (ap Some (same_digest c d is))
  | false ↦ λ is. inr (λ same. let e : c ≡ d = cc in let t : digest_eq c d ≡ digest_eq d d = ap (λ x. digest_eq x d) e in let s : digest_eq d d ≡ true = digest_self d in cc)
] refl

pub tested_among : (ks : List (List ℕ)) (k : List ℕ) → is_among ks k ≡ true → Among ks k
tested_among [] k is = cc
tested_among (j ∷ js) k is = elim (name_eq j k) as (λ b. name_eq j k ≡ b → (b || is_among js k) ≡ true → Among (j ∷ js) k) [
  | true ↦ λ same t. inl (sym (same_name j k same))
  | false ↦ λ apart t. inr (tested_among js k t)
] refl is

pub among_tested : (ks : List (List ℕ)) (k : List ℕ) → Among ks k → is_among ks k ≡ true
among_tested [] k among = absurd among
among_tested (j ∷ js) k (inl same) = rw same (rw (name_self j) refl)
among_tested (j ∷ js) k (inr later) = elim (name_eq j k) as (λ b. (b || is_among js k) ≡ true) [
  | true ↦ refl
  | false ↦ among_tested js k later
]

pub not_among : (ks : List (List ℕ)) (k : List ℕ) → ¬ (Among ks k) → is_among ks k ≡ false
not_among ks k apart = elim (is_among ks k) as (λ b. is_among ks k ≡ b → b ≡ false) [
  | true ↦ λ is. absurd (apart (tested_among ks k is))
  | false ↦ λ is. refl
] refl

-- what was put at a name stands there, and all else is as before
pub put_here : {A : Type 0} (f : List ℕ → Option A) (k : List ℕ) (x : A) → put_at f k x k ≡ Some x
put_here f k x = rw (name_self k) refl

pub put_there : {A : Type 0} (f : List ℕ → Option A) (k : List ℕ) (x : A) (q : List ℕ) → name_eq q k ≡ false → put_at f k x q ≡ f q
put_there f k x q apart = rw apart refl

-- it is what was put, or was there before
pub put_cases : {A : Type 0} (f : List ℕ → Option A) (k : List ℕ) (x : A) (q : List ℕ) (y : A) → put_at f k x q ≡ Some y → ((q ≡ k) × (x ≡ y)) ⊎ ((name_eq q k ≡ false) × (f q ≡ Some y))
put_cases {A = A} f k x q y = elim (name_eq q k) as (λ b. name_eq q k ≡ b → cond b (Some x) (f q) ≡ Some y → ((q ≡ k) × (x ≡ y)) ⊎ ((name_eq q k ≡ false) × (f q ≡ Some y))) [
  | true ↦ λ is h. inl (same_name q k is, (let e : x ≡ y = cc in e))
  | false ↦ λ is h. inr (is, h)
] refl

-- an entry that may be marked
pub staled_from : (marked : Bool) (o : Option Entry) (e : Entry) → option_map (staled marked) o ≡ Some e → (d : Entry) × (o ≡ Some d) × (e ≡ staled marked d)
staled_from marked None e is = cc
staled_from marked (Some d) e is = (d, refl, (let same : staled marked d ≡ e = cc in sym same))

-- is fresh only where it isn't marked and was fresh before
pub staled_fresh : (marked : Bool) (d : Entry) → is_fresh (staled marked d) ≡ true → (marked ≡ false) × (is_fresh d ≡ true)
staled_fresh true d is = cc
staled_fresh false d is = (refl, is)

-- a fresh entry isn't stale
pub fresh_parts : (e : Entry) → is_fresh e ≡ true → (e.stale ≡ false) × (e.shallow ≡ false)
fresh_parts e is = (parts e.stale e.shallow is)
  where
    parts : (s t : Bool) → (not s && not t) ≡ true → (s ≡ false) × (t ≡ false)
    parts true t h = cc
    parts false true h = cc
    parts false false h = (refl, refl)

pub has_filter : {A : Type 0} (p : A → Bool) (ts : List A) (t : A) → Has (filter p ts) t → Has ts t
has_filter p [] t h = h
has_filter p (s ∷ ss) t h = elim (p s) as (λ b. Has (cond b (s ∷ filter p ss) (filter p ss)) t → Has (s ∷ ss) t) [
  | true ↦ λ here. elim here [
    | inl same ↦ inl same
    | inr later ↦ inr (has_filter p ss t later)
  ]
  | false ↦ λ later. inr (has_filter p ss t later)
] h
