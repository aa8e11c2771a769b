-- What is ready, as more rules are done.
use Rattle.std.proofs.Common.{◌≡◌, ℕ, zero, suc, Bool, true, false, cond, ◌||◌, List, [], ◌∷◌, ◌++◌, take, slice_get, Option, Some, None, refl, ap, sym, ◌∙◌, inl, inr, ◌⊎◌}
use Rattle.std.specs.Cmp.Lexicographic.{bytes_decides, nat_list_eq_equiv}
use Rattle.carte_value.specs.declared.value.Value.{Value}
use Rattle.carte_name.specs.Names.{name_eq}
use Rattle.carte_value.specs.Truths.{Extends, Among, NoneTwice}
use Rattle.carte_tree.specs.InTurn.{Each}
use Rattle.carte_book.specs.Book.{Item, input, rule, Book, content, clean}
use Rattle.carte_book.specs.Needs.{IsRule}
use Rattle.carte_book.specs.Reason.{IsClean}
use Rattle.carte_book.proofs.Clean.{clean_input}
use Rattle.carte_topo.specs.Orders.{IsReady}
use Rattle.carte_topo.specs.Walk.{Done, has, ready_at, is_ready, part}

-- what holds of each name, and follows from it
pub each_map : (P Q : List ℕ → Type 0) (ks : List (List ℕ)) → ((k : List ℕ) → P k → Q k) → Each P ks → Each Q ks
each_map P Q [] on each = tt
each_map P Q (k ∷ ks) on each = (on k each.0, each_map P Q ks on each.1)

pub each_among : (P : List ℕ → Type 0) (ks : List (List ℕ)) (k : List ℕ) → Each P ks → Among ks k → P k
each_among P [] k each among = absurd among
each_among P (j ∷ js) k each among = elim among [
  | inl same ↦ rw same each.0
  | inr later ↦ each_among P js k each.1 later
]

pub each_none : (P : List ℕ → Type 0) (ks : List (List ℕ)) → Each P (take 0 ks)
each_none P [] = tt
each_none P (k ∷ ks) = tt

each_more : (P : List ℕ → Type 0) (ks : List (List ℕ)) (at : ℕ) (k : List ℕ) → slice_get ks at ≡ Some k → P k → Each P (take at ks) → Each P (take (suc at) ks)
each_more P [] at k here holds each = cc
each_more P (j ∷ js) zero k here holds each = (let same : j ≡ k = cc in rw same holds, each_none P js)
each_more P (j ∷ js) (suc at) k here holds each = (each.0, each_more P js at k here holds each.1)

-- one name more
pub has_among : (done : Done) (k : List ℕ) → has done k ≡ true → Among done k
has_among [] k h = cc
has_among (j ∷ js) k h =
    elim (name_eq k j) as (λ b. name_eq k j ≡ b → (b || has js k) ≡ true → Among (j ∷ js) k) [
      | true ↦ λ same _. inl ((bytes_decides k j).0 same)
      | false ↦ λ _ later. inr (has_among js k later)
    ] refl h

pub among_has : (done : Done) (k : List ℕ) → Among done k → has done k ≡ true
among_has [] k among = absurd among
among_has (j ∷ js) k among = elim among [
  | inl same ↦ ap (λ b. b || has js k) (ap (name_eq k) (sym same) ∙ nat_list_eq_equiv.refl k)
  | inr later ↦ rw (among_has js k later) (either (name_eq k j))
]
  where
    either : (b : Bool) → (b || true) ≡ true
    either true = refl
    either false = refl

pub not_has : (done : Done) (k : List ℕ) → ¬ (Among done k) → has done k ≡ false
not_has done k apart = elim (has done k) as (λ b. has done k ≡ b → b ≡ false) [
  | true ↦ λ is. absurd (apart (has_among done k is))
  | false ↦ λ is. refl
] refl

-- a name put behind the others
pub among_end : (ks : List (List ℕ)) (k q : List ℕ) → Among (ks ++ k ∷ []) q → Among ks q ⊎ (q ≡ k)
among_end [] k q among = elim among [
  | inl same ↦ inr same
  | inr later ↦ absurd later
]
among_end (j ∷ js) k q among = elim among [
  | inl same ↦ inl (inl same)
  | inr later ↦ elim (among_end js k q later) [
    | inl before ↦ inl (inr before)
    | inr same ↦ inr same
  ]
]

pub end_among : (ks : List (List ℕ)) (k q : List ℕ) → Among ks q ⊎ (q ≡ k) → Among (ks ++ k ∷ []) q
end_among [] k q (inl among) = absurd among
end_among [] k q (inr same) = inl same
end_among (j ∷ js) k q (inl among) = elim among [
  | inl same ↦ inl same
  | inr later ↦ inr (end_among js k q (inl later))
]
end_among (j ∷ js) k q (inr same) = inr (end_among js k q (inr same))

pub once_end : (ks : List (List ℕ)) (k : List ℕ) → NoneTwice ks → ¬ (Among ks k) → NoneTwice (ks ++ k ∷ [])
once_end [] k once apart = ((λ h. h), tt)
once_end (j ∷ js) k once apart = (
  (λ again. elim (among_end js k j again) [
    | inl before ↦ once.0 before
    | inr same ↦ apart (inl (sym same))
  ]),
  once_end js k once.1 (λ among. apart (inr among)),
)

pub ready_is : (b : Book) (done : Done) (k : List ℕ) → is_ready b done k ≡ true → IsReady b done k
ready_is b done k = at (content b k) refl
  where
    at : (o : Option Item) → content b k ≡ o → ready_at o (has done k) ≡ true → IsReady b done k
    at None is h = cc
    at (Some (input v)) is h = inl (v, is)
    at (Some (rule e)) is h = inr (has_among done k h)

pub is_ready_so : (b : Book) (done : Done) (k : List ℕ) → ((q : List ℕ) → Among done q → IsRule b q) → IsReady b done k → is_ready b done k ≡ true
is_ready_so b done k rules (inl given) = rw given.1 refl
is_ready_so b done k rules (inr among) = let r = rules k among in rw r.1 (among_has done k among)

-- a rule that isn't done isn't ready
pub rule_open : (b : Book) (done : Done) (k : List ℕ) → IsRule b k → ¬ (Among done k) → is_ready b done k ≡ false
rule_open b done k is_rule apart = rw is_rule.1 (not_has done k apart)

pub ready_rule : (b : Book) (done : Done) (k : List ℕ) → IsRule b k → IsReady b done k → Among done k
ready_rule b done k is_rule (inl given) = let a = is_rule.1 in let c = given.1 in cc
ready_rule b done k is_rule (inr among) = among

pub ready_kept : (b : Book) (done done' : Done) (k : List ℕ) → ((q : List ℕ) → Among done q → Among done' q) → IsReady b done k → IsReady b done' k
ready_kept b done done' k more (inl given) = inl given
ready_kept b done done' k more (inr among) = inr (more k among)

pub is_ready_kept : (b : Book) (done done' : Done) (k : List ℕ) → ((q : List ℕ) → Among done q → Among done' q) → is_ready b done k ≡ true → is_ready b done' k ≡ true
is_ready_kept b done done' k more = at (content b k)
  where
    at : (o : Option Item) → ready_at o (has done k) ≡ true → ready_at o (has done' k) ≡ true
    at None h = h
    at (Some (input v)) h = h
    at (Some (rule e)) h = among_has done' k (more k (has_among done k h))

-- what is ready has a clean value, where what is done has one
pub ready_clean : (b : Book) (done : Done) (k : List ℕ) → ((q : List ℕ) → Among done q → IsClean b q) → IsReady b done k → IsClean b k
ready_clean b done k finished (inl given) = (given.0, clean_input b k given.0 given.1)
ready_clean b done k finished (inr among) = finished k among

pub part_clean : (b : Book) (done : Done) → Extends (part b done) (clean b)
part_clean b done k v h =
    elim (is_ready b done k) as (λ r. cond r (clean b k) None ≡ Some v → clean b k ≡ Some v) [
      | true ↦ λ is. is
      | false ↦ λ is. cc
    ] h

pub part_open : (b : Book) (done : Done) (k : List ℕ) → is_ready b done k ≡ false → part b done k ≡ None
part_open b done k not_ready = rw not_ready refl

pub part_has : (b : Book) (done : Done) (k : List ℕ) → ((q : List ℕ) → Among done q → IsClean b q) → is_ready b done k ≡ true → (v : Value) × (part b done k ≡ Some v)
part_has b done k finished ready =
    let value = ready_clean b done k finished (ready_is b done k ready) in
    (value.0, ap (λ r. cond r (clean b k) None) ready ∙ value.1)
