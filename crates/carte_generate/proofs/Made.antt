-- How a generated book grows, key by key.
use Rattle.std.proofs.Common.{◌≡◌, ℕ, suc, ◌+◌, ◌-◌, ◌<◌, ◌≤◌, ◌/◌, ◌%◌, pos, Bool, true, false, cond, List, length, Option, Some, None, is_some, Result, Ok, Err, OnOk, refl, ap, ap₂, sym, ◌∙◌, subst, arith, below_more}
use Rattle.std.specs.Ordering.{eq_by_cmp}
use Rattle.std.specs.FinMap.{FinMap, get, insert, empty, entries, get-insert, get-empty, len-empty, len-insert, len-entries}
use Rattle.std.specs.Cmp.{eq_by_cmp_equiv}
use Rattle.std.specs.Cmp.Lexicographic.{bytes_decides}
use Rattle.std.proofs.lemmas.Bool.{lt-ltb, le-ltb}
use Rattle.std.proofs.lemmas.Cmp.{nat_list_cmp_total}
use Rattle.std.proofs.lemmas.Map.Text.{is_eq-slice_cmp}
use Rattle.carte_name.specs.declared.kind.Kind.{Kind}
use Rattle.carte_name.specs.declared.kind.Kind.TheVariants.{Rules}
use Rattle.carte_name.specs.Names.{name_cmp}
use Rattle.carte_value.specs.declared.value.Value.{Value}
use Rattle.carte_value.specs.declared.value.Value.TheVariants.{Number}
use Rattle.carte_tree.specs.Tree.{Tree}
use Rattle.carte_book.specs.Book.{Item, input, rule, Book, default_of, or_default, content}
use Rattle.carte_book.specs.Edits.{keys_of, with_item}
use Rattle.carte_generate.specs.Draws.{next, drawn, state_after, draw}
use Rattle.carte_generate.specs.Generated.{key, inputs_of, difference, draws_before, item, IsGenerated}
use Rattle.carte_generate.specs.Growing.{HasKeys, IsNew, IsMade}
use Rattle.carte_generate.proofs.KeyNames.{key_is_name, one_key}

one_name : (q k : List ℕ) → eq_by_cmp name_cmp q k ≡ true → q ≡ k
one_name q k tied = (bytes_decides q k).0 (sym (is_eq-slice_cmp q k) ∙ tied)

-- nothing stands at the next key, and there is room for it
pub next_is_new : (i : ℕ) (b : Book) → i < 262144 → HasKeys i b → IsNew b (key i)
next_is_new i b few h = record {
  kind = h.kind;
  name = key_is_name i few;
  absent = elim (get b.items (key i)) as (λ o. get b.items (key i) ≡ o → o ≡ None) [
    | None ↦ λ is. refl
    | Some x ↦ λ is. absurd (beyond (h.only (key i) x is))
  ] refl;
  room = subst (λ n. n < 262144) (sym h.count) few;
}
  where
    beyond : (j : ℕ) × (j < i) × (key i ≡ key j) → ⊥
    beyond (j, before, same) = let is : i ≡ j = one_key i j few (omega arith) same in omega arith

-- the book without keys
pub no_keys : (b : Book) → b.kind ≡ Rules → b.items ≡ empty → HasKeys 0 b
no_keys b kind none = record {
  kind = kind;
  count = ap (λ (m : FinMap name_cmp Item). length (entries m)) none ∙ sym (len-entries empty) ∙ len-empty name_cmp Item;
  only = λ k x is. absurd (nothing k x (ap (λ (m : FinMap name_cmp Item). get m k) (sym none) ∙ is));
}
  where
    nothing : (k : List ℕ) (x : Item) → get (empty {X = Item} {R = name_cmp}) k ≡ Some x → ⊥
    nothing k x is = let no : get (empty {X = Item} {R = name_cmp}) k ≡ None = get-empty name_cmp k in cc

longer : (b : Book) (k : List ℕ) (x : Item) → get b.items k ≡ None → keys_of (with_item b k x) ≡ keys_of b + 1
longer b k x absent =
    sym (len-entries (insert b.items k x)) ∙ len-insert nat_list_cmp_total b.items k x
    ∙ ap (λ (n : ℕ). cond (is_some (get b.items k)) n (n + 1)) (len-entries b.items)
    ∙ ap (λ (o : Option Item). cond (is_some o) (keys_of b) (keys_of b + 1)) absent

-- none is made at first
pub none_made : (seed n : ℕ) (b : Book) → IsMade seed n 0 seed b
none_made seed n b = record {
  each = λ j below. absurd (omega (arith, below));
  drawn = let zero : 0 ≡ draws_before n 0 = omega arith in ap (state_after seed) zero;
}

-- one key more
pub keys_more : (i : ℕ) (b new : Book) (x : Item) → i < 262144 → HasKeys i b → new ≡ with_item b (key i) x → HasKeys (i + 1) new
keys_more i b new x few h is = subst (HasKeys (i + 1)) (sym is) (record {
  kind = h.kind;
  count = longer b (key i) x (next_is_new i b few h).absent ∙ ap (λ n. n + 1) h.count;
  only = λ k y found. before k y (eq_by_cmp name_cmp k (key i)) refl (sym (get-insert nat_list_cmp_total b.items (key i) x k) ∙ found);
})
  where
    before : (k : List ℕ) (y : Item) (t : Bool) → eq_by_cmp name_cmp k (key i) ≡ t → cond (eq_by_cmp name_cmp k (key i)) (Some x) (get b.items k) ≡ Some y → (j : ℕ) × (j < i + 1) × (k ≡ key j)
    before k y true tied found = (i, omega arith, one_name k (key i) tied)
    before k y false apart found =
        let known : (j : ℕ) × (j < i) × (k ≡ key j) = h.only k y (ap (λ (t : Bool). cond t (Some x) (get b.items k)) (sym apart) ∙ found) in
        (known.0, omega (arith, known.1), known.2)

found_new : (b : Book) (k : List ℕ) (x : Item) → get (with_item b k x).items k ≡ Some x
found_new b k x = get-insert nat_list_cmp_total b.items k x k ∙ ap (λ (t : Bool). cond t (Some x) (get b.items k)) ((eq_by_cmp_equiv nat_list_cmp_total).refl k)

-- another key has what it had
found_still : (b : Book) (k j : List ℕ) (x : Item) → (j ≡ k → ⊥) → get (with_item b k x).items j ≡ get b.items j
found_still b k j x apart = get-insert nat_list_cmp_total b.items k x j ∙ other (eq_by_cmp name_cmp j k) refl
  where
    other : (t : Bool) → eq_by_cmp name_cmp j k ≡ t → cond (eq_by_cmp name_cmp j k) (Some x) (get b.items j) ≡ get b.items j
    other true tied = absurd (apart (one_name j k tied))
    other false is = ap (λ (t : Bool). cond t (Some x) (get b.items j)) is

each_more : (seed n i : ℕ) (b : Book) → i < 262144 → ((j : ℕ) → j < i → get b.items (key j) ≡ Some (item seed n j)) → (j : ℕ) → j < i + 1 → get (with_item b (key i) (item seed n i)).items (key j) ≡ Some (item seed n j)
each_more seed n i b few each = below_more _ _
    (λ j low. found_still b (key i) (key j) (item seed n i) (λ same. let is : j ≡ i = one_key j i (omega arith) few same in omega arith) ∙ each j low)
    (found_new b (key i) (item seed n i))

made_more : (seed n i s t : ℕ) (b new : Book) → i < 262144 → IsMade seed n i s b → new ≡ with_item b (key i) (item seed n i) → t ≡ state_after seed (draws_before n (i + 1)) → IsMade seed n (i + 1) t new
made_more seed n i s t b new few h is state = record {
  each = subst (λ (c : Book). (j : ℕ) → j < i + 1 → get c.items (key j) ≡ Some (item seed n j)) (sym is) (each_more seed n i b few h.each);
  drawn = state;
}

-- an input takes one draw
input_made : (seed n i s t : ℕ) (b new : Book) → i < 262144 → i < n → IsMade seed n i s b → new ≡ with_item b (key i) (input (Number (pos (drawn s % 1000)))) → t ≡ next s → IsMade seed n (i + 1) t new
unfolding item draw
input_made seed n i s t b new few low h is step =
    let x : item seed n i ≡ input (Number (pos (drawn s % 1000))) = rw (lt-ltb i n low, sym h.drawn) refl in
    let one : draws_before n (i + 1) ≡ suc (draws_before n i) = omega arith in
    made_more seed n i s t b new few h (is ∙ ap (with_item b (key i)) (sym x)) (step ∙ ap next h.drawn ∙ ap (state_after seed) (sym one))

-- a rule takes two
rule_made : (seed n i s t : ℕ) (b new : Book) → i < 262144 → n ≤ i → IsMade seed n i s b → new ≡ with_item b (key i) (rule (difference (key (i - 1 - drawn s % 8)) (key (drawn (next s) % i)))) → t ≡ next (next s) → IsMade seed n (i + 1) t new
unfolding item draw
rule_made seed n i s t b new few high h is step =
    let second : draws_before n i + 1 ≡ suc (draws_before n i) = omega arith in
    let x : item seed n i ≡ rule (difference (key (i - 1 - drawn s % 8)) (key (drawn (next s) % i))) = rw (le-ltb i n high, second, sym h.drawn) refl in
    let two : draws_before n (i + 1) ≡ suc (suc (draws_before n i)) = omega arith in
    made_more seed n i s t b new few h (is ∙ ap (with_item b (key i)) (sym x)) (step ∙ ap (λ u. next (next u)) h.drawn ∙ ap (state_after seed) (sym two))

-- in a rule file what a name has is what the book holds
held : (b : Book) (k : List ℕ) → b.kind ≡ Rules → content b k ≡ get b.items k
held b k kind = ap (λ (q : Kind). or_default (get b.items k) (default_of q k)) kind ∙ alone (get b.items k)
  where
    alone : (o : Option Item) → or_default o None ≡ o
    alone (Some x) = refl
    alone None = refl

all_made : (seed count state : ℕ) (b : Book) → HasKeys count b → IsMade seed (inputs_of count) count state b → IsGenerated seed count b
all_made seed count state b h made = record {
  kind = h.kind;
  each = λ i low. held b (key i) h.kind ∙ made.each i low;
  only = λ k x is. h.only k x (sym (held b k h.kind) ∙ is);
}

-- all keys are made
pub whole : (seed count n i state : ℕ) (b : Book) → count ≤ i → i ≤ count → n ≡ inputs_of count → HasKeys i b × IsMade seed n i state b → IsGenerated seed count b
whole seed count n i state b from to inputs made =
    let is : i ≡ count = omega (arith, from, to) in
    all_made seed count state b (subst (λ j. HasKeys j b) is made.0) (subst (λ m. IsMade seed m count state b) inputs (subst (λ j. IsMade seed n j state b) is made.1))

-- the same item under the key's own name
added : (b new : Book) (k j : List ℕ) (x y : Item) → k ≡ j → x ≡ y → new ≡ with_item b k x → new ≡ with_item b j y
added b new k j x y name same is = is ∙ ap₂ (with_item b) name same

pub keys_ok : {E : Type 0} (i : ℕ) (b new : Book) (k : List ℕ) (x : Item) (r : Result (Unit {0}) E) → i < 262144 → HasKeys i b → k ≡ key i → OnOk r (new ≡ with_item b k x) → OnOk r (HasKeys (i + 1) new)
keys_ok i b new k x (Ok u) few h name is = keys_more i b new x few h (added b new k (key i) x x name refl is)
keys_ok i b new k x (Err e) few h name is = tt

pub input_ok : {E : Type 0} (seed n i s t : ℕ) (b new : Book) (k : List ℕ) (v : Value) (r : Result (Unit {0}) E) → i < 262144 → i < n → k ≡ key i → v ≡ Number (pos (drawn s % 1000)) → t ≡ next s → IsMade seed n i s b → OnOk r (new ≡ with_item b k (input v)) → OnOk r (IsMade seed n (i + 1) t new)
input_ok seed n i s t b new k v (Ok u) few low name value step h is = input_made seed n i s t b new few low h (added b new k (key i) (input v) (input (Number (pos (drawn s % 1000)))) name (ap input value) is) step
input_ok seed n i s t b new k v (Err e) few low name value step h is = tt

pub rule_ok : {E : Type 0} (seed n i s t : ℕ) (b new : Book) (k : List ℕ) (f : Tree) (r : Result (Unit {0}) E) → i < 262144 → n ≤ i → k ≡ key i → f ≡ difference (key (i - 1 - drawn s % 8)) (key (drawn (next s) % i)) → t ≡ next (next s) → IsMade seed n i s b → OnOk r (new ≡ with_item b k (rule f)) → OnOk r (IsMade seed n (i + 1) t new)
rule_ok seed n i s t b new k f (Ok u) few high name formula step h is = rule_made seed n i s t b new few high h (added b new k (key i) (rule f) (rule (difference (key (i - 1 - drawn s % 8)) (key (drawn (next s) % i)))) name (ap rule formula) is) step
rule_ok seed n i s t b new k f (Err e) few high name formula step h is = tt
