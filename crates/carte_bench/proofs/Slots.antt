-- The slot at a place, and what stands there once it was written to.
use Rattle.std.proofs.Common.{◌≡◌, ◌<◌, ℕ, true, false, cond, List, [], ◌∷◌, ◌++◌, length, slice_get, Option, Some, None, IsSome, suc, zero, refl, sym, ◌∙◌, ap, subst, inl, inr}
use Rattle.std.specs.Map.{lookup_key}
use Rattle.std.specs.Cmp.Lexicographic.{nat_list_eq_equiv}
use Rattle.std.proofs.lemmas.Map.Made.{lookup_key_passes}
use Rattle.std.proofs.lemmas.Option.{slice_get_within}
use Rattle.indexmap.specs.IndexMap.{IndexMap, IsUnique, get, insert_entry, set_value_at, with_value_at}
use Rattle.indexmap.proofs.CallerLemmas.{updates-with_value_at, insert_entry-new}
use Rattle.carte_name.specs.Names.{name_eq}
use Rattle.carte_value.proofs.Members.{same_or_not, name_apart}
use Rattle.carte_bench.specs.Held.{with_name}

-- what the test of a name finds is that name
name_same : (k q : List ℕ) → name_eq k q ≡ true → k ≡ q
name_same k q passes = elim (same_or_not k q) [
  | inl same ↦ same
  | inr other ↦ (let both : true ≡ false = sym passes ∙ name_apart k q other in cc)
]

pub found_at : {X : Type 0} (es : List (List ℕ × X)) (k q : List ℕ) (at : ℕ) (o : Option X) (x : X) → Some q ≡ lookup_key (name_eq k) es → Some x ≡ o → slice_get es at ≡ Some (q, x) → slice_get es at ≡ with_name k o
found_at es k q at o x key value entry =
    let same = name_same k q (lookup_key_passes (name_eq k) es q (sym key)) in
    entry ∙ ap (λ i. Some (i, x)) (sym same) ∙ ap (with_name k) value

last_at : {E : Type 0} (es : List E) (e : E) → slice_get (es ++ e ∷ []) (length es) ≡ Some e
last_at [] e = refl
last_at (d ∷ es) e = last_at es e

-- a new name is put at the place behind all
pub put_last : {X S : Type 0} (m l : IndexMap (List ℕ) X S) (k : List ℕ) (x : X) (at : ℕ) → get name_eq m k ≡ None → at ≡ length m.entries → l.entries ≡ insert_entry name_eq m.entries k x → get name_eq l k ≡ Some x → slice_get l.entries at ≡ with_name k (get name_eq l k)
put_last m l k x at none long entries there =
    let behind : l.entries ≡ m.entries ++ (k, x) ∷ [] = entries ∙ insert_entry-new name_eq m k x none in
    let here : slice_get l.entries at ≡ Some (k, x) = rw (behind, long) (last_at m.entries (k, x)) in
    here ∙ sym (ap (with_name k) there)

-- the place of a name that has a slot is within the list
pub within_at : {X : Type 0} (es : List (List ℕ × X)) (k : List ℕ) (at : ℕ) (o : Option X) → IsSome o → slice_get es at ≡ with_name k o → at < length es
within_at es k at None some is = cc
within_at es k at (Some x) some is = slice_get_within es at (k, x) is

abbrev held_or : {A : Type 0} → A → Option A → A
held_or d None = d
held_or d (Some a) = a

-- what a place has is the name's
pub named_slot : {X : Type 0} (k q : List ℕ) (o : Option X) (x : X) → with_name k o ≡ Some (q, x) → (k ≡ q) × (o ≡ Some x)
named_slot k q None x is = cc
named_slot {X = X} k q (Some y) x is = (ap (λ (o : Option (List ℕ × X)). (held_or {A = List ℕ × X} (k, y) o).0) is, ap (λ (o : Option (List ℕ × X)). Some (held_or {A = List ℕ × X} (k, y) o).1) is)

set_there : {X : Type 0} (es : List (List ℕ × X)) (at : ℕ) (k : List ℕ) (x y : X) → slice_get es at ≡ Some (k, x) → slice_get (set_value_at es at y) at ≡ Some (k, y)
set_there [] at k x y is = cc
set_there {X = X} ((q, z) ∷ es) zero k x y is = ap (λ (o : Option (List ℕ × X)). Some ((held_or {A = List ℕ × X} (q, z) o).0, y)) is
set_there (e ∷ es) (suc at) k x y is = set_there es at k x y is

module _ {X S : Type 0} (m : IndexMap (List ℕ) X S) (k q : List ℕ) (at : ℕ) (x y : X) (unique : IsUnique name_eq m) (place : slice_get m.entries at ≡ with_name k (get name_eq m k)) (here : slice_get m.entries at ≡ Some (q, x)) where
  there : slice_get m.entries at ≡ Some (k, x)
  there = let same = (named_slot k q (get name_eq m k) x (sym place ∙ here)).0 in here ∙ ap (λ i. Some (i, x)) (sym same)

  -- this stood there
  pub stood_at : (z : X) → z ≡ x → get name_eq m k ≡ Some z
  stood_at z same = (named_slot k q (get name_eq m k) x (sym place ∙ here)).1 ∙ sym (ap (λ (i : X). Some i) same)

  -- this stands there, and all else is as before
  put_at : (j : List ℕ) → get name_eq (with_value_at m at y) j ≡ cond (name_eq k j) (Some y) (get name_eq m j)
  put_at = (updates-with_value_at m at y nat_list_eq_equiv unique k x there).0

  pub put_as : (z : X) → y ≡ z → (j : List ℕ) → get name_eq (with_value_at m at y) j ≡ cond (name_eq k j) (Some z) (get name_eq m j)
  put_as z same = subst (λ (i : X). (j : List ℕ) → get name_eq (with_value_at m at y) j ≡ cond (name_eq k j) (Some i) (get name_eq m j)) same put_at

  pub still_at : slice_get (set_value_at m.entries at y) at ≡ with_name k (get name_eq (with_value_at m at y) k)
  still_at =
      let now : get name_eq (with_value_at m at y) k ≡ Some y = rw (put_at k, nat_list_eq_equiv.refl k) refl in
      set_there m.entries at k x y there ∙ sym (ap (with_name k) now)
