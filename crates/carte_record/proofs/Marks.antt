-- Entries that are marked, one after the other.
use Rattle.std.proofs.Common.{◌≡◌, ℕ, Bool, true, false, ◌||◌, List, [], ◌∷◌, Option, Some, None, refl, ap, sym, ◌∙◌, subst}
use Rattle.std.specs.Prelude.{find, option_map, if◌then◌else◌}
use Rattle.carte_name.specs.Names.{name_eq}
use Rattle.carte_record.specs.declared.entry.Entry.{Entry}
use Rattle.carte_record.specs.Lookups.{first_entry}
use Rattle.carte_table.specs.Changes.{all_changed, change_first}
use Rattle.carte_table.specs.Lookups.{has_key}
use Rattle.carte_record.specs.Kept.{staled}
use Rattle.carte_record.specs.Folds.{is_among}
use Rattle.carte_record.specs.Marked.{all_marked, marked_as}
use Rattle.carte_table.proofs.Names.{name_eq_is, name_eq_sym}
use Rattle.carte_table.proofs.Changed.{find_changed, find_other}

-- of any items, a change that keeps their keys and comes to the same when it is made twice
module _ {A : Type 0} (key : A → List ℕ) (f : A → A) (stays : (x : A) → key (f x) ≡ key x) (twice : (x : A) → f (f x) ≡ f x) where
  abbrev pub changed_if : Bool → A → A
  changed_if b x = if b then f x else x

  unchanged : (o : Option A) → o ≡ option_map (changed_if false) o
  unchanged None = refl
  unchanged (Some x) = refl

  both : (o : Option A) (s t : Bool) → option_map (changed_if s) (option_map (changed_if t) o) ≡ option_map (changed_if (t || s)) o
  both None s t = refl
  both (Some x) true true = ap Some (twice x)
  both (Some x) false true = refl
  both (Some x) true false = refl
  both (Some x) false false = refl

  one_found : (xs : List A) (j k : List ℕ) → find (has_key key k) (change_first (has_key key j) f xs) ≡ option_map (changed_if (name_eq j k)) (find (has_key key k) xs)
  one_found xs j k = on (name_eq j k) refl
    where
      here : find (has_key key j) (change_first (has_key key j) f xs) ≡ option_map f (find (has_key key j) xs)
      here = find_changed (has_key key j) f xs (λ y passes. ap (name_eq j) (stays y) ∙ passes)

      apart : name_eq j k ≡ false → (y : A) → has_key key j y ≡ true → (has_key key k y ≡ false) × (has_key key k (f y) ≡ false)
      apart differs y passes =
          let e : name_eq k (key y) ≡ false = ap (name_eq k) (sym (name_eq_is j (key y) passes)) ∙ (name_eq_sym k j ∙ differs) in
          (e, ap (name_eq k) (stays y) ∙ e)

      on : (b : Bool) → name_eq j k ≡ b → find (has_key key k) (change_first (has_key key j) f xs) ≡ option_map (changed_if b) (find (has_key key k) xs)
      on true same = subst (λ i. find (has_key key i) (change_first (has_key key j) f xs) ≡ option_map f (find (has_key key i) xs)) (name_eq_is j k same) here
      on false differs = find_other (has_key key k) (has_key key j) f xs (apart differs) ∙ unchanged (find (has_key key k) xs)

  pub all_found : (xs : List A) (ks : List (List ℕ)) (k : List ℕ) → find (has_key key k) (all_changed (has_key key) f xs ks) ≡ option_map (changed_if (is_among ks k)) (find (has_key key k) xs)
  all_found xs [] k = unchanged (find (has_key key k) xs)
  all_found xs (j ∷ js) k =
      all_found (change_first (has_key key j) f xs) js k
      ∙ (ap (option_map (changed_if (is_among js k))) (one_found xs j k)
      ∙ both (find (has_key key k) xs) (is_among js k) (name_eq j k))

pub none_marked : (o : Option Entry) → o ≡ option_map (staled false) o
none_marked None = refl
none_marked (Some e) = refl

-- what is found of each key
pub marked_found : (es : List Entry) (ks : List (List ℕ)) (k : List ℕ) → first_entry (all_marked true es ks) k ≡ option_map (staled (is_among ks k)) (first_entry es k)
marked_found es ks k = all_found (λ e. e.key) (marked_as true) (λ e. refl) (λ e. refl) es ks k ∙ on (is_among ks k) (first_entry es k)
  where
    on : (b : Bool) (o : Option Entry) → option_map (λ e. if b then marked_as true e else e) o ≡ option_map (staled b) o
    on b None = refl
    on true (Some e) = refl
    on false (Some e) = refl
