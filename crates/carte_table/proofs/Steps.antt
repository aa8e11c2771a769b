-- How a list takes in a later one, item by item.
use Rattle.std.proofs.Common.{◌≡◌, ℕ, Bool, true, false, List, [], ◌∷◌, ◌++◌, Option, Some, None, refl, ap, sym, ◌∙◌, subst, inl, inr, append_assoc, append-nil}
use Rattle.std.specs.Prelude.{find, option_map, is_some, if◌then◌else◌}
use Rattle.std.specs.Option.{option_or}
use Rattle.carte_name.specs.Names.{name_eq}
use Rattle.carte_table.specs.Lookups.{find_last, has_key}
use Rattle.carte_table.specs.Changes.{change_first}
use Rattle.carte_value.specs.Lists.{Begins}
use Rattle.carte_table.specs.Steps.{replaced_by, Replaces, Brings, CanBecome, IsReady}
use Rattle.carte_table.proofs.Names.{name_eq_is, name_eq_self}
use Rattle.carte_table.proofs.Changed.{find_changed, find_other}
use Rattle.carte_table.proofs.Found.{find_end, last_end, or_none}

pub begins_self : {A : Type 0} (xs : List A) → Begins xs xs
begins_self xs = ([], sym (append-nil xs))

pub begins_on : {A : Type 0} (xs ys zs : List A) → Begins xs ys → Begins ys zs → Begins xs zs
begins_on xs ys zs (us, is) (vs, are) = (us ++ vs, are ∙ (ap (λ w. w ++ vs) is ∙ append_assoc xs us vs))

module _ {A : Type 0} (key : A → List ℕ) where
  abbrev pub of_key : List ℕ → A → Bool
  of_key = has_key key

  same_key : (k : List ℕ) (x y : A) → name_eq (key x) (key y) ≡ true → name_eq k (key x) ≡ name_eq k (key y)
  same_key k x y is = ap (name_eq k) (name_eq_is (key x) (key y) is)

  pub none_replaced : (xs : List A) → Replaces of_key [] xs xs
  none_replaced xs k = on (find (of_key k) xs)
    where
      on : (o : Option A) → o ≡ replaced_by o None
      on None = refl
      on (Some x) = refl

  -- one item more is put in the place of the first of its key
  pub replaced_more : (later old mid new : List A) (x : A) → Replaces of_key later old mid → new ≡ change_first (of_key (key x)) (λ y. x) mid → Replaces of_key (later ++ x ∷ []) old new
  replaced_more later old mid new x before is k = rw (is, last_end (of_key k) later x) (on (name_eq k (key x)) refl)
    where
      put : (o l : Option A) → option_map (λ y. x) (replaced_by o l) ≡ replaced_by o (Some x)
      put None l = refl
      put (Some y) None = refl
      put (Some y) (Some z) = refl

      apart : name_eq k (key x) ≡ false → (y : A) → of_key (key x) y ≡ true → (of_key k y ≡ false) × (of_key k x ≡ false)
      apart differs y passes = (sym (same_key k x y passes) ∙ differs, differs)

      here : name_eq k (key x) ≡ true → find (of_key k) (change_first (of_key (key x)) (λ y. x) mid) ≡ replaced_by (find (of_key k) old) (Some x)
      here is = subst (λ j. find (of_key j) (change_first (of_key (key x)) (λ y. x) mid) ≡ replaced_by (find (of_key j) old) (Some x)) (sym (name_eq_is k (key x) is))
          (find_changed (of_key (key x)) (λ y. x) mid (λ y passes. name_eq_self (key x)) ∙ (ap (option_map (λ y. x)) (before (key x)) ∙ put (find (of_key (key x)) old) (find_last (of_key (key x)) later)))

      on : (b : Bool) → name_eq k (key x) ≡ b → find (of_key k) (change_first (of_key (key x)) (λ y. x) mid) ≡ replaced_by (find (of_key k) old) (option_or (if b then Some x else None) (find_last (of_key k) later))
      on true is = here is
      on false is = find_other (of_key k) (of_key (key x)) (λ y. x) mid (apart is) ∙ before k

  -- where nothing came yet
  pub none_ready : (xs : List A) → IsReady of_key [] xs [] xs
  none_ready xs = record { there = λ k lacks. refl; brings = λ k. on (find (of_key k) xs) }
    where
      on : (o : Option A) → replaced_by o None ≡ option_or None o
      on None = refl
      on (Some x) = refl

  -- where it became the later list
  pub became : (later old : List A) → CanBecome of_key later old → IsReady of_key later old [] later
  became later old can = record { there = λ k lacks. refl; brings = λ k. on (find (of_key k) later) ∙ (can.once k ∙ (sym (or_none (find_last (of_key k) later)) ∙ sym (ap (λ xs. option_or (find_last (of_key k) later) (find (of_key k) xs)) can.empty))) }
    where
      on : (o : Option A) → replaced_by o None ≡ o
      on None = refl
      on (Some x) = refl

  pub brought_begins : (x : A) (old left new left' : List A) → Brings of_key key x old left new left' → Begins old new
  brought_begins x old left new left' (inl (lacks, is, same)) = (x ∷ [], is)
  brought_begins x old left new left' (inr (found, is, more)) = ([], is ∙ sym (append-nil old))

  -- and one item more
  pub more_ready : (later old left mid left' new : List A) (x : A) → IsReady of_key later old left mid → Brings of_key key x mid left new left' → IsReady of_key (later ++ x ∷ []) old left' new
  more_ready later old left mid left' new x before (inl (lacks, is, same)) = record { there = λ k. rw (is, same, find_end (of_key k) mid x) (there k (name_eq k (key x))); brings = λ k. rw (is, same, find_end (of_key k) mid x, last_end (of_key k) later x) (brings k (name_eq k (key x)) refl) }
    where
      first_none : (o p : Option A) → option_or o p ≡ None → o ≡ None
      first_none None p none = refl
      first_none (Some y) p none = cc

      there : (k : List ℕ) (b : Bool) → option_or (find (of_key k) mid) (if b then Some x else None) ≡ None → find_last (of_key k) left ≡ None
      there k b none = before.there k (first_none (find (of_key k) mid) (if b then Some x else None) none)

      new_one : (o l p : Option A) → o ≡ None → l ≡ None → replaced_by (option_or o (Some x)) l ≡ option_or (option_or (Some x) p) (find (of_key (key x)) old)
      new_one None None p none last = refl
      new_one None (Some y) p none last = cc
      new_one (Some y) l p none last = cc

      brings : (k : List ℕ) (b : Bool) → name_eq k (key x) ≡ b → replaced_by (option_or (find (of_key k) mid) (if b then Some x else None)) (find_last (of_key k) left) ≡ option_or (option_or (if b then Some x else None) (find_last (of_key k) later)) (find (of_key k) old)
      brings k true is = subst (λ j. replaced_by (option_or (find (of_key j) mid) (Some x)) (find_last (of_key j) left) ≡ option_or (option_or (Some x) (find_last (of_key j) later)) (find (of_key j) old)) (sym (name_eq_is k (key x) is))
          (new_one (find (of_key (key x)) mid) (find_last (of_key (key x)) left) (find_last (of_key (key x)) later) lacks (before.there (key x) lacks))
      brings k false is = ap (λ o. replaced_by o (find_last (of_key k) left)) (or_none (find (of_key k) mid)) ∙ before.brings k
  more_ready later old left mid left' new x before (inr (found, is, more)) = record { there = λ k. rw (is, more, last_end (of_key k) left x) (there k (name_eq k (key x)) refl); brings = λ k. rw (is, more, last_end (of_key k) left x, last_end (of_key k) later x) (brings k (name_eq k (key x)) refl) }
    where
      there : (k : List ℕ) (b : Bool) → name_eq k (key x) ≡ b → find (of_key k) mid ≡ None → option_or (if b then Some x else None) (find_last (of_key k) left) ≡ None
      there k true is lacks =
          let some : is_some (find (of_key k) mid) ≡ true = subst (λ j. is_some (find (of_key j) mid) ≡ true) (sym (name_eq_is k (key x) is)) found in
          let none : is_some (find (of_key k) mid) ≡ false = ap is_some lacks in
          let no : ⊥ = cc in absurd no
      there k false is lacks = before.there k lacks

      replaced : (o l p q : Option A) → is_some o ≡ true → replaced_by o (option_or (Some x) l) ≡ option_or (option_or (Some x) p) q
      replaced None l p q some = cc
      replaced (Some y) l p q some = refl

      brings : (k : List ℕ) (b : Bool) → name_eq k (key x) ≡ b → replaced_by (find (of_key k) mid) (option_or (if b then Some x else None) (find_last (of_key k) left)) ≡ option_or (option_or (if b then Some x else None) (find_last (of_key k) later)) (find (of_key k) old)
      brings k true is = replaced (find (of_key k) mid) (find_last (of_key k) left) (find_last (of_key k) later) (find (of_key k) old) (subst (λ j. is_some (find (of_key j) mid) ≡ true) (sym (name_eq_is k (key x) is)) found)
      brings k false is = before.brings k

  -- at the end each key of the later list has its last item there, and each other key what it had
  pub brought : (later old left mid new : List A) → IsReady of_key later old left mid → Replaces of_key left mid new → (k : List ℕ) → find (of_key k) new ≡ option_or (find_last (of_key k) later) (find (of_key k) old)
  brought later old left mid new ready puts k = puts k ∙ ready.brings k
