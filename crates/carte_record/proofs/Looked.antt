-- What is found is of its key.
use Rattle.std.proofs.Common.{◌≡◌, ℕ, Bool, true, false, cond, List, [], ◌∷◌, Some, None, refl, sym, ◌∙◌, map, subst, inl, inr}
use Rattle.std.specs.Prelude.{find, if◌then◌else◌}
use Rattle.std.specs.Option.{option_or}
use Rattle.carte_value.specs.declared.digest.Digest.{Digest}
use Rattle.carte_value.specs.declared.value.Value.{Value}
use Rattle.carte_name.specs.Names.{name_eq}
use Rattle.carte_value.specs.Truths.{Among, NoneTwice}
use Rattle.carte_value.specs.Spelling.{digest_of}
use Rattle.carte_record.specs.declared.kept.Kept.{Kept}
use Rattle.carte_table.specs.Lookups.{find_last, is_value_of}
use Rattle.carte_record.specs.Kept.{kept_view}
use Rattle.carte_table.proofs.Names.{name_eq_is}
use Rattle.carte_table.proofs.Found.{or_none}
pub use Rattle.carte_record.specs.Alike.{digest_eq_is, digest_eq_self, links_eq_is, links_eq_self, trace_eq_is, trace_eq_self, deep_eq_is, deep_eq_self, eq_by_is, eq_by_self}

pub find_passes : {A : Type 0} (p : A → Bool) (xs : List A) (x : A) → find p xs ≡ Some x → p x ≡ true
find_passes p [] x is = cc
find_passes {A = A} p (y ∷ ys) x is = on (p y) refl is (find_passes p ys x)
  where
    on : (b : Bool) → p y ≡ b → cond b (Some y) (find p ys) ≡ Some x → (find p ys ≡ Some x → p x ≡ true) → p x ≡ true
    on true passes here later = let same : y ≡ x = cc in rw (← same) passes
    on false fails there later = later there

-- and a value by its own digest
pub own_digest : (K : Kept) (d : Digest) (v : Value) → (kept_view K).stored d ≡ Some v → digest_of v ≡ d
own_digest K d v is = sym (digest_eq_is d (digest_of v) (find_passes (is_value_of d) K.values v is))

-- where each key stands there once, the first item of a key is the last
pub none_found : {A : Type 0} (key : A → List ℕ) (xs : List A) (k : List ℕ) → ¬ (Among (map key xs) k) → (find (λ x. name_eq k (key x)) xs ≡ None) × (find_last (λ x. name_eq k (key x)) xs ≡ None)
none_found key [] k lacks = (refl, refl)
none_found {A = A} key (x ∷ xs) k lacks = on (name_eq k (key x)) refl (none_found key xs k (λ later. lacks (inr later)))
  where
    on : (b : Bool) → name_eq k (key x) ≡ b → (find (λ x. name_eq k (key x)) xs ≡ None) × (find_last (λ x. name_eq k (key x)) xs ≡ None)
        → (cond b (Some x) (find (λ x. name_eq k (key x)) xs) ≡ None) × (option_or (find_last (λ x. name_eq k (key x)) xs) (if b then Some x else None) ≡ None)
    on true is rest = absurd (lacks (inl (name_eq_is k (key x) is)))
    on false is rest = (rest.0, rw rest.1 refl)

pub first_is_last : {A : Type 0} (key : A → List ℕ) (xs : List A) (k : List ℕ) → NoneTwice (map key xs) → find (λ x. name_eq k (key x)) xs ≡ find_last (λ x. name_eq k (key x)) xs
first_is_last key [] k once = refl
first_is_last {A = A} key (x ∷ xs) k once = on (name_eq k (key x)) refl (first_is_last key xs k once.1)
  where
    on : (b : Bool) → name_eq k (key x) ≡ b → find (λ x. name_eq k (key x)) xs ≡ find_last (λ x. name_eq k (key x)) xs
        → cond b (Some x) (find (λ x. name_eq k (key x)) xs) ≡ option_or (find_last (λ x. name_eq k (key x)) xs) (if b then Some x else None)
    on true is same = rw (none_found key xs k (subst (λ j. ¬ (Among (map key xs) j)) (sym (name_eq_is k (key x) is)) once.0)).1 refl
    on false is same = same ∙ sym (or_none (find_last (λ x. name_eq k (key x)) xs))
