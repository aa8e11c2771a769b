-- The finished keys before the others of the old chain.
use Rattle.std.proofs.Common.{◌≡◌, ℕ, zero, suc, Bool, true, false, not, ◌||◌, cond, List, [], ◌∷◌, ◌++◌, Option, Some, None, is_some, option_copied, slice_get, filter, find, refl, ap, sym, ◌∙◌, append_assoc, inl, inr}
use Rattle.std.proofs.lemmas.List.Elements.{filter-append}
use Rattle.std.specs.Borrow.{Bor}
use Rattle.carte_name.specs.Names.{name_eq}
use Rattle.carte_value.proofs.Members.{same_or_not, name_apart}
use Rattle.carte_note.specs.declared.finished.Finished.{Finished}
use Rattle.carte_note.specs.Lists.{is_of_key, finished_of}
use Rattle.carte_note.specs.Right.{key_of, keys_in}
use Rattle.carte_record.specs.Folds.{is_among}
use Rattle.carte_sound.specs.LeadsTo.{chain_behind}
use Rattle.carte_restart.specs.Chained.{with_other}

nil_end : (ks : List (List ℕ)) → ks ++ [] ≡ ks
nil_end [] = refl
nil_end (j ∷ js) = ap (λ ks. j ∷ ks) (nil_end js)

-- one name more of the old chain
pub other_more : (ks xs : List (List ℕ)) (x : List ℕ) → chain_behind ks (xs ++ x ∷ []) ≡ cond (is_among ks x) (chain_behind ks xs) (chain_behind ks xs ++ x ∷ [])
other_more ks xs x = ap (λ ys. ks ++ ys) (filter-append (λ k. not (is_among ks k)) xs (x ∷ [])) ∙ at (is_among ks x)
  where
    at : (t : Bool) → ks ++ (filter (λ k. not (is_among ks k)) xs ++ cond (not t) (x ∷ []) []) ≡ cond t (chain_behind ks xs) (chain_behind ks xs ++ x ∷ [])
    at true = ap (λ ys. ks ++ ys) (nil_end (filter (λ k. not (is_among ks k)) xs))
    at false = sym (append_assoc ks (filter (λ k. not (is_among ks k)) xs) (x ∷ []))

-- the test of two names goes both ways
eq_back : (j k : List ℕ) → name_eq j k ≡ name_eq k j
eq_back j k = elim (same_or_not j k) [
  | inl same ↦ rw same refl
  | inr other ↦ name_apart j k other ∙ sym (name_apart k j (λ same. other (sym same)))
]

-- what is found was finished
found_some : (fs : List Finished) (k : List ℕ) → is_among (keys_in fs) k ≡ is_some (finished_of fs k)
found_some [] k = refl
found_some (f ∷ fs) k = rw (eq_back (key_of f) k) (at (name_eq k (key_of f)) (found_some fs k))
  where
    at : (t : Bool) → is_among (keys_in fs) k ≡ is_some (finished_of fs k) → (t || is_among (keys_in fs) k) ≡ is_some (cond t (Some f) (find (is_of_key k) fs))
    at true rest = refl
    at false rest = rest

copied_some : (o : Option (Bor Finished)) → is_some (option_copied o) ≡ is_some o
copied_some None = refl
copied_some (Some f) = refl

-- what a look-up tells
pub found_so : (fs : List Finished) (k : List ℕ) (o : Option (Bor Finished)) → option_copied o ≡ finished_of fs k → is_some o ≡ is_among (keys_in fs) k
found_so fs k o is = sym (copied_some o) ∙ ap is_some is ∙ sym (found_some fs k)

-- what stands at a place was finished
pub finished_at : (fs : List Finished) (i : ℕ) (f : Finished) (k : List ℕ) → slice_get fs i ≡ Some f → name_eq (key_of f) k ≡ true → is_among (keys_in fs) k ≡ true
finished_at [] i f k is same = cc
finished_at (x ∷ xs) zero f k is same = let one : x ≡ f = cc in rw (ap (λ (y : Finished). name_eq (key_of y) k) one ∙ same) refl
finished_at (x ∷ xs) (suc i) f k is same = at (name_eq (key_of x) k) (finished_at xs i f k is same)
  where
    at : (t : Bool) → is_among (keys_in xs) k ≡ true → (t || is_among (keys_in xs) k) ≡ true
    at true rest = refl
    at false rest = rest

-- so it is put behind the chain, or not
pub other_put : (fs : List Finished) (chain : List (List ℕ)) (k : List ℕ) → is_among (keys_in fs) k ≡ false → chain ++ k ∷ [] ≡ with_other fs chain k
other_put fs chain k so = rw so refl

pub other_left : (fs : List Finished) (chain : List (List ℕ)) (k : List ℕ) → is_among (keys_in fs) k ≡ true → chain ≡ with_other fs chain k
other_left fs chain k so = rw so refl

-- with nothing of the old chain
pub none_behind : (ks : List (List ℕ)) → ks ≡ chain_behind ks []
none_behind ks = sym (nil_end ks)
