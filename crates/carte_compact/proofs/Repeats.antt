-- Of equal items only the last counts.
use Rattle.std.proofs.Common.{◌≡◌, ℕ, Bool, true, false, not, cond, List, [], ◌∷◌, refl, ap, sym, ◌∙◌, subst, filter}
use Rattle.std.specs.Prelude.{◌||◌, if◌then◌else◌}
use Rattle.std.specs.List.{list_any}
use Rattle.carte_name.specs.Names.{name_eq}
use Rattle.carte_table.specs.Latest as latest
use Rattle.carte_record.specs.declared.way.Way.{Way}
use Rattle.carte_record.specs.Kept.{newest, newest_in, traces_in}
use Rattle.carte_record.specs.Latest.{last_ones}
use Rattle.carte_record.specs.Ways.{TraceBy, key_by, eq_by}
use Rattle.carte_record.proofs.Looked.{eq_by_is, eq_by_self}

filters_swap : {A : Type 0} (p q : A → Bool) (xs : List A) → filter p (filter q xs) ≡ filter q (filter p xs)
filters_swap p q [] = refl
filters_swap {A = A} p q (x ∷ xs) = on (p x) refl (q x) refl (filters_swap p q xs)
  where
    on : (b : Bool) → p x ≡ b → (c : Bool) → q x ≡ c → filter p (filter q xs) ≡ filter q (filter p xs)
        → filter p (cond c (x ∷ filter q xs) (filter q xs)) ≡ filter q (cond b (x ∷ filter p xs) (filter p xs))
    on true here true there rest = rw (here, there) (ap (λ ys. x ∷ ys) rest)
    on true here false there rest = rw there rest
    on false here true there rest = rw here rest
    on false here false there rest = rest

filter_twice : {A : Type 0} (p : A → Bool) (xs : List A) → filter p (filter p xs) ≡ filter p xs
filter_twice p [] = refl
filter_twice {A = A} p (x ∷ xs) = on (p x) refl (filter_twice p xs)
  where
    on : (b : Bool) → p x ≡ b → filter p (filter p xs) ≡ filter p xs → filter p (cond b (x ∷ filter p xs) (filter p xs)) ≡ cond b (x ∷ filter p xs) (filter p xs)
    on true here rest = rw here (ap (λ ys. x ∷ ys) rest)
    on false here rest = rest

module _ {A : Type 0} (key : A → List ℕ) (alike : A → A → Bool) (alike_is : (x y : A) → alike x y ≡ true → x ≡ y) (alike_self : (x : A) → alike x x ≡ true) where
  -- the items that differ from one
  abbrev others : A → List A → List A
  others x = filter (λ y. not (alike y x))

  -- lists that differ in one item alone differ so after another one too
  still_same : (y x : A) (a b : List A) → others x a ≡ others x b → others x (newest alike y a) ≡ others x (newest alike y b)
  still_same y x a b same =
      let turned : (c : List A) → others x (others y c) ≡ others y (others x c) = λ c. filters_swap (λ u. not (alike u x)) (λ u. not (alike u y)) c in
      let rest : others x (others y a) ≡ others x (others y b) = turned a ∙ ap (others y) same ∙ sym (turned b) in
      ap (λ ys. cond (not (alike y x)) (y ∷ ys) ys) rest

  -- and no more, where that one comes
  come_same : (x : A) (k : List ℕ) (xs a b : List A) → others x a ≡ others x b → name_eq k (key x) ≡ true → list_any (alike x) xs ≡ true → newest_in key alike k xs a ≡ newest_in key alike k xs b
  come_same x k [] a b same of comes = cc
  come_same x k (y ∷ ys) a b same of comes = on (alike x y) refl comes (name_eq k (key y)) refl (λ c d like later. come_same x k ys c d like of later)
    where
      here : alike x y ≡ true → newest alike y a ≡ newest alike y b
      here is = ap (λ zs. y ∷ zs) (subst (λ u. others u a ≡ others u b) (alike_is x y is) same)

      on : (b' : Bool) → alike x y ≡ b' → b' || list_any (alike x) ys ≡ true → (c : Bool) → name_eq k (key y) ≡ c
          → ((c d : List A) → others x c ≡ others x d → list_any (alike x) ys ≡ true → newest_in key alike k ys c ≡ newest_in key alike k ys d)
          → newest_in key alike k ys (if c then newest alike y a else a) ≡ newest_in key alike k ys (if c then newest alike y b else b)
      on true is later true own rest = ap (newest_in key alike k ys) (here is)
      on true is later false own rest = let clash : true ≡ false = sym of ∙ ap (λ (u : A). name_eq k (key u)) (alike_is x y is) ∙ own in cc
      on false is later true own rest = rest (newest alike y a) (newest alike y b) (still_same y x a b same) later
      on false is later false own rest = rest a b same later

  pub last_count : (k : List ℕ) (xs old : List A) → newest_in key alike k (latest.last_ones alike xs) old ≡ newest_in key alike k xs old
  last_count k [] old = refl
  last_count k (x ∷ xs) old = on (list_any (alike x) xs) refl (λ o. last_count k xs o)
    where
      gone : others x (newest alike x old) ≡ others x old
      gone = rw (alike_self x) (filter_twice (λ y. not (alike y x)) old)

      without : list_any (alike x) xs ≡ true → (c : Bool) → name_eq k (key x) ≡ c → newest_in key alike k xs old ≡ newest_in key alike k xs (if c then newest alike x old else old)
      without later true own = sym (come_same x k xs (newest alike x old) old gone own later)
      without later false own = refl

      on : (b : Bool) → list_any (alike x) xs ≡ b → ((o : List A) → newest_in key alike k (latest.last_ones alike xs) o ≡ newest_in key alike k xs o)
          → newest_in key alike k (if b then latest.last_ones alike xs else x ∷ latest.last_ones alike xs) old ≡ newest_in key alike k xs (if name_eq k (key x) then newest alike x old else old)
      on true later rest = rest old ∙ without later (name_eq k (key x)) refl
      on false last rest = rest (if name_eq k (key x) then newest alike x old else old)

-- and so it is for the traces of each kind
pub last_traces : (w : Way) (k : List ℕ) (ts : List (TraceBy w)) → traces_in w k (last_ones w ts) [] ≡ traces_in w k ts []
last_traces w k ts = last_count (key_by w) (eq_by w) (eq_by_is w) (eq_by_self w) k ts []
