-- Loops over traces and entries, step by step.
use Rattle.std.proofs.Common.{◌≡◌, ℕ, Bool, true, false, List, [], ◌∷◌, ◌++◌, Option, Some, None, refl, ap, sym, ◌∙◌, append_assoc}
use Rattle.std.specs.Prelude.{◌||◌, nat_lt, if◌then◌else◌}
use Rattle.std.specs.List.{list_any}
use Rattle.std.specs.Option.{option_or}
use Rattle.carte_value.specs.declared.digest.Digest.{Digest}
use Rattle.carte_value.specs.declared.value.Value.{Value}
use Rattle.carte_value.specs.Spelling.{digest_of}
use Rattle.carte_table.specs.Lookups.{digest_eq, first_value, is_value_of}
use Rattle.carte_table.proofs.Found.{find_end, or_none}
use Rattle.carte_record.proofs.Looked.{digest_eq_is, find_passes}
use Rattle.carte_trim.specs.Lists.{HasThose, count_of, newest_of}

-- ---- the newest of each key

module _ {A : Type 0} (key : A → List ℕ) (n : ℕ) (x : A) (xs rest front all : List A) (ahead : xs ≡ x ∷ rest) (before : front ++ newest_of key n xs ≡ all) where
  pub taken : true ≡ nat_lt (count_of key (key x) rest) n → (front ++ x ∷ []) ++ newest_of key n rest ≡ all
  taken few =
      append_assoc front (x ∷ []) (newest_of key n rest)
      ∙ sym (ap (λ ys. front ++ newest_of key n ys) ahead ∙ ap (λ b. front ++ (if b then x ∷ newest_of key n rest else newest_of key n rest)) (sym few))
      ∙ before

  pub left_out : false ≡ nat_lt (count_of key (key x) rest) n → front ++ newest_of key n rest ≡ all
  left_out many =
      sym (ap (λ ys. front ++ newest_of key n ys) ahead ∙ ap (λ b. front ++ (if b then x ∷ newest_of key n rest else newest_of key n rest)) (sym many))
      ∙ before

-- ---- the values that are named

pub those_same : (all list : List Value) (p q : Digest → Bool) → ((d : Digest) → p d ≡ q d) → HasThose all p list → HasThose all q list
those_same all list p q same has d = has d ∙ ap (λ b. if b then first_value all d else None) (same d)

pub put_new : (all list : List Value) (d : Digest) (v : Value) (before : Digest → Bool) → Some v ≡ first_value all d → HasThose all before list
    → HasThose all (λ e. before e || digest_eq e d) (list ++ v ∷ [])
put_new all list d v before there has e =
    find_end (is_value_of e) list v ∙ ap (λ o. option_or o (if is_value_of e v then Some v else None)) (has e)
    ∙ ap (λ c. option_or (if before e then first_value all e else None) (if digest_eq e c then Some v else None)) own
    ∙ on (before e) (digest_eq e d) refl
  where
    own : digest_of v ≡ d
    own = sym (digest_eq_is d (digest_of v) (find_passes (is_value_of d) all v (sym there)))

    found : digest_eq e d ≡ true → Some v ≡ first_value all e
    found same = there ∙ ap (first_value all) (sym (digest_eq_is e d same))

    first : (o : Option Value) → o ≡ Some v → option_or o (Some v) ≡ o
    first None is = absurd (cc)
    first (Some w) is = refl

    on : (b c : Bool) → digest_eq e d ≡ c → option_or (if b then first_value all e else None) (if c then Some v else None) ≡ (if b || c then first_value all e else None)
    on true true same = first (first_value all e) (sym (found same))
    on true false other = or_none (first_value all e)
    on false true same = found same
    on false false other = refl

-- one item more
pub any_end : {A : Type 0} (p : A → Bool) (xs : List A) (x : A) → list_any p (xs ++ x ∷ []) ≡ (list_any p xs || p x)
any_end p [] x = on (p x)
  where
    on : (b : Bool) → b || false ≡ b
    on true = refl
    on false = refl
any_end {A = A} p (y ∷ ys) x = on (p y) (any_end p ys x)
  where
    on : (b : Bool) → list_any p (ys ++ x ∷ []) ≡ (list_any p ys || p x) → b || list_any p (ys ++ x ∷ []) ≡ ((b || list_any p ys) || p x)
    on true is = refl
    on false is = is

pub or_false : (b : Bool) → b || false ≡ b
or_false true = refl
or_false false = refl

pub or_assoc : (a b c : Bool) → (a || b) || c ≡ a || (b || c)
or_assoc true b c = refl
or_assoc false b c = refl
