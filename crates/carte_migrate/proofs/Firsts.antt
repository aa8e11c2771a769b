-- Values of which each digest is there once.
use Rattle.std.proofs.Common.{◌≡◌, ◌+◌, ◌≤◌, Bool, true, false, cond, List, [], ◌∷◌, ◌++◌, length, Option, Some, None, is_some, map, filter, refl, ap, sym, ◌∙◌, subst, inl, inr, arith}
use Rattle.std.specs.Prelude.{if◌then◌else◌}
use Rattle.std.specs.Option.{option_or}
use Rattle.carte_value.specs.declared.digest.Digest.{Digest}
use Rattle.carte_value.specs.declared.value.Value.{Value}
use Rattle.carte_value.specs.Lists.{Has}
use Rattle.carte_value.specs.Spelling.{digest_of}
use Rattle.carte_table.specs.Lookups.{digest_eq, first_value, is_value_of}
use Rattle.carte_table.proofs.Found.{find_end, or_none}
use Rattle.carte_record.proofs.Looked.{digest_eq_is, digest_eq_self}
use Rattle.carte_sound.specs.Lists.{EachOnce}
use Rattle.carte_compact.specs.Live.{IsByDigest}
use Rattle.carte_compact.proofs.Ties.{of_one}

abbrev pub with_first : List Value → Value → List Value
with_first vs v = if is_some (first_value vs (digest_of v)) then vs else vs ++ v ∷ []

abbrev one : Digest → Value → Option Value
one d v = if is_value_of d v then Some v else None

-- it has what the list has with this value behind it
pub first_more : (vs ws : List Value) (v : Value) → ((d : Digest) → first_value vs d ≡ first_value ws d) → (d : Digest) → first_value (with_first vs v) d ≡ first_value (ws ++ v ∷ []) d
first_more vs ws v same d = on (first_value vs (digest_of v)) refl ∙ ap (λ o. option_or o (one d v)) (same d) ∙ sym (find_end (is_value_of d) ws v)
  where
    there : (u : Value) → first_value vs (digest_of v) ≡ Some u → (c : Bool) → is_value_of d v ≡ c → first_value vs d ≡ option_or (first_value vs d) (if c then Some v else None)
    there u is true own = let has : first_value vs d ≡ Some u = ap (first_value vs) (digest_eq_is d (digest_of v) own) ∙ is in rw has refl
    there u is false own = sym (or_none (first_value vs d))

    on : (o : Option Value) → first_value vs (digest_of v) ≡ o → first_value (if is_some o then vs else vs ++ v ∷ []) d ≡ option_or (first_value vs d) (one d v)
    on None is = find_end (is_value_of d) vs v
    on (Some u) is = there u is (is_value_of d v) refl

-- where none is found there is none
pub none_stored : (vs : List Value) → ((d : Digest) → first_value vs d ≡ None) → EachOnce (map digest_of vs)
none_stored [] none = tt
none_stored (v ∷ vs) none = on (is_value_of (digest_of v) v) (digest_eq_self (digest_of v)) (none (digest_of v))
  where
    on : (c : Bool) → c ≡ true → cond c (Some v) (first_value vs (digest_of v)) ≡ None → EachOnce (map digest_of (v ∷ vs))
    on true is found = let clash : Some v ≡ None = found in cc
    on false is found = let clash : false ≡ true = is in cc

-- where no value of a digest is found, none has it
none_has : (vs : List Value) (d : Digest) → first_value vs d ≡ None → ¬ (Has (map digest_of vs) d)
none_has [] d none nowhere = nowhere
none_has (v ∷ vs) d none there = on (is_value_of d v) refl none there (none_has vs d)
  where
    on : (c : Bool) → is_value_of d v ≡ c → cond c (Some v) (first_value vs d) ≡ None → Has (digest_of v ∷ map digest_of vs) d → (first_value vs d ≡ None → ¬ (Has (map digest_of vs) d)) → ⊥
    on true own none there rest = cc
    on false own none (inl same) rest = let clash : true ≡ false = sym (digest_eq_self d) ∙ ap (digest_eq d) same ∙ own in cc
    on false own none (inr later) rest = rest none later

-- ---- in whatever order

abbrev those : Digest → List Value → List Value
those d = filter (is_value_of d)

none_left : (vs : List Value) (d : Digest) → ¬ (Has (map digest_of vs) d) → those d vs ≡ []
none_left [] d lacks = refl
none_left (v ∷ vs) d lacks = on (is_value_of d v) refl (none_left vs d (λ later. lacks (inr later)))
  where
    on : (c : Bool) → is_value_of d v ≡ c → those d vs ≡ [] → cond c (v ∷ those d vs) (those d vs) ≡ []
    on true own rest = absurd (lacks (inl (digest_eq_is d (digest_of v) own)))
    on false own rest = rest

one_left : (vs : List Value) (d : Digest) → EachOnce (map digest_of vs) → length (those d vs) ≤ 1
one_left [] d once = omega arith
one_left (v ∷ vs) d once = on (is_value_of d v) refl (one_left vs d once.1)
  where
    on : (c : Bool) → is_value_of d v ≡ c → length (those d vs) ≤ 1 → length (cond c (v ∷ those d vs) (those d vs)) ≤ 1
    on true own rest =
        let none : those d vs ≡ [] = none_left vs d (λ later. once.0 (subst (Has (map digest_of vs)) (digest_eq_is d (digest_of v) own) later)) in
        rw none (omega arith)
    on false own rest = rest

some_left : (vs : List Value) (d : Digest) → Has (map digest_of vs) d → 1 ≤ length (those d vs)
some_left [] d nowhere = absurd nowhere
some_left (v ∷ vs) d there = on (is_value_of d v) refl there (some_left vs d)
  where
    on : (c : Bool) → is_value_of d v ≡ c → Has (digest_of v ∷ map digest_of vs) d → (Has (map digest_of vs) d → 1 ≤ length (those d vs)) → 1 ≤ length (cond c (v ∷ those d vs) (those d vs))
    on true own there rest = omega arith
    on false own (inl same) rest = let clash : true ≡ false = sym (digest_eq_self d) ∙ ap (digest_eq d) same ∙ own in cc
    on false own (inr later) rest = rest later

at_most : (v : Value) (vs : List Value) (d : Digest) → length (those d vs) ≤ length (those d (v ∷ vs))
at_most v vs d = on (is_value_of d v)
  where
    on : (c : Bool) → length (those d vs) ≤ length (cond c (v ∷ those d vs) (those d vs))
    on true = omega arith
    on false = omega arith

from_few : (vs : List Value) → ((v : Value) → length (those (digest_of v) vs) ≤ 1) → EachOnce (map digest_of vs)
from_few [] few = tt
from_few (v ∷ vs) few = (apart, from_few vs (λ u. omega (arith, few u, at_most v vs (digest_of u))))
  where
    own : those (digest_of v) (v ∷ vs) ≡ v ∷ those (digest_of v) vs
    own = rw (digest_eq_self (digest_of v)) refl

    apart : ¬ (Has (map digest_of vs) (digest_of v))
    apart later = omega (arith, few v, ap length own, some_left vs (digest_of v) later)

-- and no more where one is put behind that isn't found
more_left : (vs : List Value) (v : Value) (d : Digest) → length (those d (vs ++ v ∷ [])) ≡ length (those d vs) + length (those d (v ∷ []))
more_left [] v d = omega arith
more_left (u ∷ us) v d = on (is_value_of d u) (more_left us v d)
  where
    on : (c : Bool) → length (those d (us ++ v ∷ [])) ≡ length (those d us) + length (those d (v ∷ []))
        → length (cond c (u ∷ those d (us ++ v ∷ [])) (those d (us ++ v ∷ []))) ≡ length (cond c (u ∷ those d us) (those d us)) + length (those d (v ∷ []))
    on true is = omega (arith, is)
    on false is = is

pub once_more : (vs : List Value) (v : Value) → EachOnce (map digest_of vs) → EachOnce (map digest_of (with_first vs v))
once_more vs v once = on (first_value vs (digest_of v)) refl
  where
    few : first_value vs (digest_of v) ≡ None → (d : Digest) (c : Bool) → is_value_of d v ≡ c → length (those d vs) + length (cond c (v ∷ []) []) ≤ 1
    few none d true own =
        let left : those d vs ≡ [] = none_left vs d (none_has vs d (ap (first_value vs) (digest_eq_is d (digest_of v) own) ∙ none)) in
        omega (arith, ap length left)
    few none d false own = omega (arith, one_left vs d once)

    on : (o : Option Value) → first_value vs (digest_of v) ≡ o → EachOnce (map digest_of (if is_some o then vs else vs ++ v ∷ []))
    on None is = from_few (vs ++ v ∷ []) (λ u. omega (arith, more_left vs v (digest_of u), few is (digest_of u) (is_value_of (digest_of u) v) refl))
    on (Some u) is = once

pub once_by_digest : (all listed : List Value) → IsByDigest all listed → EachOnce (map digest_of all) → EachOnce (map digest_of listed)
once_by_digest all listed by once = from_few listed (λ v. omega (arith, ap length (of_one all listed by v), one_left all (digest_of v) once))
