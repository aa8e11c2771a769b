-- Runs of one computation, and how they stand as a truth grows.
use Rattle.std.proofs.Common.{◌≡◌, ℕ, List, ◌∷◌, ◌++◌, Some, None, Ok, Err, refl, ap, inl, inr}
use Rattle.carte_value.specs.declared.value.Value.{Value}
use Rattle.carte_value.specs.Truths.{Truth, Extends, Among}
use Rattle.carte_value.specs.Asks.{Asks, done, ask, and_then, answered, run, asked, asked_on}

pub extends_self : (t : Truth) → Extends t t
extends_self t k v is = is

pub extends_on : (t u w : Truth) → Extends t u → Extends u w → Extends t w
extends_on t u w more further k v is = further k v (more k v is)

-- the first part ends: the whole runs as what comes then
pub run_then_ok : {A B : Type 0} (t : Truth) (m : Asks A) (f : A → Asks B) (a : A) → run t m ≡ Ok a → run t (and_then m f) ≡ run t (f a)
run_then_ok t (done b) f a h = ap (λ r. run t (f r)) (let e : b ≡ a = cc in e)
run_then_ok {A = A} {B = B} t (ask k go) f a h =
    elim (t k) as (λ o. answered {A = A} o k (λ v. run t (go v)) ≡ Ok a → answered {A = B} o k (λ v. run t (and_then (go v) f)) ≡ run t (f a)) [
      | None ↦ λ e. cc
      | Some v ↦ λ e. run_then_ok t (go v) f a e
    ] h

-- the first part stops: so does the whole
pub run_then_err : {A B : Type 0} (t : Truth) (m : Asks A) (f : A → Asks B) (k : List ℕ) → run t m ≡ Err k → run t (and_then m f) ≡ Err k
run_then_err t (done b) f k h = cc
run_then_err {A = A} {B = B} t (ask j go) f k h =
    elim (t j) as (λ o. answered {A = A} o j (λ v. run t (go v)) ≡ Err k → answered {A = B} o j (λ v. run t (and_then (go v) f)) ≡ Err k) [
      | None ↦ λ e. cc
      | Some v ↦ λ e. run_then_err t (go v) f k e
    ] h

-- the names asked for by the first part that ends, and then those of what comes
pub asked_then_ok : {A B : Type 0} (t : Truth) (m : Asks A) (f : A → Asks B) (a : A) → run t m ≡ Ok a → asked t (and_then m f) ≡ asked t m ++ asked t (f a)
asked_then_ok t (done b) f a h = ap (λ r. asked t (f r)) (let e : b ≡ a = cc in e)
asked_then_ok {A = A} {B = B} t (ask k go) f a h =
    elim (t k) as (λ o. answered {A = A} o k (λ v. run t (go v)) ≡ Ok a → k ∷ asked_on o (λ v. asked t (and_then (go v) f)) ≡ (k ∷ asked_on o (λ v. asked t (go v))) ++ asked t (f a)) [
      | None ↦ λ e. cc
      | Some v ↦ λ e. ap (λ ks. k ∷ ks) (asked_then_ok t (go v) f a e)
    ] h

-- the first part stops: nothing more is asked for
pub asked_then_err : {A B : Type 0} (t : Truth) (m : Asks A) (f : A → Asks B) (k : List ℕ) → run t m ≡ Err k → asked t (and_then m f) ≡ asked t m
asked_then_err t (done b) f k h = cc
asked_then_err {A = A} {B = B} t (ask j go) f k h =
    elim (t j) as (λ o. answered {A = A} o j (λ v. run t (go v)) ≡ Err k → j ∷ asked_on o (λ v. asked t (and_then (go v) f)) ≡ j ∷ asked_on o (λ v. asked t (go v))) [
      | None ↦ λ e. refl
      | Some v ↦ λ e. ap (λ ks. j ∷ ks) (asked_then_err t (go v) f k e)
    ] h

-- a result stays as values are added
pub run_kept : {A : Type 0} (t u : Truth) (m : Asks A) (a : A) → Extends t u → run t m ≡ Ok a → run u m ≡ Ok a
run_kept t u (done b) a more h = h
run_kept {A = A} t u (ask k go) a more h =
    elim (t k) as (λ o. t k ≡ o → answered {A = A} o k (λ v. run t (go v)) ≡ Ok a → answered {A = A} (u k) k (λ v. run u (go v)) ≡ Ok a) [
      | None ↦ λ is e. cc
      | Some v ↦ λ is e. rw (more k v is) (run_kept t u (go v) a more e)
    ] refl h

-- a stop stays as values are added, while its name has none
pub stop_kept : {A : Type 0} (t u : Truth) (m : Asks A) (k : List ℕ) → Extends t u → u k ≡ None → run t m ≡ Err k → run u m ≡ Err k
stop_kept t u (done b) k more open_at h = cc
stop_kept {A = A} t u (ask j go) k more none h =
    elim (t j) as (λ o. t j ≡ o → answered {A = A} o j (λ v. run t (go v)) ≡ Err k → answered {A = A} (u j) j (λ v. run u (go v)) ≡ Err k) [
      | None ↦ λ is e. let same : j ≡ k = cc in let here : u j ≡ None = cc in rw here (cc)
      | Some v ↦ λ is e. rw (more j v is) (stop_kept t u (go v) k more none e)
    ] refl h

-- the name at which it stops has no value
pub stop_open : {A : Type 0} (t : Truth) (m : Asks A) (k : List ℕ) → run t m ≡ Err k → t k ≡ None
stop_open t (done b) k h = cc
stop_open {A = A} t (ask j go) k h =
    elim (t j) as (λ o. t j ≡ o → answered {A = A} o j (λ v. run t (go v)) ≡ Err k → t k ≡ None) [
      | None ↦ λ is e. let same : j ≡ k = cc in cc
      | Some v ↦ λ is e. stop_open t (go v) k e
    ] refl h

-- the name at which it stops is asked for over every greater truth
pub stop_asked : {A : Type 0} (t u : Truth) (m : Asks A) (k : List ℕ) → Extends t u → run t m ≡ Err k → Among (asked u m) k
stop_asked t u (done b) k more h = cc
stop_asked {A = A} t u (ask j go) k more h =
    elim (t j) as (λ o. t j ≡ o → answered {A = A} o j (λ v. run t (go v)) ≡ Err k → Among (j ∷ asked_on (u j) (λ v. asked u (go v))) k) [
      | None ↦ λ is e. inl (let same : k ≡ j = cc in same)
      | Some v ↦ λ is e. inr (rw (more j v is) (stop_asked t u (go v) k more e))
    ] refl h

-- a run that ends asks for the same names as values are added
pub asked_kept : {A : Type 0} (t u : Truth) (m : Asks A) (a : A) → Extends t u → run t m ≡ Ok a → asked u m ≡ asked t m
asked_kept t u (done b) a more h = refl
asked_kept {A = A} t u (ask k go) a more h =
    elim (t k) as (λ o. t k ≡ o → answered {A = A} o k (λ v. run t (go v)) ≡ Ok a → k ∷ asked_on (u k) (λ v. asked u (go v)) ≡ k ∷ asked_on o (λ v. asked t (go v))) [
      | None ↦ λ is e. cc
      | Some v ↦ λ is e. rw (more k v is) (ap (λ ks. k ∷ ks) (asked_kept t u (go v) a more e))
    ] refl h

-- each name that a run which ends asks for has a value
pub asked_known : {A : Type 0} (t : Truth) (m : Asks A) (a : A) (j : List ℕ) → run t m ≡ Ok a → Among (asked t m) j → (v : Value) × (t j ≡ Some v)
asked_known t (done b) a j h among = absurd among
asked_known {A = A} t (ask k go) a j h among =
    elim (t k) as (λ o. t k ≡ o → answered {A = A} o k (λ v. run t (go v)) ≡ Ok a → Among (k ∷ asked_on o (λ v. asked t (go v))) j → (w : Value) × (t j ≡ Some w)) [
      | None ↦ λ is e here. cc
      | Some v ↦ λ is e here. elim here [
        | inl same ↦ (v, cc)
        | inr later ↦ asked_known t (go v) a j e later
      ]
    ] refl h among

-- of two runs over parts of one truth, one stops and the other ends: the other has a value for the name at which the first stops
pub stop_has_value : {A : Type 0} (t u w : Truth) (m : Asks A) (k : List ℕ) (a : A) → Extends t w → Extends u w → run t m ≡ Err k → run u m ≡ Ok a → (v : Value) × (u k ≡ Some v)
stop_has_value t u w m k a below beside stops ends =
    asked_known u m a k ends (rw (asked_kept u w m a beside ends) at (stop_asked t w m k below stops))
