-- Truths that agree where a computation looks give the same end, and the same names are asked for.
use Rattle.std.proofs.Common.{◌≡◌, ℕ, List, ◌∷◌, Some, None, Ok, refl, ap, ◌∙◌, inl, inr}
use Rattle.carte_value.specs.declared.value.Value.{Value}
use Rattle.carte_value.specs.Truths.{Truth, Among}
use Rattle.carte_value.specs.Asks.{Asks, done, ask, answered, run, asked, asked_on}

-- the second truth has the values that the first has where the computation looks
pub same_run : {A : Type 0} (t u : Truth) (m : Asks A) (a : A) → run t m ≡ Ok a → ((k : List ℕ) (v : Value) → Among (asked t m) k → t k ≡ Some v → u k ≡ Some v) → run u m ≡ Ok a
same_run t u (done b) a ends agree = ends
same_run {A = A} t u (ask k go) a ends agree =
    elim (t k) as (λ o. t k ≡ o → answered {A = A} o k (λ v. run t (go v)) ≡ Ok a → ((j : List ℕ) (v : Value) → Among (k ∷ asked_on o (λ w. asked t (go w))) j → t j ≡ Some v → u j ≡ Some v) → answered {A = A} (u k) k (λ v. run u (go v)) ≡ Ok a) [
      | None ↦ λ is e same. cc
      | Some v ↦ λ is e same. rw (same k v (inl refl) is) (same_run t u (go v) a e (λ j w among known. same j w (inr among) known))
    ] refl ends agree

pub same_asked : {A : Type 0} (t u : Truth) (m : Asks A) (a : A) → run t m ≡ Ok a → ((k : List ℕ) (v : Value) → Among (asked t m) k → t k ≡ Some v → u k ≡ Some v) → asked u m ≡ asked t m
same_asked t u (done b) a ends agree = refl
same_asked {A = A} t u (ask k go) a ends agree =
    elim (t k) as (λ o. t k ≡ o → answered {A = A} o k (λ v. run t (go v)) ≡ Ok a → ((j : List ℕ) (v : Value) → Among (k ∷ asked_on o (λ w. asked t (go w))) j → t j ≡ Some v → u j ≡ Some v) → k ∷ asked_on (u k) (λ v. asked u (go v)) ≡ k ∷ asked_on o (λ v. asked t (go v))) [
      | None ↦ λ is e same. cc
      | Some v ↦ λ is e same. rw (same k v (inl refl) is) (ap (λ ks. k ∷ ks) (same_asked t u (go v) a e (λ j w among known. same j w (inr among) known)))
    ] refl ends agree

-- both at once
pub same_both : {A : Type 0} (t u : Truth) (m : Asks A) (a : A) → run t m ≡ Ok a → ((k : List ℕ) (v : Value) → Among (asked t m) k → t k ≡ Some v → u k ≡ Some v) → (run u m ≡ Ok a) × (asked u m ≡ asked t m)
same_both t u m a ends agree = (same_run t u m a ends agree, same_asked t u m a ends agree)

-- a third truth says where to look
pub same_three : {A : Type 0} (t s u : Truth) (m : Asks A) (a : A) → run t m ≡ Ok a → ((k : List ℕ) (v : Value) → Among (asked s m) k → t k ≡ Some v → (s k ≡ Some v) × (u k ≡ Some v)) → run u m ≡ Ok a
same_three t s u (done b) a ends agree = ends
same_three {A = A} t s u (ask k go) a ends agree =
    elim (t k) as (λ o. t k ≡ o → answered {A = A} o k (λ v. run t (go v)) ≡ Ok a → answered {A = A} (u k) k (λ v. run u (go v)) ≡ Ok a) [
      | None ↦ λ is e. cc
      | Some v ↦ λ is e.
          let here = agree k v (inl refl) is in
          let on : (j : List ℕ) (w : Value) → Among (asked s (go v)) j → t j ≡ Some w → (s j ≡ Some w) × (u j ≡ Some w) = λ j w among known. agree j w (inr (rw here.0 among)) known in
          rw here.1 (same_three t s u (go v) a e on)
    ] refl ends

-- truths with the same values, and the same without one, where the computation looks: whatever its end is
pub same_end : {A : Type 0} (t u : Truth) (m : Asks A) → ((k : List ℕ) → Among (asked t m) k → u k ≡ t k) → (run u m ≡ run t m) × (asked u m ≡ asked t m)
same_end t u (done b) agree = (refl, refl)
same_end {A = A} t u (ask k go) agree =
    elim (t k) as (λ o. ((j : List ℕ) → Among (k ∷ asked_on o (λ w. asked t (go w))) j → u j ≡ t j) → t k ≡ o → (answered {A = A} (u k) k (λ v. run u (go v)) ≡ answered {A = A} o k (λ v. run t (go v))) × (k ∷ asked_on (u k) (λ v. asked u (go v)) ≡ k ∷ asked_on o (λ v. asked t (go v)))) [
      | None ↦ λ same is. let here : u k ≡ None = same k (inl refl) ∙ is in rw here (refl, refl)
      | Some v ↦ λ same is.
          let here : u k ≡ Some v = same k (inl refl) ∙ is in
          let rest = same_end t u (go v) (λ j among. same j (inr among)) in
          rw here (rest.0, ap (λ ks. k ∷ ks) rest.1)
    ] agree refl
