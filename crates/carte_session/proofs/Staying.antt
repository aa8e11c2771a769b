-- What is known of lines that would be answered again.
use Rattle.std.proofs.Common.{◌≡◌, ◌⊎◌, ◌<◌, ℕ, zero, suc, List, [], ◌∷◌, ◌++◌, length, get_or, true, refl, sym, subst, inl, inr, arith}
use Rattle.std.specs.Prelude.{Result, Ok, Err, OnOk, OnErr, MatchResult}
use Rattle.carte_value.specs.Lists.{Has}
use Rattle.carte_value.proofs.Members.{has_append}
use Rattle.carte_session.specs.Around.{OverSink}
use Rattle.carte_session.specs.Carried.{Carried, TakesOne, TakesSome}
use Rattle.carte_session.specs.declared.end.SessionEnd.{SessionEnd}
use Rattle.carte_session.specs.declared.end.SessionEnd.TheVariants.{WriteFault}
use Rattle.carte_session.specs.declared.end.StepEnd.{StepEnd}
use Rattle.carte_session.specs.Staying.{Learns}

pub has_at : {A : Type 0} (xs : List A) (i : ℕ) (x d : A) → i < length xs → x ≡ get_or xs i d → Has xs x
has_at [] i x d within is = absurd (omega (arith, within))
has_at (y ∷ xs) zero x d within is = inl is
has_at (y ∷ xs) (suc i) x d within is = inr (has_at xs i x d (omega (arith, within)) is)

module _ (line reply : List ℕ) (old mid new : List (List ℕ × List ℕ)) (place : (mid ≡ []) ⊎ (mid ≡ old)) where
  before : (a : List ℕ × List ℕ) → Has mid a → Has old a
  before a has = elim place [
    | inl none ↦ absurd (subst (λ xs. Has xs a) none has)
    | inr same ↦ subst (λ xs. Has xs a) same has
  ]

  last : (a : List ℕ × List ℕ) → (Has mid a) ⊎ (Has ((line, reply) ∷ []) a) → (a ≡ (line, reply)) ⊎ Has old a
  last a (inl has) = inr (before a has)
  last a (inr (inl is)) = inl is
  last a (inr (inr none)) = absurd none

  learns_it : new ≡ mid ++ (line, reply) ∷ [] → Learns true old line reply new
  learns_it is a has = (refl, last a (has_append mid ((line, reply) ∷ []) a (subst (λ xs. Has xs a) is has)))

  learns_none : new ≡ mid → Learns true old line reply new
  learns_none is a has = (refl, inr (before a (subst (λ xs. Has xs a) is has)))

  pub learns_by : {T E : Type 0} (r : Result T E) → OnOk r (new ≡ mid ++ (line, reply) ∷ []) → OnErr r (new ≡ mid) → Learns true old line reply new
  learns_by (Ok t) put kept = learns_it put
  learns_by (Err e) put kept = learns_none kept

-- a line that is known is answered without a step
pub carried_again : {M T : Type 0} (Answers : M → ℕ → List ℕ → List ℕ → M → Type 0) (Ends : M → ℕ → List ℕ → StepEnd → M → Type 0) (m : M) (k : OverSink) (number : ℕ) (line reply : List ℕ)
    (r : Result T SessionEnd) → Answers m number line reply m → MatchResult r (λ _. TakesOne k reply) (λ end. (end ≡ WriteFault) × TakesSome k reply) → Carried Answers Ends m m k number line r
carried_again Answers Ends m k number line reply (Ok t) again says = (reply, again, says)
carried_again {T = T} Answers Ends m k number line reply (Err end) again says =
    subst (λ (e : SessionEnd). Carried {T = T} Answers Ends m m k number line (Err e)) (sym says.0) (reply, again, says.1)
