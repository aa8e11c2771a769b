-- What is put at a name stands there, and all else is as before.
use Rattle.std.proofs.Common.{◌≡◌, ℕ, List, Option, Some, refl, ◌∙◌, inl, inr}
use Rattle.std.specs.Cmp.Lexicographic.{nat_list_eq_equiv}
use Rattle.carte_value.proofs.Members.{same_or_not, name_apart}
use Rattle.carte_bench.specs.declared.slot.Slot.{Slot}
use Rattle.carte_bench.specs.Spots.{Spots, PutAt}

pub put_here : {J : Type 0} (s d : Spots J) (k : List ℕ) (x : Slot J) → PutAt s d k x → d k ≡ Some x
put_here s d k x put = rw (put k, nat_list_eq_equiv.refl k) refl

pub put_apart : {J : Type 0} (s d : Spots J) (k : List ℕ) (x : Slot J) (q : List ℕ) → ¬ (k ≡ q) → PutAt s d k x → d q ≡ s q
put_apart s d k x q other put = rw (put q, name_apart k q other) refl

-- a name at which something else stands than where it was put keeps what it has
pub put_keeps : {J : Type 0} (s d : Spots J) (k : List ℕ) (x : Slot J) (q : List ℕ) (y : Option (Slot J)) → PutAt s d k x → s q ≡ y → ¬ (s k ≡ y) → d q ≡ y
put_keeps s d k x q y put is other = elim (same_or_not k q) [
  | inl same ↦ absurd (other (rw same is))
  | inr apart ↦ put_apart s d k x q apart put ∙ is
]
