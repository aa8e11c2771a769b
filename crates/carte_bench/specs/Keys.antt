-- Jobs and what they came to, each at its key.
use Rattle.std.specs.Prelude.{ℕ, ◌≡◌, List, Some}
use Rattle.carte_effect.specs.Jobs.{outcome_of}
use Rattle.carte_bench.specs.declared.slot.Slot.{Slot}
use Rattle.carte_bench.specs.declared.slot.Slot.TheVariants.{Ready, Stopped, Out, Done}
use Rattle.carte_bench.specs.Spots.{Spots}

-- a job of this key, or what has the key
abbrev pub KeyedSlot : {J : Type 0} → (J → List ℕ → Type 0) → List ℕ → Slot J → Type 0
KeyedSlot keyed k (Ready j) = keyed j k
KeyedSlot keyed k (Stopped j n) = keyed j k
KeyedSlot keyed k Out = Unit {0}
KeyedSlot keyed k (Done m) = (outcome_of m).key ≡ k

-- each job is one of the key at which it stands, and what is done has it
abbrev pub AreKeyed : {J : Type 0} → (J → List ℕ → Type 0) → Spots J → Type 0
AreKeyed {J = J} keyed s = (k : List ℕ) (x : Slot J) → s k ≡ Some x → KeyedSlot keyed k x
