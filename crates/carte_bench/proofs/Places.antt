-- What the place of a name says of what stands there.
use Rattle.std.proofs.Common.{◌≡◌, ℕ, true, false, cond, List, Option, Some, None, refl}
use Rattle.carte_bench.specs.declared.slot.Slot.{Slot}
use Rattle.carte_bench.specs.declared.slot.Slot.TheVariants.{Ready, Stopped, Out, Done}
use Rattle.carte_bench.specs.declared.place.Place.TheVariants as place
use Rattle.carte_bench.specs.Spots.{Spots, is_done, is_ready, place_of}

module _ {J : Type 0} (s : Spots J) where
  pub place_unknown : (o : Option (Slot J)) → place_of s o ≡ place.Unknown → o ≡ None
  place_unknown None is = refl
  place_unknown (Some (Ready j)) is = cc
  place_unknown (Some (Stopped j n)) is = elim (is_done (s n)) as (λ d. cond d place.Ready (place.WaitsFor n) ≡ place.Unknown → Some (Stopped j n) ≡ None) [
    | true ↦ λ never. cc
    | false ↦ λ never. cc
  ] is
  place_unknown (Some Out) is = cc
  place_unknown (Some (Done m)) is = cc

  pub place_ready : (o : Option (Slot J)) → place_of s o ≡ place.Ready → is_ready s o ≡ true
  place_ready None is = cc
  place_ready (Some (Ready j)) is = refl
  place_ready (Some (Stopped j n)) is = elim (is_done (s n)) as (λ d. cond d place.Ready (place.WaitsFor n) ≡ place.Ready → d ≡ true) [
    | true ↦ λ yes. refl
    | false ↦ λ never. cc
  ] is
  place_ready (Some Out) is = cc
  place_ready (Some (Done m)) is = cc

  -- a job that stopped at the name, which isn't done
  pub record Stands (o : Option (Slot J)) (n : List ℕ) : Type 0 where
    pub job : J
    pub is : o ≡ Some (Stopped job n)
    pub undone : is_done (s n) ≡ false

  pub place_waits : (o : Option (Slot J)) (n : List ℕ) → place_of s o ≡ place.WaitsFor n → Stands o n
  place_waits None n is = cc
  place_waits (Some (Ready j)) n is = cc
  place_waits (Some (Stopped j i)) n is = elim (is_done (s i)) as (λ d. is_done (s i) ≡ d → cond d place.Ready (place.WaitsFor i) ≡ place.WaitsFor n → Stands (Some (Stopped j i)) n) [
    | true ↦ λ done never. cc
    | false ↦ λ open_there same. (let one : i ≡ n = cc in record { job = j; is = rw one refl; undone = rw (← one) open_there })
  ] refl is
  place_waits (Some Out) n is = cc
  place_waits (Some (Done m)) n is = cc
