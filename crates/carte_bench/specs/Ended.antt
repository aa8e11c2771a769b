-- Where a bench has come to its end with rules that aren't done.
use Rattle.std.specs.Prelude.{ℕ, ◌≡◌, false, List, Some}
use Rattle.carte_book.specs.Book.{Book}
use Rattle.carte_book.specs.Needs.{IsRule}
use Rattle.carte_book.specs.declared.reason.Reason.{Reason}
use Rattle.carte_bench.specs.declared.slot.Slot.{Slot}
use Rattle.carte_bench.specs.declared.slot.Slot.TheVariants.{Stopped, Out}
use Rattle.carte_bench.specs.Spots.{Spots, is_done, is_ready}
use Rattle.carte_bench.specs.Waits.{Onward, WaitsAs}

-- it was demanded, and isn't done
abbrev pub IsOpen : {J : Type 0} → Spots J → List ℕ → Type 0
IsOpen {J = J} s k = ((x : Slot J) × (s k ≡ Some x)) × (is_done (s k) ≡ false)

-- nothing is ready or out, and each rule that is waited for was demanded
pub record HasEnded {J : Type 0} (b : Book) (s : Spots J) : Type 0 where
  pub none_ready : (k : List ℕ) → is_ready s (s k) ≡ false
  pub none_out : (k : List ℕ) → s k ≡ Some Out → ⊥
  pub demanded : (k n : List ℕ) (j : J) → s k ≡ Some (Stopped j n) → IsRule b n → (x : Slot J) × (s n ≡ Some x)

-- a path of waits leads from the target round or astray
abbrev pub HasReason : (List ℕ → Onward) → List ℕ → Type 0
HasReason f t = (r : Reason) × WaitsAs f t (Some r)
