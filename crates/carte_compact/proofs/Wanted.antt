-- What isn't wanted where little is live isn't wanted where more is.
use Rattle.std.proofs.Common.{◌≡◌, ◌≤◌, ◌*◌, ℕ, Bool, true, false, ◌&&◌, nat_lt, refl, arith}
use Rattle.std.proofs.lemmas.Bool.{ltb-true, ltb-false}
use Rattle.std.specs.Prelude.{◌||◌}
use Rattle.carte_journal.specs.declared.bank.Bank.{Bank}
use Rattle.carte_compact.specs.Due.{is_large, is_wide, size_of}

not_over : (a b s : ℕ) → a ≤ b → nat_lt (2 * a) s ≡ false → nat_lt (2 * b) s ≡ false
not_over a b s less unwanted = on (nat_lt (2 * b) s) refl
  where
    on : (c : Bool) → nat_lt (2 * b) s ≡ c → c ≡ false
    on true over = absurd (omega (arith, ltb-true (2 * b) s over, ltb-false (2 * a) s unwanted, less))
    on false not_so = refl

large_less : (b : Bank) (least live : ℕ) → least ≤ live → is_large b least ≡ false → is_large b live ≡ false
large_less b least live less = on (is_wide b)
  where
    on : (w : Bool) → w && nat_lt (2 * least) (size_of b) ≡ false → w && nat_lt (2 * live) (size_of b) ≡ false
    on true unwanted = not_over least live (size_of b) less unwanted
    on false unwanted = refl

pub wanted_less : (b : Bank) (least live : ℕ) (over first : Bool) → least ≤ live → (over || (first && is_large b least)) ≡ false → (over || (first && is_large b live)) ≡ false
wanted_less b least live true first less unwanted = unwanted
wanted_less b least live false true less unwanted = large_less b least live less unwanted
wanted_less b least live false false less unwanted = refl
