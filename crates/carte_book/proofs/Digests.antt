-- The bytes that are hashed, rule by rule.
use Rattle.std.proofs.Common.{◌≡◌, ℕ, List, ◌++◌}
use Rattle.sha2.specs.Hashers.{Holds256}
use Rattle.sha2.specs.declared.Sha256.{Sha256}
use Rattle.carte_book.specs.Digest.{spelled_rules}
use Rattle.carte_book.specs.Order.{rules_view}
use Rattle.carte_book.specs.declared.order.HeldRule.{HeldRule}

-- the hasher and the buffer behind it hold all but what the rules left are spelled as
abbrev pub Feeds : Sha256 → Sha256 → List ℕ → List HeldRule → List HeldRule → Type 0
Feeds old now bytes all left = (m : List ℕ) → Holds256 old m → (front : List ℕ) × Holds256 now front × ((front ++ bytes) ++ spelled_rules (rules_view left) ≡ m ++ spelled_rules (rules_view all))
