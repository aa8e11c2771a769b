-- What a rewriting makes of roots, and where it puts a region.
use Rattle.std.specs.Prelude.{ℕ, ◌+◌, ◌-◌, ◌≤◌, not, nat_le, if◌then◌else◌, Bool, true, false, List, ◌++◌, Option, Some, None}
use Rattle.std.specs.Int.{to_be_bytes, w64}
use Rattle.carte_bank.specs.declared.roots.Roots.{Roots}

-- the offset of the first root, or of the second
abbrev pub root_place : ℕ → Bool → ℕ
root_place place false = place
root_place place true = place + 17

-- of the active root, and of the other one
abbrev pub active_at : Roots → ℕ
active_at roots = root_place roots.place roots.second

abbrev pub other_at : Roots → ℕ
other_at roots = root_place roots.place (not roots.second)

-- a root behind its gate byte
abbrev pub root_bytes : ℕ → ℕ → List ℕ
root_bytes generation start = to_be_bytes w64 generation ++ to_be_bytes w64 start

-- behind a rewriting the other root is the active one, with the next generation and the place of the region
abbrev pub turned : Roots → ℕ → Roots
turned roots start = record { place = roots.place; second = not roots.second; both = true; generation = roots.generation + 1; start = start }

-- the roots once the gate byte of the other one is closed
abbrev pub shut : Roots → Roots
shut roots = record roots { both = false }

-- the roots of a first rewriting, of which the first is open; the region stands right behind them
abbrev pub first_roots : ℕ → Roots
first_roots place = record { place = place; second = false; both = false; generation = 1; start = place + 34 }

-- where a region of so many bytes goes in a file whose bank ends at a closed gate byte: between the roots and the bank where it fits there, and else
-- behind the bank
abbrev pub region_place : Roots → ℕ → ℕ → ℕ
region_place roots gate long = if nat_le long (roots.start - (roots.place + 34)) then roots.place + 34 else gate + 1

-- the roots of a bank stand in front of it
abbrev pub AreInFront : Option Roots → Type 0
AreInFront None = Unit {0}
AreInFront (Some roots) = roots.place + 34 ≤ roots.start
