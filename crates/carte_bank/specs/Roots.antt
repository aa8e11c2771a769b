-- Where the bodies of a file stand: in the list at 8, or in the bank of a move's active root.
use Rattle.std.specs.Prelude.{ℕ, ◌+◌, ◌==◌, ◌&&◌, not, nat_le, if◌then◌else◌, Bool, true, false, List, length, slice_index, Option, Some, None}
use Rattle.carte_bank.specs.Moves.{move_in, stated_at}
use Rattle.carte_bank.specs.declared.moves.Move.{Move}
use Rattle.carte_bank.specs.declared.roots.Root.{Root}
use Rattle.carte_bank.specs.declared.roots.Roots.{Roots}

-- the root at an offset: a gate byte, a generation, and where its bank starts
abbrev pub root_at : ℕ → List ℕ → Root
root_at at file = record { is_open = slice_index file at == 1; generation = stated_at (at + 1) file; start = stated_at (at + 9) file }

-- the roots at a place, one of which is active
abbrev pub roots_as : ℕ → Bool → Bool → Root → Roots
roots_as place second both root = record { place = place; second = second; both = both; generation = root.generation; start = root.start }

-- of two open ones that with the greater generation is active, where there is one
abbrev pub greater_of : ℕ → Root → Root → Option Roots
greater_of place a b =
    if a.generation == b.generation
    then None
    else (if nat_le a.generation b.generation then Some (roots_as place true true b) else Some (roots_as place false true a))

abbrev pub active_of : ℕ → Root → Root → Option Roots
active_of place a b =
    if a.is_open
    then (if b.is_open then greater_of place a b else Some (roots_as place false false a))
    else (if b.is_open then Some (roots_as place true false b) else None)

-- the bank starts behind the roots, in the file and within the limit
abbrev pub started : ℕ → ℕ → Option Roots → Option Roots
started limit long None = None
started limit long (Some roots) =
    if nat_le (roots.place + 34) roots.start && (nat_le (roots.start + 1) long && nat_le (roots.start + 1) limit) then Some roots else None

-- the roots of a move, or none where it has a fault: they stand right behind the gate byte after it, which is closed, in the file and within the limit
abbrev pub roots_of : ℕ → Move → List ℕ → Option Roots
roots_of limit move file =
    if (move.place == move.gate + 15) && (nat_le (move.gate + 49) (length file) && (nat_le (move.gate + 49) limit && not (slice_index file (move.gate + 14) == 1)))
    then started limit (length file) (active_of move.place (root_at move.place file) (root_at (move.place + 17) file))
    else None

pub data Bank : Type 0 where
  -- the roots whose active one has the bodies; none where they stand in the list at 8
  Known : Option Roots → Bank
  -- the move at this offset has a fault
  Astray : ℕ → Bank

abbrev pub bank_by : ℕ → Option Roots → Bank
bank_by gate None = Astray gate
bank_by gate (Some roots) = Known (Some roots)

abbrev pub bank_of : ℕ → List ℕ → Option Move → Bank
bank_of limit file None = Known None
bank_of limit file (Some move) = bank_by move.gate (roots_of limit move file)

-- the bank of a file that begins with a header
abbrev pub bank_at : ℕ → List ℕ → Bank
bank_at limit file = bank_of limit file (move_in limit file)

-- where a bank's frames start
abbrev pub start_of : Option Roots → ℕ
start_of None = 8
start_of (Some roots) = roots.start

-- the generation of a bank
abbrev pub generation_of : Option Roots → ℕ
generation_of None = 0
generation_of (Some roots) = roots.generation
