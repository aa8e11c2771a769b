-- Which frames lie in a file, and the first move among them.
use Rattle.std.specs.Prelude.{ℕ, ◌+◌, ◌==◌, ◌&&◌, nat_le, if◌then◌else◌, Bool, suc, zero, List, [], ◌∷◌, length, take, drop, slice_index, Option, Some, None}
use Rattle.std.specs.Int.{from_be_bytes, to_be_bytes, w32, w64}
use Rattle.carte_bank.specs.declared.frames.FrameAt.{FrameAt}
use Rattle.carte_bank.specs.declared.frames.FrameAt.TheVariants.{Closed, Cut, Whole}
use Rattle.carte_bank.specs.declared.moves.Move.{Move}

-- the length of the body that the bytes behind a gate byte begin with, in 4 bytes with the highest first
unfoldable pub stated : List ℕ → ℕ
stated bytes = from_be_bytes w32 (take 4 bytes)

-- what the 8 bytes at an offset state, the highest first
unfoldable pub stated_at : ℕ → List ℕ → ℕ
stated_at at bytes = from_be_bytes w64 (take 8 (drop at bytes))

-- of the bytes behind an open gate byte: the body and the gate byte after it lie in them, and within the limit
abbrev pub lies : ℕ → ℕ → List ℕ → Bool
lies limit gate bytes = nat_le (stated bytes + 5) (length bytes) && nat_le (gate + 6 + stated bytes) limit

-- the body in the bytes behind a gate byte
abbrev pub body_behind : List ℕ → List ℕ
body_behind bytes = take (stated bytes) (drop 4 bytes)

-- what stands at a gate byte
abbrev pub frame_at : ℕ → ℕ → List ℕ → FrameAt
frame_at limit gate file =
    if slice_index file gate == 1
    then (if lies limit gate (drop (gate + 1) file) then Whole (stated (drop (gate + 1) file)) else Cut)
    else Closed

-- ---- moves

-- a move: a body of 9 bytes, the first of them 2
abbrev pub is_move : List ℕ → Bool
is_move body = (length body == 9) && (slice_index body 0 == 2)

-- the body of a move to the roots at an offset
abbrev pub move_to : ℕ → List ℕ
move_to place = 2 ∷ to_be_bytes w64 place

-- a move with its gate byte's offset, as its body says where it leads
abbrev pub move_by : ℕ → List ℕ → Move
move_by gate body = record { gate = gate; place = stated_at 1 body }

-- the first move among the frames of the bytes from an offset on, behind so many bytes that are passed over; whatever stands behind it
abbrev pub first_of : ℕ → ℕ → ℕ → List ℕ → Option Move
first_of limit at skip [] = None
first_of limit at (suc skip) (byte ∷ bytes) = first_of limit (suc at) skip bytes
first_of limit at zero (gate ∷ bytes) =
    if (gate == 1) && lies limit at bytes
    then (if is_move (body_behind bytes) then Some (move_by at (body_behind bytes)) else first_of limit (suc at) (4 + stated bytes) bytes)
    else None

-- among the frames from a gate byte on
abbrev pub move_from : ℕ → ℕ → List ℕ → Option Move
move_from limit start file = first_of limit start 0 (drop start file)

-- in the list of a file
abbrev pub move_in : ℕ → List ℕ → Option Move
move_in limit file = move_from limit 8 file
