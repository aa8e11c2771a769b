-- Which bodies the bytes of a journal hold.
use Rattle.std.specs.Prelude.{ℕ, ◌+◌, ◌-◌, ◌==◌, nat_le, if◌then◌else◌, suc, zero, List, [], ◌∷◌, ◌++◌, length, take, drop, None}
use Rattle.std.specs.Int.{to_be_bytes, w32}
use Rattle.std.specs.Str.{bytes_eq}
use Rattle.carte_bank.specs.Moves.{lies, stated}
use Rattle.carte_bank.specs.Roots.{Astray, Bank, Known, bank_at, start_of}

-- `CARTE01` and a line feed
abbrev pub header : List ℕ
header = 67 ∷ 65 ∷ 82 ∷ 84 ∷ 69 ∷ 48 ∷ 49 ∷ 10 ∷ []

-- the offset of a frame's gate byte, and its body
abbrev pub BodyAt : Type 0
BodyAt = ℕ × List ℕ

pub data Reading : Type 0 where
  -- the closed gate byte behind the frames, and their bodies
  Ends : ℕ → List BodyAt → Reading
  -- the first open frame that doesn't lie in the file, a move that has a fault, or 0 for a header that isn't one
  Bad : ℕ → Reading

abbrev pub add : BodyAt → Reading → Reading
add body (Ends gate bodies) = Ends gate (body ∷ bodies)
add body (Bad gate) = Bad gate

-- the frames of the bytes from an offset on, behind so many bytes that are passed over
abbrev pub walk : ℕ → ℕ → ℕ → List ℕ → Reading
walk limit at skip [] = Bad at
walk limit at (suc skip) (byte ∷ bytes) = walk limit (suc at) skip bytes
walk limit at zero (gate ∷ bytes) =
    if gate == 1
    then (if lies limit at bytes then add (at, take (stated bytes) (drop 4 bytes)) (walk limit (suc at) (4 + stated bytes) bytes) else Bad at)
    else Ends at []

-- the frames from a gate byte on
abbrev pub frames_from : ℕ → ℕ → List ℕ → Reading
frames_from limit start file = walk limit start 0 (drop start file)

-- the frames of a bank, or the fault of the move to it
abbrev pub reading_in : ℕ → List ℕ → Bank → Reading
reading_in limit file (Known bank) = frames_from limit (start_of bank) file
reading_in limit file (Astray gate) = Bad gate

-- the bodies of a file up to the first closed gate byte of its bank; a file of at most 9 bytes is a new one, whatever it holds
abbrev pub reading : ℕ → List ℕ → Reading
reading limit file =
    if nat_le (length file) 9 then Ends 8 [] else (if bytes_eq (take 8 file) header then reading_in limit file (bank_at limit file) else Bad 0)

-- the bank of a file
abbrev pub bank_in : ℕ → List ℕ → Bank
bank_in limit file = if nat_le (length file) 9 then Known None else bank_at limit file

-- a body as it is written behind its gate byte: its length, the body, and the next gate byte, closed
abbrev pub piece_of : List ℕ → List ℕ
piece_of body = to_be_bytes w32 (length body) ++ body ++ 0 ∷ []

-- the gate byte behind the frame of a body
abbrev pub end_of : ℕ → List ℕ → ℕ
end_of gate body = gate + 5 + length body

-- the body in such a piece
abbrev pub body_in : List ℕ → List ℕ
body_in piece = take (length piece - 5) (drop 4 piece)
