-- Bodies as a rewriting writes them, and what it makes of a journal.
use Rattle.std.specs.Prelude.{◌≡◌, ℕ, ◌+◌, ◌-◌, ◌<◌, ◌≤◌, ◌^◌, cond, List, [], ◌∷◌, ◌++◌, length, replicate, Option, Some, None}
use Rattle.std.specs.Int.{to_be_bytes, w32}
use Rattle.carte_io.specs.Stations.{Step}
use Rattle.carte_bank.specs.Moves.{move_to}
use Rattle.carte_bank.specs.Roots.{generation_of, start_of}
use Rattle.carte_bank.specs.Turns.{AreInFront, first_roots, region_place, root_bytes, turned}
use Rattle.carte_bank.specs.declared.roots.Roots.{Roots}
use Rattle.carte_journal.specs.Frames.{BodyAt, Ends, Reading, end_of, piece_of}
use Rattle.carte_journal.specs.Journals.{Standing}
use Rattle.carte_journal.specs.declared.bank.Bank.{Bank}

-- bodies without their places
abbrev pub bytes_of : List BodyAt → List (List ℕ)
bytes_of [] = []
bytes_of (body ∷ bodies) = body.1 ∷ bytes_of bodies

-- each is shorter than 2^32 bytes
abbrev pub AreShort : List (List ℕ) → Type 0
AreShort [] = Unit {0}
AreShort (body ∷ bodies) = (length body < 2 ^ 32) × AreShort bodies

-- bodies in open frames one behind another, and a closed gate byte
abbrev pub region_of : List (List ℕ) → List ℕ
region_of [] = 0 ∷ []
region_of (body ∷ bodies) = 1 ∷ (to_be_bytes w32 (length body) ++ body ++ region_of bodies)

-- these bodies with their places from a gate byte on, and the gate byte behind them
abbrev pub placed_at : ℕ → List (List ℕ) → List BodyAt
placed_at at [] = []
placed_at at (body ∷ bodies) = (at, body) ∷ placed_at (end_of at body) bodies

abbrev pub gate_of : ℕ → List (List ℕ) → ℕ
gate_of at [] = at
gate_of at (body ∷ bodies) = gate_of (end_of at body) bodies

-- what a first rewriting writes in front of its region: a move to roots at this offset, in a frame behind its gate byte, and the roots
abbrev pub first_front : ℕ → List ℕ
first_front place = piece_of (move_to place) ++ (1 ∷ (root_bytes 1 (place + 34) ++ replicate 17 0))

abbrev pub front_of : Option Roots → ℕ → List ℕ
front_of None gate = first_front (gate + 15)
front_of (Some roots) gate = []

-- ---- what is planned

-- a region as its clauses see it: the closed gate byte and the bank of the journal that it was planned for, where the region goes, how many frames it has,
-- and the bytes that are written for it
pub record Planned : Type 0 where
  pub gate : ℕ
  pub bank : Option Roots
  pub at : ℕ
  pub frames : ℕ
  pub piece : List ℕ

-- where a region of so many bytes goes; the first one stands behind a move and its roots
abbrev pub region_at : Option Roots → ℕ → ℕ → ℕ
region_at None gate long = gate + 49
region_at (Some roots) gate long = region_place roots gate long

-- where its bytes are written
abbrev pub written_from : Option Roots → ℕ → ℕ → ℕ
written_from None gate at = gate + 1
written_from (Some roots) gate at = at

-- how many bytes the file needs with it
abbrev pub region_end : Planned → ℕ
region_end p = written_from p.bank p.gate p.at + length p.piece

-- how many bytes the file of a journal needs with a region of so many
abbrev pub needs_with : Standing → ℕ → ℕ
needs_with j long = region_at j.bank j.gate long + long

-- it has its place behind the roots and beside the bank, and ends behind its frames
pub record IsPlaced (p : Planned) : Type 0 where
  pub gate : p.gate < 2 ^ 32
  pub start : start_of p.bank ≤ p.gate
  pub roots : AreInFront p.bank
  pub at : p.at ≡ region_at p.bank p.gate (length p.piece)
  pub inside : p.at < region_end p
  pub frames : p.frames < length p.piece

-- it is the region of these bodies
pub record IsRegionOf (p : Planned) (bodies : List (List ℕ)) : Type 0 where
  pub piece : p.piece ≡ front_of p.bank p.gate ++ region_of bodies
  pub frames : p.frames ≡ length bodies
  pub short : AreShort bodies
  pub placed : IsPlaced p

-- it was planned on this journal, and nothing was committed since
pub record IsPlannedOn (j : Standing) (p : Planned) : Type 0 where
  pub gate : p.gate ≡ j.gate
  pub bank : p.bank ≡ j.bank

-- ---- what a rewriting makes of a journal

-- a bank that may be rewritten: it has a frame, and there is a next generation
pub record IsRewritable (j : Standing) : Type 0 where
  pub some : 0 < j.frames
  pub next : generation_of j.bank + 1 < 2 ^ 64

-- the roots behind it
abbrev pub turned_from : Option Roots → ℕ → ℕ → Roots
turned_from None gate at = first_roots (gate + 15)
turned_from (Some roots) gate at = turned roots at

-- how many writing calls it makes
abbrev pub calls_to_turn : Option Roots → ℕ
calls_to_turn None = 4
calls_to_turn (Some roots) = cond roots.both 7 5

-- the journal after it
abbrev pub rewritten : Standing → Planned → Standing
rewritten j p = record j { gate = region_end p - 1; bank = Some (turned_from p.bank p.gate p.at); frames = p.frames }

-- as a step from what the file is read as before it
abbrev pub step_to : Planned → List (List ℕ) → Step Reading
step_to p bodies = record { calls = calls_to_turn p.bank; to = Ends (gate_of p.at bodies) (placed_at p.at bodies) }

-- the bank of a journal, as it is told
abbrev pub told_bank : Standing → Bank
told_bank j = record { start = start_of j.bank; end = j.gate + 1; frames = j.frames; generation = generation_of j.bank }
