-- Steps on the way to a file's bank, as the code takes them.
use Rattle.std.specs.Prelude.{ℕ, ◌+◌, ◌<◌, ◌≤◌, List, Option, Some, None}
use Rattle.carte_bank.specs.Moves.{move_from}
use Rattle.carte_bank.specs.declared.frames.FrameAt.{FrameAt}
use Rattle.carte_bank.specs.declared.frames.FrameAt.TheVariants.{Closed, Cut, Whole}
use Rattle.carte_bank.specs.declared.moves.Move.{Move}
use Rattle.carte_bank.specs.declared.moves.Seen.{Seen}
use Rattle.carte_bank.specs.declared.moves.Seen.TheVariants.{End, Met, Past}
use Rattle.carte_bank.specs.declared.roots.Roots.{Roots}

-- a whole frame and the gate byte behind it lie in the file and within the limit
abbrev pub Fits : ℕ → ℕ → ℕ → FrameAt → Type 0
Fits long limit gate Closed = Unit {0}
Fits long limit gate Cut = Unit {0}
Fits long limit gate (Whole size) = (gate + 6 + size ≤ long) × (gate + 6 + size ≤ limit)

-- the first move from a gate byte on, by what was seen there
abbrev pub move_seen : ℕ → List ℕ → Seen → Option Move
move_seen limit file End = None
move_seen limit file (Met move) = Some move
move_seen limit file (Past end) = move_from limit end file

-- what was seen at a gate byte lies in the file and within the limit
abbrev pub SeenWithin : ℕ → ℕ → ℕ → Seen → Type 0
SeenWithin long limit gate End = Unit {0}
SeenWithin long limit gate (Met move) = (move.gate + 15 ≤ long) × (move.gate + 15 ≤ limit)
SeenWithin long limit gate (Past end) = (gate < end) × (end < long) × (end < limit)

-- the bank starts behind its roots, in the file and within the limit
pub record IsInside (long limit : ℕ) (roots : Roots) : Type 0 where
  pub behind : roots.place + 34 ≤ roots.start
  pub start : roots.start < long
  pub low : roots.start < limit
