-- Answers as they are kept.
use Rattle.std.specs.Prelude.{ℕ, Bool, nat_lt, ◌==◌, ◌&&◌, if◌then◌else◌}
use Rattle.carte_value.specs.Once.{Answers}

pub record Kept : Type 0 where
  -- names with the values that were answered for them, in order
  pub entries : Answers
  -- whether one more takes no memory
  pub room : Bool

-- whether the next answer is one of the first few, where so many are among these and so many behind them
abbrev pub are_few : ℕ → ℕ → Bool
are_few few more = nat_lt few 8 && (more == 0)

abbrev pub has_room : ℕ → ℕ → ℕ → ℕ → Bool
has_room few capacity more spare = if are_few few more then nat_lt few capacity else nat_lt 0 spare
