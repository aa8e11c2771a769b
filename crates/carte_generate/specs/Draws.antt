-- The draws of a linear congruential generator, that of Knuth's MMIX.
use Rattle.std.specs.Prelude.{ℕ, zero, suc, ◌+◌, ◌*◌, ◌/◌, ◌%◌, ◌^◌}

-- the state that follows a state
unfoldable pub next : ℕ → ℕ
next x = (x * 6364136223846793005 + 1442695040888963407) % 2 ^ 64

-- a draw goes to the next state and gives its upper 31 bits
abbrev pub drawn : ℕ → ℕ
drawn x = next x / 2 ^ 33

-- the state after so many draws; the seed is the first state
abbrev pub state_after : ℕ → ℕ → ℕ
state_after seed zero = seed
state_after seed (suc j) = next (state_after seed j)

-- the draw before which so many were made
unfoldable pub draw : ℕ → ℕ → ℕ
draw seed j = drawn (state_after seed j)
