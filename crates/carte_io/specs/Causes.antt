-- Counts of calls and of failures, and what a failure owes them.
use Rattle.std.specs.Prelude.{◌≡◌, ◌≢◌, ℕ, ◌+◌, ◌-◌, ◌^◌, ◌≤◌, min, OnErr, OnOk, Result, Err}

-- one more, as far as a count of 64 bits goes: its last value stands for every later one
abbrev pub counted : ℕ → ℕ
counted n = min (n + 1) (2 ^ 64 - 1)

-- the count rose; one at its last value is taken as one that rose
abbrev pub Rose : ℕ → ℕ → Type 0
Rose before now = counted before ≤ now

-- a count of failures doesn't fall, a call that fails makes it rise, and one that passes leaves it
pub record HasCause {T E : Type 0} (before now : ℕ) (result : Result T E) : Type 0 where
  pub later : before ≤ now
  pub failed : OnErr result (Rose before now)
  pub passed : OnOk result (now ≡ before)

-- the same of a call that may answer other faults too: with this one the count rises, and with every other answer it is as before
pub record HasCauseOf {T E : Type 0} (fault : E) (before now : ℕ) (result : Result T E) : Type 0 where
  pub later : before ≤ now
  pub failed : result ≡ Err fault → Rose before now
  pub passed : result ≢ Err fault → now ≡ before
