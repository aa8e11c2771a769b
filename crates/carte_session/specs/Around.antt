-- What a session reads from and writes to, before and after.
use Rattle.std.specs.Prelude.{ℕ, ◌≡◌, ◌⊎◌, ◌+◌, ◌≤◌, List, [], ◌++◌, length, take}
use Rattle.carte_io.specs.Streams.{SinkState, SourceState}

-- a source over a call: whether its type tells its bytes, and what it was and is
pub record OverSource : Type 1 where
  pub tells : Type 0
  pub old : SourceState
  pub new : SourceState

-- a sink over a call
pub record OverSink : Type 1 where
  pub tells : Type 0
  pub old : SinkState
  pub new : SinkState

-- it took these replies, and where they say anything it handed on all that it has
abbrev pub Takes : OverSink → List ℕ → Type 0
Takes k said = k.tells → (k.new.taken ≡ k.old.taken ++ said) × ((said ≡ []) ⊎ (k.new.handed ≡ length k.new.taken))

-- it took these replies and handed them on, and behind them it took a front of one more
abbrev pub TakesFront : OverSink → List ℕ → List ℕ → Type 0
TakesFront k said reply = k.tells → (n : ℕ) × (n ≤ length reply) × (k.new.taken ≡ k.old.taken ++ (said ++ take n reply))
    × ((said ≡ []) ⊎ (length k.old.taken + length said ≤ k.new.handed))
