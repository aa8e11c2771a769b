-- What calls of a source and of a sink do to the bytes that are left and to those that were taken.
use Rattle.std.specs.Prelude.{◌≡◌, ℕ, ◌<◌, ◌≤◌, List, [], ◌++◌, length, take, drop}

-- a source as its clauses see it: the bytes left, where it tells them, how often it failed, how many bytes the last read moved that passed, and how
-- often it was read, as far as a count of 64 bits goes
pub record SourceState : Type 0 where
  pub left : List ℕ
  pub faults : ℕ
  pub last : ℕ
  pub reads : ℕ

-- a source that tells no bytes, before any read
abbrev pub unread : SourceState
unread = record { left = []; faults = 0; last = 0; reads = 0 }

-- a sink: the bytes taken and how many of them, from the first on, were handed on, where it tells them, and how often it failed
pub record SinkState : Type 0 where
  pub taken : List ℕ
  pub handed : ℕ
  pub faults : ℕ

-- the first n bytes left go into the front of a buffer
pub record Moves (n : ℕ) (left left' into into' : List ℕ) : Type 0 where
  pub enough : n ≤ length left
  pub front : into' ≡ take n left ++ drop n into
  pub rest : left' ≡ drop n left

-- some bytes were read that have P; where the source tells its bytes, they are the first that were left, and the others are left still
pub record Reads (P : List ℕ → Type 0) (tells : Type 0) (left left' : List ℕ) : Type 0 where
  pub bytes : List ℕ
  pub has : P bytes
  pub first : tells → left ≡ bytes ++ left'

-- such bytes stand behind the ones read before
pub record ReadsMore (tells : Type 0) (left left' read read' : List ℕ) : Type 0 where
  pub more : List ℕ
  pub behind : read' ≡ read ++ more
  pub first : tells → left ≡ more ++ left'

-- a prefix of the piece was taken, and not the whole of it
pub record TakesFront (piece taken taken' : List ℕ) : Type 0 where
  pub count : ℕ
  pub below : count < length piece
  pub front : taken' ≡ taken ++ take count piece
