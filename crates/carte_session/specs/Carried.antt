-- Steps on the way: one line, and the lines of what was read so far.
use Rattle.std.specs.Prelude.{ℕ, ◌≡◌, ◌⊎◌, ◌≤◌, List, [], ◌++◌, length, take, Result, Ok, Err}
use Rattle.carte_session.specs.Around.{OverSink, Takes}
use Rattle.carte_session.specs.Lines.{AreAll, IsCut}
use Rattle.carte_session.specs.Session.{Goes}
use Rattle.carte_session.specs.declared.end.SessionEnd.{SessionEnd}
use Rattle.carte_session.specs.declared.end.SessionEnd.TheVariants.{WriteFault, Machine}
use Rattle.carte_session.specs.declared.end.StepEnd.{StepEnd}

-- one reply, taken and handed on; an empty one makes no call
abbrev pub TakesOne : OverSink → List ℕ → Type 0
TakesOne k reply = k.tells → (k.new.taken ≡ k.old.taken ++ reply)
    × (((reply ≡ []) × (k.new.handed ≡ k.old.handed)) ⊎ (k.new.handed ≡ length k.new.taken))

abbrev pub TakesSome : OverSink → List ℕ → Type 0
TakesSome k reply = k.tells → (n : ℕ) × (n ≤ length reply) × (k.new.taken ≡ k.old.taken ++ take n reply) × (k.old.handed ≤ k.new.handed)

abbrev pub Says : {T E : Type 0} → OverSink → List ℕ → Result T E → Type 0
Says k bytes (Ok done) = TakesOne k bytes
Says k bytes (Err fault) = TakesSome k bytes

-- one line
abbrev pub Carried : {M T : Type 0} → (M → ℕ → List ℕ → List ℕ → M → Type 0) → (M → ℕ → List ℕ → StepEnd → M → Type 0)
    → M → M → OverSink → ℕ → List ℕ → Result T SessionEnd → Type 0
Carried Answers Ends m m' k number line (Ok done) = (reply : List ℕ) × Answers m number line reply m' × TakesOne k reply
Carried Answers Ends m m' k number line (Err WriteFault) = (reply : List ℕ) × Answers m number line reply m' × TakesSome k reply
Carried Answers Ends m m' k number line (Err (Machine end)) = Ends m number line end m' × (k.new ≡ k.old)
Carried Answers Ends m m' k number line (Err end) = ⊥

-- each whole line of what was read is carried out, and the rest waits
pub record Progress {M : Type 0} (Answers : M → ℕ → List ℕ → List ℕ → M → Type 0) (m m' : M) (k : OverSink) (read : List ℕ) (count : ℕ) (rest : List ℕ)
    : Type 0 where
  pub lines : List (List ℕ)
  pub said : List ℕ
  pub cut : IsCut read lines rest
  pub goes : Goes Answers 1 m lines said m'
  pub counted : count ≡ length lines
  pub takes : Takes k said

-- all lines of what was read are carried out
pub record Finished {M : Type 0} (Answers : M → ℕ → List ℕ → List ℕ → M → Type 0) (m m' : M) (k : OverSink) (read : List ℕ) : Type 0 where
  pub lines : List (List ℕ)
  pub said : List ℕ
  pub all : AreAll read lines
  pub goes : Goes Answers 1 m lines said m'
  pub takes : Takes k said
