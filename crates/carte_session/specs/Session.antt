-- What a session has done, by how it ended.
use Rattle.std.specs.Prelude.{ℕ, ◌≡◌, ◌+◌, ◌≤◌, List, [], ◌∷◌, ◌++◌, length, Result, Ok, Err}
use Rattle.carte_io.specs.Causes.{HasCauseOf}
use Rattle.carte_session.specs.Around.{OverSource, OverSink, Takes, TakesFront}
use Rattle.carte_session.specs.Lines.{AreAll, AreLines, IsCut, IsLine, IsNext, spelled}
use Rattle.carte_session.specs.declared.end.SessionEnd.{SessionEnd}
use Rattle.carte_session.specs.declared.end.SessionEnd.TheVariants.{ReadFault, WriteFault, TooLong, NoMemory, Machine}
use Rattle.carte_session.specs.declared.end.StepEnd.{StepEnd}

-- `Answers m n line reply m'`: line number n takes the machine from m to m', and is answered so.
-- These lines, from number n on, take it from m to m', and all that was answered is `said`
abbrev pub Goes : {M : Type 0} → (M → ℕ → List ℕ → List ℕ → M → Type 0) → ℕ → M → List (List ℕ) → List ℕ → M → Type 0
Goes Answers n m [] said m' = (m' ≡ m) × (said ≡ [])
Goes {M = M} Answers n m (line ∷ lines) said m' = (mid : M) × (reply : List ℕ) × (later : List ℕ)
    × Answers m n line reply mid × Goes Answers (n + 1) mid lines later m' × (said ≡ reply ++ later)

-- `Ends m n line end m'`: line number n takes the machine from m to m', and isn't answered.
-- An end in the middle: the reply of the next line wasn't written; or the machine ended at that line; or there was no memory for more of it.
-- Fewer than `most` bytes were read behind it; and it stands last only where the script has ended
abbrev pub Stopped : {M : Type 0} → (M → ℕ → List ℕ → List ℕ → M → Type 0) → (M → ℕ → List ℕ → StepEnd → M → Type 0)
    → M → M → OverSink → List ℕ → ℕ → Type 0 → SessionEnd → Type 0
Stopped {M = M} Answers Ends m m' k read most AtEnd WriteFault = (lines : List (List ℕ)) × (said : List ℕ) × (mid : M) × (line : List ℕ) × (reply : List ℕ)
    × IsNext read lines line most AtEnd × Goes Answers 1 m lines said mid × Answers mid (length lines + 1) line reply m' × TakesFront k said reply
Stopped {M = M} Answers Ends m m' k read most AtEnd (Machine end) = (lines : List (List ℕ)) × (said : List ℕ) × (mid : M) × (line : List ℕ)
    × IsNext read lines line most AtEnd × Goes Answers 1 m lines said mid × Ends mid (length lines + 1) line end m' × Takes k said
Stopped Answers Ends m m' k read most AtEnd NoMemory = (lines : List (List ℕ)) × (said : List ℕ) × (line : List ℕ) × (rest : List ℕ)
    × (read ≡ spelled lines ++ (line ++ rest)) × AreLines lines × IsLine line × (length rest ≤ most) × Goes Answers 1 m lines said m' × Takes k said
Stopped Answers Ends m m' k read most AtEnd end = ⊥

-- what a session did with the bytes that it read
abbrev pub Ended : {M T : Type 0} → (M → ℕ → List ℕ → List ℕ → M → Type 0) → (M → ℕ → List ℕ → StepEnd → M → Type 0)
    → M → M → OverSource → OverSink → ℕ → List ℕ → Result T SessionEnd → Type 0
Ended Answers Ends m m' s k limit read (Ok done) = (lines : List (List ℕ)) × (said : List ℕ)
    × AreAll read lines × Goes Answers 1 m lines said m' × Takes k said × (s.tells → (s.old.left ≡ read) × (s.new.left ≡ []))
Ended Answers Ends m m' s k limit read (Err ReadFault) = (lines : List (List ℕ)) × (said : List ℕ) × (rest : List ℕ)
    × IsCut read lines rest × Goes Answers 1 m lines said m' × Takes k said × (s.tells → s.old.left ≡ read ++ s.new.left)
Ended Answers Ends m m' s k limit read (Err TooLong) = (lines : List (List ℕ)) × (said : List ℕ) × (rest : List ℕ)
    × IsCut read lines rest × Goes Answers 1 m lines said m' × Takes k said
    × (length read ≡ limit) × (s.tells → (x : ℕ) × (s.old.left ≡ read ++ x ∷ s.new.left))
Ended Answers Ends m m' s k limit read (Err end) =
    Stopped Answers Ends m m' k read s.new.last (s.tells → s.new.left ≡ []) end × (s.tells → s.old.left ≡ read ++ s.new.left)

-- Some bytes were read, within the limit, and the machine went through their lines as the end says. They stand outside of what the source tells: also
-- over a source that tells nothing, one text was cut, carried out and answered.
-- The clause is over every source, sink and disk, and no body can foresee which of their calls fails, so it fixes the order too: an end of the machine
-- says that just the lines before were answered, a failed write that the machine is right behind its line. And behind a line lie fewer bytes than the last
-- read moved: its line feed was among those, so no line waited for another read.
pub record IsSession {M T : Type 0} (Answers : M → ℕ → List ℕ → List ℕ → M → Type 0) (Ends : M → ℕ → List ℕ → StepEnd → M → Type 0)
    (m m' : M) (s : OverSource) (k : OverSink) (limit : ℕ) (result : Result T SessionEnd) : Type 0 where
  pub read : List ℕ
  pub within : length read ≤ limit
  pub ended : Ended Answers Ends m m' s k limit read result
  pub source_cause : HasCauseOf ReadFault s.old.faults s.new.faults result
  pub sink_cause : HasCauseOf WriteFault k.old.faults k.new.faults result
