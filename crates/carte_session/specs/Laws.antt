-- Laws of lines and of sessions.
use Rattle.std.specs.Prelude.{ℕ, ◌≡◌, ◌<◌, ◌≤◌, List, [], ◌∷◌, ◌++◌, length, Result, Ok, Err}
use Rattle.carte_io.specs.Streams.{SinkState, SourceState}
use Rattle.carte_session.specs.Around.{Takes}
use Rattle.carte_session.specs.Lines.{AreAll, AreLines, IsCut, IsNext, lines_of, spelled}
use Rattle.carte_session.specs.Session.{Goes, IsSession}
use Rattle.carte_session.specs.declared.end.SessionEnd.{SessionEnd}
use Rattle.carte_session.specs.declared.end.SessionEnd.TheVariants.{TooLong}
use Rattle.carte_session.specs.declared.end.StepEnd.{StepEnd}

-- bytes are cut in one way
abbrev pub OneCut : Type 0
OneCut = (bytes rest last : List ℕ) (lines others : List (List ℕ)) → IsCut bytes lines rest → IsCut bytes others last → (others ≡ lines) × (last ≡ rest)

-- all lines of a script are the lines of its bytes
abbrev pub AllLines : Type 0
AllLines = (bytes : List ℕ) (lines : List (List ℕ)) → AreAll bytes lines → lines ≡ lines_of bytes

-- whole lines at the front of a script are its first lines
abbrev pub LinesFront : Type 0
LinesFront = (lines : List (List ℕ)) (more : List ℕ) → AreLines lines → lines_of (spelled lines ++ more) ≡ lines ++ lines_of more

-- the next line of what was read is the next one of the whole script
abbrev pub NextOf : Type 0
NextOf = (read left line : List ℕ) (lines : List (List ℕ)) (most : ℕ) → IsNext read lines line most (left ≡ [])
    → (later : List (List ℕ)) × (lines_of (read ++ left) ≡ lines ++ line ∷ later)

-- a script that is too long has more bytes than the limit
abbrev pub TooLongIsLonger : {M : Type 0} → (M → ℕ → List ℕ → List ℕ → M → Type 0) → (M → ℕ → List ℕ → StepEnd → M → Type 0) → Type 0 → Type 0 → Type 0
TooLongIsLonger {M = M} Answers Ends source_tells sink_tells =
    (m m' : M) (script left : SourceState) (k k' : SinkState) (limit : ℕ)
    → IsSession {T = Unit {0}} Answers Ends m m' (record { tells = source_tells; old = script; new = left }) (record { tells = sink_tells; old = k; new = k' })
    limit (Err TooLong)
    → source_tells → limit < length script.left

-- a script that was done is within the limit, and its lines were carried out and answered
abbrev pub DoneLines : {M : Type 0} → (M → ℕ → List ℕ → List ℕ → M → Type 0) → (M → ℕ → List ℕ → StepEnd → M → Type 0) → Type 0 → Type 0 → Type 0
DoneLines {M = M} Answers Ends source_tells sink_tells =
    (m m' : M) (script left : SourceState) (k k' : SinkState) (limit : ℕ)
    → IsSession {T = Unit {0}} Answers Ends m m' (record { tells = source_tells; old = script; new = left }) (record { tells = sink_tells; old = k; new = k' })
    limit (Ok tt)
    → source_tells → (length script.left ≤ limit)
    × ((said : List ℕ) × Goes Answers 1 m (lines_of script.left) said m' × Takes (record { tells = sink_tells; old = k; new = k' }) said)

-- A session of a machine, seen through a view in whose terms its answers and ends are stated, is one of what is seen.
abbrev pub SessionSeen : {M : Type 0} → {N : Type 0} → (M → N) → (N → ℕ → List ℕ → List ℕ → N → Type 0) → (N → ℕ → List ℕ → StepEnd → N → Type 0) → Type 0 → Type 0 → Type 0
SessionSeen {M = M} view Answers Ends source_tells sink_tells =
    (m m' : M) (script left : SourceState) (k k' : SinkState) (limit : ℕ) (result : Result (Unit {0}) SessionEnd)
    → IsSession (λ m n line reply m'. Answers (view m) n line reply (view m')) (λ m n line end m'. Ends (view m) n line end (view m')) m m'
    (record { tells = source_tells; old = script; new = left }) (record { tells = sink_tells; old = k; new = k' }) limit result
    → IsSession Answers Ends (view m) (view m') (record { tells = source_tells; old = script; new = left }) (record { tells = sink_tells; old = k; new = k' }) limit result
