-- Sessions that nothing hinders.
use Rattle.std.specs.Prelude.{ℕ, ◌≡◌, ◌≤◌, true, List, ◌∷◌, ◌++◌, length, Result, Ok, Err}
use Rattle.carte_io.specs.Causes.{Rose}
use Rattle.carte_io.specs.Streams.{SinkState, SourceState}
use Rattle.carte_record.specs.declared.batch.Batch.{Batch}
use Rattle.carte_session.specs.Lines.{lines_of}
use Rattle.carte_session.specs.Session.{Goes, IsSession}
use Rattle.carte_session.specs.declared.end.SessionEnd.{SessionEnd}
use Rattle.carte_session.specs.declared.end.SessionEnd.TheVariants.{Machine, NoMemory, TooLong}
use Rattle.carte_session.specs.declared.end.StepEnd.TheVariants.{NoMemory as LineNoMemory, StateFull}
use Rattle.carte_engine.specs.Committing.{FitAll}
use Rattle.carte_words.specs.Lines.{Means}
use Rattle.carte_words.specs.declared.line.Line.{Line}
use Rattle.carte_shell.specs.Answers.{Answers, Brings, Ends}
use Rattle.carte_shell.specs.Scenes.{Scene}

-- wherever the lines before lead, there is room for all batches that the next line may bring, each in the file as it stands when it is put
abbrev pub AllFit : Type 0 → Scene → List (List ℕ) → Type 0
AllFit tells m script = (lines later : List (List ℕ)) (bytes said : List ℕ) (mid : Scene) (l : Line) (Bs : List Batch)
    → script ≡ lines ++ bytes ∷ later → Goes (Answers tells) 1 m lines said mid → Means mid.book.kind bytes l → Brings mid l Bs → FitAll true mid.stand Bs

-- no call of the script's source, of the sink and of the disk failed
pub record NoneFailed (script left : SourceState) (k k' : SinkState) (m m' : Scene) : Type 0 where
  pub source : ¬ (Rose script.faults left.faults)
  pub sink : ¬ (Rose k.faults k'.faults)
  pub disk : ¬ (Rose m.faults m'.faults)

-- all lines were carried out and answered, or there was no memory
abbrev pub IsDoneOrShort : Result (Unit {0}) SessionEnd → Type 0
IsDoneOrShort (Ok done) = Unit {0}
IsDoneOrShort (Err NoMemory) = Unit {0}
IsDoneOrShort (Err (Machine LineNoMemory)) = Unit {0}
IsDoneOrShort (Err end) = ⊥

-- neither was its script too long, nor its file full
abbrev pub IsWithin : Result (Unit {0}) SessionEnd → Type 0
IsWithin (Err TooLong) = ⊥
IsWithin (Err (Machine (StateFull needed limit))) = ⊥
IsWithin end = Unit {0}

-- A session of a script within the limit, each batch of which has room, comes to no other end where no device fails.
abbrev pub SessionIsDone : Type 0 → Type 0 → Type 0 → Type 0
SessionIsDone tells source_tells sink_tells =
    (m m' : Scene) (script left : SourceState) (k k' : SinkState) (limit : ℕ) (result : Result (Unit {0}) SessionEnd)
    → IsSession (Answers tells) (Ends tells) m m' (record { tells = source_tells; old = script; new = left }) (record { tells = sink_tells; old = k; new = k' }) limit result
    → source_tells → length script.left ≤ limit → AllFit tells m (lines_of script.left) → NoneFailed script left k k' m m' → IsDoneOrShort result
