-- Whatever crash comes in a session, the state stays sound.
use Rattle.std.specs.Prelude.{ℕ, ◌≡◌, ◌⊎◌, List, [], ◌++◌, Result}
use Rattle.carte_io.specs.Disk.{LeavesOnly}
use Rattle.carte_io.specs.Streams.{SinkState, SourceState}
use Rattle.carte_book.specs.Book.{Book}
use Rattle.carte_engine.specs.Versions.{IsSoundAny}
use Rattle.carte_session.specs.Session.{Goes, IsSession}
use Rattle.carte_session.specs.declared.end.SessionEnd.{SessionEnd}
use Rattle.carte_session.specs.declared.end.StepEnd.{StepEnd}
use Rattle.carte_sound.specs.Base.{HasDistinctDigests}
use Rattle.carte_state.specs.Folding.{Keeps}
use Rattle.carte_state.specs.States.{IsKeptOn, any_in}
use Rattle.carte_state.specs.Versions.{AnyKept}
use Rattle.carte_shell.specs.Answers.{Answers, Ends}
use Rattle.carte_shell.specs.Books.{AreBooks, IsBookAt}
use Rattle.carte_shell.specs.Scenes.{Scene}

-- a file keeps, in either version, what is sound for a history
abbrev pub KeepsSound : ℕ → List Book → List ℕ → Type 0
KeepsSound limit H file = (A : AnyKept) × Keeps limit A file × IsSoundAny A H

-- the disk keeps what memory does, and that is sound for the history
pub record StandsSound (m : Scene) (H : List Book) : Type 0 where
  pub kept_on : IsKeptOn m.stand m.story
  pub sound : IsSoundAny (any_in m.stand) H

-- from a scene that stands sound, with these books behind its history, only sound files are left at each moment
abbrev pub LeavesSound : Type 0 → Scene → Scene → List Book → Type 0
LeavesSound tells m m' J = tells → (H : List Book) → StandsSound m H → HasDistinctDigests (H ++ J) → LeavesOnly m.story m'.story (KeepsSound m.stand.journal.limit (H ++ J))

-- and at the end it stands sound too
abbrev pub StaysSound : Type 0 → Scene → Scene → List Book → Type 0
StaysSound tells m m' J = tells → (H : List Book) → StandsSound m H → HasDistinctDigests (H ++ J)
    → StandsSound m' (H ++ J) × LeavesOnly m.story m'.story (KeepsSound m.stand.journal.limit (H ++ J))

-- lines that are answered go through the books of these lines, and stay sound
abbrev pub LinesStaySound : Type 0 → Type 0
LinesStaySound tells = (n : ℕ) (m m' : Scene) (lines : List (List ℕ)) (said : List ℕ) → Goes (Answers tells) n m lines said m'
    → (J : List Book) × AreBooks m.book lines J m'.book × (m'.stand.journal.limit ≡ m.stand.journal.limit) × StaysSound tells m m' J

-- so does a line that isn't; for want of memory it may not even have been read
abbrev pub EndLeavesSound : Type 0 → Type 0
EndLeavesSound tells = (n : ℕ) (m m' : Scene) (bytes : List ℕ) (end : StepEnd) → Ends tells m n bytes end m'
    → (J : List Book) × ((J ≡ []) ⊎ IsBookAt m.book bytes J m.book) × LeavesSound tells m m' J

-- Whatever end a session comes to, there are the books at the lines with which it began, and only files that are sound for these are left.
abbrev pub SessionStaysSound : Type 0 → Type 0 → Type 0 → Type 0
SessionStaysSound tells source_tells sink_tells =
    (m m' : Scene) (script left : SourceState) (k k' : SinkState) (limit : ℕ) (result : Result (Unit {0}) SessionEnd)
    → IsSession (Answers tells) (Ends tells) m m' (record { tells = source_tells; old = script; new = left }) (record { tells = sink_tells; old = k; new = k' }) limit result
    → (lines : List (List ℕ)) × (J : List Book) × ((c : Book) × AreBooks m.book lines J c) × LeavesSound tells m m' J
