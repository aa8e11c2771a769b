-- What the lines of a session do, and what they are answered.
use Rattle.std.specs.Prelude.{ℕ, ◌≡◌, ◌≢◌, ◌⊎◌, IsTrue, List, [], ◌∷◌, Result, Ok, Err}
use Rattle.carte_name.specs.Kinds.{is_name_of}
use Rattle.carte_name.specs.declared.kind.Kind.{Kind}
use Rattle.carte_value.specs.declared.value.Value.{Value}
use Rattle.carte_book.specs.Book.{Book}
use Rattle.carte_book.specs.Edits.{Sets}
use Rattle.carte_book.specs.declared.fault.SetFault.{SetFault}
use Rattle.carte_book.specs.declared.fault.SetFault.TheVariants as set
use Rattle.carte_engine.specs.Answers.{IsPlan}
use Rattle.carte_engine.specs.Clearing.{clearing}
use Rattle.carte_engine.specs.Versions.{Under}
use Rattle.carte_engine.specs.declared.answer.Answer.{Answer}
use Rattle.carte_record.specs.declared.batch.Batch.{Batch}
use Rattle.carte_record.specs.Kept.{nothing_kept}
use Rattle.carte_report.specs.Lines.{cleaned_line, not_set_line, set_line, stray_line}
use Rattle.carte_session.specs.declared.end.StepEnd.{StepEnd}
use Rattle.carte_session.specs.declared.end.StepEnd.TheVariants.{NoMemory}
use Rattle.carte_shell.specs.declared.choices.Choices.{Choices}
use Rattle.carte_state.specs.States.{Stand, any_in}
use Rattle.carte_state.specs.Versions.{InTwo}
use Rattle.carte_words.specs.Lines.{Means}
use Rattle.carte_words.specs.declared.line.Line.{Line}
use Rattle.carte_words.specs.declared.line.Line.TheVariants as line
use Rattle.carte_shell.specs.Chosen.{how_of, scheduler_of}
use Rattle.carte_shell.specs.Commits.{Puts, Stops}
use Rattle.carte_shell.specs.Explained.{Explained}
use Rattle.carte_shell.specs.Replies.{Said, build_reply, plain}
use Rattle.carte_shell.specs.Scenes.{Scene}

-- ---- builds

-- a build of the targets answers so, rightly, and commits the batches: whatever history what is kept is sound for
abbrev pub PlansBy : Choices → Stand → Book → List (List ℕ) → Answer → List Batch → Type 0
PlansBy ch s b targets a Bs = Under (any_in s) b (IsPlan (scheduler_of ch.scheduler) (how_of ch.rebuilder) (any_in s) b targets Bs a)

abbrev pub Plans : Scene → List (List ℕ) → Answer → List Batch → Type 0
Plans m targets a Bs = PlansBy m.choices m.stand m.book targets a Bs

-- the batches and the reply of a build that was worked out
abbrev pub WorksOut : Choices → Stand → Book → List (List ℕ) → List Batch → Said → Type 0
WorksOut ch s b targets Bs reply = (a : Answer) × PlansBy ch s b targets a Bs × (reply ≡ build_reply ch.list targets a)

-- ---- inputs

abbrev pub set_text : List ℕ → Result (Unit {0}) SetFault → List ℕ
set_text k (Ok u) = set_line k
set_text k (Err fault) = not_set_line k fault

-- the book in memory has the value, or it can't have it
pub record SetsInput (b c : Book) (k : List ℕ) (v : Value) (reply : Said) : Type 0 where
  pub result : Result (Unit {0}) SetFault
  pub sets : Sets b c k v result
  pub told : result ≢ Err set.NoMemory
  pub reply_is : reply ≡ plain (set_text k result)

-- ---- lines

-- an input that a line sets has a name of the book's kind
abbrev pub NamesInput : Kind → Line → Type 0
NamesInput kind (line.Set k v) = IsTrue (is_name_of kind k)
NamesInput kind l = Unit {0}

-- what a line means takes the one scene to the other, and is answered so
abbrev pub Obeys : Type 0 → Scene → Line → Said → Scene → Type 0
Obeys tells m line.Nothing reply m' = (reply ≡ plain []) × (m' ≡ m)
Obeys tells m (line.Set k v) reply m' = SetsInput m.book m'.book k v reply × (m' ≡ record m { book = m'.book })
Obeys tells m (line.Build targets) reply m' = (a : Answer) × (Bs : List Batch) × Plans m targets a Bs × (reply ≡ build_reply m.choices.list targets a) × Puts tells m m' Bs
Obeys tells m (line.Explain targets) reply m' = Explained (how_of m.choices.rebuilder) (any_in m.stand) m.book targets reply × (m' ≡ m)
Obeys tells m line.Clean reply m' = (reply ≡ plain cleaned_line) × Puts tells m m' (clearing m.stand ∷ []) × (any_in m'.stand ≡ InTwo nothing_kept)

-- line number n: where it means nothing that there is, that is told; else it is obeyed
abbrev pub Answers : Type 0 → Scene → ℕ → List ℕ → List ℕ → Scene → Type 0
Answers tells m n bytes text m' =
    (((l : Line) → ¬ (Means m.book.kind bytes l)) × (text ≡ stray_line n) × (m' ≡ m))
    ⊎ ((l : Line) × Means m.book.kind bytes l × (reply : Said) × (text ≡ reply.text) × Obeys tells m l reply m')

-- ---- lines that aren't answered

-- the batches that a line may commit, one after another
abbrev pub Brings : Scene → Line → List Batch → Type 0
Brings m (line.Build targets) Bs = (a : Answer) × Plans m targets a Bs
Brings m line.Clean Bs = Bs ≡ clearing m.stand ∷ []
Brings m l Bs = ⊥

-- Want of memory comes before any commit, and leaves all as before the line; or one of the line's batches isn't put, for this reason, and those in front of it were.
abbrev pub Breaks : Type 0 → Scene → Line → StepEnd → Scene → Type 0
Breaks tells m l end m' = ((end ≡ NoMemory) × (m' ≡ m)) ⊎ ((Bs : List Batch) × Brings m l Bs × Stops tells m m' Bs end)

abbrev pub Ends : Type 0 → Scene → ℕ → List ℕ → StepEnd → Scene → Type 0
Ends tells m n bytes end m' = ((end ≡ NoMemory) × (m' ≡ m)) ⊎ ((l : Line) × Means m.book.kind bytes l × Breaks tells m l end m')
