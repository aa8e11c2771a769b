-- A batch of a build, from finished keys.
use Rattle.std.specs.Prelude.{ℕ, ◌≡◌, ◌⊎◌, ◌↔◌, List, ◌++◌, Some}
use Rattle.carte_value.specs.Truths.{Among, NoneTwice}
use Rattle.carte_book.specs.Book.{Book}
use Rattle.carte_record.specs.declared.batch.Batch.{Batch}
use Rattle.carte_record.specs.declared.way.Way.{Way}
use Rattle.carte_record.specs.Folds.{batch_traces}
use Rattle.carte_record.specs.Kept.{SomeKept}
use Rattle.carte_sound.specs.Base.{AllNow}
use Rattle.carte_sound.specs.Begun.{Beginning, begin}
use Rattle.carte_sound.specs.Carries.{Carries}
use Rattle.carte_sound.specs.Finished.{IsFinishing}
use Rattle.carte_sound.specs.Held.{How}
use Rattle.carte_sound.specs.LeadsTo.{empty_batch, traces_made}
use Rattle.carte_sound.specs.Left.{add_all}
use Rattle.carte_note.specs.declared.finished.Finished.{Finished}
use Rattle.carte_note.specs.Notes.{AreUnmarked}
use Rattle.carte_note.specs.Right.{AreRight, finishes_of, keys_in}

-- a batch with dropped names and marks alone
abbrev pub opening : List (List ℕ) → List (List ℕ) → Batch
opening gs ms = record empty_batch { gone = gs; stale = ms }

-- these names and no others
abbrev pub HasJust : List (List ℕ) → List (List ℕ) → Type 0
HasJust ks js = (k : List ℕ) → Among ks k ↔ Among js k

-- keys that are right and once each, over what says what the book says
pub record AreGiven (h : How) (M : SomeKept) (b : Book) (fs : List Finished) : Type 0 where
  pub now : AllNow M b
  pub right : AreRight h M b fs
  pub once : NoneTwice (keys_in fs)

-- the batch carried nothing of them; now it carries all of them, and of each that ran its trace
pub record NotesAll (h : How) (M : SomeKept) (b : Book) (fs : List Finished) (old new : Batch) : Type 0 where
  pub start : new.start ≡ old.start
  pub gone : new.gone ≡ old.gone
  pub stale : new.stale ≡ old.stale
  pub unmarked : AreUnmarked old.entries → AreUnmarked new.entries
  pub carries : AreGiven h M b fs → Carries b M M old → Carries b M (add_all h b M (finishes_of fs)) new
  pub traces : AreGiven h M b fs → Carries b M M old → (w : Way) → batch_traces w new ≡ batch_traces w old ++ traces_made h b (finishes_of fs) w

-- the chain was put into the batch, where it isn't the old one
abbrev pub PutsChain : List (List ℕ) → List (List ℕ) → Batch → Batch → Type 0
PutsChain old chain B C = ((old ≡ chain) × (C ≡ B)) ⊎ ((¬ (old ≡ chain)) × (C ≡ record B { chain = Some chain }))

-- a build has finished what is done, each key rightly, in an order in which it may
pub record IsBuilt (h : How) (K : SomeKept) (b : Book) (x : Beginning) (done : List ℕ → Type 0) (fs : List Finished) : Type 0 where
  pub now : AllNow (begin K x) b
  pub right : AreRight h (begin K x) b fs
  pub order : IsFinishing h b (begin K x) done (finishes_of fs)
