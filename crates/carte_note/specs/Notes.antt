-- What a finished key brings to the batch of a build.
use Rattle.std.specs.Prelude.{ℕ, ◌≡◌, false, List, [], ◌∷◌, ◌++◌, ◌&&◌, if◌then◌else◌}
use Rattle.carte_value.specs.Lists.{Has}
use Rattle.carte_book.specs.Book.{Book}
use Rattle.carte_record.specs.declared.batch.Batch.{Batch}
use Rattle.carte_record.specs.declared.entry.Entry.{Entry}
use Rattle.carte_record.specs.declared.way.Way.{Way}
use Rattle.carte_record.specs.Folds.{batch_traces}
use Rattle.carte_record.specs.Kept.{SomeKept}
use Rattle.carte_record.specs.Ways.{TraceBy}
use Rattle.carte_sound.specs.Base.{AllNow}
use Rattle.carte_sound.specs.Carries.{Carries}
use Rattle.carte_sound.specs.Held.{How}
use Rattle.carte_sound.specs.Left.{is_way, add}
use Rattle.carte_sound.specs.True.{trace_of}
use Rattle.carte_note.specs.declared.finished.Finished.{Finished}
use Rattle.carte_note.specs.Right.{IsRightFinished, has_run}

-- of a key that ran one trace, and else none
abbrev pub trace_made : How → Book → List ℕ → Finished → (w : Way) → List (TraceBy w)
trace_made h b k f w = if has_run f.made && is_way h w then trace_of w b k ∷ [] else []

-- no entry is stale
abbrev pub AreUnmarked : List Entry → Type 0
AreUnmarked es = (e : Entry) → Has es e → e.stale ≡ false

-- The batch carried what finished keys have made of what the build began with; now it carries one key more.
pub record Noted (h : How) (K L : SomeKept) (b : Book) (k : List ℕ) (f : Finished) (old new : Batch) : Type 0 where
  pub carries : Carries b K (add h b L k (has_run f.made)) new
  pub traces : (w : Way) → batch_traces w new ≡ batch_traces w old ++ trace_made h b k f w

-- whatever these keys were, where this one wasn't among them and is right
abbrev pub Notes : How → SomeKept → Book → Finished → Batch → Batch → Type 0
Notes h K b f old new = (L : SomeKept) (k : List ℕ) → AllNow K b → Carries b K L old → L.entries k ≡ K.entries k → IsRightFinished h K b k f → Noted h K L b k f old new
