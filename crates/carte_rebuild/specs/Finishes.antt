-- Made keys that are finished.
use Rattle.std.specs.Prelude.{ℕ, ◌≡◌, true, List, Some}
use Rattle.carte_value.specs.Truths.{Among}
use Rattle.carte_book.specs.Book.{Book}
use Rattle.carte_book.specs.Needs.{IsRule, needs}
use Rattle.carte_effect.specs.declared.outcome.Made.{Made}
use Rattle.carte_record.specs.Kept.{SomeKept}
use Rattle.carte_sound.specs.Held.{How, gathers}
use Rattle.carte_note.specs.declared.finished.Finished.{Finished}
use Rattle.carte_note.specs.Lists.{finished_of}
use Rattle.carte_note.specs.Right.{IsRightMade, IsRightFinished, has_run}

-- each rule among the key's needs is found among these, finished rightly
abbrev pub HaveFinished : How → SomeKept → Book → List Finished → List ℕ → Type 0
HaveFinished h K b before k = (j : List ℕ) → Among (needs b k) j → IsRule b j → (f : Finished) × (finished_of before j ≡ Some f) × IsRightFinished h K b j f

-- A key that was made right is finished right; where what lies beneath is gathered and it ran, behind the rules that it needs.
abbrev pub FinishesRight : How → Book → List Finished → Made → Finished → Type 0
FinishesRight h b before m f = (K : SomeKept) (k : List ℕ) → IsRightMade h K b k m → (gathers h ≡ true → has_run m ≡ true → HaveFinished h K b before k) → IsRightFinished h K b k f
