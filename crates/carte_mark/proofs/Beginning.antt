-- What a build begins with.
use Rattle.std.proofs.Common.{◌≡◌, ℕ, List}
use Rattle.carte_value.specs.Truths.{IsListOf}
use Rattle.carte_book.specs.Book.{Book}
use Rattle.carte_record.specs.Kept.{SomeKept}
use Rattle.carte_sound.specs.Begun.{IsGone, begin}
use Rattle.carte_sound.specs.Marks.{IsMarked}
use Rattle.carte_mark.specs.declared.base.Begun.{Begun}
use Rattle.carte_mark.specs.Bases.{beginning_of, BeginsWith, IsBegun}
use Rattle.carte_mark.specs.Reached.{AreChanged}

pub is_begun : (K : SomeKept) (b : Book) (names : List (List ℕ)) (x : Begun) → AreChanged K b names → (AreChanged K b names → IsListOf (IsGone K b) x.gone) → ((c : Book) → AreChanged K c names → IsListOf (IsMarked K c) x.marks) → IsBegun K b x
is_begun K b names x changed gone marks = record { marks = marks b changed; gone = gone changed }

pub begins_with : (K : SomeKept) (b : Book) (x : Begun) (M : SomeKept) → IsBegun K b x → M ≡ begin K (beginning_of x) → BeginsWith K b x M
begins_with K b x M begun base = record { begun = begun; base = base }
