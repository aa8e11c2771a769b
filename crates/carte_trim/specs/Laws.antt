-- Laws of what is trimmed.
use Rattle.std.specs.Prelude.{ℕ, ◌≡◌, List, take}
use Rattle.carte_value.specs.Lists.{Has}
use Rattle.carte_book.specs.Book.{Book}
use Rattle.carte_record.specs.declared.way.Way.{Way}
use Rattle.carte_record.specs.Kept.{SomeKept}
use Rattle.carte_record.specs.Ways.{TraceBy}
use Rattle.carte_sound.specs.Begun.{Beginning, IsBeginning, begin}
use Rattle.carte_sound.specs.Held.{How, IsHeld, IsHeldBy, dirty, tracing}
use Rattle.carte_sound.specs.Sound.{IsSound}
use Rattle.carte_trim.specs.Trimmed.{HasNewest, IsTrimmed}

-- there is one at most
abbrev pub OneTrimmed : Type 0
OneTrimmed = (K L M : SomeKept) (n : ℕ) → IsTrimmed K n L → IsTrimmed K n M → L ≡ M

-- it is sound for each history for which what is kept is
abbrev pub TrimmedIsSound : Type 0
TrimmedIsSound = (K L : SomeKept) (n : ℕ) (H : List Book) → IsTrimmed K n L → IsSound K H → IsSound L H

-- a build begins with it as with what is kept: it marks the same keys and drops the same names, and what it begins with has the newest of what it would begin with
abbrev pub TrimmedBegins : Type 0
TrimmedBegins = (K L : SomeKept) (n : ℕ) (b : Book) (x : Beginning) → IsTrimmed K n L → IsBeginning K b x
    → IsBeginning L b x × HasNewest (begin K x) n (begin L x)

-- a key that is held by a fresh entry, or by one of its newest traces, is held as before, and no other one is
abbrev pub IsHeldByNewest : Way → ℕ → SomeKept → Book → List ℕ → Type 0
IsHeldByNewest w n K b k = (t : TraceBy w) × IsHeldBy w K b k t × Has (take n (K.traces w k)) t

abbrev pub HeldAsBefore : Type 0
HeldAsBefore = (K L : SomeKept) (n : ℕ) (b : Book) (k : List ℕ) → HasNewest K n L
    → (IsHeld dirty K b k → IsHeld dirty L b k) × ((w : Way) → IsHeldByNewest w n K b k → IsHeld (tracing w) L b k)

abbrev pub NoneNewlyHeld : Type 0
NoneNewlyHeld = (h : How) (K L : SomeKept) (n : ℕ) (b : Book) (k : List ℕ) → HasNewest K n L → IsHeld h L b k → IsHeld h K b k
