-- What a build begins with, in memory.
use Rattle.std.specs.Prelude.{◌≡◌}
use Rattle.carte_book.specs.Book.{Book}
use Rattle.carte_record.specs.Kept.{SomeKept}
use Rattle.carte_sound.specs.Begun.{Beginning, IsBeginning, begin}
use Rattle.carte_mark.specs.declared.base.Begun.{Begun}

abbrev pub beginning_of : Begun → Beginning
beginning_of x = record { marks = x.marks; gone = x.gone }

-- the marks and the dropped names are those of a build
abbrev pub IsBegun : SomeKept → Book → Begun → Type 0
IsBegun K b x = IsBeginning K b (beginning_of x)

-- and what is kept with them
pub record BeginsWith (K : SomeKept) (b : Book) (x : Begun) (M : SomeKept) : Type 0 where
  pub begun : IsBegun K b x
  pub base : M ≡ begin K (beginning_of x)
