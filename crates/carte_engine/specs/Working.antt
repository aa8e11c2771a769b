-- What a build works over: what is kept, marked where it stands, or what was made apart from it.
use Rattle.std.specs.Prelude.{◌≡◌, ℕ, List, Option, Some, None}
use Rattle.carte_book.specs.Book.{Book}
use Rattle.carte_mark.specs.Bases.{BeginsWith}
use Rattle.carte_record.specs.declared.kept.Kept.{Kept}
use Rattle.carte_record.specs.Kept.{SomeKept, kept_view}
use Rattle.carte_record.specs.Marked.{CanBeMarked, lists_marked}
use Rattle.carte_state.specs.States.{Stand, any_in, kept_in}
use Rattle.carte_engine.specs.Versions.{kept_for, kept_or}
use Rattle.carte_engine.specs.declared.basis.Basis.{Basis}

abbrev pub base_of : Basis → Stand → SomeKept
base_of g s = kept_or (kept_in s) g.apart

-- the keys were marked where their entries stand, and nothing was changed where what is worked over is apart
abbrev pub IsMarkedIn : Option Kept → List (List ℕ) → Stand → Stand → Type 0
IsMarkedIn None ks old new = CanBeMarked old.kept ks × (new ≡ record old { kept = lists_marked old.kept ks })
IsMarkedIn (Some made) ks old new = new ≡ old

-- a build of the book began so
pub record StandsOn (b : Book) (old new : Stand) (g : Basis) : Type 0 where
  pub begins : BeginsWith (kept_for (any_in old) b) b g.begun (base_of g new)
  pub marked : IsMarkedIn g.apart g.begun.marks old new

-- what is worked over was made apart, of this
pub record StandsApart (K : SomeKept) (b : Book) (g : Basis) : Type 0 where
  pub made : Kept
  pub apart : g.apart ≡ Some made
  pub begins : BeginsWith K b g.begun (kept_view made)
