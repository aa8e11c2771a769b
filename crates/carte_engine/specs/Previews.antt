-- What a build would do, told without one.
use Rattle.std.specs.Prelude.{ℕ, List}
use Rattle.carte_book.specs.Book.{Book}
use Rattle.carte_book.specs.Reason.{AllClean, IsReason}
use Rattle.carte_record.specs.Kept.{SomeKept}
use Rattle.carte_rebuild.specs.Ends.{IsWork, NothingGivenUp}
use Rattle.carte_rebuild.specs.declared.work.Work.{Work}
use Rattle.carte_rebuild.specs.declared.work.WorkEnd.{WorkEnd}
use Rattle.carte_rebuild.specs.declared.work.WorkEnd.TheVariants.{All, Refused}
use Rattle.carte_sound.specs.Begun.{Beginning, IsBeginning, begin}
use Rattle.carte_sound.specs.Held.{How}
use Rattle.carte_sound.specs.Treated.{IsDoneSuspending}

-- the work of a build that lets keys wait for what they need, where each target has a value
pub record IsPreview (h : How) (K : SomeKept) (b : Book) (targets : List (List ℕ)) (w : Work) : Type 0 where
  pub begun : Beginning
  pub begins : IsBeginning K b begun
  pub work : IsWork h (begin K begun) b (IsDoneSuspending h (begin K begun) b targets) w
  pub none_given_up : NothingGivenUp w
  pub clean : AllClean b targets

-- how such a build would end
abbrev pub IsForeseen : How → SomeKept → Book → List (List ℕ) → WorkEnd → Type 0
IsForeseen h K b targets (All w) = IsPreview h K b targets w
IsForeseen h K b targets (Refused w reason) = IsReason b targets reason
