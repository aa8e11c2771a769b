-- What a build has come to that begins with a list.
use Rattle.std.specs.Prelude.{ℕ, List, [], ◌++◌}
use Rattle.carte_book.specs.Book.{Book}
use Rattle.carte_book.specs.Reason.{AllClean, IsReason}
use Rattle.carte_record.specs.Kept.{SomeKept}
use Rattle.carte_sound.specs.Held.{How}
use Rattle.carte_sound.specs.Treated.{IsTreated, IsDoneSuspending}
use Rattle.carte_rebuild.specs.declared.work.WorkEnd.{WorkEnd}
use Rattle.carte_rebuild.specs.declared.work.WorkEnd.TheVariants.{All, Refused}
use Rattle.carte_rebuild.specs.Ends.{IsGiven, IsNewChain, IsWork, AllEnded, GivesUp, StartsAnew}
use Rattle.carte_restart.specs.Straight.{IsPrepared}

-- what is treated from the list and the targets is done; nothing is given up where the needs of each stand before it
abbrev pub EndsFrom : How → SomeKept → Book → List (List ℕ) → List (List ℕ) → WorkEnd → Type 0
EndsFrom h K b list targets (All w) = IsNewChain K w
    × (IsGiven K b → AllClean b targets × IsWork h K b (IsDoneSuspending h K b (list ++ targets)) w × GivesUp b targets (IsTreated h K b (list ++ targets)) w.runs × (IsPrepared b [] list → IsPrepared b list targets → AllEnded w.runs))
EndsFrom h K b list targets (Refused w reason) = IsNewChain K w
    × (IsGiven K b → IsReason b targets reason × IsWork h K b (IsDoneSuspending h K b (list ++ targets)) w × StartsAnew b (IsTreated h K b (list ++ targets)) w.runs)
