-- Keys that were made, and finished, as they should be.
use Rattle.std.specs.Prelude.{ℕ, ◌≡◌, Bool, true, false, List, [], ◌∷◌, ◌++◌, Some, if◌then◌else◌}
use Rattle.carte_value.specs.declared.link.Link.{Link}
use Rattle.carte_book.specs.Book.{Book, clean}
use Rattle.carte_book.specs.Needs.{needs}
use Rattle.carte_effect.specs.declared.outcome.Made.{Made}
use Rattle.carte_effect.specs.declared.outcome.Made.TheVariants.{Ran, Reused}
use Rattle.carte_effect.specs.Jobs.{outcome_of}
use Rattle.carte_record.specs.declared.way.Way.TheVariants.{Verifying, Constructive, Deep}
use Rattle.carte_record.specs.Kept.{SomeKept}
use Rattle.carte_sound.specs.Beneath.{beneath, rules_beneath}
use Rattle.carte_sound.specs.True.{links_to, tasks_of}
use Rattle.carte_sound.specs.Held.{How, dirty, tracing, IsHeld, gathers}
use Rattle.carte_sound.specs.Left.{Finishes}
use Rattle.carte_note.specs.declared.finished.Finished.{Finished}

-- the links of a held key: those of the trace that holds, of a deep one behind its tasks, and under dirty bits none
abbrev pub reused_links : How → Book → List ℕ → List Link
reused_links dirty b k = []
reused_links (tracing Verifying) b k = links_to (clean b) (needs b k)
reused_links (tracing Constructive) b k = links_to (clean b) (needs b k)
reused_links (tracing Deep) b k = tasks_of b (rules_beneath b k) ++ links_to (clean b) (beneath b k)

-- it ran where it isn't held, with its needs as links; or it is held, and was reused
abbrev pub Came : How → SomeKept → Book → List ℕ → Made → Type 0
Came h K b k (Ran o) = ¬ (IsHeld h K b k) × (o.links ≡ links_to (clean b) (needs b k))
Came h K b k (Reused o) = IsHeld h K b k × (o.links ≡ reused_links h b k)

-- the key was made with its clean value
pub record IsRightMade (h : How) (K : SomeKept) (b : Book) (k : List ℕ) (m : Made) : Type 0 where
  pub key : (outcome_of m).key ≡ k
  pub value : clean b k ≡ Some (outcome_of m).value
  pub came : Came h K b k m

-- the rules beneath the key with their tasks, and the inputs there, where they are gathered
abbrev pub gathered_tasks : How → Book → List ℕ → List Link
gathered_tasks h b k = if gathers h then tasks_of b (rules_beneath b k) else []

abbrev pub gathered_links : How → Book → List ℕ → List Link
gathered_links h b k = if gathers h then links_to (clean b) (beneath b k) else []

pub record IsRightFinished (h : How) (K : SomeKept) (b : Book) (k : List ℕ) (f : Finished) : Type 0 where
  pub made : IsRightMade h K b k f.made
  pub tasks : f.tasks ≡ gathered_tasks h b k
  pub beneath : f.beneath ≡ gathered_links h b k

abbrev pub has_run : Made → Bool
has_run (Ran o) = true
has_run (Reused o) = false

abbrev pub key_of : Finished → List ℕ
key_of f = (outcome_of f.made).key

-- finished keys, each with whether it ran
abbrev pub finishes_of : List Finished → Finishes
finishes_of [] = []
finishes_of (f ∷ fs) = (key_of f, has_run f.made) ∷ finishes_of fs

abbrev pub keys_in : List Finished → List (List ℕ)
keys_in [] = []
keys_in (f ∷ fs) = key_of f ∷ keys_in fs

-- the keys of those that ran
abbrev pub ran_in : List Finished → List (List ℕ)
ran_in [] = []
ran_in (f ∷ fs) = if has_run f.made then key_of f ∷ ran_in fs else ran_in fs

-- each of them is right
abbrev pub AreRight : How → SomeKept → Book → List Finished → Type 0
AreRight h K b [] = Unit {0}
AreRight h K b (f ∷ fs) = IsRightFinished h K b (key_of f) f × AreRight h K b fs
