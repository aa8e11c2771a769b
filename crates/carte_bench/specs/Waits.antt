-- Where names lead on a bench, and why a target has no value.
use Rattle.std.specs.Prelude.{ℕ, ◌≡◌, Bool, true, false, List, [], ◌∷◌, ◌++◌, Option, Some, None, if◌then◌else◌}
use Rattle.std.specs.List.{list_any}
use Rattle.carte_name.specs.Names.{name_eq}
use Rattle.carte_value.specs.Truths.{Among}
use Rattle.carte_book.specs.Book.{Item, input, rule, Book, content}
use Rattle.carte_book.specs.declared.reason.Reason.{Reason}
use Rattle.carte_book.specs.declared.reason.Reason.TheVariants.{Cycle, Missing, Dynamic}
use Rattle.carte_bench.specs.declared.slot.Slot.{Slot}
use Rattle.carte_bench.specs.declared.slot.Slot.TheVariants.{Ready, Stopped, Out, Done}
use Rattle.carte_bench.specs.declared.way.Onward.{Onward as CodeOnward}
use Rattle.carte_bench.specs.declared.way.Onward.TheVariants as code
use Rattle.carte_bench.specs.declared.way.Course.{Course}
use Rattle.carte_bench.specs.declared.way.Course.TheVariants as course
use Rattle.carte_bench.specs.Spots.{Spots, is_done}

-- a name has nothing, it waits for none, or for this one
pub data Onward : Type 0 where
  gone : Onward
  ends : Onward
  waits_for : List ℕ → Onward

-- a job waits for the name of its stop while that isn't done
abbrev pub waits_on : {J : Type 0} → Spots J → Option (Slot J) → Onward
waits_on s None = ends
waits_on s (Some (Ready j)) = ends
waits_on s (Some (Stopped j n)) = if is_done (s n) then ends else waits_for n
waits_on s (Some Out) = ends
waits_on s (Some (Done m)) = ends

abbrev pub onward_at : Option Item → Onward → Onward
onward_at None o = gone
onward_at (Some (input v)) o = ends
onward_at (Some (rule e)) o = o

abbrev pub onward : {J : Type 0} → Book → Spots J → List ℕ → Onward
onward b s k = onward_at (content b k) (waits_on s (s k))

-- the path begins with the target
abbrev pub Starts : List ℕ → List (List ℕ) → Type 0
Starts t [] = ⊥
Starts t (k ∷ ks) = k ≡ t

-- each waits for the next, and the last is the first that was seen before
abbrev pub Round : (List ℕ → Onward) → List (List ℕ) → List (List ℕ) → Type 0
Round f seen [] = ⊥
Round f seen (k ∷ []) = Among seen k
Round f seen (k ∷ j ∷ ks) = ¬ (Among seen k) × (f k ≡ waits_for j) × Round f (k ∷ seen) (j ∷ ks)

-- the same, but the last has nothing
abbrev pub Astray : (List ℕ → Onward) → List (List ℕ) → List (List ℕ) → Type 0
Astray f seen [] = ⊥
Astray f seen (k ∷ []) = f k ≡ gone
Astray f seen (k ∷ j ∷ ks) = ¬ (Among seen k) × (f k ≡ waits_for j) × Astray f (k ∷ seen) (j ∷ ks)

-- the path of waits from the target, where it leads round or astray
abbrev pub WaitsAs : (List ℕ → Onward) → List ℕ → Option Reason → Type 0
WaitsAs f t (Some (Cycle p)) = Starts t p × Round f [] p
WaitsAs f t (Some (Missing p)) = Starts t p × Astray f [] p
WaitsAs f t (Some (Dynamic p)) = ⊥
WaitsAs f t None = (p : List (List ℕ)) → Starts t p → (Round f [] p → ⊥) × (Astray f [] p → ⊥)

-- the code's answers

abbrev pub Leads : Onward → CodeOnward → Type 0
Leads o code.Gone = o ≡ gone
Leads o code.Ends = o ≡ ends
Leads o (code.WaitsFor n) = o ≡ waits_for n.now

abbrev pub has : List (List ℕ) → List ℕ → Bool
has ks k = list_any (name_eq k) ks

-- one name more of a way, or how it ends
abbrev pub Follows : (List ℕ → Onward) → List (List ℕ) → List ℕ → List (List ℕ) → List ℕ → Course → Type 0
Follows f ks at ks' at' course.On = (has ks at ≡ false) × (f at ≡ waits_for at') × (ks' ≡ ks ++ at ∷ [])
Follows f ks at ks' at' course.Ends = (has ks at ≡ false) × (f at ≡ ends)
Follows f ks at ks' at' course.Round = (has ks at ≡ true) × (ks' ≡ ks) × (at' ≡ at)
Follows f ks at ks' at' course.Astray = (f at ≡ gone) × (ks' ≡ ks) × (at' ≡ at)
