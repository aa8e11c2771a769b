-- What stands on a bench.
use Rattle.std.specs.Prelude.{ℕ, ◌≡◌, Bool, true, false, List, Option, Some, None, Result, Ok, Err, if◌then◌else◌}
use Rattle.carte_value.specs.declared.value.Value.{Value}
use Rattle.carte_name.specs.Names.{name_eq}
use Rattle.carte_value.specs.Truths.{Truth}
use Rattle.carte_effect.specs.declared.look.Stuck.{Stuck}
use Rattle.carte_effect.specs.declared.look.Stuck.TheVariants as stuck
use Rattle.carte_effect.specs.declared.outcome.Made.{Made}
use Rattle.carte_effect.specs.Jobs.{outcome_of}
use Rattle.carte_effect.specs.Sights.{Sight, sight_of, not_done, missing, value_seen}
use Rattle.carte_book.specs.Book.{Item, input, rule, Book, content}
use Rattle.carte_bench.specs.declared.slot.Slot.{Slot}
use Rattle.carte_bench.specs.declared.slot.Slot.TheVariants.{Ready, Stopped, Out, Done}
use Rattle.carte_bench.specs.declared.place.Place.{Place}
use Rattle.carte_bench.specs.declared.place.Place.TheVariants as place

-- what stands at each name
abbrev pub Spots : Type 0 → Type 0
Spots J = List ℕ → Option (Slot J)

-- this stands at the name now, and all else is as before
abbrev pub PutAt : {J : Type 0} → Spots J → Spots J → List ℕ → Slot J → Type 0
PutAt old new k s = (q : List ℕ) → new q ≡ (if name_eq k q then Some s else old q)

abbrev pub IsSame : {J : Type 0} → Spots J → Spots J → Type 0
IsSame old new = (q : List ℕ) → new q ≡ old q

abbrev pub is_done : {J : Type 0} → Option (Slot J) → Bool
is_done (Some (Done m)) = true
is_done x = false

-- a job that wasn't driven yet, or whose stop is done by now
abbrev pub is_ready : {J : Type 0} → Spots J → Option (Slot J) → Bool
is_ready s (Some (Ready j)) = true
is_ready s (Some (Stopped j n)) = is_done (s n)
is_ready s x = false

abbrev pub place_of : {J : Type 0} → Spots J → Option (Slot J) → Place
place_of s None = place.Unknown
place_of s (Some (Ready j)) = place.Ready
place_of s (Some (Stopped j n)) = if is_done (s n) then place.Ready else place.WaitsFor n
place_of s (Some Out) = place.Out
place_of s (Some (Done m)) = place.Done

abbrev pub job_in : {J : Type 0} → Option (Slot J) → Option J
job_in None = None
job_in (Some (Ready j)) = Some j
job_in (Some (Stopped j n)) = Some j
job_in (Some Out) = None
job_in (Some (Done m)) = None

-- where the key is ready its job is given out, and else nothing
abbrev pub Takes : {J : Type 0} → Spots J → Spots J → List ℕ → Option J → Type 0
Takes old new k None = (is_ready old (old k) ≡ false) × IsSame old new
Takes old new k (Some j) = (is_ready old (old k) ≡ true) × (job_in (old k) ≡ Some j) × PutAt old new k Out

-- what stood at the key is given out, and it is out
abbrev pub TakenOut : {J : Type 0} → Spots J → Spots J → List ℕ → Option (Slot J) → Type 0
TakenOut old new k None = (old k ≡ None) × IsSame old new
TakenOut old new k (Some x) = (old k ≡ Some x) × PutAt old new k Out

abbrev pub name_of : Stuck → List ℕ
name_of (stuck.NotDone n) = n
name_of (stuck.Missing n) = n

-- what a drive that came to this leaves
abbrev pub slot_after : {J : Type 0} → J → Result Made Stuck → Slot J
slot_after j (Ok m) = Done m
slot_after j (Err s) = Stopped j (name_of s)

-- the value that stands at a name that is done
abbrev pub done_in : {J : Type 0} → Option (Slot J) → Option Value
done_in (Some (Done m)) = Some (outcome_of m).value
done_in x = None

abbrev pub sight_of_rule : Option Value → Sight
sight_of_rule (Some v) = sight_of v
sight_of_rule None = not_done

-- an input's value, and a rule's once it is done
abbrev pub sight_at : Option Item → Option Value → Sight
sight_at None o = missing
sight_at (Some (input v)) o = sight_of v
sight_at (Some (rule e)) o = sight_of_rule o

abbrev pub sight_in : {J : Type 0} → Book → Spots J → List ℕ → Sight
sight_in b s k = sight_at (content b k) (done_in (s k))

-- the inputs, and what is done
abbrev pub seen_in : {J : Type 0} → Book → Spots J → Truth
seen_in b s k = value_seen (sight_in b s k)

-- each job stands at its name
abbrev pub AreNamed : {J : Type 0} → (J → List ℕ) → Spots J → Type 0
AreNamed {J = J} name s = (k : List ℕ) (j : J) → job_in (s k) ≡ Some j → name j ≡ k

-- the key's job has stopped
abbrev pub HasStopped : {J : Type 0} → Spots J → List ℕ → Type 0
HasStopped {J = J} s k = (p : J) × (n : List ℕ) × (s k ≡ Some (Stopped p n))

-- this job stands in the place of the key's job that has stopped, and waits for the same name
abbrev pub Renews : {J : Type 0} → Spots J → Spots J → List ℕ → J → Type 0
Renews {J = J} old new k j = (p : J) × (n : List ℕ) × (old k ≡ Some (Stopped p n)) × PutAt old new k (Stopped j n)
