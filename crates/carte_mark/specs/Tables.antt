-- Tables of the keys that need a name.
use Rattle.std.specs.Prelude.{ℕ, ◌≡◌, ◌<◌, ◌≤◌, ◌⊎◌, List, [], ◌∷◌, ◌++◌, Option, Some, None, get_or, length, slice_get, if◌then◌else◌}
use Rattle.carte_name.specs.Names.{name_eq}
use Rattle.carte_value.specs.Truths.{Among}
use Rattle.carte_record.specs.declared.entry.Entry.{Entry}
use Rattle.carte_value.specs.Lists.{Begins, Has}
use Rattle.carte_value.specs.Numbers.{number_of}
use Rattle.carte_record.specs.Kept.{SomeKept}
use Rattle.carte_record.specs.Lookups.{first_entry}
use Rattle.carte_mark.specs.Reached.{Spreads}

-- of each name the keys that need it
abbrev pub Users : Type 0
Users = List ℕ → List (List ℕ)

-- such a table of numbers: names in the order of their numbers, and at the number of a name those of the keys
pub record Numbered : Type 0 where
  pub names : List (List ℕ)
  pub users : List (List ℕ)

abbrev pub no_users : Numbered
no_users = record { names = []; users = [] }

abbrev pub named : Option (List ℕ) → List (List ℕ)
named None = []
named (Some k) = k ∷ []

-- the names of numbers
abbrev pub names_at : List (List ℕ) → List ℕ → List (List ℕ)
names_at ks [] = []
names_at ks (n ∷ ns) = named (slice_get ks n) ++ names_at ks ns

abbrev pub numbers_at : List (List ℕ) → Option ℕ → List ℕ
numbers_at us None = []
numbers_at us (Some n) = get_or us n []

-- what the table stands for
abbrev pub users_by : Numbered → Users
users_by t q = names_at t.names (numbers_at t.users (number_of t.names q))

-- names have the lists, and the numbers
pub record AreWithin (t : Numbered) : Type 0 where
  pub lists : length t.users ≤ length t.names
  pub numbers : (i m : ℕ) → Has (get_or t.users i []) m → m < length t.names

-- empty lists more, and not beyond so many
pub record Fills (count : ℕ) (old new : List (List ℕ)) : Type 0 where
  pub same : (i : ℕ) → get_or new i [] ≡ get_or old i []
  pub few : length old ≤ count → length new ≤ count

-- the key's entry names it as a need
abbrev pub Needs : List Entry → List ℕ → List ℕ → Type 0
Needs es k q = (e : Entry) × (first_entry es k ≡ Some e) × Among e.needs q

-- one key more for one name
abbrev pub AddsKey : Users → Users → List ℕ → List ℕ → Type 0
AddsKey old new n k = (q : List ℕ) → new q ≡ (if name_eq n q then old q ++ k ∷ [] else old q)

-- one key more for each name that has the property
pub record AddsFor (old new : Users) (k : List ℕ) (P : List ℕ → Type 0) : Type 0 where
  pub only : (q j : List ℕ) → Among (new q) j → Among (old q) j ⊎ ((j ≡ k) × P q)
  pub stays : (q j : List ℕ) → Among (old q) j → Among (new q) j
  pub there : (q : List ℕ) → P q → Among (new q) k

-- exactly the keys that need it
pub record AreUsers (es : List Entry) (d : Users) : Type 0 where
  pub only : (q k : List ℕ) → Among (d q) k → Needs es k q
  pub each : (q k : List ℕ) → Needs es k q → Among (d q) k

-- the key's entry names it as a need, in what is kept
abbrev pub NeedsIn : SomeKept → List ℕ → List ℕ → Type 0
NeedsIn K k q = (e : Entry) × (K.entries k ≡ Some e) × Among e.needs q

-- at least the keys that need it
abbrev pub HasUsers : SomeKept → Users → Type 0
HasUsers K d = (q k : List ℕ) → NeedsIn K k q → Among (d q) k

-- of these keys those that need what was there, and only keys that lead to it
pub record PutsUsers (K : SomeKept) (ks old new : List (List ℕ)) : Type 0 where
  pub front : Begins old new
  pub spreads : Spreads K old new
  pub each : (k q : List ℕ) → Among ks k → NeedsIn K k q → Among old q → Among new k
