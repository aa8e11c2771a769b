-- Where a text stops being the beginning of a name.
use Rattle.std.specs.Prelude.{ℕ, Bool, false, List, ◌++◌, ◌≡◌, ◌<◌, ◌≤◌, length, take, slice_index, IsTrue, Result, Ok, Err, if◌then◌else◌}
use Rattle.std.specs.List.{list_all}
use Rattle.carte_name.specs.declared.name_fault.NameFault.{NameFault}
use Rattle.carte_name.specs.declared.name_fault.NameFault.TheVariants.{BadName, NoMemory}

-- it is a prefix of some text that passes
abbrev pub Begins : (List ℕ → Bool) → List ℕ → Type 0
Begins passes prefix = (rest : List ℕ) × IsTrue (passes (prefix ++ rest))

-- the length of the longest prefix that is a prefix of some text that passes
pub record IsLongestPrefix (passes : List ℕ → Bool) (text : List ℕ) (place : ℕ) : Type 0 where
  pub within : place ≤ length text
  pub begins : Begins passes (take place text)
  pub longest : (n : ℕ) → place < n → n ≤ length text → ¬ (Begins passes (take n text))

-- what a text is read as: the name, or the place of what is wrong
abbrev pub IsNameRead : (List ℕ → Bool) → List ℕ → List ℕ → Result (List ℕ) NameFault → Type 0
IsNameRead passes text name (Ok k) = IsTrue (passes text) × (k ≡ name)
IsNameRead passes text name (Err (BadName place)) = (passes text ≡ false) × IsLongestPrefix passes text place
IsNameRead passes text name (Err NoMemory) = IsTrue (passes text)

-- how many bytes pass from the first on, where no more than these count
pub record IsRun (passes : ℕ → Bool) (most : ℕ) (text : List ℕ) (n : ℕ) : Type 0 where
  pub within : n ≤ length text
  pub few : n ≤ most
  pub all : IsTrue (list_all passes (take n text))
  pub ends : n < length text → n < most → passes (slice_index text n) ≡ false

-- how many letters of a cell's name a text begins with
abbrev pub letters_of : (ℕ → Bool) → List ℕ → ℕ
letters_of letter t = if letter (slice_index t 0) then (if letter (slice_index t 1) then 2 else 1) else 0
