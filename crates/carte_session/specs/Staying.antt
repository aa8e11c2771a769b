-- Lines whose answers stay.
use Rattle.std.specs.Prelude.{ℕ, ◌≡◌, ◌⊎◌, Bool, true, List}
use Rattle.carte_value.specs.Lists.{Has}

-- a line would be answered so, at any place of the script, and leave the machine as it is
abbrev pub Again : {M : Type 0} → (M → ℕ → List ℕ → List ℕ → M → Type 0) → M → List ℕ → List ℕ → Type 0
Again Answers m line reply = (n : ℕ) → Answers m n line reply m

-- so would each of these lines with its reply
abbrev pub AllAgain : {M : Type 0} → (M → ℕ → List ℕ → List ℕ → M → Type 0) → M → List (List ℕ × List ℕ) → Type 0
AllAgain Answers m known = (a : List ℕ × List ℕ) → Has known a → Again Answers m a.0 a.1

-- behind a line that was answered it would be again, and so would all that would have been before it
abbrev pub Stays : {M : Type 0} → (M → ℕ → List ℕ → List ℕ → M → Type 0) → M → List ℕ → List ℕ → M → Type 0
Stays Answers m line reply m' = Again Answers m' line reply × ((other said : List ℕ) → Again Answers m other said → Again Answers m' other said)

-- what is known behind a line: nothing more than before and the line with its reply, and where it doesn't stay, nothing
abbrev pub Learns : Bool → List (List ℕ × List ℕ) → List ℕ → List ℕ → List (List ℕ × List ℕ) → Type 0
Learns stays old line reply new = (a : List ℕ × List ℕ) → Has new a → (stays ≡ true) × ((a ≡ (line, reply)) ⊎ Has old a)
