-- The spellings of names, digests, truth values, pairs, options and lists.
use Rattle.std.specs.Prelude.{ℕ, Bool, true, false, List, [], ◌∷◌, ◌++◌, ◌≡◌, ◌<◌, ◌^◌, length, IsTrue, Option, Some, None, Result, Ok, Err}
use Rattle.std.specs.Int.{w32, to_be_bytes}
use Rattle.std.specs.List.{flat_map}
use Rattle.carte_name.specs.Names.{is_name}
use Rattle.carte_value.specs.declared.digest.Digest.{Digest}
use Rattle.carte_value.specs.declared.link.Link.{Link}
use Rattle.carte_codec.specs.declared.unread.Unread.{Unread}
use Rattle.carte_codec.specs.declared.unread.Unread.TheVariants.{NotThere, NoMemory}
use Rattle.carte_codec.specs.Each.{EachFits}

-- a count in 4 bytes, the greatest first
abbrev pub spelled_count : ℕ → List ℕ
spelled_count n = to_be_bytes w32 n

abbrev pub FitsCount : ℕ → Type 0
FitsCount n = n < 2 ^ 32

-- the length in one byte, and the name
abbrev pub spelled_name : List ℕ → List ℕ
spelled_name k = length k ∷ k

abbrev pub FitsName : List ℕ → Type 0
FitsName k = IsTrue (is_name k)

-- its 32 bytes
abbrev pub spelled_digest : Digest → List ℕ
spelled_digest d = d.0

abbrev pub FitsDigest : Digest → Type 0
FitsDigest d = length d.0 ≡ 32

abbrev pub spelled_bool : Bool → List ℕ
spelled_bool false = 0 ∷ []
spelled_bool true = 1 ∷ []

-- one after the other
abbrev pub spelled_pair : {A B : Type 0} → (A → List ℕ) → (B → List ℕ) → A × B → List ℕ
spelled_pair first second p = first p.0 ++ second p.1

abbrev pub FitsPair : {A B : Type 0} → (A → Type 0) → (B → Type 0) → A × B → Type 0
FitsPair first second p = first p.0 × second p.1

-- 0 where there is none, and else 1 and what there is
abbrev pub spelled_option : {A : Type 0} → (A → List ℕ) → Option A → List ℕ
spelled_option spelled None = 0 ∷ []
spelled_option spelled (Some x) = 1 ∷ spelled x

abbrev pub FitsOption : {A : Type 0} → (A → Type 0) → Option A → Type 0
FitsOption fits None = Unit {0}
FitsOption fits (Some x) = fits x

-- how many there are, and each in order
abbrev pub spelled_list : {A : Type 0} → (A → List ℕ) → List A → List ℕ
spelled_list spelled xs = spelled_count (length xs) ++ flat_map spelled xs

abbrev pub FitsList : {A : Type 0} → (A → Type 0) → List A → Type 0
FitsList fits xs = FitsCount (length xs) × EachFits fits xs

-- just so many
abbrev pub FitsMany : {A : Type 0} → (A → Type 0) → ℕ → List A → Type 0
FitsMany fits n xs = (length xs ≡ n) × EachFits fits xs

-- the name and the digest
abbrev pub spelled_link : Link → List ℕ
spelled_link l = spelled_name l.name ++ spelled_digest l.digest

abbrev pub FitsLink : Link → Type 0
FitsLink l = FitsName l.name × FitsDigest l.digest

-- bytes that are a name
abbrev pub IsNameOf : List ℕ → Result (List ℕ) Unread → Type 0
IsNameOf bytes (Ok k) = FitsName k × (k ≡ bytes)
IsNameOf bytes (Err NotThere) = ¬ (FitsName bytes)
IsNameOf bytes (Err NoMemory) = Unit {0}
