-- What a line of a script asks for.
use Rattle.std.specs.Prelude.{ℕ, ◌≡◌, ⊤, IsTrue, List, [], ◌∷◌, codes, slice_index, Option, Some, None, Result, Ok, Err, IsUtf8, if◌then◌else◌}
use Rattle.carte_name.specs.Kinds.{is_text_of, name_of}
use Rattle.carte_value.specs.Reading.{Reads}
use Rattle.carte_name.specs.declared.NoMemory.{NoMemory}
use Rattle.carte_name.specs.declared.kind.Kind.{Kind}
use Rattle.carte_value.specs.declared.value.Value.{Value}
use Rattle.carte_words.specs.declared.line.Line.{Line}
use Rattle.carte_words.specs.declared.line.Line.TheVariants.{Set, Build, Explain, Clean, Nothing}
use Rattle.carte_words.specs.Cuts.{skip, trim_end, without_return, word_of, behind, words_in}

abbrev pub in_front : List ℕ → Option (List (List ℕ)) → Option (List (List ℕ))
in_front k (Some ks) = Some (k ∷ ks)
in_front k None = None

-- the names that words are, where each is one
abbrev pub names_of : Kind → List (List ℕ) → Option (List (List ℕ))
names_of kind [] = Some []
names_of kind (w ∷ ws) = if is_text_of kind w then in_front (name_of kind w) (names_of kind ws) else None

-- one or more names follow
abbrev pub AreNames : Kind → List ℕ → List (List ℕ) → Type 0
AreNames kind rest ks = ¬ (words_in rest ≡ []) × (names_of kind (words_in rest) ≡ Some ks)

-- the value is all that follows the blanks behind the name
abbrev pub Assigns : Kind → List ℕ → List ℕ → Value → Type 0
Assigns kind text k v = IsTrue (is_text_of kind (word_of text)) × (k ≡ name_of kind (word_of text)) × Reads (skip (behind text)) v

-- by the first word, and what follows it
abbrev pub Follows : Kind → List ℕ → List ℕ → Line → Type 0
Follows kind word rest Nothing = slice_index word 0 ≡ 35
Follows kind word rest Clean = (word ≡ codes "clean") × (words_in rest ≡ [])
Follows kind word rest (Build ks) = (word ≡ codes "build") × AreNames kind rest ks
Follows kind word rest (Explain ks) = (word ≡ codes "explain") × AreNames kind rest ks
Follows kind word rest (Set k v) = (word ≡ codes "set") × Assigns kind (skip rest) k v

-- a text without blanks in front; where there is no word, nothing is asked for
abbrev pub Says : Kind → List ℕ → Line → Type 0
Says kind [] l = l ≡ Nothing
Says kind (b ∷ bs) l = Follows kind (word_of (b ∷ bs)) (behind (b ∷ bs)) l

-- the line without its line feed is UTF-8, and so is meant
pub record Means (kind : Kind) (line : List ℕ) (l : Line) : Type 0 where
  pub utf8 : IsUtf8 line
  pub says : Says kind (skip (trim_end (without_return line))) l

-- what a reader answers: what the line means, or that it means nothing, but that memory may run out
abbrev pub IsMeant : (Line → Type 0) → Result (Option Line) NoMemory → Type 0
IsMeant P (Ok (Some l)) = P l
IsMeant P (Ok None) = (l : Line) → ¬ (P l)
IsMeant P (Err e) = ⊤

-- the same of a name, and of names
abbrev pub IsNameAt : Kind → List ℕ → Result (Option (List ℕ)) NoMemory → Type 0
IsNameAt kind word (Ok (Some k)) = IsTrue (is_text_of kind word) × (k ≡ name_of kind word)
IsNameAt kind word (Ok None) = ¬ (IsTrue (is_text_of kind word))
IsNameAt kind word (Err e) = ⊤

abbrev pub AreNamesAt : Option (List (List ℕ)) → Result (Option (List (List ℕ))) NoMemory → Type 0
AreNamesAt o (Ok r) = o ≡ r
AreNamesAt o (Err e) = ⊤

abbrev pub AreKeys : Kind → List ℕ → Result (Option (List (List ℕ))) NoMemory → Type 0
AreKeys kind rest (Ok (Some ks)) = AreNames kind rest ks
AreKeys kind rest (Ok None) = (ks : List (List ℕ)) → ¬ (AreNames kind rest ks)
AreKeys kind rest (Err e) = ⊤

-- a line has one meaning at most
abbrev pub OneMeaning : Type 0
OneMeaning = (kind : Kind) (line : List ℕ) (l m : Line) → Means kind line l → Means kind line m → l ≡ m
