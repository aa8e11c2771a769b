-- Texts cut at blanks.
use Rattle.std.specs.Prelude.{ℕ, ◌≡◌, ◌-◌, ◌<◌, ◌==◌, ◌||◌, ◌∷◌, Bool, false, List, [], length, take, slice_index, if◌then◌else◌}

-- a space or a tab
abbrev pub is_blank : ℕ → Bool
is_blank b = b == 32 || b == 9

abbrev pub begins_blank : List ℕ → Bool
begins_blank [] = false
begins_blank (b ∷ bs) = is_blank b

-- 0 where there is none
abbrev pub last_of : List ℕ → ℕ
last_of bs = slice_index bs (length bs - 1)

-- without the blanks in front
abbrev pub skip : List ℕ → List ℕ
skip [] = []
skip (b ∷ bs) = if is_blank b then skip bs else b ∷ bs

-- a byte, unless it is a blank behind which nothing is kept
abbrev pub kept : ℕ → List ℕ → List ℕ
kept b [] = if is_blank b then [] else b ∷ []
kept b (c ∷ cs) = b ∷ c ∷ cs

-- without the blanks at the end
abbrev pub trim_end : List ℕ → List ℕ
trim_end [] = []
trim_end (b ∷ bs) = kept b (trim_end bs)

-- without one carriage return at the end
abbrev pub without_return : List ℕ → List ℕ
without_return bs = if last_of bs == 13 then take (length bs - 1) bs else bs

-- up to the first blank
abbrev pub word_of : List ℕ → List ℕ
word_of [] = []
word_of (b ∷ bs) = if is_blank b then [] else b ∷ word_of bs

-- from the first blank on
abbrev pub behind : List ℕ → List ℕ
behind [] = []
behind (b ∷ bs) = if is_blank b then b ∷ bs else behind bs

-- the text, which begins with no blank, is a word and what follows it
pub record NextWord (text word rest : List ℕ) : Type 0 where
  pub word_is : word ≡ word_of text
  pub rest_is : rest ≡ behind text
  pub shorter : length rest < length text

-- ---- all words of a text

-- a byte in front of words: it begins the first of them, or is a word of its own
abbrev pub grown : ℕ → List (List ℕ) → List (List ℕ)
grown b [] = (b ∷ []) ∷ []
grown b (w ∷ ws) = (b ∷ w) ∷ ws

abbrev pub joined : ℕ → List ℕ → List (List ℕ) → List (List ℕ)
joined b [] ws = (b ∷ []) ∷ ws
joined b (c ∷ cs) ws = if is_blank c then (b ∷ []) ∷ ws else grown b ws

-- the words between blanks, in order
abbrev pub words_in : List ℕ → List (List ℕ)
words_in [] = []
words_in (b ∷ bs) = if is_blank b then words_in bs else joined b bs (words_in bs)
