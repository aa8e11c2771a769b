-- The books with which a session builds and explains.
use Rattle.std.specs.Prelude.{ℕ, ◌≡◌, ◌⊎◌, List, [], ◌∷◌, ◌++◌}
use Rattle.carte_value.specs.declared.value.Value.{Value}
use Rattle.carte_book.specs.Book.{Book, input}
use Rattle.carte_book.specs.Edits.{IsSettable, with_item}
use Rattle.carte_words.specs.Lines.{Means}
use Rattle.carte_words.specs.declared.line.Line.{Line}
use Rattle.carte_words.specs.declared.line.Line.TheVariants as line

-- an input has the value; what isn't one stays
abbrev pub Edits : Book → List ℕ → Value → Book → Type 0
Edits b k v c = (IsSettable b k × (c ≡ with_item b k (input v))) ⊎ (¬ (IsSettable b k) × (c ≡ b))

-- the book that a line looks at, if it does, and the one behind it
abbrev pub LooksAt : Book → Line → List Book → Book → Type 0
LooksAt b (line.Set k v) J c = (J ≡ []) × Edits b k v c
LooksAt b (line.Build targets) J c = (J ≡ b ∷ []) × (c ≡ b)
LooksAt b (line.Explain targets) J c = (J ≡ b ∷ []) × (c ≡ b)
LooksAt b line.Clean J c = (J ≡ []) × (c ≡ b)
LooksAt b line.Nothing J c = (J ≡ []) × (c ≡ b)

abbrev pub IsBookAt : Book → List ℕ → List Book → Book → Type 0
IsBookAt b bytes J c = (((l : Line) → ¬ (Means b.kind bytes l)) × (J ≡ []) × (c ≡ b)) ⊎ ((l : Line) × Means b.kind bytes l × LooksAt b l J c)

-- the books at the lines that build or explain, in their order, and the book behind all lines; no state has a part in it
abbrev pub AreBooks : Book → List (List ℕ) → List Book → Book → Type 0
AreBooks b [] J c = (J ≡ []) × (c ≡ b)
AreBooks b (bytes ∷ lines) J c = (mid : Book) × (I rest : List Book) × IsBookAt b bytes I mid × (J ≡ I ++ rest) × AreBooks mid lines rest c
