-- Names by the kind of book that has them.
use Rattle.std.specs.Prelude.{ℕ, IsTrue, List, [], ◌∷◌}
use Rattle.carte_name.specs.Kinds.{is_name_of}
use Rattle.carte_name.specs.declared.kind.Kind.{Kind}
use Rattle.carte_words.specs.declared.line.Line.{Line}
use Rattle.carte_words.specs.declared.line.Line.TheVariants.{Set, Build, Explain, Clean, Nothing}

abbrev pub AllNamed : Kind → List (List ℕ) → Type 0
AllNamed kind [] = Unit {0}
AllNamed kind (k ∷ ks) = IsTrue (is_name_of kind k) × AllNamed kind ks

-- each name of a line is one of the kind
abbrev pub LineNamed : Kind → Line → Type 0
LineNamed kind (Set k v) = IsTrue (is_name_of kind k)
LineNamed kind (Build ks) = AllNamed kind ks
LineNamed kind (Explain ks) = AllNamed kind ks
LineNamed kind Clean = Unit {0}
LineNamed kind Nothing = Unit {0}
