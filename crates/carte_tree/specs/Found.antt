-- The names that a text is, or that its lines are.
use Rattle.std.specs.Prelude.{ℕ, List, Option, Some, None, Result, Ok, Err, if◌then◌else◌}
use Rattle.carte_name.specs.declared.kind.Kind.{Kind}
use Rattle.carte_name.specs.Kinds.{is_text_of, name_of}
use Rattle.carte_value.specs.declared.value.Bad.TheVariants as bad
use Rattle.carte_value.specs.declared.value.Value.{Value}
use Rattle.carte_value.specs.declared.value.Value.TheVariants.{Text, Bad}
use Rattle.carte_tree.specs.Coercions.{text_of, each_as}
use Rattle.carte_tree.specs.Texts.{lines}

-- the name of this kind that the text is read as
abbrev pub named : Kind → List ℕ → Option (List ℕ)
named kind t = if is_text_of kind t then Some (name_of kind t) else None

abbrev pub or_no_name : {A : Type 0} → Option A → Result A Value
or_no_name None = Err (Bad bad.Ref)
or_no_name (Some a) = Ok a

-- the name that a value is, or what INDIRECT gives in place of the look-up
abbrev pub name_in : Kind → Value → Result (List ℕ) Value
name_in kind (Text t) = or_no_name (named kind t)
name_in kind (Bad b) = Err (Bad b)
name_in kind v = Err (Bad bad.Ref)

-- the names that its lines are, or what GATHER gives in place of the look-ups
abbrev pub names_in : Kind → Value → Result (List (List ℕ)) Value
names_in kind (Bad b) = Err (Bad b)
names_in kind v = or_no_name (each_as (named kind) (lines (text_of v)))
