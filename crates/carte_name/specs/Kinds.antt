-- Names by the kind of book that has them.
use Rattle.std.specs.Prelude.{ℕ, Bool, List}
use Rattle.std.specs.Str.{str_to_ascii_uppercase}
use Rattle.carte_name.specs.declared.kind.Kind.{Kind}
use Rattle.carte_name.specs.declared.kind.Kind.TheVariants.{Rules, Sheet}
use Rattle.carte_name.specs.Names.{is_rule_name, is_cell_name, is_cell_text}

abbrev pub is_name_of : Kind → List ℕ → Bool
is_name_of Rules k = is_rule_name k
is_name_of Sheet k = is_cell_name k

-- the text is read as a name of this kind
abbrev pub is_text_of : Kind → List ℕ → Bool
is_text_of Rules t = is_rule_name t
is_text_of Sheet t = is_cell_text t

-- and this is the name
abbrev pub name_of : Kind → List ℕ → List ℕ
name_of Rules t = t
name_of Sheet t = str_to_ascii_uppercase t
