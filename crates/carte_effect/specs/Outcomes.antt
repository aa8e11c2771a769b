-- What a task came to.
use Rattle.std.specs.Prelude.{ℕ, List, [], ◌∷◌}
use Rattle.carte_value.specs.declared.value.Value.{Value}
use Rattle.carte_value.specs.declared.link.Link.{Link}
use Rattle.carte_value.specs.Once.{Answers}
use Rattle.carte_value.specs.Spelling.{digest_of}

pub record Outcome : Type 0 where
  pub key : List ℕ
  pub value : Value
  pub links : List Link

-- the names with the digests of their values, in order
abbrev pub links_of : Answers → List Link
links_of [] = []
links_of ((k, v) ∷ a) = record { name = k; digest = digest_of v } ∷ links_of a
