-- That the laws speak of something: a book with a rule over which all their premises hold together.
use Rattle.std.specs.Prelude.{ℕ, pos, true, List, [], ◌∷◌, codes}
use Rattle.std.specs.FinMap.{empty, insert}
use Rattle.carte_name.specs.declared.kind.Kind.TheVariants.{Rules}
use Rattle.carte_value.specs.declared.value.Value.TheVariants.{Number}
use Rattle.carte_tree.specs.Tree.{ref}
use Rattle.carte_book.specs.Book.{Book, input, rule}
use Rattle.carte_book.specs.Needs.{IsRule}
use Rattle.carte_record.specs.Kept.{SomeKept, nothing_kept}
use Rattle.carte_sound.specs.Base.{HasDistinctDigests}
use Rattle.carte_sound.specs.Begun.{IsBeginning, begin, no_change}
use Rattle.carte_sound.specs.Finished.{AreFinished}
use Rattle.carte_sound.specs.Held.{How, IsHeld}
use Rattle.carte_sound.specs.Left.{left}
use Rattle.carte_sound.specs.Sound.{IsSound}

-- a is 1, and b is what a is. So all clean values are one value, and no digest has to be worked out
abbrev pub standing_book : Book
standing_book = record { kind = Rules; items = insert (insert empty (codes "a") (input (Number (pos 1)))) (codes "b") (rule (ref (codes "a"))) }

-- what a run of one key of a book leaves of nothing
abbrev pub left_of_run : How → Book → List ℕ → SomeKept
left_of_run h b k = left h b nothing_kept ((k, true) ∷ []) []

-- The key is a rule. A run of it is one that a build may make, over a history of this book alone, whose digests are distinct; what it leaves is sound;
-- of that nothing is to be marked or dropped, and the next build holds the key
pub record Stands (h : How) (b : Book) (k : List ℕ) : Type 0 where
  pub is_rule : IsRule b k
  pub distinct : HasDistinctDigests (b ∷ [])
  pub runs : AreFinished h b nothing_kept [] ((k, true) ∷ [])
  pub sound : IsSound (left_of_run h b k) (b ∷ [])
  pub unmarked : IsBeginning (left_of_run h b k) b no_change
  pub held : IsHeld h (begin (left_of_run h b k) no_change) b k
