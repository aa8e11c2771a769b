-- What a build begins with, for the history with its book.
use Rattle.std.proofs.Common.{List, [], ◌∷◌, ◌++◌, refl, inl, inr}
use Rattle.carte_book.specs.Book.{Book}
use Rattle.carte_record.specs.Kept.{SomeKept}
use Rattle.carte_value.specs.Lists.{Has}
use Rattle.carte_sound.specs.Begun.{Beginning, IsBeginning, begin}
use Rattle.carte_sound.specs.Sound.{IsSound}
use Rattle.carte_sound.specs.Base.{HasDistinctDigests, IsBase}
use Rattle.carte_sound.proofs.Fresh.{all_now}
use Rattle.carte_sound.proofs.Begun.{begun_true, begun_sound, begun_keys, begun_inputs}
use Rattle.carte_sound.proofs.Histories.{longer_sound}

pub has_left : {A : Type 0} (xs ys : List A) (x : A) → Has xs x → Has (xs ++ ys) x
has_left [] ys x there = absurd there
has_left (z ∷ zs) ys x (inl same) = inl same
has_left (z ∷ zs) ys x (inr later) = inr (has_left zs ys x later)

pub has_right : {A : Type 0} (xs ys : List A) (x : A) → Has ys x → Has (xs ++ ys) x
has_right [] ys x there = there
has_right (z ∷ zs) ys x there = inr (has_right zs ys x there)

-- the present book behind a history
pub has_last : (H : List Book) (b : Book) → Has (H ++ b ∷ []) b
has_last H b = has_right H (b ∷ []) b (inl refl)

-- a longer history keeps what is kept sound
pub behind_sound : (K : SomeKept) (H J : List Book) → IsSound K H → IsSound K (H ++ J)
behind_sound K H J sound = longer_sound K H (H ++ J) (λ c there. has_left H J c there) sound

-- where digests are distinct over a history, they are over the front of it
pub front_distinct : (H J : List Book) → HasDistinctDigests (H ++ J) → HasDistinctDigests H
front_distinct H J distinct = record {
  values = λ b c j k v w in_b in_c has also same. distinct.values b c j k v w (has_left H J b in_b) (has_left H J c in_c) has also same;
  rules = λ b c in_b in_c same. distinct.rules b c (has_left H J b in_b) (has_left H J c in_c) same;
  tasks = λ b c j k f g in_b in_c at_b at_c same. distinct.tasks b c j k f g (has_left H J b in_b) (has_left H J c in_c) at_b at_c same;
}

-- what a build begins with may be relied on
pub begun_base : (K : SomeKept) (b : Book) (H : List Book) (x : Beginning) → IsSound K H → Has H b → HasDistinctDigests H → IsBeginning K b x → IsBase (begin K x) b H
begun_base K b H x sound stands distinct begins = record {
  sound = begun_sound K H b sound stands distinct x begins;
  present = stands;
  distinct = distinct;
  keys = begun_keys K H b sound stands distinct x begins;
  inputs = begun_inputs K H b sound stands distinct x begins;
  now = all_now (begin K x) b (begun_true K H b sound stands distinct x begins);
}
