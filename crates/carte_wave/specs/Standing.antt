-- What stands between the waves of a build, and how many are left.
use Rattle.std.specs.Prelude.{ℕ, ◌≡◌, ◌+◌, ◌≤◌, ◌<◌, ◌⊎◌, true, false, List, [], ◌∷◌, Option, Some, None}
use Rattle.std.specs.FinMap.{entries}
use Rattle.carte_value.specs.Truths.{Among}
use Rattle.carte_book.specs.Book.{Item, Book, content}
use Rattle.carte_book.specs.Needs.{IsRule}
use Rattle.carte_bench.specs.declared.slot.Slot.{Slot}
use Rattle.carte_bench.specs.declared.slot.Slot.TheVariants.{Ready, Stopped, Out, Done}
use Rattle.carte_bench.specs.Spots.{Spots, AreNamed, is_done, is_ready}
use Rattle.carte_progress.specs.Standing.{IsDemanded}
use Rattle.carte_wave.specs.Front.{Line}

-- the name has nothing; or it is open, and the line knows that the key waits for it
abbrev pub IsHeldBy : {J : Type 0} → Book → Spots J → Line → List ℕ → List ℕ → Type 0
IsHeldBy b v f n k = (content b n ≡ None) ⊎ (Among (f.waits n) k × (is_done (v n) ≡ false))

-- Each open key can go on, as the line says, or is one of these, which the present wave took; or it waits for a name that
-- has nothing, or for one of which the line knows that it waits.
pub record IsLined {J : Type 0} (name : J → List ℕ) (b : Book) (v : Spots J) (taken : List (List ℕ)) (f : Line) : Type 0 where
  pub rules : (k : List ℕ) (x : Slot J) → v k ≡ Some x → IsRule b k
  pub named : AreNamed name v
  pub none_out : (k : List ℕ) → v k ≡ Some Out → ⊥
  pub ready_is : (k : List ℕ) → f.ready k ≡ true → is_ready v (v k) ≡ true
  pub taken_is : (k : List ℕ) → Among taken k → is_ready v (v k) ≡ true
  pub apart : (k : List ℕ) → f.ready k ≡ true → Among taken k → ⊥
  pub waits_is : (n k : List ℕ) → Among (f.waits n) k → is_done (v n) ≡ false → (p : J) × (v k ≡ Some (Stopped p n))
  pub fresh : (k : List ℕ) (p : J) → v k ≡ Some (Ready p) → (f.ready k ≡ true) ⊎ Among taken k
  pub stopped : (k n : List ℕ) (p : J) → v k ≡ Some (Stopped p n) → ((f.ready k ≡ true) ⊎ Among taken k) ⊎ IsHeldBy b v f n k

-- what is waited for was demanded
abbrev pub AreWanted : {J : Type 0} → Spots J → Line → Type 0
AreWanted v f = (n k : List ℕ) → Among (f.waits n) k → IsDemanded v n

-- a rule that wasn't demanded has two steps before it, and one that isn't done has one
abbrev pub weight : {J : Type 0} → Option (Slot J) → ℕ
weight None = 2
weight (Some (Ready p)) = 1
weight (Some (Stopped p n)) = 1
weight (Some Out) = 1
weight (Some (Done m)) = 0

abbrev pub left_in : {J : Type 0} → Spots J → List (List ℕ × Item) → ℕ
left_in v [] = 0
left_in v ((k, x) ∷ es) = weight (v k) + left_in v es

abbrev pub left : {J : Type 0} → Book → Spots J → ℕ
left b v = left_in v (entries b.items)

abbrev pub one_where : List (List ℕ) → ℕ
one_where [] = 0
one_where (k ∷ ks) = 1

-- no build has more waves left
abbrev pub waves_left : {J : Type 0} → Book → Spots J → List (List ℕ) → ℕ
waves_left b v keys = left b v + one_where keys

-- since the wave began no name has more steps before it; and there are fewer where a key can go on by now
pub record IsFewer {J : Type 0} (b : Book) (before v : Spots J) (f : Line) : Type 0 where
  pub lighter : (q : List ℕ) → weight (v q) ≤ weight (before q)
  pub fewer : (k : List ℕ) → f.ready k ≡ true → left b v < left b before
