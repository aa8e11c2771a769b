-- The names that a build drops are among those that have changed.
use Rattle.std.proofs.Common.{◌≡◌, ◌⊎◌, ℕ, Bool, true, false, ◌||◌, List, Option, Some, None, is_some, refl, ap, sym, ◌∙◌, inl, inr}
use Rattle.std.specs.Prelude.{◌↔◌}
use Rattle.carte_value.specs.declared.value.Value.{Value}
use Rattle.carte_value.specs.Truths.{Among, IsListOf}
use Rattle.carte_tree.specs.Tree.{Tree}
use Rattle.carte_book.specs.Book.{input, rule, Book, content}
use Rattle.carte_record.specs.Kept.{SomeKept}
use Rattle.carte_sound.specs.Begun as dropped
use Rattle.carte_sound.specs.Begun.{IsGone}
use Rattle.carte_sound.specs.Marks as marks
use Rattle.carte_sound.specs.Marks.{IsChanged}
use Rattle.carte_sound.proofs.Begun.{present_input}
use Rattle.carte_sound.proofs.Tasks.{rule_of_task}
use Rattle.carte_mark.specs.Marking.{ArePicked}
use Rattle.carte_mark.specs.Reached.{AreChanged}
use Rattle.carte_mark.proofs.Listing.{picked_list}

-- what is dropped has changed
gone_changed : (K : SomeKept) (b : Book) (k : List ℕ) → IsGone K b k → IsChanged K b k
gone_changed K b k (dropped.IsGone.seen d at none) = marks.IsChanged.seen d at (λ is. let v = present_input b k d is in none (v.0, v.1))
gone_changed K b k (dropped.IsGone.entry e at none) = marks.IsChanged.task e at (λ is. let f = rule_of_task b k e.task is in none (f.0, f.1))

pub all_gone : (K : SomeKept) (b : Book) (names picked result : List (List ℕ)) → ArePicked (IsGone K b) names picked → IsListOf (Among picked) result → AreChanged K b names → IsListOf (IsGone K b) result
all_gone K b names picked result are l changed = picked_list (IsGone K b) (IsGone K b) names picked result are l (λ k among gone. gone) (λ k gone. (changed.each k (gone_changed K b k gone), gone))

some_there : {A : Type 0} (o : Option A) → is_some o ≡ true → (x : A) × (o ≡ Some x)
some_there None is = cc
some_there (Some x) is = (x, refl)

there_some : {A : Type 0} (o : Option A) (x : A) → o ≡ Some x → is_some o ≡ true
there_some o x is = ap is_some is

-- an input is dropped where it has an entry
pub input_gone : (K : SomeKept) (b : Book) (k : List ℕ) (v : Value) (told : Bool) → content b k ≡ Some (input v) → told ≡ is_some (K.entries k) → (told ≡ true) ↔ IsGone K b k
input_gone K b k v told is same = (
  (λ yes_told. let e = some_there (K.entries k) (sym same ∙ yes_told) in dropped.IsGone.entry e.0 e.1 (λ r. let both : Some (input v) ≡ Some (rule r.0) = sym is ∙ r.1 in cc)),
  back,
)
  where
    back : IsGone K b k → told ≡ true
    back (dropped.IsGone.seen d at none) = absurd (none (v, is))
    back (dropped.IsGone.entry e at none) = same ∙ there_some (K.entries k) e at

-- a rule where it was seen
pub rule_gone : (K : SomeKept) (b : Book) (k : List ℕ) (f : Tree) (told : Bool) → content b k ≡ Some (rule f) → told ≡ is_some (K.seen k) → (told ≡ true) ↔ IsGone K b k
rule_gone K b k f told is same = (
  (λ yes_told. let d = some_there (K.seen k) (sym same ∙ yes_told) in dropped.IsGone.seen d.0 d.1 (λ v. let both : Some (rule f) ≡ Some (input v.0) = sym is ∙ v.1 in cc)),
  back,
)
  where
    back : IsGone K b k → told ≡ true
    back (dropped.IsGone.seen d at none) = same ∙ there_some (K.seen k) d at
    back (dropped.IsGone.entry e at none) = absurd (none (f, is))

either_true : (s t : Bool) → (s || t) ≡ true → (s ≡ true) ⊎ (t ≡ true)
either_true true t is = inl refl
either_true false t is = inr is

or_true : (s t : Bool) → t ≡ true → (s || t) ≡ true
or_true true t is = refl
or_true false t is = is

-- and what has nothing in either case
pub nothing_gone : (K : SomeKept) (b : Book) (k : List ℕ) (told : Bool) → content b k ≡ None → told ≡ (is_some (K.entries k) || is_some (K.seen k)) → (told ≡ true) ↔ IsGone K b k
nothing_gone K b k told is same = (
  (λ yes_told. elim (either_true (is_some (K.entries k)) (is_some (K.seen k)) (sym same ∙ yes_told)) [
    | inl kept ↦ (let e = some_there (K.entries k) kept in dropped.IsGone.entry e.0 e.1 (λ r. let both : None ≡ Some (rule r.0) = sym is ∙ r.1 in cc))
    | inr seen ↦ (let d = some_there (K.seen k) seen in dropped.IsGone.seen d.0 d.1 (λ v. let both : None ≡ Some (input v.0) = sym is ∙ v.1 in cc))
  ]),
  back,
)
  where
    back : IsGone K b k → told ≡ true
    back (dropped.IsGone.seen d at none) = same ∙ or_true (is_some (K.entries k)) (is_some (K.seen k)) (there_some (K.seen k) d at)
    back (dropped.IsGone.entry e at none) = same ∙ ap (λ t. t || is_some (K.seen k)) (there_some (K.entries k) e at)
