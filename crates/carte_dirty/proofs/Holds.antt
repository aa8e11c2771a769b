-- Which keys the marking leaves held.
use Rattle.std.proofs.Common.{◌≡◌, ℕ, Bool, true, false, not, ◌&&◌, ◌||◌, List, Some, ap, ◌∙◌, inl, refl}
use Rattle.carte_book.specs.Book.{Book}
use Rattle.carte_record.specs.declared.entry.Entry.{Entry}
use Rattle.carte_record.specs.Folds.{is_among}
use Rattle.carte_record.specs.Kept.{SomeKept, is_fresh, staled}
use Rattle.carte_sound.specs.Begun as dropped
use Rattle.carte_sound.specs.Begun.{IsGone, Beginning, IsBeginning, begin}
use Rattle.carte_sound.specs.Held.{dirty, IsHeld}
use Rattle.carte_sound.specs.Marks as marks
use Rattle.carte_sound.specs.Marks.{IsFresh, IsChanged, Comes}
use Rattle.carte_sound.proofs.Begun.{entry_before, entry_there, present_input}
use Rattle.carte_sound.proofs.Tasks.{rule_of_task}
use Rattle.carte_sound.proofs.Tests.{among_tested, not_among}

-- what is dropped has changed
gone_changed : (K : SomeKept) (b : Book) (k : List ℕ) → IsGone K b k → IsChanged K b k
gone_changed K b k (dropped.IsGone.seen d at none) = marks.IsChanged.seen d at (λ is. let v = present_input b k d is in none (v.0, v.1))
gone_changed K b k (dropped.IsGone.entry e at none) = marks.IsChanged.task e at (λ is. let r = rule_of_task b k e.task is in none (r.0, r.1))

pub unchanged : (K : SomeKept) (b : Book) (k : List ℕ) (x : Beginning) → IsBeginning K b x → IsFresh K k → ((i : List ℕ) → Comes K k i → ¬ (IsChanged K b i)) → IsHeld dirty (begin K x) b k
unchanged K b k x begins f stays = record {
  entry = f.entry;
  kept = entry_there K x k f.entry there f.kept ∙ ap (λ m. Some (staled m f.entry)) unmarked;
  fresh = f.fresh;
}
  where
    there : is_among x.gone k ≡ false
    there = not_among x.gone k (λ among. stays k (inl refl) (gone_changed K b k (begins.gone.only k among)))

    unmarked : is_among x.marks k ≡ false
    unmarked = not_among x.marks k (λ among. let m = begins.marks.only k among in stays m.name m.leads m.changed)

not_fresh : (x : Entry) → x.stale ≡ true → is_fresh x ≡ false
not_fresh x stale = ap (λ t. not t && not x.shallow) stale

either : (x y : Bool) → x ≡ true → (x || y) ≡ true
either x y is = ap (λ t. t || y) is

other : (x y : Bool) → y ≡ true → (x || y) ≡ true
other true y is = refl
other false y is = is

-- the entry of a key that comes to a change is stale, or is marked
is_stale : (K : SomeKept) (b : Book) (k i : List ℕ) (x : Beginning) → IsBeginning K b x → Comes K k i → IsChanged K b i → (e : Entry) → K.entries k ≡ Some e → (is_among x.marks k || e.stale) ≡ true
is_stale K b k i x begins comes changed e kept = by_mark e.stale refl
  where
    by_mark : (s : Bool) → e.stale ≡ s → (is_among x.marks k || e.stale) ≡ true
    by_mark true is = other (is_among x.marks k) e.stale is
    by_mark false is = either (is_among x.marks k) e.stale (among_tested x.marks k (begins.marks.each k (record { entry = e; kept = kept; unmarked = is; name = i; leads = comes; changed = changed })))

pub changed_not_held : (K : SomeKept) (b : Book) (k i : List ℕ) (x : Beginning) → IsBeginning K b x → Comes K k i → IsChanged K b i → ¬ (IsHeld dirty (begin K x) b k)
changed_not_held K b k i x begins comes changed held =
    let before = entry_before K x k held.entry held.kept in
    let stale = is_stale K b k i x begins comes changed before.1 before.2 in
    let never : is_fresh held.entry ≡ false = ap is_fresh before.3 ∙ not_fresh (staled (is_among x.marks k) before.1) stale in
    let fresh : is_fresh held.entry ≡ true = held.fresh in
    cc
