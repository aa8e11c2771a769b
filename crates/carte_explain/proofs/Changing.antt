-- What has changed, and at the end of a path how, by the tests.
use Rattle.std.proofs.Common.{◌≡◌, ℕ, Bool, true, false, ◌||◌, List, Option, Some, None, refl, ap, sym, ◌∙◌}
use Rattle.carte_value.specs.declared.digest.Digest.{Digest}
use Rattle.carte_book.specs.Book.{Book}
use Rattle.carte_book.specs.Task.{task_now}
use Rattle.carte_mark.specs.Reached.{has_changed, is_other, IsOther, IsSeenChanged}
use Rattle.carte_record.specs.declared.entry.Entry.{Entry}
use Rattle.carte_record.specs.Kept.{SomeKept}
use Rattle.carte_sound.specs.Marks as marks
use Rattle.carte_sound.specs.Marks.{IsChanged, present}
use Rattle.carte_explain.specs.Paths.{EndsIn, is_changed, is_seen_changed}
use Rattle.carte_explain.proofs.Digests.{alike, unlike}

module _ (K : SomeKept) (b : Book) (k : List ℕ) where
  seen_differs : has_changed (K.seen k) (present b k) ≡ true → IsSeenChanged K b k
  seen_differs = on (K.seen k) refl
    where
      on : (o : Option Digest) → K.seen k ≡ o → has_changed o (present b k) ≡ true → IsSeenChanged K b k
      on None is test = cc
      on (Some d) is test = record { digest = d; seen = is; differs = unlike (present b k) d test }

  task_differs : is_other (K.entries k) (task_now b k) ≡ true → IsOther K b k
  task_differs = on (K.entries k) refl
    where
      on : (o : Option Entry) → K.entries k ≡ o → is_other o (task_now b k) ≡ true → IsOther K b k
      on None is test = cc
      on (Some e) is test = record { entry = e; kept = is; differs = unlike (task_now b k) e.task test }

  either : (s t : Bool) → (s || t) ≡ false → (s ≡ false) × (t ≡ false)
  either true t off = cc
  either false t off = (refl, off)

  pub changed : is_changed K b k ≡ true → IsChanged K b k
  changed = on (has_changed (K.seen k) (present b k)) refl
    where
      on : (t : Bool) → has_changed (K.seen k) (present b k) ≡ t → (t || is_other (K.entries k) (task_now b k)) ≡ true → IsChanged K b k
      on true is test = let s = seen_differs is in marks.IsChanged.seen s.digest s.seen s.differs
      on false is test = let o = task_differs test in marks.IsChanged.task o.entry o.kept o.differs

  pub unchanged : is_changed K b k ≡ false → ¬ (IsChanged K b k)
  unchanged test = on (either (has_changed (K.seen k) (present b k)) (is_other (K.entries k) (task_now b k)) test)
    where
      on : (has_changed (K.seen k) (present b k) ≡ false) × (is_other (K.entries k) (task_now b k) ≡ false) → ¬ (IsChanged K b k)
      on off (marks.IsChanged.seen d seen differs) = differs (alike (present b k) d (ap (λ o. has_changed o (present b k)) (sym seen) ∙ off.0))
      on off (marks.IsChanged.task e kept differs) = differs (alike (task_now b k) e.task (ap (λ o. is_other o (task_now b k)) (sym kept) ∙ off.1))

  -- what has changed and wasn't seen so has another task
  pub other_task : has_changed (K.seen k) (present b k) ≡ false → IsChanged K b k → IsOther K b k
  other_task off (marks.IsChanged.seen d seen differs) = absurd (differs (alike (present b k) d (ap (λ o. has_changed o (present b k)) (sym seen) ∙ off)))
  other_task off (marks.IsChanged.task e kept differs) = record { entry = e; kept = kept; differs = differs }

module _ (K : SomeKept) (b : Book) (path : List (List ℕ)) (ends : EndsIn (IsChanged K b) path) where
  pub ends_seen : is_seen_changed K b (Some ends.0) ≡ true → EndsIn (IsSeenChanged K b) path
  ends_seen test = (ends.0, ends.1, seen_differs K b ends.0 test)

  pub ends_other : is_seen_changed K b (Some ends.0) ≡ false → EndsIn (IsOther K b) path
  ends_other test = (ends.0, ends.1, other_task K b ends.0 test ends.2)
