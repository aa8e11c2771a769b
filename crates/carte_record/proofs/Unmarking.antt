-- Marks that are put on and taken off again leave all as it was.
use Rattle.std.proofs.Common.{◌≡◌, ℕ, Bool, true, false, cond, List, [], ◌∷◌, Some, find, refl, ap, sym, ◌∙◌, inl, inr}
use Rattle.std.specs.Prelude.{if◌then◌else◌}
use Rattle.carte_name.specs.Names.{name_eq}
use Rattle.carte_value.specs.Truths.{Among, NoneTwice}
use Rattle.carte_record.specs.declared.entry.Entry.{Entry}
use Rattle.carte_record.specs.declared.kept.Kept.{Kept}
use Rattle.carte_record.specs.declared.way.Way.{Way}
use Rattle.carte_record.specs.declared.way.Way.TheVariants.{Verifying, Constructive, Deep}
use Rattle.carte_table.specs.Changes.{change_first}
use Rattle.carte_record.specs.Folds.{with_marks}
use Rattle.carte_record.specs.Kept.{kept_traces, kept_view, traces_in}
use Rattle.carte_record.specs.Lookups.{first_entry, is_entry_of}
use Rattle.carte_record.specs.Marked.{CanBeMarked, all_marked, lists_marked, marked_as}
use Rattle.carte_record.proofs.Growing.{kept_same}
use Rattle.carte_record.proofs.Marks.{marked_found}
use Rattle.carte_table.proofs.Names.{name_eq_is}

-- changes of items that are apart come in either order
swapped : {A : Type 0} (p q : A → Bool) (f g : A → A) (xs : List A) → ((y : A) → p y ≡ true → q y ≡ false) → ((y : A) → p (g y) ≡ p y) → ((y : A) → q (f y) ≡ q y)
    → change_first p f (change_first q g xs) ≡ change_first q g (change_first p f xs)
swapped p q f g [] apart keeps keeps' = refl
swapped {A = A} p q f g (x ∷ xs) apart keeps keeps' = on (p x) refl (q x) refl (swapped p q f g xs apart keeps keeps')
  where
    on : (s : Bool) → p x ≡ s → (t : Bool) → q x ≡ t → change_first p f (change_first q g xs) ≡ change_first q g (change_first p f xs)
        → change_first p f (if t then g x ∷ xs else x ∷ change_first q g xs) ≡ change_first q g (if s then f x ∷ xs else x ∷ change_first p f xs)
    on true here true there rest = let e : true ≡ false = sym there ∙ apart x here in cc
    on true here false there rest = rw (here, keeps' x, there) refl
    on false here true there rest = rw (keeps x, here, there) refl
    on false here false there rest = rw (here, there) (ap (λ ys. x ∷ ys) rest)

-- a mark that is taken off before others are put on
past : (xs : List Entry) (ks : List (List ℕ)) (k : List ℕ) → ¬ (Among ks k)
    → change_first (is_entry_of k) (marked_as false) (all_marked true xs ks) ≡ all_marked true (change_first (is_entry_of k) (marked_as false) xs) ks
past xs [] k new = refl
past xs (j ∷ js) k new =
    past (change_first (is_entry_of j) (marked_as true) xs) js k (λ among. new (inr among))
    ∙ ap (λ ys. all_marked true ys js) (swapped (is_entry_of k) (is_entry_of j) (marked_as false) (marked_as true) xs apart (λ y. refl) (λ y. refl))
  where
    apart : (y : Entry) → name_eq k y.key ≡ true → name_eq j y.key ≡ false
    apart y here = on (name_eq j y.key) refl
      where
        on : (t : Bool) → name_eq j y.key ≡ t → t ≡ false
        on true there = absurd (new (inl (name_eq_is k y.key here ∙ sym (name_eq_is j y.key there))))
        on false there = refl

-- one mark
one_back : (es : List Entry) (k : List ℕ) → ((e : Entry) → first_entry es k ≡ Some e → e.stale ≡ false)
    → change_first (is_entry_of k) (marked_as false) (change_first (is_entry_of k) (marked_as true) es) ≡ es
one_back [] k fresh = refl
one_back (x ∷ xs) k fresh = on (name_eq k x.key) refl fresh (one_back xs k)
  where
    on : (t : Bool) → name_eq k x.key ≡ t → ((e : Entry) → cond t (Some x) (find (is_entry_of k) xs) ≡ Some e → e.stale ≡ false)
        → (((e : Entry) → first_entry xs k ≡ Some e → e.stale ≡ false) → change_first (is_entry_of k) (marked_as false) (change_first (is_entry_of k) (marked_as true) xs) ≡ xs)
        → change_first (is_entry_of k) (marked_as false) (if t then marked_as true x ∷ xs else x ∷ change_first (is_entry_of k) (marked_as true) xs) ≡ x ∷ xs
    on true here first rest = rw here (ap (λ b. record x { stale = b } ∷ xs) (sym (first x refl)))
    on false here first rest = rw here (ap (λ ys. x ∷ ys) (rest first))

-- all of them
all_back : (es : List Entry) (ks : List (List ℕ)) → NoneTwice ks → ((k : List ℕ) (e : Entry) → Among ks k → first_entry es k ≡ Some e → e.stale ≡ false)
    → all_marked false (all_marked true es ks) ks ≡ es
all_back es [] once fresh = refl
all_back es (k ∷ ks) once fresh =
    ap (λ xs. all_marked false xs ks) (past (change_first (is_entry_of k) (marked_as true) es) ks k once.0
    ∙ ap (λ xs. all_marked true xs ks) (one_back es k (λ e found. fresh k e (inl refl) found)))
    ∙ all_back es ks once.1 (λ j e among found. fresh j e (inr among) found)

pub marked_back : (old new lists : Kept) (ks : List (List ℕ)) → CanBeMarked lists ks → old ≡ lists_marked lists ks → new ≡ record old { entries = all_marked false old.entries ks } → new ≡ lists
marked_back old new lists ks can is step =
    step ∙ (ap (λ (K : Kept). record K { entries = all_marked false K.entries ks }) is
    ∙ ap (λ es. record lists { entries = es }) (all_back lists.entries ks can.once can.unmarked))

pub marked_view : (K L : Kept) (ks : List (List ℕ)) → L ≡ lists_marked K ks → kept_view L ≡ with_marks (kept_view K) ks
marked_view K L ks is =
    ap kept_view is
    ∙ kept_same (kept_view (lists_marked K ks)) (with_marks (kept_view K) ks) (λ k. refl) (λ k. marked_found K.entries ks k) (λ w k. traces w k) refl (λ d. refl)
  where
    traces : (w : Way) (k : List ℕ) → traces_in w k (kept_traces w (lists_marked K ks)) [] ≡ traces_in w k (kept_traces w K) []
    traces Verifying k = refl
    traces Constructive k = refl
    traces Deep k = refl
