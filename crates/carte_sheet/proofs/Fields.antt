-- What one field gives.
use Rattle.std.proofs.Common.{◌≡◌, ℕ, ◌≤◌, ◌==◌, Bool, true, false, cond, List, [], ◌∷◌, length, Result, Ok, Err, refl, sym, subst, arith}
use Rattle.std.specs.Str.{IsUtf8, is_utf8, IsCharBoundary}
use Rattle.std.specs.Prelude.{slice_index}
use Rattle.std.specs.FinMap.{insert}
use Rattle.std.proofs.lemmas.Str.{is_utf8-from_IsUtf8, IsUtf8-from_is_utf8, IsCharBoundary-after_ascii}
use Rattle.carte_book.specs.declared.fault.BookFault.{BookFault}
use Rattle.carte_book.specs.declared.fault.BookFault.TheVariants.{NotUtf8}
use Rattle.carte_sheet.specs.Reading.{Content, Then, cell_of, text_of, ItemOf, ItemInto, FilledInto, FieldInto}
use Rattle.carte_sheet.specs.Places.{IsBefore}
use Rattle.carte_sheet.specs.Drafts.{Holds}
use Rattle.carte_sheet.specs.Steps.{LeavesItem, LeavesFilled, LeavesField}
use Rattle.carte_sheet.specs.declared.draft.Draft.{Draft}
use Rattle.carte_sheet.proofs.Cells.{before_column, before_more}

-- a text that begins with `=` may be cut behind it
pub equals_boundary : (t : List ℕ) → IsUtf8 t → (slice_index t 0 == 61) ≡ true → IsCharBoundary t 1
equals_boundary [] u e = cc
equals_boundary (b ∷ bs) u e = IsCharBoundary-after_ascii (b ∷ bs) 0 u (omega arith) (grind arith)

-- ---- a field that isn't empty

is_text : (k field : List ℕ) → IsUtf8 field → text_of k field ≡ Ok field
is_text k field u = rw (is_utf8-from_IsUtf8 field u) refl

no_text : (k field : List ℕ) → ¬ (IsUtf8 field) → text_of k field ≡ Err (NotUtf8 k)
no_text k field none = go (is_utf8 field) refl
  where
    go : (b : Bool) → is_utf8 field ≡ b → cond b (Ok field) (Err (NotUtf8 k)) ≡ Err (NotUtf8 k)
    go true e = absurd (none (IsUtf8-from_is_utf8 field e))
    go false e = refl

filled_so : (k field : List ℕ) (m : Content) (o : Result Content BookFault) → IsUtf8 field → ItemInto k field m o → FilledInto k field m o
filled_so k field m o u h = subst (λ (t : Result (List ℕ) BookFault). Then t (λ text. ItemInto k text m) o) (sym (is_text k field u)) h

pub leaves_filled : (k field : List ℕ) (m : Content) (d : Draft) (r : Result (Unit {0}) BookFault) → IsUtf8 field → LeavesItem (ItemOf k field) k m d r → LeavesFilled k field m d r
leaves_filled k field m d (Ok u) text (x, p, h) = (x, filled_so k field m (Ok (insert m k x)) text (Ok x, p, refl), h)
leaves_filled k field m d (Err fault) text h = λ cause. filled_so k field m (Err fault) text (Err fault, h cause, refl)

pub not_filled : (k field : List ℕ) (m : Content) → ¬ (IsUtf8 field) → FilledInto k field m (Err (NotUtf8 k))
not_filled k field m none = subst (λ (t : Result (List ℕ) BookFault). Then t (λ text. ItemInto k text m) (Err (NotUtf8 k))) (sym (no_text k field none)) refl

-- ---- a field at its place

pub leaves_empty : (r c : ℕ) (field : List ℕ) (m : Content) (d : Draft) → length field ≡ 0 → Holds d m → IsBefore m r c → LeavesField r c field m d (Ok tt)
leaves_empty r c [] m d e h before = (m, refl, h, before_column m r c before)
leaves_empty r c (b ∷ bs) m d e h before = absurd (omega (arith, e))

pub no_place : (r c : ℕ) (field : List ℕ) (m : Content) (fault : BookFault) → ¬ (length field ≡ 0) → cell_of r c ≡ Err fault → FieldInto r c field m (Err fault)
no_place r c [] m fault some e = absurd (some refl)
no_place r c (b ∷ bs) m fault some e = subst (λ (t : Result (List ℕ) BookFault). Then t (λ k. FilledInto k (b ∷ bs) m) (Err fault)) (sym e) refl

at_place : (r c : ℕ) (field k : List ℕ) (m : Content) (o : Result Content BookFault) → ¬ (length field ≡ 0) → cell_of r c ≡ Ok k → FilledInto k field m o → FieldInto r c field m o
at_place r c [] k m o some e h = absurd (some refl)
at_place r c (b ∷ bs) k m o some e h = subst (λ (t : Result (List ℕ) BookFault). Then t (λ j. FilledInto j (b ∷ bs) m) o) (sym e) h

pub leaves_field : (r c : ℕ) (field k : List ℕ) (m : Content) (d : Draft) (res : Result (Unit {0}) BookFault) → 1 ≤ r → 1 ≤ c → ¬ (length field ≡ 0) → cell_of r c ≡ Ok k → IsBefore m r c → LeavesFilled k field m d res → LeavesField r c field m d res
leaves_field r c field k m d (Ok u) a b some e before (x, p, h) = (insert m k x, at_place r c field k m (Ok (insert m k x)) some e p, h, before_more m r c k x before a b e)
leaves_field r c field k m d (Err fault) a b some e before h = λ cause. at_place r c field k m (Err fault) some e (h cause)
