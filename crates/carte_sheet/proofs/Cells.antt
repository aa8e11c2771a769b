-- Cells of places, and contents that have only earlier cells.
use Rattle.std.proofs.Common.{◌≡◌, inl, inr, ℕ, ◌+◌, ◌≤◌, Bool, true, false, cond, nat_lt, List, Option, Some, None, is_some, Ok, Err, IsTrue, refl, ap, sym, ◌∙◌, subst, arith}
use Rattle.std.specs.Ordering.{eq_by_cmp}
use Rattle.std.specs.FinMap.{get, insert, empty, get-insert, get-empty}
use Rattle.std.proofs.lemmas.Bool.{false≢true}
use Rattle.std.proofs.lemmas.Bool.Decides.{nat_tests}
use Rattle.std.proofs.lemmas.Cmp.{nat_list_cmp_total}
use Rattle.carte_name.specs.Names.{name_cmp, is_cell_name}
use Rattle.carte_name.specs.Places.{cell_at, row_of, column_of, IsPlace}
use Rattle.carte_name.proofs.Places.{cells_by_place}
use Rattle.carte_book.proofs.Clean.{tied_name}
use Rattle.carte_book.specs.Book.{Item}
use Rattle.carte_book.specs.declared.fault.BookFault.TheVariants.{Limit}
use Rattle.carte_book.specs.declared.fault.Which.TheVariants.{Rows, Columns}
use Rattle.carte_sheet.specs.Reading.{Content, cell_of}
use Rattle.carte_sheet.specs.Places.{IsEarlier, IsBefore}

below : (a b : ℕ) → nat_lt b a ≡ false → a ≤ b
below a b e = grind (arith, nat_tests)

-- a place that has a cell lies in the sheet, and this is the cell
pub placed : (r c : ℕ) (k : List ℕ) → 1 ≤ r → 1 ≤ c → cell_of r c ≡ Ok k → IsPlace c r × (cell_at c r ≡ k)
placed r c k one_row one_column e = go (nat_lt 9999 r) refl (nat_lt 702 c) refl e
  where
    go : (a : Bool) → nat_lt 9999 r ≡ a → (b : Bool) → nat_lt 702 c ≡ b
        → cond a (Err (Limit Rows 9999)) (cond b (Err (Limit Columns 702)) (Ok (cell_at c r))) ≡ Ok k → IsPlace c r × (cell_at c r ≡ k)
    go true x b y h = cc
    go false x true y h = cc
    go false x false y h =
        (record { first_column = one_column; last_column = below c 702 y; first_row = one_row; last_row = below r 9999 x }, cc)

pub cell_named : (r c : ℕ) (k : List ℕ) → 1 ≤ r → 1 ≤ c → cell_of r c ≡ Ok k → IsTrue (is_cell_name k)
cell_named r c k a b e = let p = placed r c k a b e in subst (λ (q : List ℕ). IsTrue (is_cell_name q)) p.1 (cells_by_place.cell c r p.0)

row_is : (r c : ℕ) (k : List ℕ) → 1 ≤ r → 1 ≤ c → cell_of r c ≡ Ok k → row_of k ≡ r
row_is r c k a b e = let p = placed r c k a b e in subst (λ (q : List ℕ). row_of q ≡ r) p.1 (cells_by_place.row c r p.0)

column_is : (r c : ℕ) (k : List ℕ) → 1 ≤ r → 1 ≤ c → cell_of r c ≡ Ok k → column_of k ≡ c
column_is r c k a b e = let p = placed r c k a b e in subst (λ (q : List ℕ). column_of q ≡ c) p.1 (cells_by_place.column c r p.0)

not_earlier : (k : List ℕ) (r c : ℕ) → row_of k ≡ r → column_of k ≡ c → ¬ (IsEarlier k r c)
not_earlier k r c row column (inl h) = omega (arith, row, h)
not_earlier k r c row column (inr h) = omega (arith, column, h.1)

-- nothing stands at the next cell yet
pub fresh : (m : Content) (r c : ℕ) (k : List ℕ) → IsBefore m r c → 1 ≤ r → 1 ≤ c → cell_of r c ≡ Ok k → get m k ≡ None
fresh m r c k before a b e = go (get m k) refl
  where
    go : (o : Option Item) → get m k ≡ o → get m k ≡ None
    go None is = is
    go (Some x) is = absurd (not_earlier k r c (row_is r c k a b e) (column_is r c k a b e) (before.each k (ap is_some is)))

later_column : (k : List ℕ) (r c : ℕ) → IsEarlier k r c → IsEarlier k r (c + 1)
later_column k r c (inl h) = inl h
later_column k r c (inr h) = inr (h.0, omega (arith, h.1))

later_row : (k : List ℕ) (r c : ℕ) → IsEarlier k r c → IsEarlier k (r + 1) 1
later_row k r c (inl h) = inl (omega (arith, h))
later_row k r c (inr h) = inl (omega (arith, h.0))

pub before_first : IsBefore empty 1 1
before_first = record { each = λ k e. absurd (false≢true (sym (ap is_some (get-empty name_cmp k)) ∙ e)) }

pub before_column : (m : Content) (r c : ℕ) → IsBefore m r c → IsBefore m r (c + 1)
before_column m r c h = record { each = λ k e. later_column k r c (h.each k e) }

pub before_row : (m : Content) (r c : ℕ) → IsBefore m r c → IsBefore m (r + 1) 1
before_row m r c h = record { each = λ k e. later_row k r c (h.each k e) }

-- with the cell at the place
pub before_more : (m : Content) (r c : ℕ) (k : List ℕ) (x : Item) → IsBefore m r c → 1 ≤ r → 1 ≤ c → cell_of r c ≡ Ok k → IsBefore (insert m k x) r (c + 1)
before_more m r c k x h a b e = record { each = λ q is. go q (eq_by_cmp name_cmp q k) refl (sym (ap is_some (get-insert nat_list_cmp_total m k x q)) ∙ is) }
  where
    go : (q : List ℕ) (t : Bool) → eq_by_cmp name_cmp q k ≡ t → is_some (cond (eq_by_cmp name_cmp q k) (Some x) (get m q)) ≡ true → IsEarlier q r (c + 1)
    go q true same is = let k_is : q ≡ k = tied_name q k same in inr (ap row_of k_is ∙ row_is r c k a b e, omega (arith, ap column_of k_is, column_is r c k a b e))
    go q false same is = later_column q r c (h.each q (rw same at is))
