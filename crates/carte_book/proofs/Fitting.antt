-- What a book holds fits its kind.
use Rattle.std.proofs.Common.{◌≡◌, ℕ, true, false, cond, IsTrue, List, [], ◌∷◌, Option, Some, None, if◌then◌else◌, Result, Ok, Err, OnOk, OnErr, refl, ap, sym, ◌∙◌}
use Rattle.std.specs.HashMap as hash
use Rattle.indexmap.specs.IndexMap.{insert_entry}
use Rattle.std.specs.Map.{lookup, set_value}
use Rattle.std.specs.Cmp.Lexicographic.{bytes_decides}
use Rattle.carte_name.specs.declared.kind.Kind.{Kind}
use Rattle.carte_name.specs.declared.kind.Kind.TheVariants.{Rules, Sheet}
use Rattle.carte_name.specs.Kinds.{is_name_of}
use Rattle.carte_name.specs.Names.{name_eq}
use Rattle.carte_book.specs.declared.book.Item.{Item as CodeItem}
use Rattle.carte_book.specs.declared.book.Book.{Book as CodeBook}
use Rattle.carte_book.specs.Fits.{FitsItem, Fits}
use Rattle.carte_book.specs.Book.{default_of, content, item_view, entries_view, book_view}
use Rattle.carte_book.specs.Looked.{HasNoOthers}
use Rattle.carte_book.proofs.Books.{Map, item_found}

abbrev pub Entries : Type 0
Entries = List (List ℕ × CodeItem)

pub fits_one_more : (q : Kind) (es : Entries) (k : List ℕ) (x : CodeItem) → IsTrue (is_name_of q k) → FitsItem q x → Fits q es → Fits q (insert_entry name_eq es k x)
fits_one_more q [] k x named fits all = ((named, fits), tt)
fits_one_more q (e ∷ es) k x named fits all = elim (name_eq k e.0) as (λ b. Fits q (if b then (e.0, x) ∷ es else e ∷ insert_entry name_eq es k x)) [
  | true ↦ ((all.0.0, fits), all.1)
  | false ↦ (all.0, fits_one_more q es k x named fits all.1)
]

-- what was put fits, and what couldn't be put changed nothing
pub fits_put : {A B S : Type 0} (q : Kind) (m n : Map S) (k : List ℕ) (x : CodeItem) (r : Result A B) → IsTrue (is_name_of q k) → FitsItem q x → OnOk r (n.entries ≡ insert_entry name_eq m.entries k x) → OnErr r (n.entries ≡ m.entries) → Fits q m.entries → Fits q n.entries
fits_put q m n k x (Ok a) named fits put kept all = rw put (fits_one_more q m.entries k x named fits all)
fits_put q m n k x (Err e) named fits put kept all = rw kept all

-- what is written at a name fits
pub fits_set : (q : Kind) (es : Entries) (k : List ℕ) (x : CodeItem) → FitsItem q x → Fits q es → Fits q (set_value (name_eq k) es x)
fits_set q [] k x fits all = tt
fits_set q (e ∷ es) k x fits all = elim (name_eq k e.0) as (λ b. Fits q (cond b ((e.0, x) ∷ es) (e ∷ set_value (name_eq k) es x))) [
  | true ↦ ((all.0.0, fits), all.1)
  | false ↦ (all.0, fits_set q es k x fits all.1)
]

-- and isn't seen, where it stands for what was there
pub view_set : (es : Entries) (k : List ℕ) (x y : CodeItem) → lookup (name_eq k) es ≡ Some x → item_view y ≡ item_view x → entries_view (set_value (name_eq k) es y) ≡ entries_view es
view_set [] k x y found same = refl
view_set (e ∷ es) k x y found same = elim (name_eq k e.0) as (λ b. cond b (Some e.1) (lookup (name_eq k) es) ≡ Some x → entries_view (cond b ((e.0, y) ∷ es) (e ∷ set_value (name_eq k) es y)) ≡ entries_view (e ∷ es)) [
  | true ↦ λ here. let is : e.1 ≡ x = cc in ap (λ v. (e.0, v) ∷ entries_view es) (same ∙ ap item_view (sym is))
  | false ↦ λ later. ap (λ vs. (e.0, item_view e.1) ∷ vs) (view_set es k x y later same)
] found

-- what is found fits, at a name of the kind
pub fits_found : (q : Kind) (es : Entries) (k : List ℕ) (x : CodeItem) → Fits q es → lookup (name_eq k) es ≡ Some x → IsTrue (is_name_of q k) × FitsItem q x
fits_found q [] k x all found = cc
fits_found q (e ∷ es) k x all found = elim (name_eq k e.0) as (λ b. name_eq k e.0 ≡ b → cond b (Some e.1) (lookup (name_eq k) es) ≡ Some x → IsTrue (is_name_of q k) × FitsItem q x) [
  | true ↦ λ tied here. let same : k ≡ e.0 = (bytes_decides k e.0).0 tied in let is : e.1 ≡ x = cc in rw same (rw is at all.0)
  | false ↦ λ apart later. fits_found q es k x all.1 later
] refl found

pub found_fits : (b : CodeBook) (k : List ℕ) (x : CodeItem) → hash.get name_eq b.items k ≡ Some x → FitsItem b.kind x
found_fits b k x found = (fits_found b.kind b.items.entries k x b.fits found).1

pub no_others : (b : CodeBook) → HasNoOthers (book_view b)
no_others b k other = absent (hash.get name_eq b.items k) refl
  where
    no_default : (q : Kind) → is_name_of q k ≡ false → default_of q k ≡ None
    no_default Rules h = refl
    no_default Sheet h = rw h refl

    absent : (o : Option CodeItem) → hash.get name_eq b.items k ≡ o → content (book_view b) k ≡ None
    absent None is = rw (item_found b k) (rw is (no_default b.kind other))
    absent (Some x) is = let named = (fits_found b.kind b.items.entries k x b.fits is).0 in cc
