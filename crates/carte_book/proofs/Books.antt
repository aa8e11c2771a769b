-- Books in memory beside the books that they stand for.
use Rattle.std.proofs.Common.{◌≡◌, ℕ, suc, ◌+◌, Bool, true, false, cond, List, [], ◌∷◌, length, option_map, Option, Some, None, is_some, refl, ap, sym, subst, ◌∙◌, arith}
use Rattle.std.specs.Ordering.{eq_by_cmp}
use Rattle.std.specs.Map.{lookup, keys_of}
use Rattle.std.specs.List.{AllByRecursion, IsDistinct}
use Rattle.std.specs.HashMap as hash
use Rattle.std.specs.HashMap.{HashMap}
use Rattle.std.specs.FinMap.{FinMap, from_entries, get, insert, len, find, get-from_entries, get-insert, len-empty, len-entries, len-insert, same_map, slice_cmp-IsAntisymmetric, nat_cmp-IsAntisymmetric}
use Rattle.std.specs.Cmp.{eq_by_cmp_equiv}
use Rattle.std.proofs.lemmas.Cmp.{nat_list_cmp_total}
use Rattle.std.proofs.lemmas.Map.Keys.{IsDistinct-head, IsDistinct-tail}
use Rattle.std.proofs.lemmas.Map.Text.{is_eq-slice_cmp}
use Rattle.carte_name.specs.Names.{name_cmp, name_eq}
use Rattle.carte_book.specs.declared.book.Item.{Item as CodeItem}
use Rattle.carte_book.specs.declared.book.Book.{Book as CodeBook}
use Rattle.carte_book.specs.Book.{Item, Book, default_of, or_default, content, item_view, entries_view, book_view}
use Rattle.carte_book.specs.Edits.{keys_of as keys_of_book, with_item}

abbrev pub Map : Type 0 → Type 0
Map S = HashMap (List ℕ) CodeItem S

-- names are equal where their order doesn't tell them apart
pub names_tie : name_eq ≡ eq_by_cmp name_cmp
names_tie = λ i k q. sym (is_eq-slice_cmp k q) i

-- what is found by the order of names is what is found by the names
pub found_by : {X : Type 0} (es : List (List ℕ × X)) (k : List ℕ) → find name_cmp k es ≡ lookup (name_eq k) es
found_by [] k = refl
found_by (e ∷ es) k = λ i. cond (is_eq-slice_cmp k e.0 i) (Some e.1) (found_by es k i)

viewed : (es : List (List ℕ × CodeItem)) (k : List ℕ) → find name_cmp k (entries_view es) ≡ option_map item_view (find name_cmp k es)
viewed [] k = refl
viewed (e ∷ es) k =
    elim (eq_by_cmp name_cmp k e.0) as (λ b. cond b (Some (item_view e.1)) (find name_cmp k (entries_view es)) ≡ option_map item_view (cond b (Some e.1) (find name_cmp k es))) [
      | true ↦ refl
      | false ↦ viewed es k
    ]

-- the entries of a map as a book has them
abbrev pub items_view : {S : Type 0} → Map S → FinMap name_cmp Item
items_view m = from_entries (entries_view m.entries)

got : {S : Type 0} (m : Map S) (k : List ℕ) → get (items_view m) k ≡ option_map item_view (hash.get name_eq m k)
got m k = get-from_entries nat_list_cmp_total (entries_view m.entries) k ∙ viewed m.entries k ∙ ap (option_map item_view) (found_by m.entries k)

-- what the map finds is what the book holds
pub item_found : (b : CodeBook) (k : List ℕ) → get (book_view b).items k ≡ option_map item_view (hash.get name_eq b.items k)
item_found b k = got b.items k

viewed_some : (o : Option CodeItem) → is_some o ≡ is_some (option_map item_view o)
viewed_some None = refl
viewed_some (Some x) = refl

-- the map finds something exactly where the book holds it
pub has_found : (b : CodeBook) (k : List ℕ) → is_some (hash.get name_eq b.items k) ≡ is_some (get (book_view b).items k)
has_found b k = viewed_some (hash.get name_eq b.items k) ∙ ap is_some (sym (item_found b k))

turned : (b : Bool) (x : CodeItem) (o : Option CodeItem) → option_map item_view (cond b (Some x) o) ≡ cond b (Some (item_view x)) (option_map item_view o)
turned true x o = refl
turned false x o = refl

-- one entry that is put
pub one_put : {S : Type 0} (m n : Map S) (k : List ℕ) (x : CodeItem) → ((q : List ℕ) → hash.get name_eq n q ≡ cond (name_eq k q) (Some x) (hash.get name_eq m q)) → items_view n ≡ insert (items_view m) k (item_view x)
one_put m n k x put = same_map nat_list_cmp_total (slice_cmp-IsAntisymmetric nat_cmp-IsAntisymmetric) _ _ (λ q.
    got n q ∙ ap (option_map item_view) (put q) ∙ turned (name_eq k q) x (hash.get name_eq m q)
    ∙ ap (λ t. cond t (Some (item_view x)) (option_map item_view (hash.get name_eq m q))) (sym (is_eq-slice_cmp k q) ∙ (eq_by_cmp_equiv nat_list_cmp_total).symm k q)
    ∙ ap (cond (eq_by_cmp name_cmp q k) (Some (item_view x))) (sym (got m q))
    ∙ sym (get-insert nat_list_cmp_total (items_view m) k (item_view x) q))

-- a name that ties with none isn't found
pub absent : {X : Type 0} (k : List ℕ) (es : List (List ℕ × X)) → AllByRecursion (λ q. eq_by_cmp name_cmp k q ≡ false) (keys_of es) → find name_cmp k es ≡ None
absent k [] h = refl
absent k (e ∷ es) h = rw (h.0) (absent k es h.1)

counted : {X : Type 0} (es : List (List ℕ × X)) → IsDistinct (eq_by_cmp name_cmp) (keys_of es) → len (from_entries {R = name_cmp} es) ≡ length es
counted {X = X} [] apart = len-empty name_cmp X
counted (e ∷ es) apart =
    let none : get (from_entries {R = name_cmp} es) e.0 ≡ None = get-from_entries nat_list_cmp_total es e.0 ∙ absent e.0 es (IsDistinct-head _ _ _ apart) in
    let before : len (from_entries {R = name_cmp} es) ≡ length es = counted es (IsDistinct-tail _ _ _ apart) in
    let more : len (from_entries {R = name_cmp} es) + 1 ≡ suc (length es) = omega arith in
    len-insert nat_list_cmp_total (from_entries es) e.0 e.1 ∙ ap (λ o. cond (is_some o) (len (from_entries {R = name_cmp} es)) (len (from_entries {R = name_cmp} es) + 1)) none ∙ more

length_view : (es : List (List ℕ × CodeItem)) → length (entries_view es) ≡ length es
length_view [] = refl
length_view (e ∷ es) = ap suc (length_view es)

keys_view : (es : List (List ℕ × CodeItem)) → keys_of (entries_view es) ≡ keys_of es
keys_view [] = refl
keys_view (e ∷ es) = ap (λ ks. e.0 ∷ ks) (keys_view es)

-- the names of a map are apart in the order of names too
pub apart_view : (es : List (List ℕ × CodeItem)) → IsDistinct name_eq (keys_of es) → IsDistinct (eq_by_cmp name_cmp) (keys_of (entries_view es))
apart_view es apart = subst (λ ks. IsDistinct (eq_by_cmp name_cmp) ks) (sym (keys_view es)) (subst (λ e. IsDistinct e (keys_of es)) names_tie apart)

-- as many keys as entries
pub keys_held : (b : CodeBook) → hash.IsUnique name_eq b.items → keys_of_book (book_view b) ≡ length b.items.entries
keys_held b unique = sym (len-entries (book_view b).items) ∙ counted (entries_view b.items.entries) (apart_view b.items.entries unique) ∙ length_view b.items.entries

chosen : (t : Bool) (x : Item) (o d : Option Item) → or_default (cond t (Some x) o) d ≡ cond t (Some x) (or_default o d)
chosen true x o d = refl
chosen false x o d = refl

-- what was put at a name stands there, and all else is as before
pub item_put : (b : Book) (k : List ℕ) (x : Item) (q : List ℕ) → content (with_item b k x) q ≡ cond (eq_by_cmp name_cmp q k) (Some x) (content b q)
item_put b k x q = ap (λ o. or_default o (default_of b.kind q)) (get-insert nat_list_cmp_total b.items k x q) ∙ chosen (eq_by_cmp name_cmp q k) x (get b.items q) (default_of b.kind q)
