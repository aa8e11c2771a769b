-- What one look leaves at a name.
use Rattle.std.proofs.Common.{◌≡◌, ℕ, ◌+◌, ◌<◌, true, false, cond, List, [], ◌∷◌, length, Option, Some, None, is_some, option_map, if◌then◌else◌, unwrap_or, Result, Ok, Err, OnOk, OnErr, IfErr, refl, ap, sym, ◌∙◌, arith}
use Rattle.std.specs.HashMap as hash
use Rattle.std.specs.FinMap.{FinMap, get, from_entries}
use Rattle.std.specs.Map.{lookup}
use Rattle.indexmap.specs.IndexMap.{insert_entry}
use Rattle.carte_name.specs.declared.kind.Kind.{Kind}
use Rattle.carte_name.specs.Names.{name_cmp, name_eq}
use Rattle.carte_book.specs.declared.book.Item.{Item as CodeItem}
use Rattle.carte_book.specs.declared.fault.AddFault.{AddFault}
use Rattle.carte_book.specs.declared.fault.AddFault.TheVariants.{Twice, Limit, NoMemory}
use Rattle.carte_book.specs.Added.{IsUnfit}
use Rattle.carte_book.specs.Book.{Item, Book, item_view, entries_view}
use Rattle.carte_book.specs.Edits.{keys_of, Adds}
use Rattle.carte_book.proofs.Books.{Map, items_view, one_put}

-- what stands at a name changes nothing there
same : {X : Type 0} (es : List (List ℕ × X)) (k : List ℕ) (x : X) → lookup (name_eq k) es ≡ Some x → insert_entry name_eq es k x ≡ es
same [] k x is = cc
same (e ∷ es) k x is = elim (name_eq k e.0) as (λ b. name_eq k e.0 ≡ b → cond b (Some e.1) (lookup (name_eq k) es) ≡ Some x → (if b then (e.0, x) ∷ es else e ∷ insert_entry name_eq es k x) ≡ e ∷ es) [
  | true ↦ λ tied here. let one : e.1 ≡ x = cc in ap (λ y. (e.0, y) ∷ es) (sym one)
  | false ↦ λ apart later. ap (λ fs. e ∷ fs) (same es k x later)
] refl is

-- where there are no more entries than before, they are the same
pub kept : {X : Type 0} (es fs : List (List ℕ × X)) (k : List ℕ) (x w : X) (o : Option X) → o ≡ lookup (name_eq k) es → w ≡ unwrap_or o x → fs ≡ insert_entry name_eq es k w → length fs ≡ length es + (if is_some o then 0 else 1) → length fs ≡ length es → fs ≡ es
kept es fs k x w (Some y) found is put more none = put ∙ same es k w (sym found ∙ ap Some (sym is))
kept es fs k x w None found is put more none = absurd (omega (arith, more, none))

abbrev book_in : {S : Type 0} → Kind → Map S → Book
book_in q m = record { kind = q; items = items_view m }

seen : (o : Option CodeItem) → is_some (option_map item_view o) ≡ is_some o
seen None = refl
seen (Some x) = refl

-- the book with what was put into its map, where it had room
pub added : {S : Type 0} (q : Kind) (m n : Map S) (k : List ℕ) (x : CodeItem) (r : Result (Unit {0}) AddFault)
    → (get (items_view m) k ≡ option_map item_view (hash.get name_eq m k)) → keys_of (book_in q m) < 262144
    → OnOk r (hash.get name_eq m k ≡ None) → OnOk r (hash.Updates name_eq m n k (Some x)) → IfErr r (IsUnfit m k) → OnErr r (n.entries ≡ m.entries)
    → Adds (book_in q m) (book_in q n) k (item_view x) r
added q m n k x (Ok u) found room new put fault kept =
    (found ∙ ap (option_map item_view) new, room, ap (λ (i : FinMap name_cmp Item). record { kind = q; items = i }) (one_put m n k x put.0))
added q m n k x (Err Twice) found room new put fault kept = (ap is_some found ∙ seen (hash.get name_eq m k) ∙ fault, ap (λ (es : List (List ℕ × CodeItem)). record { kind = q; items = from_entries (entries_view es) }) kept)
added q m n k x (Err Limit) found room new put fault kept = absurd fault
added q m n k x (Err NoMemory) found room new put fault kept = (found ∙ ap (option_map item_view) fault, room, ap (λ (es : List (List ℕ × CodeItem)). record { kind = q; items = from_entries (entries_view es) }) kept)
