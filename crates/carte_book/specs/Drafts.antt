-- Drafts of books, and what they hold.
use Rattle.std.specs.Prelude.{ℕ, ◌≡◌, ◌<◌, ◌≤◌, nat_lt, ◌||◌, true, false, List, length, None, is_some, Result, Ok, Err, if◌then◌else◌}
use Rattle.std.specs.FinMap.{FinMap, get, insert, entries}
use Rattle.std.specs.BTreeSet.{contains, btree_set_len}
use Rattle.carte_name.specs.declared.kind.Kind.{Kind}
use Rattle.carte_name.specs.declared.kind.Kind.TheVariants.{Rules, Sheet}
use Rattle.carte_name.specs.Names.{name_cmp}
use Rattle.carte_book.specs.Book.{Item, Book, book_view}
use Rattle.carte_book.specs.declared.book.Book.{Book as CodeBook}
use Rattle.carte_book.specs.declared.draft.Draft.{Draft}
use Rattle.carte_book.specs.declared.fault.AddFault.{AddFault}
use Rattle.carte_book.specs.declared.fault.AddFault.TheVariants as add
use Rattle.carte_book.specs.declared.fault.Which.TheVariants.{Keys}
use Rattle.carte_book.specs.declared.fault.BookFault.{BookFault}
use Rattle.carte_book.specs.declared.fault.BookFault.TheVariants.{Limit}

-- what stands at names, however many
abbrev pub Content : Type 0
Content = FinMap name_cmp Item

abbrev pub kind_of : Draft → Kind
kind_of d = (book_view d.book).kind

abbrev pub items_of : Draft → Content
items_of d = (book_view d.book).items

-- the book has the content, or 262,144 keys where that has more; of a rule file's others there are the names
pub record Holds (d : Draft) (m : Content) : Type 0 where
  pub names : kind_of d ≡ Rules → (q : List ℕ) → is_some (get m q) ≡ (is_some (get (items_of d) q) || contains name_cmp d.beyond q)
  pub few : length (entries (items_of d)) ≤ 262144
  pub all : d.is_over ≡ false → items_of d ≡ m
  pub alone : d.is_over ≡ false → btree_set_len d.beyond ≡ 0
  pub full : d.is_over ≡ true → 262144 ≤ length (entries (items_of d))
  pub more : d.is_over ≡ true → 262144 < length (entries m)

-- a sheet has nothing there yet
abbrev pub IsNew : Kind → Content → List ℕ → Type 0
IsNew q m k = q ≡ Sheet → get m k ≡ None

-- the draft holds the item too, at a name at which nothing stood
abbrev pub Takes : List ℕ → Item → Content → Draft → Result (Unit {0}) AddFault → Type 0
Takes k x m d (Ok u) = (get m k ≡ None) × Holds d (insert m k x)
Takes k x m d (Err add.Twice) = is_some (get m k) ≡ true
Takes k x m d (Err add.Limit) = ⊥
Takes k x m d (Err add.NoMemory) = get m k ≡ None

-- at most 262,144 keys are a book
abbrev pub book_of : Kind → Content → Result Book BookFault
book_of q m = if nat_lt 262144 (length (entries m)) then Err (Limit Keys 262144) else Ok (record { kind = q; items = m })

abbrev pub Becomes : Kind → Content → Result CodeBook BookFault → Type 0
Becomes q m (Ok b) = book_of q m ≡ Ok (book_view b)
Becomes q m (Err fault) = book_of q m ≡ Err fault
