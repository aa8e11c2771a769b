-- How books change: names are added, and inputs set.
use Rattle.std.specs.Prelude.{ℕ, ◌≡◌, ◌<◌, ◌≤◌, true, List, length, Some, None, is_some, Result, Ok, Err}
use Rattle.std.specs.FinMap.{get, insert, entries}
use Rattle.carte_name.specs.declared.kind.Kind.TheVariants.{Sheet}
use Rattle.carte_value.specs.declared.value.Value.{Value}
use Rattle.carte_book.specs.Book.{Item, input, Book, content}
use Rattle.carte_book.specs.Needs.{IsRule}
use Rattle.carte_book.specs.declared.fault.AddFault.{AddFault}
use Rattle.carte_book.specs.declared.fault.AddFault.TheVariants as add
use Rattle.carte_book.specs.declared.fault.SetFault.{SetFault}
use Rattle.carte_book.specs.declared.fault.SetFault.TheVariants as set

-- how many keys it holds
abbrev pub keys_of : Book → ℕ
keys_of b = length (entries b.items)

-- the book in which this stands at the key
abbrev pub with_item : Book → List ℕ → Item → Book
with_item b k x = record { kind = b.kind; items = insert b.items k x }

-- why a key isn't added: the first of these
abbrev pub IsRefused : Book → List ℕ → AddFault → Type 0
IsRefused b k add.Twice = is_some (get b.items k) ≡ true
IsRefused b k add.Limit = (get b.items k ≡ None) × (262144 ≤ keys_of b)
IsRefused b k add.NoMemory = (get b.items k ≡ None) × (keys_of b < 262144)

-- a key that the book hasn't, where it has fewer than 262,144, gets the item; else nothing changes
abbrev pub Adds : Book → Book → List ℕ → Item → Result (Unit {0}) AddFault → Type 0
Adds old new k x (Ok u) = (get old.items k ≡ None) × (keys_of old < 262144) × (new ≡ with_item old k x)
Adds old new k x (Err add.Twice) = (is_some (get old.items k) ≡ true) × (new ≡ old)
Adds old new k x (Err add.Limit) = (get old.items k ≡ None) × (262144 ≤ keys_of old) × (new ≡ old)
Adds old new k x (Err add.NoMemory) = (get old.items k ≡ None) × (keys_of old < 262144) × (new ≡ old)

-- an input, which a cell of a sheet is too that the book doesn't hold
abbrev pub IsInput : Book → List ℕ → Type 0
IsInput b k = (v : Value) × (content b k ≡ Some (input v))

-- such a one; where the book doesn't hold it yet, there is room for one more
abbrev pub IsSettable : Book → List ℕ → Type 0
IsSettable b k = IsInput b k × (get b.items k ≡ None → keys_of b < 262144)

-- an input, or a cell that holds nothing yet, gets the value; else nothing changes
abbrev pub Sets : Book → Book → List ℕ → Value → Result (Unit {0}) SetFault → Type 0
Sets old new k v (Ok u) = IsSettable old k × (new ≡ with_item old k (input v))
Sets old new k v (Err set.NotInput) = IsRule old k × (new ≡ old)
Sets old new k v (Err set.NoSuchName) = (content old k ≡ None) × (new ≡ old)
Sets old new k v (Err set.Limit) = (old.kind ≡ Sheet) × (get old.items k ≡ None) × (262144 ≤ keys_of old) × (new ≡ old)
Sets old new k v (Err set.NoMemory) = IsSettable old k × (new ≡ old)
