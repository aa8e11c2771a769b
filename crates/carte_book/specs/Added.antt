-- Names that are added to the map in memory.
use Rattle.std.specs.Prelude.{ℕ, ◌≡◌, true, List, None, is_some}
use Rattle.indexmap.specs.IndexMap.{IndexMap, get}
use Rattle.carte_name.specs.Names.{name_eq}
use Rattle.carte_book.specs.declared.book.Item.{Item as CodeItem}
use Rattle.carte_book.specs.declared.fault.AddFault.{AddFault}
use Rattle.carte_book.specs.declared.fault.AddFault.TheVariants.{Twice, Limit, NoMemory}

-- why the name isn't added, where there may be any number of them
abbrev pub IsUnfit : {S : Type 0} → IndexMap (List ℕ) CodeItem S → List ℕ → AddFault → Type 0
IsUnfit m k Twice = is_some (get name_eq m k) ≡ true
IsUnfit m k Limit = ⊥
IsUnfit m k NoMemory = get name_eq m k ≡ None
