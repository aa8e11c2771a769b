-- The entries of a plain file as they stand, and by their keys.
use Rattle.std.specs.Prelude.{ℕ, ◌≡◌, List, [], ◌∷◌, Option, Some, None, is_some, option_and_then, Result, if◌then◌else◌, IsPermutation}
use Rattle.std.specs.Result.{result_ok}
use Rattle.std.specs.FinMap.{get}
use Rattle.std.specs.List.Sorted.{IsStrictlySortedBy}
use Rattle.toml.specs.Parse.{parse_document}
use Rattle.carte_name.specs.Names.{name_cmp}
use Rattle.carte_book.specs.Book.{Book}
use Rattle.carte_book.specs.declared.fault.BookFault.{BookFault}
use Rattle.carte_rules.specs.Entries.{data_of, keys_of, members_of, document_of}
use Rattle.carte_rules.specs.Reading.{Content, input_into, InTables}
use Rattle.carte_rules.specs.declared.entry.Entry.{Entry}

-- the same entries by their keys, of which none comes twice
abbrev pub IsOrderOf : List Entry → List Entry → Type 0
IsOrderOf es fs = IsPermutation es fs × IsStrictlySortedBy name_cmp (keys_of fs)

-- the text is the document of some entries by their keys, and this is what comes of them
abbrev pub IsOfLines : List ℕ → Result Book BookFault → Type 0
IsOfLines s o = (fs hs : List Entry) × (parse_document s ≡ Some (document_of fs hs)) × InTables (record { inputs = members_of fs; rules = members_of hs }) o

-- an input at a key at which nothing stands
abbrev pub new_input : Entry → Content → Option Content
new_input e m = if is_some (get m e.key.now) then None else result_ok (input_into e.key.now (data_of e.held) m)

abbrev pub new_inputs : List Entry → Content → Option Content
new_inputs [] m = Some m
new_inputs (e ∷ es) m = option_and_then (new_inputs es) (new_input e m)
