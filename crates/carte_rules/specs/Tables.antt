-- Which tables of inputs and rules a document has.
use Rattle.std.specs.Prelude.{ℕ, nat_lt, List, codes, length, Option, Some, None, Result, Ok, Err, if◌then◌else◌}
use Rattle.std.specs.Str.{is_utf8}
use Rattle.toml.specs.Data.{Data, table, Members, no_members, member}
use Rattle.toml.specs.Parse.{parse_document}
use Rattle.carte_name.specs.Names.{name_eq}
use Rattle.carte_book.specs.declared.fault.Which.TheVariants.{Bytes}
use Rattle.carte_book.specs.declared.fault.BookFault.{BookFault}
use Rattle.carte_book.specs.declared.fault.BookFault.TheVariants.{Limit, NotToml, BadTable}

-- a fault is the end, and else it goes on
infixl 10 ◌>>=◌
abbrev pub ◌>>=◌ : {A B : Type 0} → Result A BookFault → (A → Result B BookFault) → Result B BookFault
(Ok a) >>= f = f a
(Err fault) >>= f = Err fault

pub record Tables : Type 0 where
  pub inputs : Members
  pub rules : Members

-- a top key is one of the two, and a table
abbrev pub table_into : List ℕ → Data → Tables → Result Tables BookFault
table_into k (table ms) t = if name_eq k (codes "inputs") then Ok (record t { inputs = ms }) else (if name_eq k (codes "rules") then Ok (record t { rules = ms }) else Err (BadTable k))
table_into k _ t = Err (BadTable k)

abbrev pub tables_into : Members → Tables → Result Tables BookFault
tables_into no_members t = Ok t
tables_into (member k d ms) t = table_into k d t >>= tables_into ms

abbrev pub no_tables : Tables
no_tables = record { inputs = no_members; rules = no_members }

-- the document of bytes
abbrev pub document : List ℕ → Option Members
document bytes = if is_utf8 bytes then parse_document bytes else None

abbrev pub tables_in : Option Members → Result Tables BookFault
tables_in None = Err NotToml
tables_in (Some ms) = tables_into ms no_tables

-- the two tables of bytes; one that isn't there is empty
abbrev pub tables_of : List ℕ → Result Tables BookFault
tables_of bytes = if nat_lt 16777216 (length bytes) then Err (Limit Bytes 16777216) else tables_in (document bytes)
