-- The keys of a table as a list.
use Rattle.std.specs.Prelude.{◌≡◌, ℕ, ◌<◌, List, [], ◌∷◌, map, length, codes, Some, option_map, option_and_then}
use Rattle.toml.specs.Data.{Data, string, integer, table, Members, no_members, member}
use Rattle.toml.specs.Tables.{Nodes, Edit, along_header, at_key, key_value}
use Rattle.toml.specs.Parse.{lines}
use Rattle.carte_rules.specs.declared.entry.Held.{Held}
use Rattle.carte_rules.specs.declared.entry.Held.TheVariants.{Text, Number}
use Rattle.carte_rules.specs.declared.entry.Entry.{Entry}
use Rattle.carte_rules.specs.declared.entry.PlainTables.{PlainTables}
use Rattle.carte_rules.specs.Tables.{Tables}

abbrev pub data_of : Held → Data
data_of (Text s) = string s.now
data_of (Number z) = integer z

-- the entries as members
abbrev pub members_of : List Entry → Members
members_of [] = no_members
members_of (e ∷ es) = member e.key.now (data_of e.held) (members_of es)

abbrev pub keys_of : List Entry → List (List ℕ)
keys_of es = map (λ e. e.key.now) es

-- the entries put into nodes, one after the other
abbrev pub puts : List Entry → Edit
puts [] ns = Some ns
puts (e ∷ es) ns = option_and_then (puts es) (at_key e.key.now (key_value (data_of e.held)) ns)

-- a header of k leads to the inner nodes of such a root
abbrev pub IsTableAt : List ℕ → (Nodes → Nodes) → Type 0
IsTableAt k root = (edit : Edit) (ns : Nodes) → along_header (k ∷ []) edit (root ns) ≡ option_map root (edit ns)

-- the lines of a text, as far as the rest, put the entries into the table of the last header
abbrev pub ReadsPairs : List ℕ → List Entry → List ℕ → Type 0
ReadsPairs text es rest =
    (m : ℕ) → length text < m → (n : ℕ) × (length rest < n)
    × ((k : List ℕ) (root : Nodes → Nodes) → IsTableAt k root → (ns : Nodes) → lines m (root ns, k ∷ []) text ≡ option_and_then (λ found. lines n (root found, k ∷ []) rest) (puts es ns))

-- the document of the two tables
abbrev pub document_of : List Entry → List Entry → Members
document_of es fs = member (codes "inputs") (table (members_of es)) (member (codes "rules") (table (members_of fs)) no_members)

abbrev pub plain_view : PlainTables → Tables
plain_view t = record { inputs = members_of t.inputs.items; rules = members_of t.rules.items }
