-- The lines of a plain text, as the grammar's document takes them.
use Rattle.std.proofs.Common.{◌≡◌, ◌==◌, ◌∙◌, ◌<◌, ◌≤◌, ◌-◌, ℕ, zero, suc, false, List, [], ◌∷◌, ◌++◌, length, codes, Option, Some, None, option_map, option_and_then, ap, sym, refl, arith, IsPermutation, nat_cmp}
use Rattle.std.proofs.lemmas.Bool.Decides.{nat_tests}
use Rattle.toml_parser.specs.Lexical.{first, skip_blank}
use Rattle.toml.specs.Data.{Data, table, no_members, member}
use Rattle.toml.specs.Tables.{Edit, Nodes, no_nodes, node, open_table, header, close, replace, key_value, std_table, put, along_header, along_dots, at_key, Document, define}
use Rattle.toml.proofs.NodeLaws.{along_found}
use Rattle.toml.proofs.Turns.{lines_end, document_some}
use Rattle.toml.specs.Parse.{line, lines, skip_bom, parse_document}
use Rattle.std.specs.Cmp.Lexicographic.{slice_cmp}
use Rattle.std.specs.List.Sorted.{IsStrictlySortedBy}
use Rattle.carte_rules.proofs.Puts.{puts_in_order}
use Rattle.carte_rules.specs.declared.entry.Entry.{Entry}
use Rattle.carte_rules.specs.Entries.{data_of, keys_of, members_of, puts, IsTableAt, ReadsPairs, document_of}

-- the text after an expression
lines_turn : (m : ℕ) (doc : Document) (text : List ℕ) (e : _) (after : List ℕ) → 0 < m → (length (skip_blank text) == 0) ≡ false → line (skip_blank text) ≡ Some (e, after)
    → lines m doc text ≡ option_and_then (λ next. lines (m - 1) next after) (define doc e)
unfolding lines
lines_turn zero doc text e after some other read = absurd (omega arith)
lines_turn (suc m) doc text e after some other read =
    let less : suc m - 1 ≡ m = omega arith in
    rw (other, read, less) refl

put_one : (name : List ℕ) (d : Data) (ns : Nodes) → put ([], name) d ns ≡ at_key name (key_value d) ns
unfolding along_dots
put_one name d ns = refl

define_pair : (k : List ℕ) (root : Nodes → Nodes) (ns : Nodes) (name : List ℕ) (d : Data) → IsTableAt k root → define (root ns, k ∷ []) (([], name), key_value d) ≡ option_map (λ found. (root found, k ∷ [])) (at_key name (key_value d) ns)
unfolding define
define_pair k root ns name d at =
    ap (option_map (λ found. (found, k ∷ []))) (at (put ([], name) d) ns ∙ ap (option_map root) (put_one name d ns)) ∙ twice (at_key name (key_value d) ns)
  where
    twice : (o : Option Nodes) → ◌≡◌ {A = Option Document} (option_map (λ found. (found, k ∷ [])) (option_map root o)) (option_map (λ found. (root found, k ∷ [])) o)
    twice None = refl
    twice (Some n) = refl

map_then : {A B C : Type 0} (f : A → B) (g : B → Option C) (o : Option A) → option_and_then g (option_map f o) ≡ option_and_then (λ a. g (f a)) o
map_then f g None = refl
map_then f g (Some a) = refl

puts_one : (es : List Entry) (e : Entry) (ns : Nodes) → puts (es ++ e ∷ []) ns ≡ option_and_then (at_key e.key.now (key_value (data_of e.held))) (puts es ns)
puts_one [] e ns = one (at_key e.key.now (key_value (data_of e.held)) ns)
  where
    one : (o : Option Nodes) → option_and_then (puts []) o ≡ o
    one None = refl
    one (Some n) = refl
puts_one (f ∷ es) e ns = through (at_key f.key.now (key_value (data_of f.held)) ns) _ _ _ (puts_one es e)
  where
    through : (o : Option Nodes) (a b c : Edit) → ((n : Nodes) → a n ≡ option_and_then c (b n)) → option_and_then a o ≡ option_and_then c (option_and_then b o)
    through None a b c same = refl
    through (Some n) a b c same = same n

-- no line is read yet
pub no_pairs : (text : List ℕ) → ReadsPairs text [] text
no_pairs text = λ m room. (m, room, λ k root at ns. refl)

assoc : {A B C : Type 0} (f : A → Option B) (g : B → Option C) (h : A → Option C) (o : Option A) → ((a : A) → h a ≡ option_and_then g (f a)) → option_and_then h o ≡ option_and_then g (option_and_then f o)
assoc f g h None same = refl
assoc f g h (Some a) same = same a

-- and one line more
pub one_more : (text rest after : List ℕ) (es : List Entry) (e : Entry) → ReadsPairs text es rest → (length (skip_blank rest) == 0) ≡ false → line (skip_blank rest) ≡ Some ((([], e.key.now), key_value (data_of e.held)), after) → length after < length rest
    → ReadsPairs text (es ++ e ∷ []) after
one_more text rest after es e h other read shorter = λ m room.
    let (n, fits, is) = h m room in (
      n - 1,
      omega (arith, fits, shorter),
      λ k root at ns.
          is k root at ns
          ∙ assoc (at_key e.key.now (key_value (data_of e.held))) (λ found. lines (n - 1) (root found, k ∷ []) after) (λ found. lines n (root found, k ∷ []) rest) (puts es ns) (λ found.
          lines_turn n (root found, k ∷ []) rest _ after (omega (arith, fits)) other read
          ∙ ap (option_and_then (λ next. lines (n - 1) next after)) (define_pair k root found e.key.now (data_of e.held) at)
          ∙ map_then (λ found. (root found, k ∷ [])) (λ next. lines (n - 1) next after) (at_key e.key.now (key_value (data_of e.held)) found))
          ∙ ap (option_and_then (λ found. lines (n - 1) (root found, k ∷ []) after)) (sym (puts_one es e ns)),
    )

-- ---- the two tables

root_inputs : Nodes → Nodes
root_inputs ns = node (codes "inputs") (open_table header ns) no_nodes

root_rules : Nodes → Nodes → Nodes
root_rules found ns = node (codes "inputs") (open_table header found) (node (codes "rules") (open_table header ns) no_nodes)

module _ (edit : Edit) where
  last_part : (ns : Nodes) → along_header [] edit ns ≡ edit ns
  unfolding along_header
  last_part ns = refl

at_inputs : IsTableAt (codes "inputs") root_inputs
unfolding root_inputs
at_inputs edit ns =
    along_found (codes "inputs") [] edit (root_inputs ns) (open_table header ns) refl
    ∙ ap (λ o. option_map (λ new. replace (codes "inputs") new (root_inputs ns)) (option_map (open_table header) o)) (last_part edit ns) ∙ replaced (edit ns)
  where
    replaced : (o : Option Nodes) → option_map (λ new. replace (codes "inputs") new (root_inputs ns)) (option_map (open_table header) o) ≡ option_map root_inputs o
    replaced None = refl
    replaced (Some n) = refl

at_rules : (found : Nodes) → IsTableAt (codes "rules") (root_rules found)
unfolding root_rules
at_rules found edit ns =
    along_found (codes "rules") [] edit (root_rules found ns) (open_table header ns) refl
    ∙ ap (λ o. option_map (λ new. replace (codes "rules") new (root_rules found ns)) (option_map (open_table header) o)) (last_part edit ns) ∙ replaced (edit ns)
  where
    replaced : (o : Option Nodes) → option_map (λ new. replace (codes "rules") new (root_rules found ns)) (option_map (open_table header) o) ≡ option_map (root_rules found) o
    replaced None = refl
    replaced (Some n) = refl

open_inputs : define (no_nodes, []) (([], codes "inputs"), std_table) ≡ Some (root_inputs no_nodes, codes "inputs" ∷ [])
unfolding define along_header at_key root_inputs
open_inputs = refl

open_rules : (found : Nodes) → define (root_inputs found, codes "inputs" ∷ []) (([], codes "rules"), std_table) ≡ Some (root_rules found no_nodes, codes "rules" ∷ [])
unfolding define along_header at_key root_inputs root_rules
open_rules found = refl

shut : (found ns : Nodes) → close (root_rules found ns) ≡ member (codes "inputs") (table (close found)) (member (codes "rules") (table (close ns)) no_members)
unfolding root_rules
shut found ns = refl

no_mark : (s : List ℕ) → (first s == 0xEF) ≡ false → skip_bom s ≡ s
unfolding skip_bom
no_mark s other = rw other refl

-- a header, and the lines behind it
table_read : (m : ℕ) (doc : Document) (text inside rest : List ℕ) (k : List ℕ) (root : Nodes → Nodes) (es fs : List Entry) → length text < m → length inside < length text → (length (skip_blank text) == 0) ≡ false
    → line (skip_blank text) ≡ Some ((([], k), std_table), inside) → define doc (([], k), std_table) ≡ Some (root no_nodes, k ∷ []) → IsTableAt k root → ReadsPairs inside es rest
    → IsPermutation es fs → IsStrictlySortedBy (slice_cmp nat_cmp) (keys_of fs)
    → (n : ℕ) × (length rest < n) × (found : Nodes) × (close found ≡ members_of fs) × (lines m doc text ≡ lines n (root found, k ∷ []) rest)
table_read m doc text inside rest k root es fs room shorter other read made at pairs same sorted =
    let (n, fits, is) = pairs (m - 1) (omega (arith, room, shorter)) in
    let (found, puts_so, closed) = puts_in_order es fs same sorted in (
      n,
      fits,
      found,
      closed,
      lines_turn m doc text _ inside (omega (arith, room)) other read
          ∙ ap (option_and_then (λ next. lines (m - 1) next inside)) made
          ∙ is k root at no_nodes
          ∙ ap (option_and_then (λ found. lines n (root found, k ∷ []) rest)) puts_so,
    )

whole_read : (s : List ℕ) (found rules : Nodes) (fs hs : List Entry) → (first s == 0xEF) ≡ false → lines (suc (length s)) (no_nodes, []) s ≡ Some (root_rules found rules, codes "rules" ∷ []) → close found ≡ members_of fs → close rules ≡ members_of hs
    → parse_document s ≡ Some (document_of fs hs)
whole_read s found rules fs hs other whole shut_inputs shut_rules =
    document_some s (root_rules found rules, codes "rules" ∷ []) (ap (lines (suc (length s)) (no_nodes, [])) (no_mark s other) ∙ whole)
    ∙ ap Some (shut found rules ∙ rw (shut_inputs, shut_rules) refl)

-- the document of a text of both tables
pub document_read : (s t r u v : List ℕ) (es fs gs hs : List Entry) → (first s == 0xEF) ≡ false
    → line (skip_blank s) ≡ Some ((([], codes "inputs"), std_table), t) → length t < length (skip_blank s) → length (skip_blank s) ≤ length s → ReadsPairs t es r → IsPermutation es fs → IsStrictlySortedBy (slice_cmp nat_cmp) (keys_of fs)
    → line (skip_blank r) ≡ Some ((([], codes "rules"), std_table), u) → length u < length (skip_blank r) → length (skip_blank r) ≤ length r → ReadsPairs u gs v → IsPermutation gs hs → IsStrictlySortedBy (slice_cmp nat_cmp) (keys_of hs)
    → length (skip_blank v) ≡ 0 → parse_document s ≡ Some (document_of fs hs)
document_read s t r u v es fs gs hs other read_t short_t in_s pairs_t same_t sorted_t read_u short_u in_r pairs_u same_u sorted_u end =
    let some_s : (length (skip_blank s) == 0) ≡ false = grind (arith, nat_tests) in
    let some_r : (length (skip_blank r) == 0) ≡ false = grind (arith, nat_tests) in
    let (n, fits, found, closed, first_part) = table_read (suc (length s)) (no_nodes, []) s t r (codes "inputs") root_inputs es fs (omega arith) (omega (arith, short_t, in_s)) some_s read_t open_inputs at_inputs pairs_t same_t sorted_t in
    let (m, room, rules, shut_rules, second_part) = table_read n (root_inputs found, codes "inputs" ∷ []) r u v (codes "rules") (root_rules found) gs hs fits (omega (arith, short_u, in_r)) some_r read_u (open_rules found) (at_rules found) pairs_u same_u sorted_u in
    let whole : lines (suc (length s)) (no_nodes, []) s ≡ Some (root_rules found rules, codes "rules" ∷ []) = first_part ∙ second_part ∙ lines_end m (root_rules found rules, codes "rules" ∷ []) v (omega (arith, room)) end in
    whole_read s found rules fs hs other whole closed shut_rules
