-- Entries put into nodes, in the order of the lines and in that of the keys.
use Rattle.std.proofs.Common.{◌≡◌, ℕ, ◌+◌, ◌≤◌, length, arith, Ordering, Less, Equal, Greater, nat_cmp, is_eq, false, List, [], ◌∷◌, Option, Some, None, option_map, option_and_then, refl, sym, ap, ◌∙◌, subst, inl, inr, ◌⊎◌, IsPermutation}
use Rattle.std.proofs.lemmas.Cmp.{nat_list_cmp_total}
use Rattle.std.proofs.lemmas.Map.Keys.{sorted_head, sorted_tail, sorted_from_all_adjacent}
use Rattle.std.proofs.lemmas.List.{get_or-map, length-map}
use Rattle.std.specs.List.{AllByRecursion, AllAdjacentBelow}
use Rattle.std.specs.List.Sorted.{IsStrictlySortedBy}
use Rattle.std.specs.FinMap.{slice_cmp-IsAntisymmetric, nat_cmp-IsAntisymmetric}
use Rattle.std.specs.Cmp.Lexicographic.{slice_cmp}
use Rattle.std.specs.Ordering.{ordering_reverse}
use Rattle.toml.specs.Data.{Data}
use Rattle.toml.specs.Tables.{Node, Nodes, no_nodes, node, value, get_node, insert, at_key, key_value, close}
use Rattle.toml.proofs.NodeLaws.{get_node-insert}
use Rattle.toml.proofs.Filled.{passes_at_key}
use Rattle.carte_rules.specs.declared.entry.Entry.{Entry}
use Rattle.carte_rules.specs.Entries.{data_of, keys_of, members_of, puts}
use Rattle.carte_rules.proofs.Swaps.{run, run_permutation}

pub cases_ordering : (o : Ordering) → (o ≡ Less) ⊎ ((o ≡ Equal) ⊎ (o ≡ Greater))
cases_ordering Less = inl refl
cases_ordering Equal = inr (inl refl)
cases_ordering Greater = inr (inr refl)

pub same_keys : (k l : List ℕ) → slice_cmp nat_cmp k l ≡ Equal → k ≡ l
same_keys k l e = slice_cmp-IsAntisymmetric nat_cmp-IsAntisymmetric k l e

pub turned : (k l : List ℕ) (o : Ordering) → slice_cmp nat_cmp k l ≡ o → slice_cmp nat_cmp l k ≡ ordering_reverse o
turned k l o e = nat_list_cmp_total.antisymm l k ∙ ap ordering_reverse e

-- another key holds what it held
get_other : (l k : List ℕ) (x : Node) (ns : Nodes) → is_eq (slice_cmp nat_cmp l k) ≡ false → get_node l (insert k x ns) ≡ get_node l ns
get_other l k x no_nodes h = rw h refl
get_other l k x (node j y ns) h =
    elim (cases_ordering (slice_cmp nat_cmp k j)) [
      | inl less ↦ rw (less, h) refl
      | inr other ↦ elim other [
        | inl tie ↦ let apart : is_eq (slice_cmp nat_cmp l j) ≡ false = subst (λ (q : List ℕ). is_eq (slice_cmp nat_cmp l q) ≡ false) (same_keys k j tie) h in rw (tie, apart) refl
        | inr more ↦ rw (more, get_other l k x ns h) refl
      ]
    ]

insert_before : (k l : List ℕ) (x y : Node) (j : List ℕ) (z : Node) (ns : Nodes) → slice_cmp nat_cmp k l ≡ Less → slice_cmp nat_cmp k j ≡ Less → insert l y (insert k x (node j z ns)) ≡ insert k x (insert l y (node j z ns))
insert_before k l x y j z ns h less =
    elim (cases_ordering (slice_cmp nat_cmp l j)) [
      | inl first ↦ rw (less, turned k l Less h, first, h) refl
      | inr other ↦ elim other [
        | inl tie ↦ rw (less, turned k l Less h, tie, less) refl
        | inr more ↦ rw (less, turned k l Less h, more, less) refl
      ]
    ]

insert_tied : (k l : List ℕ) (x y : Node) (j : List ℕ) (z : Node) (ns : Nodes) → slice_cmp nat_cmp l j ≡ Greater → slice_cmp nat_cmp k j ≡ Equal → insert l y (insert k x (node j z ns)) ≡ insert k x (insert l y (node j z ns))
insert_tied k l x y j z ns h tie = rw (tie, h, tie) refl

insert_behind : (k l : List ℕ) (x y : Node) (j : List ℕ) (z : Node) (ns : Nodes) → slice_cmp nat_cmp l j ≡ Greater → slice_cmp nat_cmp k j ≡ Greater → insert l y (insert k x ns) ≡ insert k x (insert l y ns) → insert l y (insert k x (node j z ns)) ≡ insert k x (insert l y (node j z ns))
insert_behind k l x y j z ns h more ih = rw (more, h, more, ih) refl

insert_comm : (k l : List ℕ) (x y : Node) (ns : Nodes) → slice_cmp nat_cmp k l ≡ Less → insert l y (insert k x ns) ≡ insert k x (insert l y ns)
insert_comm k l x y no_nodes h = rw (h, turned k l Less h) refl
insert_comm k l x y (node j z ns) h =
    elim (cases_ordering (slice_cmp nat_cmp k j)) [
      | inl less ↦ insert_before k l x y j z ns h less
      | inr other ↦ elim other [
        | inl tie ↦ insert_tied k l x y j z ns (subst (λ (q : List ℕ). slice_cmp nat_cmp l q ≡ Greater) (same_keys k j tie) (turned k l Less h)) tie
        | inr more ↦ insert_behind k l x y j z ns (turned j l Less (nat_list_cmp_total.trans j k l (turned k j Greater more) h)) more (insert_comm k l x y ns h)
      ]
    ]

-- one entry put into nodes
abbrev put_in : Entry → Nodes → Option Nodes
put_in e ns = at_key e.key.now (key_value (data_of e.held)) ns

free : (k : List ℕ) (d : Data) (ns : Nodes) → get_node k ns ≡ None → at_key k (key_value d) ns ≡ Some (insert k (value d) ns)
unfolding at_key
free k d ns none = rw none refl

taken : (k : List ℕ) (d : Data) (ns : Nodes) (x : Node) → get_node k ns ≡ Some x → at_key k (key_value d) ns ≡ None
unfolding at_key
taken k d ns x found = rw found refl

again : (k : List ℕ) (d e : Data) (ns : Nodes) → option_and_then (at_key k (key_value e)) (at_key k (key_value d) ns) ≡ None
again k d e ns = by (get_node k ns) refl
  where
    by : (o : Option Node) → get_node k ns ≡ o → option_and_then (at_key k (key_value e)) (at_key k (key_value d) ns) ≡ None
    by None none = ap (option_and_then (at_key k (key_value e))) (free k d ns none) ∙ taken k e (insert k (value d) ns) (value d) (get_node-insert k (value d) ns)
    by (Some x) found = ap (option_and_then (at_key k (key_value e))) (taken k d ns x found)

commute_less : (k l : List ℕ) (d e : Data) (ns : Nodes) → slice_cmp nat_cmp k l ≡ Less → option_and_then (at_key l (key_value e)) (at_key k (key_value d) ns) ≡ option_and_then (at_key k (key_value d)) (at_key l (key_value e) ns)
commute_less k l d e ns h = by (get_node k ns) (get_node l ns) refl refl
  where
    other : is_eq (slice_cmp nat_cmp l k) ≡ false
    other = ap is_eq (turned k l Less h)

    by : (o p : Option Node) → get_node k ns ≡ o → get_node l ns ≡ p → option_and_then (at_key l (key_value e)) (at_key k (key_value d) ns) ≡ option_and_then (at_key k (key_value d)) (at_key l (key_value e) ns)
    by None None a b =
        ap (option_and_then (at_key l (key_value e))) (free k d ns a) ∙ free l e (insert k (value d) ns) (get_other l k (value d) ns other ∙ b)
        ∙ ap Some (insert_comm k l (value d) (value e) ns h)
        ∙ sym (free k d (insert l (value e) ns) (get_other k l (value e) ns (ap is_eq h) ∙ a)) ∙ sym (ap (option_and_then (at_key k (key_value d))) (free l e ns b))
    by None (Some y) a b =
        ap (option_and_then (at_key l (key_value e))) (free k d ns a) ∙ taken l e (insert k (value d) ns) y (get_other l k (value d) ns other ∙ b)
        ∙ sym (ap (option_and_then (at_key k (key_value d))) (taken l e ns y b))
    by (Some x) None a b =
        ap (option_and_then (at_key l (key_value e))) (taken k d ns x a)
        ∙ sym (taken k d (insert l (value e) ns) x (get_other k l (value e) ns (ap is_eq h) ∙ a)) ∙ sym (ap (option_and_then (at_key k (key_value d))) (free l e ns b))
    by (Some x) (Some y) a b = ap (option_and_then (at_key l (key_value e))) (taken k d ns x a) ∙ sym (ap (option_and_then (at_key k (key_value d))) (taken l e ns y b))

-- two entries leave the same in either order
commute : (e f : Entry) (ns : Nodes) → option_and_then (put_in f) (put_in e ns) ≡ option_and_then (put_in e) (put_in f ns)
commute e f ns =
    let k = e.key.now in
    let l = f.key.now in
    elim (cases_ordering (slice_cmp nat_cmp k l)) [
      | inl less ↦ commute_less k l (data_of e.held) (data_of f.held) ns less
      | inr other ↦ elim other [
        | inl tie ↦ subst (λ (q : List ℕ). option_and_then (at_key q (key_value (data_of f.held))) (put_in e ns) ≡ option_and_then (put_in e) (at_key q (key_value (data_of f.held)) ns)) (same_keys k l tie) (again k (data_of e.held) (data_of f.held) ns ∙ sym (again k (data_of f.held) (data_of e.held) ns))
        | inr more ↦ sym (commute_less l k (data_of f.held) (data_of e.held) ns (turned k l Greater more))
      ]
    ]

runs : (es : List Entry) (ns : Nodes) → puts es ns ≡ run put_in es ns
runs [] ns = refl
runs (e ∷ es) ns = through (put_in e ns) (puts es) (run put_in es) (runs es)
  where
    through : (o : Option Nodes) (f g : Nodes → Option Nodes) → ((n : Nodes) → f n ≡ g n) → option_and_then f o ≡ option_and_then g o
    through None f g same = refl
    through (Some n) f g same = same n

-- nor does the order of many matter
puts_permutation : (es fs : List Entry) → IsPermutation es fs → (ns : Nodes) → puts es ns ≡ puts fs ns
puts_permutation es fs p ns = runs es ns ∙ sym (run_permutation put_in commute es fs p ns) ∙ sym (runs fs ns)

-- the nodes of entries in order
abbrev nodes_of : List Entry → Nodes
nodes_of [] = no_nodes
nodes_of (e ∷ es) = node e.key.now (value (data_of e.held)) (nodes_of es)

closed : (es : List Entry) → close (nodes_of es) ≡ members_of es
closed [] = refl
closed (e ∷ es) = rw (closed es) refl

-- entries behind a first node
behind : (k : List ℕ) (x : Node) (es : List Entry) (ns : Nodes) → AllByRecursion (λ l. slice_cmp nat_cmp k l ≡ Less) (keys_of es) → puts es (node k x ns) ≡ option_map (node k x) (puts es ns)
behind k x [] ns h = refl
behind k x (e ∷ es) ns h =
    ap (option_and_then (puts es)) ((passes_at_key k e.key.now (key_value (data_of e.held)) h.0).head x ns) ∙ through (put_in e ns) (puts es) (λ n. behind k x es n h.1)
  where
    through : (o : Option Nodes) (f : Nodes → Option Nodes) → ((n : Nodes) → f (node k x n) ≡ option_map (node k x) (f n)) → option_and_then f (option_map (node k x) o) ≡ option_map (node k x) (option_and_then f o)
    through None f same = refl
    through (Some n) f same = same n

puts_sorted : (es : List Entry) → IsStrictlySortedBy (slice_cmp nat_cmp) (keys_of es) → puts es no_nodes ≡ Some (nodes_of es)
puts_sorted [] h = refl
puts_sorted (e ∷ es) h =
    let k = e.key.now in
    let rest = puts_sorted es (sorted_tail (slice_cmp nat_cmp) k (keys_of es) h) in
    ap (option_and_then (puts es)) (free k (data_of e.held) no_nodes refl)
    ∙ behind k (value (data_of e.held)) es no_nodes (sorted_head (slice_cmp nat_cmp) k (keys_of es) h) ∙ ap (option_map (node k (value (data_of e.held)))) rest

-- lines in any order leave the members in order, where no key comes twice
pub puts_in_order : (es fs : List Entry) → IsPermutation es fs → IsStrictlySortedBy (slice_cmp nat_cmp) (keys_of fs) → (n : Nodes) × (puts es no_nodes ≡ Some n) × (close n ≡ members_of fs)
puts_in_order es fs p h = (nodes_of fs, puts_permutation es fs p no_nodes ∙ puts_sorted fs h, closed fs)

-- keys of which each is before the next
pub ascending : (es : List Entry) (n : ℕ) → length es ≤ n → AllAdjacentBelow (λ a b. slice_cmp nat_cmp a.key.now b.key.now ≡ Less) es n → IsStrictlySortedBy (slice_cmp nat_cmp) (keys_of es)
unfolding IsStrictlySortedBy
ascending [] n long h = tt
ascending (e ∷ es) n long h =
    let all : List Entry = e ∷ es in
    let long_keys : length (keys_of all) ≡ length all = length-map all (λ (f : Entry). f.key.now) in
    sorted_from_all_adjacent nat_list_cmp_total (keys_of all) [] (λ k lt.
    rw (get_or-map (λ (f : Entry). f.key.now) all k e [] (omega (arith, lt, long_keys)), get_or-map (λ (f : Entry). f.key.now) all (k + 1) e [] (omega (arith, lt, long_keys))) (h k e (omega (arith, lt, long, long_keys))))
