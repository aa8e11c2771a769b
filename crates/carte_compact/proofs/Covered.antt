-- What the lists take is live, where no key comes twice in them.
use Rattle.std.proofs.Common.{◌≡◌, ◌≤◌, ℕ, ◌+◌, Bool, true, false, List, [], ◌∷◌, Option, Some, None, length, map, refl, ap, sym, ◌∙◌, inl, inr, ◌⊎◌, arith, length-append}
use Rattle.std.specs.List.{AllByRecursion, IsDistinct, flat_map}
use Rattle.std.specs.Prelude.{find, option_map, if◌then◌else◌}
use Rattle.carte_name.specs.Names.{name_eq}
use Rattle.carte_value.specs.declared.link.Link.{Link}
use Rattle.carte_value.specs.Truths.{Among, IsListOf}
use Rattle.carte_value.specs.Spelling.{spelling}
use Rattle.carte_codec.specs.Parts.{spelled_count, spelled_link, spelled_list, spelled_name, spelled_option}
use Rattle.carte_table.specs.Lookups.{digest_in}
use Rattle.carte_table.proofs.Names.{name_eq_is, name_eq_self, name_eq_sym}
use Rattle.carte_table.proofs.Steps.{of_key}
use Rattle.carte_record.specs.declared.entry.Entry.{Entry}
use Rattle.carte_record.specs.declared.kept.Kept.{Kept}
use Rattle.carte_record.specs.Bodies.{spelled_entry, spelled_names}
use Rattle.carte_table.specs.Latest.{last_ones, latest_length}
use Rattle.carte_record.specs.Marked.{marked_as}
use Rattle.carte_compact.specs.Lengths.{front_size}
use Rattle.carte_compact.specs.Live.{chain_for, entry_at, found_at, keys_of, link_at, names_of, put, stale_at}

-- ---- sums over names

abbrev sum_of : (List ℕ → ℕ) → List (List ℕ) → ℕ
sum_of w [] = 0
sum_of w (n ∷ ns) = w n + sum_of w ns

abbrev without : List ℕ → List (List ℕ) → List (List ℕ)
without k [] = []
without k (n ∷ ns) = if name_eq k n then ns else n ∷ without k ns

sum_without : (w : List ℕ → ℕ) (k : List ℕ) (ns : List (List ℕ)) → Among ns k → sum_of w ns ≡ w k + sum_of w (without k ns)
sum_without w k [] nowhere = absurd nowhere
sum_without w k (n ∷ ns) there = on (name_eq k n) refl (λ later. sum_without w k ns later) there
  where
    on : (b : Bool) → name_eq k n ≡ b → (Among ns k → sum_of w ns ≡ w k + sum_of w (without k ns)) → (k ≡ n) ⊎ Among ns k → w n + sum_of w ns ≡ w k + sum_of w (if b then ns else n ∷ without k ns)
    on true same rest any = ap (λ j. w j + sum_of w ns) (sym (name_eq_is k n same))
    on false apart rest (inl is) = absurd (let clash : true ≡ false = sym (name_eq_self k) ∙ ap (name_eq k) is ∙ apart in cc)
    on false apart rest (inr later) = omega (arith, rest later)

among_without : (k q : List ℕ) (ns : List (List ℕ)) → name_eq k q ≡ false → Among ns q → Among (without k ns) q
among_without k q [] apart nowhere = nowhere
among_without k q (n ∷ ns) apart there = on (name_eq k n) refl (λ later. among_without k q ns apart later) there
  where
    on : (b : Bool) → name_eq k n ≡ b → (Among ns q → Among (without k ns) q) → (q ≡ n) ⊎ Among ns q → Among (if b then ns else n ∷ without k ns) q
    on true same rest (inl is) = absurd (let clash : true ≡ false = sym same ∙ ap (name_eq k) (sym is) ∙ apart in cc)
    on true same rest (inr later) = later
    on false other rest (inl is) = inl is
    on false other rest (inr later) = inr (rest later)

each_apart : (k q : List ℕ) (ks : List (List ℕ)) → AllByRecursion (λ j. name_eq k j ≡ false) ks → Among ks q → name_eq k q ≡ false
each_apart k q [] all nowhere = absurd nowhere
each_apart k q (j ∷ js) all (inl is) = ap (name_eq k) is ∙ all.0
each_apart k q (j ∷ js) all (inr later) = each_apart k q js all.1 later

zero_least : (n : ℕ) → 0 ≤ n
zero_least n = omega arith

-- distinct names that all stand in a list come to no more than the list
fewer : (w : List ℕ → ℕ) (ks ns : List (List ℕ)) → IsDistinct name_eq ks → ((q : List ℕ) → Among ks q → Among ns q) → sum_of w ks ≤ sum_of w ns
unfolding IsDistinct
fewer w [] ns distinct into = zero_least (sum_of w ns)
fewer w (k ∷ ks) ns distinct into =
    let rest = fewer w ks (without k ns) distinct.1 (λ q there. among_without k q ns (each_apart k q ks distinct.0 there) (into q (inr there))) in
    omega (arith, rest, sum_without w k ns (into k (inl refl)))

-- ---- each item is found by its key

passed_by : {A : Type 0} (key : A → List ℕ) (x : A) (xs ys : List A) → AllByRecursion (λ y. find (of_key key (key y)) xs ≡ Some y) ys → AllByRecursion (λ k. name_eq (key x) k ≡ false) (map key ys)
    → AllByRecursion (λ y. find (of_key key (key y)) (x ∷ xs) ≡ Some y) ys
passed_by key x xs [] found apart = tt
passed_by key x xs (y ∷ ys) found apart = (rw (name_eq_sym (key y) (key x) ∙ apart.0) found.0, passed_by key x xs ys found.1 apart.1)

each_found : {A : Type 0} (key : A → List ℕ) (xs : List A) → IsDistinct name_eq (map key xs) → AllByRecursion (λ x. find (of_key key (key x)) xs ≡ Some x) xs
unfolding IsDistinct
each_found key [] distinct = tt
each_found key (x ∷ xs) distinct = (rw (name_eq_self (key x)) refl, passed_by key x xs xs (each_found key xs distinct.1) distinct.0)

nothing_before : (n : ℕ) → n ≡ 0 + n
nothing_before n = omega arith

-- ---- what is found takes as much as the items

module _ {A : Type 0} (key : A → List ℕ) (spelled : A → List ℕ) (f : List ℕ → Option A) where
  abbrev long : List ℕ → ℕ
  long n = length (flat_map spelled (put (f n) []))

  found_sum : (ns : List (List ℕ)) → length (flat_map spelled (found_at f ns)) ≡ sum_of long ns
  found_sum [] = refl
  found_sum (n ∷ ns) = on (f n) ∙ ap (λ m. long n + m) (found_sum ns)
    where
      on : (o : Option A) → length (flat_map spelled (put o (found_at f ns))) ≡ length (flat_map spelled (put o [])) + length (flat_map spelled (found_at f ns))
      on None = nothing_before (length (flat_map spelled (found_at f ns)))
      on (Some x) = omega (arith, length-append (spelled x) (flat_map spelled (found_at f ns)), length-append (spelled x) [])

  items_sum : (xs : List A) → AllByRecursion (λ x. length (spelled x) ≡ long (key x)) xs → length (flat_map spelled xs) ≡ sum_of long (map key xs)
  items_sum [] all = refl
  items_sum (x ∷ xs) all = omega (arith, length-append (spelled x) (flat_map spelled xs), all.0, items_sum xs all.1)

  covered : (xs : List A) (ns : List (List ℕ)) → IsDistinct name_eq (map key xs) → AllByRecursion (λ x. length (spelled x) ≡ long (key x)) xs → IsListOf (Among (map key xs)) ns
      → length (flat_map spelled xs) ≤ length (flat_map spelled (found_at f ns))
  covered xs ns distinct all listed =
      let within = fewer long (map key xs) ns distinct listed.each in
      omega (arith, within, items_sum xs all, found_sum ns)

alone : {A : Type 0} (spelled : A → List ℕ) (x : A) → length (flat_map spelled (x ∷ [])) ≡ length (spelled x)
alone spelled x = omega (arith, length-append (spelled x) [])

each_link : (all ls : List Link) → AllByRecursion (λ l. find (of_key (λ (m : Link). m.name) l.name) all ≡ Some l) ls → AllByRecursion (λ l. length (spelled_link l) ≡ long (λ (m : Link). m.name) spelled_link (link_at all) l.name) ls
each_link all [] found = tt
each_link all (l ∷ ls) found = (sym (ap (λ o. length (flat_map spelled_link (put (option_map (λ d. let m : Link = record { name = l.name; digest = d } in m) (digest_in o)) []))) found.0 ∙ alone spelled_link l), each_link all ls found.1)

each_entry : (all es : List Entry) → AllByRecursion (λ e. find (of_key (λ (m : Entry). m.key) e.key) all ≡ Some e) es → AllByRecursion (λ e. length (spelled_entry e) ≡ long (λ (m : Entry). m.key) spelled_entry (entry_at all) e.key) es
each_entry all [] found = tt
each_entry all (e ∷ es) found = (sym (ap (λ o. length (flat_map spelled_entry (put (option_map (marked_as false) o) []))) found.0 ∙ alone spelled_entry e), each_entry all es found.1)

pub links_covered : (ls : List Link) (names : List (List ℕ)) → IsDistinct name_eq (map (λ l. l.name) ls) → IsListOf (Among (names_of ls)) names
    → length (flat_map spelled_link ls) ≤ length (flat_map spelled_link (found_at (link_at ls) names))
links_covered ls names distinct listed = covered (λ (l : Link). l.name) spelled_link (link_at ls) ls names distinct (each_link ls ls (each_found (λ (l : Link). l.name) ls distinct)) listed

pub entries_covered : (es : List Entry) (keys : List (List ℕ)) → IsDistinct name_eq (map (λ e. e.key) es) → IsListOf (Among (keys_of es)) keys
    → length (flat_map spelled_entry es) ≤ length (flat_map spelled_entry (found_at (entry_at es) keys))
entries_covered es keys distinct listed = covered (λ (e : Entry). e.key) spelled_entry (entry_at es) es keys distinct (each_entry es es (each_found (λ (e : Entry). e.key) es distinct)) listed

-- a name takes a byte at least
names_long : (ks : List (List ℕ)) → length ks ≤ length (flat_map spelled_name ks)
names_long [] = omega arith
names_long (k ∷ ks) = omega (arith, names_long ks, length-append (spelled_name k) (flat_map spelled_name ks))

pub chain_long : (ks : List (List ℕ)) → length ks + 1 ≤ length (spelled_option spelled_names (chain_for ks))
chain_long [] = omega arith
chain_long (k ∷ ks) = omega (arith, names_long (k ∷ ks), length-append (spelled_count (length (k ∷ ks))) (flat_map spelled_name (k ∷ ks)))

pub traces_long : {A : Type 0} (alike : A → A → Bool) (spelled : A → List ℕ) (n : ℕ) (xs : List A) → n ≤ latest_length alike spelled xs → n + 4 ≤ length (spelled_list spelled (last_ones alike xs))
traces_long alike spelled n xs within = omega (arith, within, length-append (spelled_count (length (last_ones alike xs))) (flat_map spelled (last_ones alike xs)))

pub front_covered : (K : Kept) (values links entries n : ℕ) → values ≡ length (flat_map spelling K.values)
    → links ≡ length (flat_map spelled_link K.seen) → IsDistinct name_eq (map (λ l. l.name) K.seen) → entries ≡ length (flat_map spelled_entry K.entries) → IsDistinct name_eq (map (λ e. e.key) K.entries)
    → n ≡ values + links + entries + 21 → (names keys : List (List ℕ)) → IsListOf (Among (names_of K.seen)) names → IsListOf (Among (keys_of K.entries)) keys → n ≤ front_size K names keys
front_covered K values links entries n values_is links_is links_once entries_is entries_once sum names keys seen listed =
    let a = links_covered K.seen names links_once seen in
    let b = entries_covered K.entries keys entries_once listed in
    let marks = length-append (spelled_count (length (stale_at K.entries keys))) (flat_map spelled_name (stale_at K.entries keys)) in
    omega (arith, sum, values_is, links_is, entries_is, a, b, marks, length-append (spelled_count (length K.values)) (flat_map spelling K.values))
