-- The rules of a book in name order.
use Rattle.std.proofs.Common.{◌≡◌, ℕ, Bool, true, false, cond, T, ◌&&◌, List, [], ◌∷◌, option_and_then, Option, Some, None, Ordering, Less, Equal, Greater, refl, ap, sym, subst, ◌∙◌, IsPermutation}
use Rattle.std.specs.Ordering.{eq_by_cmp, is_lt}
use Rattle.std.specs.Map.{lookup, keys_of}
use Rattle.std.specs.List.{AllByRecursion, IsDistinct}
use Rattle.std.specs.List.Sorted.{IsStrictlySortedBy}
use Rattle.std.specs.FinMap.{from_entries, entries, entries_sorted, find, get-entries, get-from_entries, slice_cmp-IsAntisymmetric, nat_cmp-IsAntisymmetric}
use Rattle.std.specs.FinMap.Entries.{below_all, is_sorted, same_entries}
use Rattle.std.specs.Cmp.{eq_by_cmp_equiv}
use Rattle.std.proofs.lemmas.Cmp.{nat_list_cmp_total}
use Rattle.std.proofs.lemmas.List.Sorted.{IsPermutation-map}
use Rattle.std.proofs.lemmas.Map.Keys.{IsDistinct-head, IsDistinct-tail, IsDistinct-from_sorted}
use Rattle.indexmap.proofs.MapLemmas.{lookup_permutation}
use Rattle.carte_name.specs.Names.{name_cmp, name_eq}
use Rattle.carte_tree.specs.Tree.{Tree}
use Rattle.carte_book.specs.Book.{Item, input, rule, rules_among, rules_of, entries_view, book_view}
use Rattle.carte_book.specs.Order.{names_of, rule_view, rules_view}
use Rattle.carte_book.specs.declared.book.Item.{Item as CodeItem}
use Rattle.carte_book.specs.declared.book.Book.{Book as CodeBook}
use Rattle.carte_book.specs.declared.order.HeldRule.{HeldRule}
use Rattle.carte_book.proofs.Books.{absent, apart_view, names_tie}
use Rattle.carte_book.proofs.Clean.{tied_name}

both : (a b : Bool) → T a → T b → T (a && b)
both true b p q = q
both false b p q = p

first : (a b : Bool) → T (a && b) → T a
first true b p = tt
first false b p = p

second : (a b : Bool) → T (a && b) → T b
second true b p = p
second false b p = absurd p

less : (o : Ordering) → T (is_lt o) → o ≡ Less
less Less p = refl
less Equal p = absurd p
less Greater p = absurd p

-- two ways to say that names rise
module _ {X : Type 0} where
  below_entries : (k : List ℕ) (es : List (List ℕ × X)) → AllByRecursion (λ q. name_cmp k q ≡ Less) (keys_of es) → T (below_all name_cmp k es)
  below_entries k [] h = tt
  below_entries k (e ∷ es) h = rw (h.0) (below_entries k es h.1)

  sorted_entries : (es : List (List ℕ × X)) → IsStrictlySortedBy name_cmp (keys_of es) → T (is_sorted name_cmp es)
  unfolding IsStrictlySortedBy
  sorted_entries [] h = tt
  sorted_entries (e ∷ es) h = both (below_all name_cmp e.0 es) (is_sorted name_cmp es) (below_entries e.0 es h.0) (sorted_entries es h.1)

  below_keys : (k : List ℕ) (es : List (List ℕ × X)) → T (below_all name_cmp k es) → AllByRecursion (λ q. name_cmp k q ≡ Less) (keys_of es)
  below_keys k [] h = tt
  below_keys k (e ∷ es) h = (less (name_cmp k e.0) (first _ _ h), below_keys k es (second _ _ h))

  sorted_keys : (es : List (List ℕ × X)) → T (is_sorted name_cmp es) → IsStrictlySortedBy name_cmp (keys_of es)
  unfolding IsStrictlySortedBy
  sorted_keys [] h = tt
  sorted_keys (e ∷ es) h = (below_keys e.0 es (first _ _ h), sorted_keys es (second _ _ h))

  found_as : (q : List ℕ) (es : List (List ℕ × X)) → find name_cmp q es ≡ lookup (eq_by_cmp name_cmp q) es
  found_as q [] = refl
  found_as q (e ∷ es) = ap (cond (eq_by_cmp name_cmp q e.0) (Some e.1)) (found_as q es)

-- the rules among entries in order are in order
below_rules : (k : List ℕ) (es : List (List ℕ × Item)) → T (below_all name_cmp k es) → T (below_all name_cmp k (rules_among es))
below_rules k [] h = tt
below_rules k ((j, input v) ∷ es) h = below_rules k es (second _ _ h)
below_rules k ((j, rule e) ∷ es) h = both (is_lt (name_cmp k j)) (below_all name_cmp k (rules_among es)) (first _ _ h) (below_rules k es (second _ _ h))

sorted_rules : (es : List (List ℕ × Item)) → T (is_sorted name_cmp es) → T (is_sorted name_cmp (rules_among es))
sorted_rules [] h = tt
sorted_rules ((j, input v) ∷ es) h = sorted_rules es (second _ _ h)
sorted_rules ((j, rule e) ∷ es) h = both (below_all name_cmp j (rules_among es)) (is_sorted name_cmp (rules_among es)) (below_rules j es (first _ _ h)) (sorted_rules es (second _ _ h))

-- names that are apart stay so among the rules
apart_rest : (k : List ℕ) (es : List (List ℕ × Item)) → AllByRecursion (λ q. eq_by_cmp name_cmp k q ≡ false) (keys_of es) → AllByRecursion (λ q. eq_by_cmp name_cmp k q ≡ false) (keys_of (rules_among es))
apart_rest k [] h = tt
apart_rest k ((j, input v) ∷ es) h = apart_rest k es h.1
apart_rest k ((j, rule e) ∷ es) h = (h.0, apart_rest k es h.1)

pub apart_rules : (es : List (List ℕ × Item)) → IsDistinct (eq_by_cmp name_cmp) (keys_of es) → IsDistinct (eq_by_cmp name_cmp) (keys_of (rules_among es))
unfolding IsDistinct
apart_rules [] h = tt
apart_rules ((j, input v) ∷ es) h = apart_rules es h.1
apart_rules ((j, rule e) ∷ es) h = (apart_rest j es h.0, apart_rules es h.1)

abbrev rule_of : Item → Option Tree
rule_of (input v) = None
rule_of (rule e) = Some e

-- what stands at a name among the rules
found_rule : (q : List ℕ) (es : List (List ℕ × Item)) → IsDistinct (eq_by_cmp name_cmp) (keys_of es) → find name_cmp q (rules_among es) ≡ option_and_then rule_of (find name_cmp q es)
found_rule q [] apart = refl
found_rule q ((k, input v) ∷ es) apart =
    let rest = found_rule q es (IsDistinct-tail _ _ _ apart) in
    elim (eq_by_cmp name_cmp q k) as (λ b. eq_by_cmp name_cmp q k ≡ b → find name_cmp q (rules_among es) ≡ option_and_then rule_of (cond b (Some (input v)) (find name_cmp q es))) [
      | true ↦ λ tie.
          let same : q ≡ k = tied_name q k tie in
          let none : find name_cmp q es ≡ None = rw same (absent k es (IsDistinct-head _ _ _ apart)) in
          rest ∙ ap (option_and_then rule_of) none
      | false ↦ λ other. rest
    ] refl
found_rule q ((k, rule e) ∷ es) apart =
    elim (eq_by_cmp name_cmp q k) as (λ b. cond b (Some e) (find name_cmp q (rules_among es)) ≡ option_and_then rule_of (cond b (Some (rule e)) (find name_cmp q es))) [
      | true ↦ refl
      | false ↦ found_rule q es (IsDistinct-tail _ _ _ apart)
    ]

-- rules of entries in some order that are sorted are those of the map, in its order
pub in_name_order : (es : List (List ℕ × Item)) (rs : List (List ℕ × Tree)) → IsDistinct (eq_by_cmp name_cmp) (keys_of es) → IsPermutation (rules_among es) rs → IsStrictlySortedBy name_cmp (keys_of rs) → rs ≡ rules_among (entries (from_entries {R = name_cmp} es))
in_name_order es rs apart moved sorted =
    let held = entries (from_entries {R = name_cmp} es) in
    let rising : T (is_sorted name_cmp held) = entries_sorted (from_entries {R = name_cmp} es) in
    let held_apart : IsDistinct (eq_by_cmp name_cmp) (keys_of held) = IsDistinct-from_sorted name_cmp (keys_of held) (sorted_keys held rising) in
    same_entries name_cmp nat_list_cmp_total (slice_cmp-IsAntisymmetric nat_cmp-IsAntisymmetric) rs (rules_among held) (sorted_entries rs sorted) (sorted_rules held rising) (λ q.
    let tie = eq_by_cmp_equiv nat_list_cmp_total in
    found_as q rs
    ∙ lookup_permutation tie (rules_among es) rs moved (IsDistinct-from_sorted name_cmp (keys_of rs) sorted) (eq_by_cmp name_cmp q) (tie.congr q)
    ∙ sym (found_as q (rules_among es)) ∙ found_rule q es apart
    ∙ ap (option_and_then rule_of) (sym (get-from_entries nat_list_cmp_total es q) ∙ get-entries (from_entries {R = name_cmp} es) q)
    ∙ sym (found_rule q held held_apart))

names_seen : (rs : List HeldRule) → keys_of (rules_view rs) ≡ names_of rs
names_seen [] = refl
names_seen (r ∷ rs) = ap (λ ks. r.name.now ∷ ks) (names_seen rs)

-- rules that are found in a map have names that are apart
pub names_apart : (es : List (List ℕ × CodeItem)) (found : List HeldRule) → IsDistinct name_eq (keys_of es) → rules_view found ≡ rules_among (entries_view es) → IsDistinct name_eq (names_of found)
names_apart es found apart same =
    let rules_apart : IsDistinct (eq_by_cmp name_cmp) (keys_of (rules_view found)) = subst (λ rs. IsDistinct (eq_by_cmp name_cmp) (keys_of rs)) (sym same) (apart_rules (entries_view es) (apart_view es apart)) in
    subst (λ e. IsDistinct e (names_of found)) (sym names_tie) (subst (IsDistinct (eq_by_cmp name_cmp)) (names_seen found) rules_apart)

-- and sorted they are the rules of the book
pub seen_in_order : (b : CodeBook) (found sorted : List HeldRule) → IsDistinct name_eq (keys_of b.items.entries) → rules_view found ≡ rules_among (entries_view b.items.entries)
    → IsPermutation found sorted → IsStrictlySortedBy name_cmp (names_of sorted) → rules_view sorted ≡ rules_of (book_view b)
seen_in_order b found sorted apart same moved rising =
    in_name_order (entries_view b.items.entries) (rules_view sorted) (apart_view b.items.entries apart)
    (subst (λ rs. IsPermutation rs (rules_view sorted)) same (IsPermutation-map rule_view found sorted moved))
    (subst (IsStrictlySortedBy name_cmp) (sym (names_seen sorted)) rising)
