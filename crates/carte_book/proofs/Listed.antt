-- Rules gathered entry by entry, and put in order.
use Rattle.std.proofs.Common.{◌≡◌, ℕ, ◌+◌, ◌≤◌, Bool, true, false, List, [], ◌∷◌, ◌++◌, length, slice_index_or, All, Ordering, Less, Equal, Greater, Bor, refl, ap, sym, ◌∙◌, arith, IsPermutation}
use Rattle.std.specs.Cmp.{IsStrictWeakOrder}
use Rattle.std.specs.Cmp.Lexicographic.{nat_list_eq_equiv}
use Rattle.std.specs.Fn.{Mut, Called, ComparesAs}
use Rattle.std.specs.List.{AllAdjacentBelow, IsDistinct}
use Rattle.std.specs.List.Sorted.{IsSortedBy, IsStrictlySortedBy}
use Rattle.std.specs.Ordering.{is_lt, is_eq, ordering_reverse}
use Rattle.std.proofs.lemmas.Cmp.{nat_list_cmp_total}
use Rattle.std.proofs.lemmas.Fn.{always_returns_same}
use Rattle.std.proofs.lemmas.List.{get_or-map, length-map}
use Rattle.std.proofs.lemmas.List.Elements.{All-nil}
use Rattle.std.proofs.lemmas.List.Sorted.{ranks_by, IsPermutation-map}
use Rattle.std.proofs.lemmas.Map.Keys.{apart_from_distinct, IsDistinct-IsPermutation, sorted_from_all_adjacent}
use Rattle.std.proofs.lemmas.Map.Text.{is_eq-slice_cmp}
use Rattle.carte_name.specs.declared.kind.Kind.{Kind}
use Rattle.carte_name.specs.Names.{name_cmp, name_eq}
use Rattle.carte_book.specs.Book.{rules_among, entries_view}
use Rattle.carte_book.specs.Fits.{Fits}
use Rattle.carte_book.specs.Order.{names_of, rules_view, IsFormulaOf}
use Rattle.carte_book.specs.declared.book.Item.{Item as CodeItem}
use Rattle.carte_book.specs.declared.order.HeldRule.{HeldRule}

abbrev pub Entries : Type 0
Entries = List (List ℕ × CodeItem)

-- the rules of the entries so far, and those left are all
pub record IsListed (q : Kind) (all : Entries) (rules : List HeldRule) (rest : Entries) : Type 0 where
  pub whole : rules_view rules ++ rules_among (entries_view rest) ≡ rules_among (entries_view all)
  pub formulas : All IsFormulaOf rules
  pub fit : Fits q rest

pub none_listed : (q : Kind) (all : Entries) (rules : List HeldRule) (rest : Entries) → rules ≡ [] → rest ≡ all → Fits q all → IsListed q all rules rest
none_listed q all rules rest none is fit = rw (none, is) (record { whole = refl; formulas = All-nil IsFormulaOf; fit = fit })

-- names that don't fall and are apart rise
rises : (k j : List ℕ) → is_lt (name_cmp j k) ≡ false → name_eq k j ≡ false → name_cmp k j ≡ Less
rises k j up apart = by (name_cmp k j) refl
  where
    by : (o : Ordering) → name_cmp k j ≡ o → o ≡ Less
    by Less is = refl
    by Equal is = let clash : true ≡ false = sym (ap is_eq is) ∙ is_eq-slice_cmp k j ∙ apart in cc
    by Greater is = let clash : true ≡ false = sym (ap is_lt (nat_list_cmp_total.antisymm j k ∙ ap ordering_reverse is)) ∙ up in cc

abbrev by_name : HeldRule → HeldRule → Bool
by_name x y = is_lt (name_cmp x.name.now y.name.now)

rising : (rs : List HeldRule) → IsDistinct name_eq (names_of rs) → IsSortedBy by_name rs → IsStrictlySortedBy name_cmp (names_of rs)
unfolding IsStrictlySortedBy
rising [] apart up = tt
rising (r ∷ rs) apart up =
    let all : List HeldRule = r ∷ rs in
    let long : length (names_of all) ≡ length all = length-map all (λ (x : HeldRule). x.name.now) in
    sorted_from_all_adjacent nat_list_cmp_total (names_of all) [] (λ k lt.
    let here = get_or-map (λ (x : HeldRule). x.name.now) all k r [] (omega (arith, lt, long)) in
    let next = get_or-map (λ (x : HeldRule). x.name.now) all (k + 1) r [] (omega (arith, lt, long)) in
    rises (slice_index_or (names_of all) k []) (slice_index_or (names_of all) (k + 1) []) (rw (here, next) (up k r (omega arith) (omega (arith, lt, long)))) (apart_from_distinct name_eq (names_of all) k (k + 1) [] apart (omega arith) lt))

-- what a sort by names leaves
pub sorted_rises : {F : Type 0} {g : Mut F (Bor HeldRule × (Bor HeldRule × Unit {0})) Ordering} {f : F} (found sorted : List HeldRule) → IsDistinct name_eq (names_of found) → IsPermutation found sorted
    → ((lt : HeldRule → HeldRule → Bool) → IsStrictWeakOrder lt → ComparesAs g lt f → IsSortedBy lt sorted)
    → ((a : Bor HeldRule × (Bor HeldRule × Unit {0})) (r : Ordering) (f' : F) → Called g f a r f' → (r ≡ name_cmp a.0.now.name.now a.1.0.now.name.now) × (f' ≡ f)) → IsStrictlySortedBy name_cmp (names_of sorted)
sorted_rises {g = g} {f = f} found sorted apart moved up answers =
    let still_apart = IsDistinct-IsPermutation name_eq nat_list_eq_equiv.symm (names_of found) (names_of sorted) (IsPermutation-map (λ (x : HeldRule). x.name.now) found sorted moved) apart in
    rising sorted still_apart (up by_name (ranks_by nat_list_cmp_total (λ (x : HeldRule). x.name.now)) (always_returns_same g (λ a r. is_lt r ≡ by_name a.0.now a.1.0.now) f (λ a r f' k. (ap is_lt (answers a r f' k).0, (answers a r f' k).1))))

-- names of which each is before the next
pub ascending : (rs : List HeldRule) (n : ℕ) → length rs ≤ n → AllAdjacentBelow (λ x y. name_cmp x.name.now y.name.now ≡ Less) rs n → IsStrictlySortedBy name_cmp (names_of rs)
unfolding IsStrictlySortedBy
ascending [] n past h = tt
ascending (r ∷ rs) n past h =
    let all : List HeldRule = r ∷ rs in
    let long : length (names_of all) ≡ length all = length-map all (λ (x : HeldRule). x.name.now) in
    sorted_from_all_adjacent nat_list_cmp_total (names_of all) [] (λ k lt.
    rw (get_or-map (λ (x : HeldRule). x.name.now) all k r [] (omega (arith, lt, long)), get_or-map (λ (x : HeldRule). x.name.now) all (k + 1) r [] (omega (arith, lt, long))) (h k r (omega (arith, lt, past, long))))
