-- Names that were sorted, without those that stand there twice.
use Rattle.std.proofs.Common.{◌≡◌, ℕ, zero, suc, ◌<◌, List, [], ◌∷◌, length, get_or, sym, subst, inl, inr, arith}
use Rattle.std.specs.Cmp.Lexicographic.{nat_list_eq_equiv, nat_list_cmp_total, texts_ties}
use Rattle.std.specs.List.{Contains, dedup}
use Rattle.std.specs.List.Retain.{DiffersFromLast, IsFiltered}
use Rattle.std.specs.List.Sorted.{IsPermutation, IsSorted}
use Rattle.std.proofs.lemmas.List.Filters.{dedup_is}
use Rattle.std.proofs.lemmas.List.Kept.{IsStrictlySortedBy-dedup, Contains-dedup, Contains-from_dedup}
use Rattle.std.proofs.lemmas.List.Sorted.{Contains-permutation, IsPermutation-sym}
use Rattle.carte_name.specs.Names.{name_cmp, name_eq}
use Rattle.carte_value.specs.Truths.{Among, IsListOf}
use Rattle.carte_table.proofs.Names.{name_eq_is}

from_place : (ks : List (List ℕ)) (k : List ℕ) (i : ℕ) → i < length ks → get_or ks i k ≡ k → Among ks k
from_place [] k i below is = absurd (omega arith)
from_place (j ∷ js) k zero below is = inl (sym is)
from_place (j ∷ js) k (suc i) below is = inr (from_place js k i (omega arith) is)

to_place : (ks : List (List ℕ)) (k : List ℕ) → Among ks k → Contains ks k
to_place [] k nowhere = absurd nowhere
to_place (j ∷ js) k (inl same) = (zero, omega arith, sym same)
to_place (j ∷ js) k (inr later) = let there = to_place js k later in let below = there.1 in (suc there.0, omega arith, there.2)

module _ (names sorted listed : List (List ℕ)) (moved : IsPermutation names sorted) (rising : IsSorted name_cmp sorted) (once : IsFiltered (DiffersFromLast name_eq) [] sorted listed) where
  there : (k : List ℕ) → Contains (dedup name_eq sorted) k → Contains names k
  there k c = Contains-permutation sorted names k (IsPermutation-sym names sorted moved) (Contains-from_dedup name_eq sorted k c)

  back : (k : List ℕ) → Contains names k → Contains (dedup name_eq sorted) k
  back k c = Contains-dedup nat_list_eq_equiv name_eq_is sorted k (Contains-permutation names sorted k moved c)

  pub all_listed : IsListOf (Among names) listed
  all_listed = subst (IsListOf (Among names)) (sym (dedup_is name_eq sorted listed once)) (record {
    rising = IsStrictlySortedBy-dedup nat_list_cmp_total texts_ties sorted rising;
    only = λ k among. let c = there k (to_place (dedup name_eq sorted) k among) in from_place names k c.0 c.1 c.2;
    each = λ k among. let c = back k (to_place names k among) in from_place (dedup name_eq sorted) k c.0 c.1 c.2;
  })
