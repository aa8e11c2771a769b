-- There is one reason at most where rules are ordered first, and none where no rule is dynamic and every target has a clean value.
use Rattle.std.proofs.Common.{◌≡◌, ℕ, List, length, Ordering, Less, Equal, Greater, refl, ap}
use Rattle.std.specs.Ordering.{nat_cmp, ordering_reverse}
use Rattle.std.specs.Cmp.Lexicographic.{slice_cmp, lists_total}
use Rattle.std.specs.FinMap.{slice_cmp-IsAntisymmetric, nat_cmp-IsAntisymmetric}
use Rattle.std.proofs.lemmas.Cmp.{nat_cmp_total, nat_list_cmp_total}
use Rattle.carte_name.specs.Names.{name_cmp}
use Rattle.carte_book.specs.Book.{Book}
use Rattle.carte_book.specs.Reason.{AllClean}
use Rattle.carte_book.specs.Dynamic.{NoDynamicPath, path_cmp, IsOrderReason}
use Rattle.carte_book.specs.declared.reason.Reason.{Reason}
use Rattle.carte_book.specs.declared.reason.Reason.TheVariants.{Cycle, Missing, Dynamic}
use Rattle.carte_book.proofs.Reasons.{one_reason, no_reason}

paths_reversed : (p q : List (List ℕ)) → slice_cmp name_cmp p q ≡ ordering_reverse (slice_cmp name_cmp q p)
paths_reversed p q = (lists_total nat_list_cmp_total).antisymm p q

-- of two different paths one comes first
one_is_first : (p q : List (List ℕ)) → ¬ (path_cmp p q ≡ Less) → ¬ (path_cmp q p ≡ Less) → p ≡ q
one_is_first p q not_p not_q = by_length (nat_cmp (length q) (length p)) (nat_cmp_total.antisymm (length p) (length q)) refl
  where
    by_name : (o : Ordering) → slice_cmp name_cmp p q ≡ ordering_reverse o → slice_cmp name_cmp q p ≡ o → nat_cmp (length p) (length q) ≡ Equal → nat_cmp (length q) (length p) ≡ Equal → p ≡ q
    by_name Less turned is here there = absurd (not_q (rw there is))
    by_name Equal turned is here there = slice_cmp-IsAntisymmetric (slice_cmp-IsAntisymmetric nat_cmp-IsAntisymmetric) p q turned
    by_name Greater turned is here there = absurd (not_p (rw here turned))

    by_length : (o : Ordering) → nat_cmp (length p) (length q) ≡ ordering_reverse o → nat_cmp (length q) (length p) ≡ o → p ≡ q
    by_length Less turned is = absurd (not_q (rw is refl))
    by_length Equal turned is = by_name (slice_cmp name_cmp q p) (paths_reversed p q) refl turned is
    by_length Greater turned is = absurd (not_p (rw turned refl))

pub one_order_reason : (b : Book) (ts : List (List ℕ)) (r s : Reason) → IsOrderReason b ts r → IsOrderReason b ts s → r ≡ s
one_order_reason b ts (Dynamic p) (Dynamic q) h g = ap Dynamic (one_is_first p q (g.first p h.is_path) (h.first q g.is_path))
one_order_reason b ts (Dynamic p) (Cycle q) h g = absurd (g.0 p h.is_path)
one_order_reason b ts (Dynamic p) (Missing q) h g = absurd (g.0 p h.is_path)
one_order_reason b ts (Cycle p) (Dynamic q) h g = absurd (h.0 q g.is_path)
one_order_reason b ts (Missing p) (Dynamic q) h g = absurd (h.0 q g.is_path)
one_order_reason b ts (Cycle p) (Cycle q) h g = one_reason b ts (Cycle p) (Cycle q) h.1 g.1
one_order_reason b ts (Cycle p) (Missing q) h g = one_reason b ts (Cycle p) (Missing q) h.1 g.1
one_order_reason b ts (Missing p) (Cycle q) h g = one_reason b ts (Missing p) (Cycle q) h.1 g.1
one_order_reason b ts (Missing p) (Missing q) h g = one_reason b ts (Missing p) (Missing q) h.1 g.1

pub no_order_reason : (b : Book) (ts : List (List ℕ)) (r : Reason) → IsOrderReason b ts r → NoDynamicPath b ts → AllClean b ts → ⊥
no_order_reason b ts (Dynamic p) h none all = none p h.is_path
no_order_reason b ts (Cycle p) h none all = no_reason b ts (Cycle p) h.1 all
no_order_reason b ts (Missing p) h none all = no_reason b ts (Missing p) h.1 all
