-- The list of the marks.
use Rattle.std.proofs.Common.{◌≡◌, ℕ, zero, suc, ◌<◌, List, [], ◌∷◌, ◌++◌, length, get_or, refl, sym, subst, inl, inr, arith}
use Rattle.std.specs.Prelude.{◌↔◌}
use Rattle.std.specs.List.{Contains, dedup}
use Rattle.std.specs.List.Retain.{DiffersFromLast, IsFiltered}
use Rattle.std.specs.List.Sorted.{IsPermutation, IsSorted, IsStrictlySortedBy}
use Rattle.std.specs.Cmp.Lexicographic.{nat_list_eq_equiv, nat_list_cmp_total, texts_ties}
use Rattle.std.proofs.lemmas.List.Filters.{dedup_is}
use Rattle.std.proofs.lemmas.List.Kept.{IsStrictlySortedBy-dedup, Contains-dedup, Contains-from_dedup}
use Rattle.std.proofs.lemmas.List.Sorted.{Contains-permutation, IsPermutation-sym}
use Rattle.carte_name.specs.Names.{name_cmp, name_eq}
use Rattle.carte_value.specs.Truths.{Among, IsListOf}
use Rattle.carte_value.proofs.Members.{among_append, among_left, among_right}
use Rattle.carte_book.specs.Book.{Book}
use Rattle.carte_record.specs.declared.kept.Kept.{Kept}
use Rattle.carte_record.specs.Kept.{kept_view}
use Rattle.carte_table.proofs.Names.{name_eq_is}
use Rattle.carte_sound.specs.Marks.{Leads, need, on, Comes, IsMarked}
use Rattle.carte_mark.specs.Marking.{IsToMark, Pushes, ArePicked}
use Rattle.carte_mark.specs.Reached.{AreChanged}
use Rattle.carte_mark.specs.Passes.{AreReached}

-- those that are picked

module _ (P : List ℕ → Type 0) where
  pub picked_first : (ms : List (List ℕ)) → ms ≡ [] → ArePicked P [] ms
  picked_first ms none k = ((λ among. absurd (subst (λ ks. Among ks k) none among)), (λ p. absurd p.0))

  pub picked_more : (before : List (List ℕ)) (n : List ℕ) (old new : List (List ℕ)) → ArePicked P before old → Pushes P old new n → ArePicked P (before ++ n ∷ []) new
  picked_more before n old new so (inl (picks, is)) k = subst (λ ks. Among ks k ↔ (Among (before ++ n ∷ []) k × P k)) (sym is) (
    (λ among. elim (among_append old (n ∷ []) k among) [
      | inl was ↦ (let p = (so k).0 was in (among_left before (n ∷ []) k p.0, p.1))
      | inr here ↦ elim here [
        | inl same ↦ (among_right before (n ∷ []) k (inl same), subst P (sym same) picks)
        | inr nowhere ↦ absurd nowhere
      ]
    ]),
    (λ p. elim (among_append before (n ∷ []) k p.0) [
      | inl was ↦ among_left old (n ∷ []) k ((so k).1 (was, p.1))
      | inr here ↦ among_right old (n ∷ []) k here
    ]),
  )
  picked_more before n old new so (inr (not_so, is)) k = subst (λ ks. Among ks k ↔ (Among (before ++ n ∷ []) k × P k)) (sym is) (
    (λ among. let p = (so k).0 among in (among_left before (n ∷ []) k p.0, p.1)),
    (λ p. elim (among_append before (n ∷ []) k p.0) [
      | inl was ↦ (so k).1 (was, p.1)
      | inr here ↦ elim here [
        | inl same ↦ absurd (not_so (subst P same p.1))
        | inr nowhere ↦ absurd nowhere
      ]
    ]),
  )

  -- in name order they are a list of another property, which just they have
  pub picked_list : (Q : List ℕ → Type 0) (before ms result : List (List ℕ)) → ArePicked P before ms → IsListOf (Among ms) result → ((k : List ℕ) → Among before k → P k → Q k) → ((k : List ℕ) → Q k → Among before k × P k) → IsListOf Q result
  picked_list Q before ms result picked l to from = record {
    rising = l.rising;
    only = λ k among. let p = (picked k).0 (l.only k among) in to k p.0 p.1;
    each = λ k q. l.each k ((picked k).1 (from k q));
  }

-- in name order, each once

at_among : (ks : List (List ℕ)) (k : List ℕ) (i : ℕ) → i < length ks → get_or ks i k ≡ k → Among ks k
at_among [] k i below is = absurd (omega arith)
at_among (j ∷ js) k zero below is = inl (sym is)
at_among (j ∷ js) k (suc i) below is = inr (at_among js k i (omega arith) is)

contains_among : (ks : List (List ℕ)) (k : List ℕ) → Contains ks k → Among ks k
contains_among ks k c = at_among ks k c.0 c.1 c.2

among_contains : (ks : List (List ℕ)) (k : List ℕ) → Among ks k → Contains ks k
among_contains [] k nowhere = absurd nowhere
among_contains (j ∷ js) k (inl same) = (zero, omega arith, sym same)
among_contains (j ∷ js) k (inr later) = let c = among_contains js k later in let below = c.1 in (suc c.0, omega arith, c.2)

-- a list in name order, and this without what stands there twice
pub record IsInOrder (ms sorted listed : List (List ℕ)) : Type 0 where
  pub permutation : IsPermutation ms sorted
  pub rising : IsSorted name_cmp sorted
  pub once : IsFiltered (DiffersFromLast name_eq) [] sorted listed

pub in_order : (ms sorted listed : List (List ℕ)) → IsInOrder ms sorted listed → IsListOf (Among ms) listed
in_order ms sorted listed o = let is = dedup_is name_eq sorted listed o.once in subst (IsListOf (Among ms)) (sym is) (record {
  rising = IsStrictlySortedBy-dedup nat_list_cmp_total texts_ties sorted o.rising;
  only = λ k among. contains_among ms k (Contains-permutation sorted ms k (IsPermutation-sym ms sorted o.permutation) (Contains-from_dedup name_eq sorted k (among_contains (dedup name_eq sorted) k among)));
  each = λ k among. contains_among (dedup name_eq sorted) k (Contains-dedup nat_list_eq_equiv name_eq_is sorted k (Contains-permutation ms sorted k o.permutation (among_contains ms k among)));
})

-- the keys with entries that aren't stale, of all that is reached from the changed names, are the marks

module _ (K : Kept) (b : Book) (names rs : List (List ℕ)) (changed : AreChanged (kept_view K) b names) (reached : AreReached K names rs) where
  marked : (k : List ℕ) → Among rs k → IsToMark K.entries k → IsMarked (kept_view K) b k
  marked k among m = elim (reached.spreads.only k among) [
    | inl named ↦ record { entry = m.entry; kept = m.kept; unmarked = m.unmarked; name = k; leads = inl refl; changed = changed.only k named }
    | inr l ↦ record { entry = m.entry; kept = m.kept; unmarked = m.unmarked; name = l.name; leads = inr l.leads; changed = changed.only l.name l.among }
  ]

  reached_back : (k n : List ℕ) → Leads (kept_view K) k n → Among names n → Among rs k
  reached_back k n (need e kept among) named = reached.closed k e kept (record { name = n; needed = among; among = reached.spreads.stays n named })
  reached_back k n (on {i = i} e kept among leads) named = reached.closed k e kept (record { name = i; needed = among; among = reached_back i n leads named })

  comes_back : (k n : List ℕ) → Comes (kept_view K) k n → Among names n → Among rs k
  comes_back k n (inl same) named = subst (Among rs) same (reached.spreads.stays n named)
  comes_back k n (inr leads) named = reached_back k n leads named

  to_mark : (k : List ℕ) → IsMarked (kept_view K) b k → Among rs k × IsToMark K.entries k
  to_mark k m = (comes_back k m.name m.leads (changed.each m.name m.changed), record { entry = m.entry; kept = m.kept; unmarked = m.unmarked })

  pub all_marked : (ms result : List (List ℕ)) → ArePicked (IsToMark K.entries) rs ms → IsListOf (Among ms) result → IsListOf (IsMarked (kept_view K) b) result
  all_marked ms result picked l = picked_list (IsToMark K.entries) (IsMarked (kept_view K) b) rs ms result picked l marked to_mark

pub no_names : (ns : List (List ℕ)) → length ns ≡ 0 → ns ≡ []
no_names [] is = refl
no_names (n ∷ ns) is = absurd (omega arith)

nil_rising : IsStrictlySortedBy name_cmp []
unfolding IsStrictlySortedBy
nil_rising = tt

-- where no name has changed none is
pub none_marked : (K : Kept) (b : Book) (ns : List (List ℕ)) → AreChanged (kept_view K) b ns → ns ≡ [] → IsListOf (IsMarked (kept_view K) b) []
none_marked K b ns changed none = record { rising = nil_rising; only = λ k nowhere. absurd nowhere; each = λ k m. subst (λ ks. Among ks m.name) none (changed.each m.name m.changed) }

-- the marks where these names have changed
pub marked_over : (K : Kept) (b : Book) (names marks : List (List ℕ)) → AreChanged (kept_view K) b names → ((c : Book) → AreChanged (kept_view K) c names → IsListOf (IsMarked (kept_view K) c) marks) → IsListOf (IsMarked (kept_view K) b) marks
marked_over K b names marks changed over = over b changed
