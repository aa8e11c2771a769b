-- What a rule without a clean value waits for is the last of its needs, and what waits so for ever has none.
use Rattle.std.proofs.Common.{◌≡◌, ℕ, zero, suc, List, Option, Some, None, Result, Ok, Err, refl, sym, ◌∙◌, inl, inr}
use Rattle.std.specs.Result.{result_ok}
use Rattle.carte_value.specs.declared.value.Value.{Value}
use Rattle.carte_value.specs.Truths.{Among}
use Rattle.carte_value.specs.Asks.{asked}
use Rattle.carte_value.proofs.Asks.{asked_kept, asked_known, stop_open}
use Rattle.carte_value.proofs.Firsts.{among_firsts}
use Rattle.carte_value.proofs.Members.{last_among}
use Rattle.carte_value.proofs.Stops.{asked_none, stop_last_once}
use Rattle.carte_tree.specs.Tree.{Tree}
use Rattle.carte_tree.specs.Meaning.{asks, eval, fetched}
use Rattle.carte_book.specs.Book.{Item, input, rule, Book, content, val, clean}
use Rattle.carte_book.specs.Needs.{needs, needs_of}
use Rattle.carte_book.specs.Reason.{StuckAt}
use Rattle.carte_book.specs.Stuck.{IsStuckAtLast, StuckIsLastNeed, IsBlockedBy}
use Rattle.carte_book.proofs.Clean.{val_clean}

-- a rule that needs the name, with its formula
pub record Needing (b : Book) (k j : List ℕ) : Type 0 where
  pub formula : Tree
  pub is_rule : content b k ≡ Some (rule formula)
  pub fetches : Among (fetched b.kind (clean b) formula) j

pub need_rule : (b : Book) (k j : List ℕ) → Among (needs b k) j → Needing b k j
need_rule b k j = at (content b k) refl
  where
    at : (o : Option Item) → content b k ≡ o → Among (needs_of o (λ e. fetched b.kind (clean b) e)) j → Needing b k j
    at None is here = absurd here
    at (Some (input v)) is here = absurd here
    at (Some (rule e)) is here = record { formula = e; is_rule = is; fetches = here }

pub needs_are : (b : Book) (k : List ℕ) (e : Tree) → content b k ≡ Some (rule e) → needs b k ≡ fetched b.kind (clean b) e
needs_are b k e is = rw is refl

-- a need without a clean value is the stuck one
pub stuck_at : (b : Book) (k j : List ℕ) → Among (needs b k) j → clean b j ≡ None → StuckAt b k j
stuck_at b k j need none =
    let n = need_rule b k j need in
    (n.formula, n.is_rule, asked_none (clean b) (asks b.kind n.formula) j (among_firsts (asked (clean b) (asks b.kind n.formula)) j n.fetches) none)

pub stuck_last : (b : Book) (k j : List ℕ) → StuckAt b k j → IsStuckAtLast b k j
stuck_last b k j (e, is, stops) = record {
  last = rw (needs_are b k e is) (stop_last_once (clean b) (asks b.kind e) j stops);
  none = stop_open (clean b) (asks b.kind e) j stops;
}

pub stuck_both : (b : Book) (k j : List ℕ) → StuckIsLastNeed b k j
stuck_both b k j = record {
  is_last = λ stuck. stuck_last b k j stuck;
  is_stuck = λ at. stuck_at b k j (last_among (needs b k) j at.last) at.none;
}

-- a stuck need is a need
pub stuck_need : (b : Book) (k j : List ℕ) → StuckAt b k j → Among (needs b k) j
stuck_need b k j stuck = last_among (needs b k) j (stuck_last b k j stuck).last

module _ (b : Book) (P : List ℕ → Type 0) (blocked : (k : List ℕ) → P k → IsBlockedBy b P k) where
  -- what ends in a round has values of all that it needs
  stops_here : (n : ℕ) (k j : List ℕ) (e : Tree) → content b k ≡ Some (rule e) → Among (needs b k) j → val b n j ≡ None → result_ok (eval b.kind (val b n) e) ≡ None
  stops_here n k j e is need none = at (eval b.kind (val b n) e) refl
    where
      at : (r : Result Value (List ℕ)) → eval b.kind (val b n) e ≡ r → result_ok r ≡ None
      at (Err i) ends = refl
      at (Ok v) ends =
          let more = val_clean b n in
          let same : asked (clean b) (asks b.kind e) ≡ asked (val b n) (asks b.kind e) = asked_kept (val b n) (clean b) (asks b.kind e) v more ends in
          let all : Among (fetched b.kind (clean b) e) j = rw (needs_are b k e is) at need in
          let here : Among (asked (val b n) (asks b.kind e)) j = rw same at (among_firsts (asked (clean b) (asks b.kind e)) j all) in
          let known = asked_known (val b n) (asks b.kind e) v j ends here in
          let both : Some known.0 ≡ None = sym known.1 ∙ none in
          cc

  none_in : (n : ℕ) (k : List ℕ) → P k → val b n k ≡ None
  none_in zero k p = elim (blocked k p) [
    | inl nothing ↦ rw nothing refl
    | inr need ↦ let r = need_rule b k need.0 need.1 in rw r.is_rule refl
  ]
  none_in (suc n) k p = elim (blocked k p) [
    | inl nothing ↦ rw nothing refl
    | inr need ↦
        let r = need_rule b k need.0 need.1 in
        rw r.is_rule (stops_here n k need.0 r.formula r.is_rule need.1 (none_in n need.0 need.2))
  ]

  -- names of which each has nothing, or needs another of them, have no clean value
  pub no_clean_needs : (k : List ℕ) → P k → clean b k ≡ None
  no_clean_needs k p = none_in _ k p
