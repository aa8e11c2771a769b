-- A static formula stops at its first reference without a value.
use Rattle.std.proofs.Common.{◌≡◌, ℕ, zero, suc, true, List, [], ◌∷◌, take, slice_get, Some, None, Result, Ok, Err, refl, ap, ◌∙◌, inl, inr}
use Rattle.carte_name.specs.declared.kind.Kind.{Kind}
use Rattle.carte_value.specs.declared.value.Value.{Value}
use Rattle.carte_value.specs.Truths.{Truth, Among}
use Rattle.carte_value.specs.Asks.{asked}
use Rattle.carte_value.proofs.Asks.{extends_self, stop_open, stop_asked, asked_known}
use Rattle.carte_value.proofs.Firsts.{among_firsts, firsts_among}
use Rattle.carte_tree.specs.Tree.{Tree}
use Rattle.carte_tree.specs.Formula.{refs_of, is_static_tree}
use Rattle.carte_tree.specs.Meaning.{asks, eval, fetched}
use Rattle.carte_tree.specs.InTurn.{HasAll, until, go_on}
use Rattle.carte_tree.proofs.StaticRuns.{static_fetched}

until_has : (t : Truth) (ks : List (List ℕ)) (at : ℕ) (k : List ℕ) → HasAll t (take at ks) → slice_get ks at ≡ Some k → Among (until t ks) k
until_has t [] at k before here = cc
until_has t (j ∷ js) zero k before here = inl (let same : k ≡ j = cc in same)
until_has t (j ∷ js) (suc at) k before here = inr (rw before.0.1 (until_has t js at k before.1 here))

until_last : (t : Truth) (ks : List (List ℕ)) (at : ℕ) (k j : List ℕ) → HasAll t (take at ks) → slice_get ks at ≡ Some k → t k ≡ None → Among (until t ks) j → t j ≡ None → j ≡ k
until_last t [] at k j before here none among open_at = cc
until_last t (i ∷ is) zero k j before here none among open_at =
    let first : i ≡ k = cc in
    let nothing : t i ≡ None = rw first none in
    elim (rw nothing at among) [
      | inl same ↦ same ∙ first
      | inr later ↦ absurd later
    ]
until_last t (i ∷ is) (suc at) k j before here none among open_at = elim (rw before.0.1 at among) [
  | inl same ↦ absurd (let there = before.0.1 in let nothing : t i ≡ None = rw same at open_at in cc)
  | inr later ↦ until_last t is at k j before.1 here none later open_at
]

-- the names looked up are references
pub until_among : (t : Truth) (ks : List (List ℕ)) (k : List ℕ) → Among (until t ks) k → Among ks k
until_among t [] k among = among
until_among t (j ∷ js) k among = elim among [
  | inl same ↦ inl same
  | inr later ↦ inr (elim (t j) as (λ o. Among (go_on o (until t js)) k → Among js k) [
    | None ↦ λ there. absurd there
    | Some v ↦ λ there. until_among t js k there
  ] later)
]

-- where all references before the place have values, and the one at it has none
pub stops_there : (kind : Kind) (t : Truth) (e : Tree) (at : ℕ) (k : List ℕ) → is_static_tree e ≡ true → HasAll t (take at (refs_of e)) → slice_get (refs_of e) at ≡ Some k → t k ≡ None → eval kind t e ≡ Err k
stops_there kind t e at k h before here none = by_end (eval kind t e) refl
  where
    looks : fetched kind t e ≡ until t (refs_of e)
    looks = static_fetched kind t e h

    by_end : (r : Result Value (List ℕ)) → eval kind t e ≡ r → eval kind t e ≡ Err k
    by_end (Ok v) is =
        let there : Among (fetched kind t e) k = rw looks (until_has t (refs_of e) at k before here) in
        let value = asked_known t (asks kind e) v k is (among_firsts (asked t (asks kind e)) k there) in
        let known = value.1 in
        cc
    by_end (Err j) is =
        let there : Among (fetched kind t e) j = firsts_among (asked t (asks kind e)) j (stop_asked t t (asks kind e) j (extends_self t) is) in
        let among : Among (until t (refs_of e)) j = rw looks at there in
        is ∙ ap Err (until_last t (refs_of e) at k j before here none among (stop_open t (asks kind e) j is))
