-- The keys that are reached backwards over a table of users.
use Rattle.std.proofs.Common.{◌≡◌, ◌⊎◌, ℕ, ◌+◌, ◌<◌, ◌≤◌, true, false, List, [], ◌∷◌, ◌++◌, length, map, Some, slice_get, ap, sym, ◌∙◌, subst, inl, inr, arith, length-append}
use Rattle.std.specs.List.{IsDistinct, AllByRecursion}
use Rattle.std.proofs.lemmas.List.{length-map}
use Rattle.carte_name.specs.Names.{name_eq}
use Rattle.carte_value.specs.Truths.{Among, NoneTwice}
use Rattle.carte_value.proofs.Members.{among_left, among_right, no_longer}
use Rattle.carte_record.specs.declared.entry.Entry.{Entry}
use Rattle.carte_record.specs.declared.kept.Kept.{Kept}
use Rattle.carte_record.specs.Kept.{kept_view}
use Rattle.carte_table.proofs.Names.{name_eq_self}
use Rattle.carte_sound.specs.Marks.{Leads, need, on}
use Rattle.carte_mark.specs.Reached.{Spreads}
use Rattle.carte_mark.specs.Passes.{AreReached}
use Rattle.carte_mark.specs.Tables.{Users, AreUsers, HasUsers, NeedsIn, PutsUsers}
use Rattle.carte_mark.proofs.Putting.{get_among, among_get, get_left, get_there}
use Rattle.carte_mark.proofs.Spreading.{spreads_self, spreads_on}
use Rattle.carte_mark.proofs.Using.{found_key}

-- besides the names only keys that lead to them, and the users of those at the first places
pub record IsReaching (K : Kept) (d : Users) (names rs : List (List ℕ)) (next : ℕ) : Type 0 where
  pub spreads : Spreads (kept_view K) names rs
  pub closed : (i : ℕ) (q k : List ℕ) → i < next → slice_get rs i ≡ Some q → NeedsIn (kept_view K) k q → Among (d q) k → Among rs k

pub reaching_first : (K : Kept) (d : Users) (names : List (List ℕ)) → IsReaching K d names names 0
reaching_first K d names = record { spreads = spreads_self (kept_view K) names; closed = λ i q k below is needs among. absurd (omega arith) }

module _ (K : Kept) (d : Users) where
  -- the users of one name more
  pub reaching_next : (names rs new : List (List ℕ)) (next : ℕ) (q : List ℕ) → next < length rs → slice_get rs next ≡ Some q → IsReaching K d names rs next → PutsUsers (kept_view K) (d q) rs new → IsReaching K d names new (next + 1)
  reaching_next names rs new next q within at so puts = record { spreads = spreads_on (kept_view K) names rs new so.spreads puts.spreads; closed = closed }
    where
      closed : (i : ℕ) (p k : List ℕ) → i < next + 1 → slice_get new i ≡ Some p → NeedsIn (kept_view K) k p → Among (d p) k → Among new k
      closed i p k below is needs among =
          let inside : i < length rs = omega arith in
          let old = get_there rs i inside in
          let both : Some old.0 ≡ Some p = sym (subst (λ ks. slice_get ks i ≡ Some old.0) (sym puts.front.1) (get_left rs puts.front.0 i old.0 old.1)) ∙ is in
          let was : slice_get rs i ≡ Some p = old.1 ∙ both in
          elim (either i below) [
            | inl before ↦ puts.spreads.stays k (so.closed i p k before was needs among)
            | inr here ↦
                let two : Some p ≡ Some q = sym was ∙ (ap (slice_get rs) here ∙ at) in
                let e : p ≡ q = cc in
                puts.each k q (subst (λ j. Among (d j) k) e among) (subst (NeedsIn (kept_view K) k) e needs) (get_among rs next q at)
          ]
        where
          either : (i : ℕ) → i < next + 1 → (i < next) ⊎ (i ≡ next)
          either i below = grind arith

  -- at the end all users are there
  pub reached_all : (names rs : List (List ℕ)) (next : ℕ) → HasUsers (kept_view K) d → length rs ≤ next → IsReaching K d names rs next → AreReached K names rs
  reached_all names rs next users past so = record {
    spreads = so.spreads;
    closed = λ k e kept meets.
        let there = among_get rs meets.name meets.among in
        let below : there.0 < length rs = there.1 in
        so.closed there.0 meets.name k (omega arith) there.2 (e, kept, meets.needed) (users meets.name k (e, kept, meets.needed));
  }

-- the table of all entries has them
pub has_users : (K : Kept) (d : Users) → AreUsers K.entries d → HasUsers (kept_view K) d
has_users K d users q k needs = users.each q k needs

-- what leads somewhere has an entry
leads_key : (K : Kept) (k n : List ℕ) → Leads (kept_view K) k n → Among (map (λ e. e.key) K.entries) k
leads_key K k n (need e kept among) = found_key K.entries k e kept
leads_key K k n (on e kept among leads) = found_key K.entries k e kept

apart : (k : List ℕ) (ks : List (List ℕ)) → AllByRecursion (λ y. name_eq k y ≡ false) ks → ¬ (Among ks k)
apart k [] all nowhere = nowhere
apart k (j ∷ js) all (inl same) = let e : false ≡ true = sym all.0 ∙ (ap (name_eq k) (sym same) ∙ name_eq_self k) in cc
apart k (j ∷ js) all (inr later) = apart k js all.1 later

pub none_twice : (ks : List (List ℕ)) → IsDistinct name_eq ks → NoneTwice ks
unfolding IsDistinct
none_twice [] distinct = tt
none_twice (k ∷ ks) distinct = (apart k ks distinct.0, none_twice ks distinct.1)

-- so there are no more than there are names and entries
pub reached_few : (K : Kept) (d : Users) (names rs : List (List ℕ)) (next : ℕ) → IsDistinct name_eq rs → IsReaching K d names rs next → length rs ≤ length names + length K.entries
reached_few K d names rs next distinct so =
    let keys = map (λ (e : Entry). e.key) K.entries in
    let few = no_longer rs (names ++ keys) (none_twice rs distinct) (λ q among. elim (so.spreads.only q among) [
      | inl named ↦ among_left names keys q named
      | inr l ↦ among_right names keys q (leads_key K q l.name l.leads)
    ]) in
    let many : length keys ≡ length K.entries = length-map K.entries (λ (e : Entry). e.key) in
    omega (arith, few, many, length-append names keys)
