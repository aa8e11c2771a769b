-- Which of two roots is active, both ways, and what a rewriting makes of them.
use Rattle.std.proofs.Common.{◌≡◌, ◌≢◌, ◌⊎◌, ℕ, ◌+◌, ◌<◌, ◌≤◌, true, false, Bool, Some, None, List, length, drop, get_or, arith, refl, sym, ◌∙◌, ap, subst, inl, inr}
use Rattle.std.specs.Prelude.{◌==◌, not, nat_le}
use Rattle.std.proofs.lemmas.Bool.{cases_Bool}
use Rattle.std.proofs.lemmas.Bool.Decides.{nat_tests}
use Rattle.carte_io.specs.Disk.{IsTorn, IsWritten}
use Rattle.carte_bank.specs.Moves.{stated_at}
use Rattle.carte_bank.specs.Roots.{active_of, greater_of, root_at, roots_as}
use Rattle.carte_bank.specs.Turns.{active_at, other_at, root_place, turned}
use Rattle.carte_bank.specs.declared.roots.Root.{Root}
use Rattle.carte_bank.specs.declared.roots.Roots.{Roots}
use Rattle.carte_bank.proofs.MoveLaws.{move_bounds}
use Rattle.carte_bank.proofs.RootLaws.{Rooted, Same, same_move, same_number, same_root}

abbrev pub root_as : Bool → ℕ → ℕ → Root
root_as is_open generation start = record { is_open = is_open; generation = generation; start = start }

abbrev pub with_other : Roots → Bool → Roots
with_other roots both = record roots { both = both }

-- what a file holds where these roots stand: the active one is open, and where the other one is too, that is the earlier
pub record IsActive (roots : Roots) (c : List ℕ) : Type 0 where
  pub active : root_at (active_at roots) c ≡ root_as true roots.generation roots.start
  pub other : (root_at (other_at roots) c).is_open ≡ roots.both
  pub earlier : roots.both ≡ true → (root_at (other_at roots) c).generation < roots.generation

open_is : (a : Root) → a.is_open ≡ true → a ≡ root_as true a.generation a.start
open_is a is = ap (λ o. root_as o a.generation a.start) is

some_same : (a b : Roots) → Some a ≡ Some b → a ≡ b
some_same a b is = cc

-- from the roots that a file has
module _ (p : ℕ) (a b : Root) (roots : Roots) where
  greater_is : (c : List ℕ) → a ≡ root_at p c → b ≡ root_at (p + 17) c → a.is_open ≡ true → b.is_open ≡ true → greater_of p a b ≡ Some roots → IsActive roots c
  greater_is c a_is b_is first second is =
      elim (cases_Bool (a.generation == b.generation)) [
        | inl on ↦ absurd (let e : None ≡ Some roots = sym (rw on refl) ∙ is in cc)
        | inr off ↦ elim (cases_Bool (nat_le a.generation b.generation)) [
          | inl le ↦
              let same : roots_as p true true b ≡ roots = some_same _ _ (sym (rw (off, le) refl) ∙ is) in
              subst (λ (k : Roots). IsActive k c) same (record {
                active = sym b_is ∙ open_is b second;
                other = ap (λ (r : Root). r.is_open) (sym a_is) ∙ first;
                earlier = λ both. let lt : a.generation < b.generation = grind (arith, nat_tests) in subst (λ (r : Root). r.generation < b.generation) a_is lt;
              })
          | inr gt ↦
              let same : roots_as p false true a ≡ roots = some_same _ _ (sym (rw (off, gt) refl) ∙ is) in
              subst (λ (k : Roots). IsActive k c) same (record {
                active = sym a_is ∙ open_is a first;
                other = ap (λ (r : Root). r.is_open) (sym b_is) ∙ second;
                earlier = λ both. let lt : b.generation < a.generation = grind (arith, nat_tests) in subst (λ (r : Root). r.generation < a.generation) b_is lt;
              })
        ]
      ]

  active_is : (c : List ℕ) → a ≡ root_at p c → b ≡ root_at (p + 17) c → active_of p a b ≡ Some roots → IsActive roots c
  active_is c a_is b_is is =
      elim (cases_Bool a.is_open) [
        | inl first ↦ elim (cases_Bool b.is_open) [
          | inl second ↦ greater_is c a_is b_is first second (sym (rw (first, second) refl) ∙ is)
          | inr second ↦
              let same : roots_as p false false a ≡ roots = some_same _ _ (sym (rw (first, second) refl) ∙ is) in
              subst (λ (k : Roots). IsActive k c) same (record {
                active = sym a_is ∙ open_is a first;
                other = ap (λ (r : Root). r.is_open) (sym b_is) ∙ second;
                earlier = λ both. absurd (cc);
              })
        ]
        | inr first ↦ elim (cases_Bool b.is_open) [
          | inl second ↦
              let same : roots_as p true false b ≡ roots = some_same _ _ (sym (rw (first, second) refl) ∙ is) in
              subst (λ (k : Roots). IsActive k c) same (record {
                active = sym b_is ∙ open_is b second;
                other = ap (λ (r : Root). r.is_open) (sym a_is) ∙ first;
                earlier = λ both. absurd (cc);
              })
          | inr second ↦ absurd (let e : None ≡ Some roots = sym (rw (first, second) refl) ∙ is in cc)
        ]
      ]

pub rooted_active : (limit : ℕ) (roots : Roots) (file : List ℕ) → Rooted limit roots file → IsActive roots file
rooted_active limit roots file r = active_is roots.place (root_at roots.place file) (root_at (roots.place + 17) file) roots file refl refl r.active

-- and back
first_alone : (p : ℕ) (a b : Root) → a.is_open ≡ true → b.is_open ≡ false → active_of p a b ≡ Some (roots_as p false false a)
first_alone p a b first second = rw (first, second) refl

second_alone : (p : ℕ) (a b : Root) → a.is_open ≡ false → b.is_open ≡ true → active_of p a b ≡ Some (roots_as p true false b)
second_alone p a b first second = rw (first, second) refl

first_later : (p : ℕ) (a b : Root) → a.is_open ≡ true → b.is_open ≡ true → b.generation < a.generation → active_of p a b ≡ Some (roots_as p false true a)
first_later p a b first second lt =
    let off : a.generation == b.generation ≡ false = grind (arith, nat_tests) in
    let gt : nat_le a.generation b.generation ≡ false = grind (arith, nat_tests) in
    rw (first, second, off, gt) refl

second_later : (p : ℕ) (a b : Root) → a.is_open ≡ true → b.is_open ≡ true → a.generation < b.generation → active_of p a b ≡ Some (roots_as p true true b)
second_later p a b first second lt =
    let off : a.generation == b.generation ≡ false = grind (arith, nat_tests) in
    let le : nat_le a.generation b.generation ≡ true = grind (arith, nat_tests) in
    rw (first, second, off, le) refl

abbrev as_roots : ℕ → Bool → Bool → ℕ → ℕ → Roots
as_roots p second both generation start = record { place = p; second = second; both = both; generation = generation; start = start }

lower : (a b : Root) (g s : ℕ) → b.generation < g → a ≡ root_as true g s → b.generation < a.generation
lower a b g s lt is = subst (λ (r : Root). b.generation < r.generation) (sym is) lt

is_open_of : (a : Root) (g s : ℕ) → a ≡ root_as true g s → a.is_open ≡ true
is_open_of a g s is = ap (λ (r : Root). r.is_open) is

active_by : (p g s : ℕ) (second both : Bool) (c : List ℕ) → IsActive (as_roots p second both g s) c
    → active_of p (root_at p c) (root_at (p + 17) c) ≡ Some (as_roots p second both g s)
active_by p g s false false c is =
    first_alone p (root_at p c) (root_at (p + 17) c) (is_open_of (root_at p c) g s is.active) is.other
    ∙ ap (λ a. Some (roots_as p false false a)) is.active
active_by p g s false true c is =
    first_later p (root_at p c) (root_at (p + 17) c) (is_open_of (root_at p c) g s is.active) is.other
    (lower (root_at p c) (root_at (p + 17) c) g s (is.earlier refl) is.active)
    ∙ ap (λ a. Some (roots_as p false true a)) is.active
active_by p g s true false c is =
    second_alone p (root_at p c) (root_at (p + 17) c) is.other (is_open_of (root_at (p + 17) c) g s is.active)
    ∙ ap (λ b. Some (roots_as p true false b)) is.active
active_by p g s true true c is =
    second_later p (root_at p c) (root_at (p + 17) c) is.other (is_open_of (root_at (p + 17) c) g s is.active)
    (lower (root_at (p + 17) c) (root_at p c) g s (is.earlier refl) is.active)
    ∙ ap (λ b. Some (roots_as p true true b)) is.active

pub active_rooted : (roots : Roots) (c : List ℕ) → IsActive roots c
    → active_of roots.place (root_at roots.place c) (root_at (roots.place + 17) c) ≡ Some roots
active_rooted roots c is = active_by roots.place roots.generation roots.start roots.second roots.both c is

-- where the two stand
pub root_within : (p : ℕ) (second : Bool) → (p ≤ root_place p second) × (root_place p second + 17 ≤ p + 34)
root_within p false = (omega arith, omega arith)
root_within p true = (omega arith, omega arith)

pub roots_apart : (p : ℕ) (second : Bool) → (root_place p second + 17 ≤ root_place p (not second)) ⊎ (root_place p (not second) + 17 ≤ root_place p second)
roots_apart p false = inl (omega arith)
roots_apart p true = inr (omega arith)

twice : (p : ℕ) (second : Bool) → root_place p (not (not second)) ≡ root_place p second
twice p false = refl
twice p true = refl

-- a file with the active root as it was
module _ (roots : Roots) (file c : List ℕ) (is : IsActive roots file) (same : Same (active_at roots) (active_at roots + 17) file c)
    (long : roots.place + 34 ≤ length file) (long' : roots.place + 34 ≤ length c) where
  active_same : root_at (active_at roots) c ≡ root_as true roots.generation roots.start
  active_same =
      let w : (roots.place ≤ active_at roots) × (active_at roots + 17 ≤ roots.place + 34) = root_within roots.place roots.second in
      same_root (active_at roots) file c same (omega (arith, w.1, long)) (omega (arith, w.1, long')) ∙ is.active

  -- the gate byte of the other one is whatever it is, and its generation is as it was
  pub other_changes : Same (other_at roots + 1) (other_at roots + 9) file c → roots.both ≡ true
      → IsActive (with_other roots (get_or c (other_at roots) 0 == 1)) c
  other_changes numbers both =
      let w : (roots.place ≤ other_at roots) × (other_at roots + 17 ≤ roots.place + 34) = root_within roots.place (not roots.second) in
      let number : stated_at (other_at roots + 1) c ≡ stated_at (other_at roots + 1) file =
      same_number (other_at roots + 1) (other_at roots + 1) (other_at roots + 9) file c numbers (omega arith) (omega arith) (omega (arith, w.1, long)) (omega (arith, w.1, long')) in
      record {
        active = active_same;
        other = refl;
        earlier = λ _. omega (arith, number, is.earlier both);
      }

  -- it is closed
  pub other_closed : roots.both ≡ false → get_or c (other_at roots) 0 ≢ 1 → IsActive roots c
  other_closed both closed =
      let off : get_or c (other_at roots) 0 == 1 ≡ false = grind (arith, nat_tests) in
      record {
        active = active_same;
        other = off ∙ sym both;
        earlier = λ on. absurd (let e : true ≡ false = sym on ∙ both in cc);
      }

  -- it is open, with the next generation
  pub other_turned : (start : ℕ) → root_at (other_at roots) c ≡ root_as true (roots.generation + 1) start → IsActive (turned roots start) c
  other_turned start there =
      let old : root_at (root_place roots.place (not (not roots.second))) c ≡ root_as true roots.generation roots.start =
      ap (λ n. root_at n c) (twice roots.place roots.second) ∙ active_same in
      record {
        active = there;
        other = ap (λ (r : Root). r.is_open) old;
        earlier = λ _. let g : (root_at (root_place roots.place (not (not roots.second))) c).generation ≡ roots.generation = ap (λ (r : Root). r.generation) old in
            omega (arith, g);
      }

-- the first root stands behind a header
pub roots_from : (limit : ℕ) (roots : Roots) (file : List ℕ) → Rooted limit roots file → 23 ≤ roots.place
roots_from limit roots file r =
    let h = move_bounds limit 8 0 (drop 8 file) r.move r.found in
    omega (arith, h.0, r.place)

-- a file with the same bytes in front of the roots, and with others of them active
pub rooted_turned : (limit : ℕ) (old roots : Roots) (file c : List ℕ) → Rooted limit old file → Same 0 old.place file c → roots.place ≡ old.place
    → IsActive roots c → roots.place + 34 ≤ roots.start → roots.start < length c → roots.start < limit → Rooted limit roots c
rooted_turned limit old roots file c r same place_is is behind inside under = record {
  move = r.move;
  found = same_move limit r.move file c r.found (λ i low high. same i low (omega (arith, high, r.place))) (omega (arith, r.place, place_is, behind, inside));
  to = place_is ∙ r.to;
  place = place_is ∙ r.place;
  long = omega (arith, behind, inside);
  low = omega (arith, behind, under);
  shut = λ is_open. r.shut (sym (same (r.move.gate + 14) (omega arith) (omega (arith, r.place))) ∙ is_open);
  active = active_rooted roots c is;
  behind = behind;
  inside = inside;
  under = under;
}

-- what lies outside of the torn ranges
pub torn_same : (lo hi : ℕ) (ranges : List (ℕ × ℕ)) (file c : List ℕ) → IsTorn ranges file c → hi ≤ length file
    → ((i : ℕ) → lo ≤ i → i < hi → ¬ IsWritten ranges i) → Same lo hi file c
torn_same lo hi ranges file c torn within out i low high = torn.outside i (omega (arith, high, within)) (out i low high)

-- the gate byte of the other root is none of the active one's bytes
pub apart_from : (roots : Roots) (i : ℕ) → active_at roots ≤ i → i < active_at roots + 17 → (i < other_at roots) ⊎ (other_at roots + 17 ≤ i)
apart_from roots i low high =
    elim (roots_apart roots.place roots.second) [
      | inl front ↦ inl (omega (arith, front, high))
      | inr behind ↦ inr (omega (arith, behind, low))
    ]
