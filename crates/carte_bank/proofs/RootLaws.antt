-- What a file with roots holds, both ways, and what keeps it.
use Rattle.std.proofs.Common.{◌≡◌, ◌≢◌, ℕ, ◌+◌, ◌<◌, ◌≤◌, true, false, Bool, Option, Some, None, List, ◌++◌, length, take, drop, get_or, arith, refl, sym, ◌∙◌, ap, subst, inl, inr, length-take, length-drop}
use Rattle.std.specs.Prelude.{◌==◌, ◌&&◌, not, nat_le}
use Rattle.std.proofs.lemmas.Bool.{cases_Bool}
use Rattle.std.proofs.lemmas.Bool.Decides.{nat_tests}
use Rattle.std.proofs.lemmas.Grind.{same_number_lists}
use Rattle.std.proofs.lemmas.List.{get_or-drop, get_or-take, take-append-drop}
use Rattle.std.specs.Int.{from_be_bytes, w64}
use Rattle.carte_bank.specs.Moves.{first_of, move_in, stated_at}
use Rattle.carte_bank.specs.Roots.{Known, active_of, bank_at, bank_by, bank_of, greater_of, root_at, roots_as, roots_of, started}
use Rattle.carte_bank.specs.declared.moves.Move.{Move}
use Rattle.carte_bank.specs.declared.roots.Root.{Root}
use Rattle.carte_bank.specs.declared.roots.Roots.{Roots}
use Rattle.carte_bank.proofs.MoveLaws.{move_bounds, move_stays}

-- the files have the same bytes from one offset to another
abbrev pub Same : ℕ → ℕ → List ℕ → List ℕ → Type 0
Same lo hi file c = (i : ℕ) → lo ≤ i → i < hi → get_or c i 0 ≡ get_or file i 0

-- what a file with roots holds
pub record Rooted (limit : ℕ) (roots : Roots) (file : List ℕ) : Type 0 where
  pub move : Move
  pub found : move_in limit file ≡ Some move
  pub to : roots.place ≡ move.place
  pub place : roots.place ≡ move.gate + 15
  pub long : roots.place + 34 ≤ length file
  pub low : roots.place + 34 ≤ limit
  pub shut : get_or file (move.gate + 14) 0 ≢ 1
  pub active : active_of roots.place (root_at roots.place file) (root_at (roots.place + 17) file) ≡ Some roots
  pub behind : roots.place + 34 ≤ roots.start
  pub inside : roots.start < length file
  pub under : roots.start < limit

record Fine (limit : ℕ) (m : Move) (file : List ℕ) : Type 0 where
  to : m.place ≡ m.gate + 15
  long : m.gate + 49 ≤ length file
  low : m.gate + 49 ≤ limit
  shut : get_or file (m.gate + 14) 0 ≢ 1

abbrev is_fine : ℕ → Move → List ℕ → Bool
is_fine limit m file =
    (m.place == m.gate + 15) && (nat_le (m.gate + 49) (length file) && (nat_le (m.gate + 49) limit && not (get_or file (m.gate + 14) 0 == 1)))

fine : (limit : ℕ) (m : Move) (file : List ℕ) → is_fine limit m file ≡ true → Fine limit m file
fine limit m file is = record {
  to = grind (arith, nat_tests);
  long = grind (arith, nat_tests);
  low = grind (arith, nat_tests);
  shut = grind (arith, nat_tests);
}

fine_is : (limit : ℕ) (m : Move) (file : List ℕ) → Fine limit m file → is_fine limit m file ≡ true
fine_is limit m file f = grind (arith, nat_tests, f.to, f.long, f.low, f.shut)

record Starts (limit long : ℕ) (o : Option Roots) (roots : Roots) : Type 0 where
  same : o ≡ Some roots
  behind : roots.place + 34 ≤ roots.start
  inside : roots.start < long
  under : roots.start < limit

starts : (limit long : ℕ) (o : Option Roots) (roots : Roots) → started limit long o ≡ Some roots → Starts limit long o roots
starts limit long None roots is = absurd (let e : None ≡ Some roots = is in cc)
starts limit long (Some r) roots is =
    elim (cases_Bool (nat_le (r.place + 34) r.start && (nat_le (r.start + 1) long && nat_le (r.start + 1) limit))) [
      | inr off ↦ absurd (let e : None ≡ Some roots = sym (rw off refl) ∙ is in cc)
      | inl on ↦
          let e : Some r ≡ Some roots = sym (rw on refl) ∙ is in
          let same : r ≡ roots = cc in
          record {
            same = e;
            behind = subst (λ (k : Roots). k.place + 34 ≤ k.start) same (grind (arith, nat_tests));
            inside = subst (λ (k : Roots). k.start < long) same (grind (arith, nat_tests));
            under = subst (λ (k : Roots). k.start < limit) same (grind (arith, nat_tests));
          }
    ]

starts_is : (limit long : ℕ) (roots : Roots) → roots.place + 34 ≤ roots.start → roots.start < long → roots.start < limit
    → started limit long (Some roots) ≡ Some roots
starts_is limit long roots behind inside under =
    let on : nat_le (roots.place + 34) roots.start && (nat_le (roots.start + 1) long && nat_le (roots.start + 1) limit) ≡ true = grind (arith, nat_tests) in
    rw on refl

greater_place : (place : ℕ) (a b : Root) (roots : Roots) → greater_of place a b ≡ Some roots → roots.place ≡ place
greater_place place a b roots is =
    elim (cases_Bool (a.generation == b.generation)) [
      | inl on ↦ absurd (let e : None ≡ Some roots = sym (rw on refl) ∙ is in cc)
      | inr off ↦ elim (cases_Bool (nat_le a.generation b.generation)) [
        | inl le ↦
            let e : Some (roots_as place true true b) ≡ Some roots = sym (rw (off, le) refl) ∙ is in
            let same : roots_as place true true b ≡ roots = cc in ap (λ (k : Roots). k.place) (sym same)
        | inr gt ↦
            let e : Some (roots_as place false true a) ≡ Some roots = sym (rw (off, gt) refl) ∙ is in
            let same : roots_as place false true a ≡ roots = cc in ap (λ (k : Roots). k.place) (sym same)
      ]
    ]

active_place : (place : ℕ) (a b : Root) (roots : Roots) → active_of place a b ≡ Some roots → roots.place ≡ place
active_place place a b roots is =
    elim (cases_Bool a.is_open) [
      | inl first ↦ elim (cases_Bool b.is_open) [
        | inl second ↦ greater_place place a b roots (sym (rw (first, second) refl) ∙ is)
        | inr second ↦
            let e : Some (roots_as place false false a) ≡ Some roots = sym (rw (first, second) refl) ∙ is in
            let same : roots_as place false false a ≡ roots = cc in ap (λ (k : Roots). k.place) (sym same)
      ]
      | inr first ↦ elim (cases_Bool b.is_open) [
        | inl second ↦
            let e : Some (roots_as place true false b) ≡ Some roots = sym (rw (first, second) refl) ∙ is in
            let same : roots_as place true false b ≡ roots = cc in ap (λ (k : Roots). k.place) (sym same)
        | inr second ↦ absurd (let e : None ≡ Some roots = sym (rw (first, second) refl) ∙ is in cc)
      ]
    ]

module _ (limit : ℕ) (roots : Roots) (file : List ℕ) where
  -- from the roots that a move has
  rooted_by : (m : Move) → move_in limit file ≡ Some m → Fine limit m file
      → Starts limit (length file) (active_of m.place (root_at m.place file) (root_at (m.place + 17) file)) roots → Rooted limit roots file
  rooted_by m found f s =
      let to : roots.place ≡ m.place = active_place m.place (root_at m.place file) (root_at (m.place + 17) file) roots s.same in
      record {
        move = m;
        found = found;
        to = to;
        place = to ∙ f.to;
        long = omega (arith, to, f.to, f.long);
        low = omega (arith, to, f.to, f.low);
        shut = f.shut;
        active = ap (λ p. active_of p (root_at p file) (root_at (p + 17) file)) to ∙ s.same;
        behind = s.behind;
        inside = s.inside;
        under = s.under;
      }

  rooted_from : (m : Move) → move_in limit file ≡ Some m → roots_of limit m file ≡ Some roots → Rooted limit roots file
  rooted_from m found is =
      elim (cases_Bool (is_fine limit m file)) [
        | inr off ↦ absurd (let e : None ≡ Some roots = sym (rw off refl) ∙ is in cc)
        | inl on ↦ rooted_by m found (fine limit m file on)
            (starts limit (length file) (active_of m.place (root_at m.place file) (root_at (m.place + 17) file)) roots (sym (rw on refl) ∙ is))
      ]

  known_from : (gate : ℕ) (o : Option Roots) → bank_by gate o ≡ Known (Some roots) → o ≡ Some roots
  known_from gate None is = absurd (cc)
  known_from gate (Some r) is = let e : Known (Some r) ≡ Known (Some roots) = is in let s : Some r ≡ Some roots = cc in s

  rooted_of : (found : Option Move) → move_in limit file ≡ found → bank_of limit file found ≡ Known (Some roots) → Rooted limit roots file
  rooted_of None found is = absurd (let e : Known None ≡ Known (Some roots) = is in cc)
  rooted_of (Some m) found is = rooted_from m found (known_from m.gate (roots_of limit m file) is)

  -- of a file whose bank is known
  pub rooted : bank_at limit file ≡ Known (Some roots) → Rooted limit roots file
  rooted is = rooted_of (move_in limit file) refl is

  -- and back
  pub has_roots : Rooted limit roots file → bank_at limit file ≡ Known (Some roots)
  has_roots r =
      let m : Move = r.move in
      let f : Fine limit m file = record {
        to = sym r.to ∙ r.place;
        long = omega (arith, r.place, r.long);
        low = omega (arith, r.place, r.low);
        shut = r.shut;
      } in
      let on : is_fine limit m file ≡ true = fine_is limit m file f in
      let same : active_of m.place (root_at m.place file) (root_at (m.place + 17) file) ≡ Some roots =
      ap (λ p. active_of p (root_at p file) (root_at (p + 17) file)) (sym r.to) ∙ r.active in
      let is : roots_of limit m file ≡ Some roots =
      rw on (ap (started limit (length file)) same ∙ starts_is limit (length file) roots r.behind r.inside r.under) in
      ap (bank_of limit file) r.found ∙ ap (bank_by m.gate) is

never_none : (gate : ℕ) (o : Option Roots) → bank_by gate o ≡ Known None → ⊥
never_none gate None is = cc
never_none gate (Some r) is = let e : Known (Some r) ≡ Known None = is in cc

no_move_of : (limit : ℕ) (file : List ℕ) (found : Option Move) → bank_of limit file found ≡ Known None → found ≡ None
no_move_of limit file None is = refl
no_move_of limit file (Some m) is = absurd (never_none m.gate (roots_of limit m file) is)

-- a file whose bodies stand in the list has no move
pub no_move : (limit : ℕ) (file : List ℕ) → bank_at limit file ≡ Known None → move_in limit file ≡ None
no_move limit file is = no_move_of limit file (move_in limit file) is

-- ---- what keeps it

pub same_taken : (n lo hi : ℕ) (file c : List ℕ) → Same lo hi file c → lo + n ≤ hi → hi ≤ length file → hi ≤ length c
    → take n (drop lo c) ≡ take n (drop lo file)
same_taken n lo hi file c same fits in_file in_c = same_number_lists _ _
    (omega (arith, length-take n (drop lo c), length-take n (drop lo file), length-drop lo c, length-drop lo file))
    (λ k below.
    let lt : k < n = omega (arith, length-take n (drop lo c), below) in
    get_or-take n (drop lo c) k 0 lt ∙ get_or-drop lo c k 0 ∙ same (lo + k) (omega arith) (omega (arith, lt)) ∙ sym (get_or-take n (drop lo file) k 0 lt ∙ get_or-drop lo file k 0))

pub same_number : (at lo hi : ℕ) (file c : List ℕ) → Same lo hi file c → lo ≤ at → at + 8 ≤ hi → hi ≤ length file → hi ≤ length c
    → stated_at at c ≡ stated_at at file
unfolding stated_at
same_number at lo hi file c same from fits in_file in_c =
    ap (from_be_bytes w64) (same_taken 8 at hi file c (λ i low high. same i (omega (arith, low)) high) fits in_file in_c)

-- a root of which no byte changed
pub same_root : (at : ℕ) (file c : List ℕ) → Same at (at + 17) file c → at + 17 ≤ length file → at + 17 ≤ length c → root_at at c ≡ root_at at file
same_root at file c same in_file in_c =
    let g : get_or c at 0 ≡ get_or file at 0 = same at (omega arith) (omega arith) in
    let n : stated_at (at + 1) c ≡ stated_at (at + 1) file = same_number (at + 1) at (at + 17) file c same (omega arith) (omega arith) in_file in_c in
    let s : stated_at (at + 9) c ≡ stated_at (at + 9) file = same_number (at + 9) at (at + 17) file c same (omega arith) (omega arith) in_file in_c in
    rw (g, n, s) refl

-- a move in front of which nothing changed, nor in it
pub same_move : (limit : ℕ) (m : Move) (file c : List ℕ) → move_in limit file ≡ Some m → Same 0 (m.gate + 15) file c → m.gate + 15 ≤ length c
    → move_in limit c ≡ Some m
same_move limit m file c found same long =
    let h : (8 + 0 ≤ m.gate) × (m.gate + 15 ≤ 8 + length (drop 8 file)) = move_bounds limit 8 0 (drop 8 file) m found in
    let n : ℕ = m.gate + 6 in
    let in_file : m.gate + 15 ≤ length file = omega (arith, h.0, h.1, length-drop 8 file) in
    let fits : m.gate + 6 ≤ length (drop 8 file) = omega (arith, in_file, length-drop 8 file) in
    let front : take (m.gate + 6) (drop 8 c) ≡ take (m.gate + 6) (drop 8 file) =
    same_taken (m.gate + 6) 8 (m.gate + 15) file c (λ i low high. same i (omega arith) high) (omega arith) in_file long in
    let some : 0 < length (drop (m.gate + 6) (drop 8 c)) = omega (arith, length-drop (m.gate + 6) (drop 8 c), length-drop 8 c, long) in
    ap (first_of limit 8 0) (sym (take-append-drop (m.gate + 6) (drop 8 c)) ∙ ap (λ f. f ++ drop (m.gate + 6) (drop 8 c)) front)
    ∙ move_stays limit 8 0 (m.gate + 6) (drop 8 file) (drop (m.gate + 6) (drop 8 c)) m found (omega arith) fits some

-- a file in which nothing changed up to the end of the roots
pub same_roots : (limit : ℕ) (roots : Roots) (file c : List ℕ) → Rooted limit roots file → Same 0 (roots.place + 34) file c → roots.start < length c
    → Rooted limit roots c
same_roots limit roots file c r same inside =
    let long : roots.place + 34 ≤ length c = omega (arith, r.behind, inside) in
    let first : root_at roots.place c ≡ root_at roots.place file =
    same_root roots.place file c (λ i low high. same i (omega arith) (omega (arith, high))) (omega (arith, r.long)) (omega (arith, long)) in
    let second : root_at (roots.place + 17) c ≡ root_at (roots.place + 17) file =
    same_root (roots.place + 17) file c (λ i low high. same i (omega arith) (omega (arith, high))) (omega (arith, r.long)) (omega (arith, long)) in
    record {
      move = r.move;
      found = same_move limit r.move file c r.found (λ i low high. same i (omega arith) (omega (arith, high, r.place))) (omega (arith, r.place, long));
      to = r.to;
      place = r.place;
      long = long;
      low = r.low;
      shut = λ is_open. r.shut (sym (same (r.move.gate + 14) (omega arith) (omega (arith, r.place))) ∙ is_open);
      active = ap (λ a. active_of roots.place a (root_at (roots.place + 17) c)) first ∙ ap (active_of roots.place (root_at roots.place file)) second ∙ r.active;
      behind = r.behind;
      inside = inside;
      under = r.under;
    }
