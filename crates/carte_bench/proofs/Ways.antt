-- Following what waits for what, name by name.
use Rattle.std.proofs.Common.{◌≡◌, ℕ, suc, ◌+◌, ◌≤◌, true, false, cond, List, [], ◌∷◌, ◌++◌, length, Option, Some, None, refl, ap, sym, ◌∙◌, subst, inl, inr, ◌⊎◌, arith}
use Rattle.std.specs.Cmp.Lexicographic.{bytes_decides}
use Rattle.std.specs.Map.{lookup, keys_of}
use Rattle.carte_name.specs.Names.{name_eq}
use Rattle.carte_value.specs.Truths.{Among, NoneTwice}
use Rattle.carte_value.proofs.Members.{same_or_not, name_apart, no_longer}
use Rattle.carte_tree.specs.Tree.{Tree}
use Rattle.carte_book.specs.Book.{Item, input, rule, Book, content}
use Rattle.carte_book.specs.declared.reason.Reason.TheVariants.{Cycle, Missing}
use Rattle.carte_bench.specs.declared.slot.Slot.{Slot}
use Rattle.carte_bench.specs.declared.slot.Slot.TheVariants.{Ready, Stopped, Out, Done}
use Rattle.carte_bench.specs.Spots.{Spots, is_done}
use Rattle.carte_bench.specs.Waits.{Onward, gone, ends, waits_for, waits_on, onward_at, onward, Starts, Round, Astray, WaitsAs, has}

-- 1. names in lists

pub has_among : (ks : List (List ℕ)) (k : List ℕ) → has ks k ≡ true → Among ks k
has_among [] k is = cc
has_among (j ∷ js) k is = elim (same_or_not k j) [
  | inl same ↦ inl same
  | inr other ↦ inr (has_among js k (rw (name_apart k j other) at is))
]

pub none_among : (ks : List (List ℕ)) (k : List ℕ) → has ks k ≡ false → ¬ (Among ks k)
none_among [] k is here = here
none_among (j ∷ js) k is here = elim (same_or_not k j) [
  | inl same ↦ (let tied : name_eq k j ≡ true = (bytes_decides k j).1 same in let both : true ≡ false = rw tied at is in cc)
  | inr other ↦ elim here [
    | inl same ↦ other same
    | inr later ↦ none_among js k (rw (name_apart k j other) at is) later
  ]
]

-- the names seen, the newest first, before these
abbrev onto : List (List ℕ) → List (List ℕ) → List (List ℕ)
onto [] p = p
onto (k ∷ seen) p = onto seen (k ∷ p)

onto_end : (seen p q : List (List ℕ)) → onto seen (p ++ q) ≡ onto seen p ++ q
onto_end [] p q = refl
onto_end (k ∷ seen) p q = onto_end seen (k ∷ p) q

onto_among : (seen p : List (List ℕ)) (k : List ℕ) → Among seen k ⊎ Among p k → Among (onto seen p) k
onto_among [] p k (inl here) = absurd here
onto_among [] p k (inr here) = here
onto_among (j ∷ seen) p k (inl (inl same)) = onto_among seen (j ∷ p) k (inr (inl same))
onto_among (j ∷ seen) p k (inl (inr later)) = onto_among seen (j ∷ p) k (inl later)
onto_among (j ∷ seen) p k (inr here) = onto_among seen (j ∷ p) k (inr (inr here))

among_onto : (seen p : List (List ℕ)) (k : List ℕ) → Among (onto seen p) k → Among seen k ⊎ Among p k
among_onto [] p k here = inr here
among_onto (j ∷ seen) p k here = elim (among_onto seen (j ∷ p) k here) [
  | inl later ↦ inl (inr later)
  | inr there ↦ elim there [
    | inl same ↦ inl (inl same)
    | inr rest ↦ inr rest
  ]
]

length_onto : (seen p : List (List ℕ)) → length (onto seen p) ≡ length seen + length p
length_onto [] p = omega arith
length_onto (k ∷ seen) p = omega (arith, length_onto seen (k ∷ p))

-- 2. a way

module _ (f : List ℕ → Onward) (t : List ℕ) where
  -- the names that were passed, each once; what goes on from here makes a whole path, and every whole path goes on from here
  pub record IsOnWay (ks : List (List ℕ)) (at : List ℕ) : Type 0 where
    pub seen : List (List ℕ)
    pub keys : ks ≡ onto seen []
    pub starts : (rest : List (List ℕ)) → Starts t (onto seen (at ∷ rest))
    pub round : (rest : List (List ℕ)) → Round f seen (at ∷ rest) → Round f [] (onto seen (at ∷ rest))
    pub astray : (rest : List (List ℕ)) → Astray f seen (at ∷ rest) → Astray f [] (onto seen (at ∷ rest))
    pub each_round : (p : List (List ℕ)) → Starts t p → Round f [] p → (rest : List (List ℕ)) × Round f seen (at ∷ rest)
    pub each_astray : (p : List (List ℕ)) → Starts t p → Astray f [] p → (rest : List (List ℕ)) × Astray f seen (at ∷ rest)
    pub once : NoneTwice seen
    pub waits : (q : List ℕ) → Among seen q → (j : List ℕ) × (f q ≡ waits_for j)

  first_round : (p : List (List ℕ)) → Starts t p → Round f [] p → (rest : List (List ℕ)) × Round f [] (t ∷ rest)
  first_round [] from is = absurd from
  first_round (k ∷ ks) from is = (ks, subst (λ i. Round f [] (i ∷ ks)) from is)

  first_astray : (p : List (List ℕ)) → Starts t p → Astray f [] p → (rest : List (List ℕ)) × Astray f [] (t ∷ rest)
  first_astray [] from is = absurd from
  first_astray (k ∷ ks) from is = (ks, subst (λ i. Astray f [] (i ∷ ks)) from is)

  pub way_begins : IsOnWay [] t
  way_begins = record {
    seen = [];
    keys = refl;
    starts = λ rest. refl;
    round = λ rest is. is;
    astray = λ rest is. is;
    each_round = first_round;
    each_astray = first_astray;
    once = tt;
    waits = λ q here. absurd here;
  }

  pub way_from : (ks : List (List ℕ)) (at : List ℕ) → ks ≡ [] → at ≡ t → IsOnWay ks at
  way_from ks at none same = subst (λ (l : List (List ℕ)). IsOnWay l at) (sym none) (subst (λ (k : List ℕ). IsOnWay [] k) (sym same) way_begins)

  on_round : (seen : List (List ℕ)) (at j : List ℕ) → ¬ (Among seen at) → f at ≡ waits_for j → (rest : List (List ℕ)) × Round f seen (at ∷ rest) → (rest : List (List ℕ)) × Round f (at ∷ seen) (j ∷ rest)
  on_round seen at j new leads ([], here) = absurd (new here)
  on_round seen at j new leads (i ∷ rest, (other, is, h)) = let same : i ≡ j = cc in (rest, subst (λ k. Round f (at ∷ seen) (k ∷ rest)) same h)

  on_astray : (seen : List (List ℕ)) (at j : List ℕ) → f at ≡ waits_for j → (rest : List (List ℕ)) × Astray f seen (at ∷ rest) → (rest : List (List ℕ)) × Astray f (at ∷ seen) (j ∷ rest)
  on_astray seen at j leads ([], is) = cc
  on_astray seen at j leads (i ∷ rest, (other, is, h)) = let same : i ≡ j = cc in (rest, subst (λ k. Astray f (at ∷ seen) (k ∷ rest)) same h)

  is_new : (ks : List (List ℕ)) (at : List ℕ) (way : IsOnWay ks at) → has ks at ≡ false → ¬ (Among way.seen at)
  is_new ks at way fresh here = none_among ks at fresh (subst (λ l. Among l at) (sym way.keys) (onto_among way.seen [] at (inl here)))

  with_last : (ks : List (List ℕ)) (at : List ℕ) (way : IsOnWay ks at) → ks ++ at ∷ [] ≡ onto way.seen (at ∷ [])
  with_last ks at way = ap (λ l. l ++ at ∷ []) way.keys ∙ sym (onto_end way.seen [] (at ∷ []))

  -- one name more
  pub way_goes : (ks : List (List ℕ)) (at j : List ℕ) → IsOnWay ks at → has ks at ≡ false → f at ≡ waits_for j → IsOnWay (ks ++ at ∷ []) j
  way_goes ks at j way fresh leads =
      let new = is_new ks at way fresh in
      record {
        seen = at ∷ way.seen;
        keys = with_last ks at way;
        starts = λ rest. way.starts (j ∷ rest);
        round = λ rest is. way.round (j ∷ rest) (new, leads, is);
        astray = λ rest is. way.astray (j ∷ rest) (new, leads, is);
        each_round = λ p from is. on_round way.seen at j new leads (way.each_round p from is);
        each_astray = λ p from is. on_astray way.seen at j leads (way.each_astray p from is);
        once = (new, way.once);
        waits = λ q here. elim here [
          | inl same ↦ (j, rw same leads)
          | inr later ↦ way.waits q later
        ];
      }

  -- it stands on the way already
  pub way_round : (ks : List (List ℕ)) (at : List ℕ) → IsOnWay ks at → has ks at ≡ true → WaitsAs f t (Some (Cycle (ks ++ at ∷ [])))
  way_round ks at way there =
      let P : List (List ℕ) → Type 0 = λ p. Starts t p × Round f [] p in
      subst P (sym (with_last ks at way)) (way.starts [], way.round [] (before (among_onto way.seen [] at (subst (λ l. Among l at) way.keys (has_among ks at there)))))
    where
      before : {A : Type 0} → A ⊎ ⊥ → A
      before (inl here) = here
      before (inr none) = absurd none

  -- it has nothing
  pub way_astray : (ks : List (List ℕ)) (at : List ℕ) → IsOnWay ks at → f at ≡ gone → WaitsAs f t (Some (Missing (ks ++ at ∷ [])))
  way_astray ks at way nothing =
      let P : List (List ℕ) → Type 0 = λ p. Starts t p × Astray f [] p in
      subst P (sym (with_last ks at way)) (way.starts [], way.astray [] nothing)

  no_round : (seen : List (List ℕ)) (at : List ℕ) → ¬ (Among seen at) → f at ≡ ends → (rest : List (List ℕ)) × Round f seen (at ∷ rest) → ⊥
  no_round seen at new last ([], here) = new here
  no_round seen at new last (i ∷ rest, (other, is, h)) = cc

  no_astray : (seen : List (List ℕ)) (at : List ℕ) → f at ≡ ends → (rest : List (List ℕ)) × Astray f seen (at ∷ rest) → ⊥
  no_astray seen at last ([], is) = cc
  no_astray seen at last (i ∷ rest, (other, is, h)) = cc

  -- it waits for no other
  pub way_ends : (ks : List (List ℕ)) (at : List ℕ) → IsOnWay ks at → has ks at ≡ false → f at ≡ ends → WaitsAs f t None
  way_ends ks at way fresh last = λ p from. ((λ is. no_round way.seen at (is_new ks at way fresh) last (way.each_round p from is)), (λ is. no_astray way.seen at last (way.each_astray p from is)))

-- 3. on a bench

-- a rule whose job stopped at the name, which isn't done
pub record Waiting {J : Type 0} (b : Book) (s : Spots J) (k j : List ℕ) : Type 0 where
  pub formula : Tree
  pub is_rule : content b k ≡ Some (rule formula)
  pub job : J
  pub stands : s k ≡ Some (Stopped job j)
  pub open_there : is_done (s j) ≡ false

pub waiting : {J : Type 0} (b : Book) (s : Spots J) (k j : List ℕ) → onward b s k ≡ waits_for j → Waiting b s k j
waiting {J = J} b s k j leads = at (content b k) refl (s k) refl leads
  where
    at : (o : Option Item) → content b k ≡ o → (y : Option (Slot J)) → s k ≡ y → onward_at o (waits_on s y) ≡ waits_for j → Waiting b s k j
    at None is y there h = cc
    at (Some (input v)) is y there h = cc
    at (Some (rule e)) is None there h = cc
    at (Some (rule e)) is (Some (Ready p)) there h = cc
    at (Some (rule e)) is (Some Out) there h = cc
    at (Some (rule e)) is (Some (Done m)) there h = cc
    at (Some (rule e)) is (Some (Stopped p n)) there h =
        elim (is_done (s n)) as (λ d. is_done (s n) ≡ d → cond d ends (waits_for n) ≡ waits_for j → Waiting b s k j) [
          | true ↦ λ done never. cc
          | false ↦ λ undone same. (let one : n ≡ j = cc in record { formula = e; is_rule = is; job = p; stands = rw (← one) there; open_there = rw (← one) undone })
        ] refl h

pub slot_among : {J : Type 0} (es : List (List ℕ × Slot J)) (k : List ℕ) (x : Slot J) → lookup (name_eq k) es ≡ Some x → Among (keys_of es) k
slot_among [] k x is = cc
slot_among (e ∷ es) k x is = elim (same_or_not k e.0) [
  | inl same ↦ inl same
  | inr other ↦ inr (slot_among es k x (rw (name_apart k e.0 other) at is))
]

keys_length : {J : Type 0} (es : List (List ℕ × Slot J)) → length (keys_of es) ≡ length es
keys_length [] = refl
keys_length (e ∷ es) = ap suc (keys_length es)

-- a way isn't longer than what stands on the bench
pub way_short : {J : Type 0} (b : Book) (s : Spots J) (es : List (List ℕ × Slot J)) (t : List ℕ) (ks : List (List ℕ)) (at : List ℕ) → ((q : List ℕ) → s q ≡ lookup (name_eq q) es) → IsOnWay (onward b s) t ks at → length ks ≤ length es
way_short b s es t ks at are way =
    let all : (q : List ℕ) → Among way.seen q → Among (keys_of es) q = λ q here. (let w = way.waits q here in let r = waiting b s q w.0 w.1 in slot_among es q (Stopped r.job w.0) (sym (are q) ∙ r.stands)) in
    omega (arith, no_longer way.seen (keys_of es) way.once all, length_onto way.seen [], ap length way.keys, keys_length es)
