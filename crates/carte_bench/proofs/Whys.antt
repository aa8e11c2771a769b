-- A path of waits is why its target has no value, and a bench that has come to its end has one for each rule that isn't done.
use Rattle.std.proofs.Common.{◌≡◌, ℕ, zero, suc, ◌+◌, ◌<◌, true, false, cond, List, [], ◌∷◌, length, Option, Some, None, refl, sym, ◌∙◌, inl, inr, ◌⊎◌, arith}
use Rattle.std.proofs.lemmas.Bool.{cases_Bool}
use Rattle.std.specs.Map.{lookup, keys_of}
use Rattle.carte_name.specs.Names.{name_eq}
use Rattle.carte_value.specs.Truths.{Among, NoneTwice}
use Rattle.carte_value.proofs.Members.{no_longer}
use Rattle.carte_book.specs.Book.{Item, input, rule, Book, content, clean}
use Rattle.carte_book.specs.Edits.{IsInput}
use Rattle.carte_book.specs.Needs.{IsRule, needs}
use Rattle.carte_book.specs.Reason.{Begins, GoesRound, GoesAstray, IsReason}
use Rattle.carte_book.specs.Stuck.{IsBlockedBy}
use Rattle.carte_book.specs.declared.reason.Reason.{Reason}
use Rattle.carte_book.specs.declared.reason.Reason.TheVariants.{Cycle, Missing, Dynamic}
use Rattle.carte_book.proofs.Stuck.{stuck_at, no_clean_needs}
use Rattle.carte_bench.specs.declared.slot.Slot.{Slot}
use Rattle.carte_bench.specs.declared.slot.Slot.TheVariants.{Ready, Stopped, Out, Done}
use Rattle.carte_bench.specs.Spots.{Spots, is_done}
use Rattle.carte_bench.specs.Steps.{FitsOf, IsCore}
use Rattle.carte_bench.specs.Waits.{Onward, gone, ends, waits_for, waits_on, onward_at, onward, Starts, Round, Astray, WaitsAs, has}
use Rattle.carte_bench.specs.Ended.{IsOpen, HasEnded, HasReason}
use Rattle.carte_bench.proofs.Ways.{has_among, none_among, waiting, slot_among}

-- 1. each name of a path waits for another of it

abbrev WaitsIn : (List ℕ → Onward) → List (List ℕ) → List ℕ → Type 0
WaitsIn f p k = (j : List ℕ) × (f k ≡ waits_for j) × Among p j

later_in : (f : List ℕ → Onward) (i : List ℕ) (p : List (List ℕ)) (k : List ℕ) → WaitsIn f p k → WaitsIn f (i ∷ p) k
later_in f i p k (j, is, here) = (j, is, inr here)

round_waits : (f : List ℕ → Onward) (seen p : List (List ℕ)) (q : List ℕ) → Round f seen p → Among p q → Among seen q ⊎ WaitsIn f p q
round_waits f seen [] q round here = absurd here
round_waits f seen (k ∷ []) q round (inl same) = inl (rw same round)
round_waits f seen (k ∷ []) q round (inr none) = absurd none
round_waits f seen (k ∷ j ∷ ks) q (new, is, round) (inl same) = inr (j, rw same is, inr (inl refl))
round_waits f seen (k ∷ j ∷ ks) q (new, is, round) (inr later) = elim (round_waits f (k ∷ seen) (j ∷ ks) q round later) [
  | inl before ↦ elim before [
    | inl same ↦ inr (j, rw same is, inr (inl refl))
    | inr there ↦ inl there
  ]
  | inr waits ↦ inr (later_in f k (j ∷ ks) q waits)
]

astray_waits : (f : List ℕ → Onward) (seen p : List (List ℕ)) (q : List ℕ) → Astray f seen p → Among p q → (f q ≡ gone) ⊎ WaitsIn f p q
astray_waits f seen [] q astray here = absurd here
astray_waits f seen (k ∷ []) q astray (inl same) = inl (rw same astray)
astray_waits f seen (k ∷ []) q astray (inr none) = absurd none
astray_waits f seen (k ∷ j ∷ ks) q (new, is, astray) (inl same) = inr (j, rw same is, inr (inl refl))
astray_waits f seen (k ∷ j ∷ ks) q (new, is, astray) (inr later) = elim (astray_waits f (k ∷ seen) (j ∷ ks) q astray later) [
  | inl nothing ↦ inl nothing
  | inr waits ↦ inr (later_in f k (j ∷ ks) q waits)
]

nothing_there : {J : Type 0} (b : Book) (s : Spots J) (k : List ℕ) → onward b s k ≡ gone → content b k ≡ None
nothing_there {J = J} b s k leads = at (content b k) refl (s k) leads
  where
    at : (o : Option Item) → content b k ≡ o → (y : Option (Slot J)) → onward_at o (waits_on s y) ≡ gone → content b k ≡ None
    at None is y h = is
    at (Some (input v)) is y h = cc
    at (Some (rule e)) is None h = cc
    at (Some (rule e)) is (Some (Ready p)) h = cc
    at (Some (rule e)) is (Some (Stopped p n)) h = elim (is_done (s n)) as (λ d. cond d ends (waits_for n) ≡ gone → content b k ≡ None) [
      | true ↦ λ never. cc
      | false ↦ λ never. cc
    ] h
    at (Some (rule e)) is (Some Out) h = cc
    at (Some (rule e)) is (Some (Done m)) h = cc

module _ {J : Type 0} (fits : FitsOf J) (b : Book) (s : Spots J) (core : IsCore fits b s) where
  needs_it : (k j : List ℕ) → onward b s k ≡ waits_for j → Among (needs b k) j
  needs_it k j leads = let w = waiting b s k j leads in (core.slots k (Stopped w.job j) w.stands).1

  blocked_in : (p : List (List ℕ)) (k : List ℕ) → WaitsIn (onward b s) p k → IsBlockedBy b (Among p) k
  blocked_in p k (j, is, here) = inr (j, needs_it k j is, here)

  round_none : (p : List (List ℕ)) → Round (onward b s) [] p → (k : List ℕ) → Among p k → clean b k ≡ None
  round_none p round = no_clean_needs b (Among p) (λ k here. elim (round_waits (onward b s) [] p k round here) [
    | inl never ↦ absurd never
    | inr waits ↦ blocked_in p k waits
  ])

  astray_none : (p : List (List ℕ)) → Astray (onward b s) [] p → (k : List ℕ) → Among p k → clean b k ≡ None
  astray_none p astray = no_clean_needs b (Among p) (λ k here. elim (astray_waits (onward b s) [] p k astray here) [
    | inl nothing ↦ inl (nothing_there b s k nothing)
    | inr waits ↦ blocked_in p k waits
  ])

  goes_round : (seen p : List (List ℕ)) → Round (onward b s) seen p → ((k : List ℕ) → Among p k → clean b k ≡ None) → GoesRound b seen p
  goes_round seen [] round none = round
  goes_round seen (k ∷ []) round none = round
  goes_round seen (k ∷ j ∷ ks) (new, is, round) none = (new, stuck_at b k j (needs_it k j is) (none j (inr (inl refl))), goes_round (k ∷ seen) (j ∷ ks) round (λ q here. none q (inr here)))

  goes_astray : (seen p : List (List ℕ)) → Astray (onward b s) seen p → ((k : List ℕ) → Among p k → clean b k ≡ None) → GoesAstray b seen p
  goes_astray seen [] astray none = astray
  goes_astray seen (k ∷ []) astray none = nothing_there b s k astray
  goes_astray seen (k ∷ j ∷ ks) (new, is, astray) none = (new, stuck_at b k j (needs_it k j is) (none j (inr (inl refl))), goes_astray (k ∷ seen) (j ∷ ks) astray (λ q here. none q (inr here)))

  begins_so : (t : List ℕ) (p : List (List ℕ)) → Starts t p → ((k : List ℕ) → Among p k → clean b k ≡ None) → Begins b (t ∷ []) p
  begins_so t [] from none = absurd from
  begins_so t (k ∷ ks) from none = inl (sym from, rw (← from) (none k (inl refl)))

  -- a path of waits is the reason of the book
  pub reason_is : (t : List ℕ) (r : Reason) → WaitsAs (onward b s) t (Some r) → IsReason b (t ∷ []) r
  reason_is t (Cycle p) (from, round) = let none = round_none p round in (begins_so t p from none, goes_round [] p round none)
  reason_is t (Missing p) (from, astray) = let none = astray_none p astray in (begins_so t p from none, goes_astray [] p astray none)
  reason_is t (Dynamic p) never = absurd never

-- 2. where nothing can go on

abbrev LeadsOn : (List ℕ → Onward) → List (List ℕ) → List ℕ → Type 0
LeadsOn f seen k = (rest : List (List ℕ)) × (Round f seen (k ∷ rest) ⊎ Astray f seen (k ∷ rest))

-- where each waits for another, or for what has nothing, there is a path
module _ (f : List ℕ → Onward) (P : List ℕ → Type 0) (ks : List (List ℕ)) (listed : (k : List ℕ) → P k → Among ks k) (next : (k : List ℕ) → P k → (j : List ℕ) × (f k ≡ waits_for j) × ((f j ≡ gone) ⊎ P j)) where
  follow : (fuel : ℕ) (seen : List (List ℕ)) (k : List ℕ) → length ks < length seen + fuel → NoneTwice seen → ((q : List ℕ) → Among seen q → Among ks q) → P k → LeadsOn f seen k
  follow zero seen k room once all p = absurd (let most = no_longer seen ks once all in omega arith)
  follow (suc fuel) seen k room once all p = elim (cases_Bool (has seen k)) [
    | inl there ↦ ([], inl (has_among seen k there))
    | inr fresh ↦ more (none_among seen k fresh) (next k p) (λ j new later. follow fuel (k ∷ seen) j (omega arith) (new, once) now_all later)
  ]
    where
      now_all : (q : List ℕ) → Among (k ∷ seen) q → Among ks q
      now_all q here = elim here [
        | inl same ↦ rw same (listed k p)
        | inr later ↦ all q later
      ]

      behind : (j : List ℕ) → ¬ (Among seen k) → f k ≡ waits_for j → LeadsOn f (k ∷ seen) j → LeadsOn f seen k
      behind j new leads (rest, inl round) = (j ∷ rest, inl (new, leads, round))
      behind j new leads (rest, inr astray) = (j ∷ rest, inr (new, leads, astray))

      more : ¬ (Among seen k) → (j : List ℕ) × (f k ≡ waits_for j) × ((f j ≡ gone) ⊎ P j) → ((j : List ℕ) → ¬ (Among seen k) → P j → LeadsOn f (k ∷ seen) j) → LeadsOn f seen k
      more new (j, leads, inl nothing) on = (j ∷ [], inr (new, leads, nothing))
      more new (j, leads, inr later) on = behind j new leads (on j new later)

  has_path : (k : List ℕ) → P k → HasReason f k
  has_path k p = reasoned (follow (length ks + 1) [] k (omega arith) tt (λ q here. absurd here) p)
    where
      reasoned : LeadsOn f [] k → HasReason f k
      reasoned (rest, inl round) = (Cycle (k ∷ rest), (refl, round))
      reasoned (rest, inr astray) = (Missing (k ∷ rest), (refl, astray))

module _ {J : Type 0} (b : Book) (s : Spots J) (rules : (k : List ℕ) (x : Slot J) → s k ≡ Some x → IsRule b k) (no_input : (k n : List ℕ) (p : J) → s k ≡ Some (Stopped p n) → ¬ (IsInput b n)) (ended : HasEnded b s) where
  abbrev OpenOrGone : List ℕ → Type 0
  OpenOrGone n = (onward b s n ≡ gone) ⊎ IsOpen s n

  behind_stop : (k n : List ℕ) (p : J) → s k ≡ Some (Stopped p n) → is_done (s n) ≡ false → OpenOrGone n
  behind_stop k n p there undone = at (content b n) refl
    where
      at : (o : Option Item) → content b n ≡ o → OpenOrGone n
      at None is = inl (rw is refl)
      at (Some (input v)) is = absurd (no_input k n p there (v, is))
      at (Some (rule e)) is = inr (ended.demanded k n p there (e, is), undone)

  waits_so : (k n : List ℕ) (p : J) → s k ≡ Some (Stopped p n) → is_done (s n) ≡ false → onward b s k ≡ waits_for n
  waits_so k n p there undone = let is = (rules k (Stopped p n) there).1 in rw (is, there, undone) refl

  open_next : (k : List ℕ) → IsOpen s k → (n : List ℕ) × (onward b s k ≡ waits_for n) × OpenOrGone n
  open_next k ((x, there), undone) = at x there
    where
      at : (y : Slot J) → s k ≡ Some y → (n : List ℕ) × (onward b s k ≡ waits_for n) × OpenOrGone n
      at (Ready p) is = let never : true ≡ false = rw is at (ended.none_ready k) in cc
      at (Stopped p n) is = let open_there : is_done (s n) ≡ false = rw is at (ended.none_ready k) in (n, waits_so k n p is open_there, behind_stop k n p is open_there)
      at Out is = absurd (ended.none_out k is)
      at (Done m) is = let never : true ≡ false = rw is at undone in cc

  pub stuck_has_reason : (es : List (List ℕ × Slot J)) → ((q : List ℕ) → s q ≡ lookup (name_eq q) es) → (k : List ℕ) → IsOpen s k → HasReason (onward b s) k
  stuck_has_reason es are k open_k = has_path (onward b s) (IsOpen s) (keys_of es) (λ q is_open. slot_among es q is_open.0.0 (sym (are q) ∙ is_open.0.1)) open_next k open_k

pub ended_has_reason : {J : Type 0} (fits : FitsOf J) (b : Book) (s : Spots J) → IsCore fits b s → HasEnded b s → (es : List (List ℕ × Slot J)) → ((q : List ℕ) → s q ≡ lookup (name_eq q) es) → (k : List ℕ) → IsOpen s k → HasReason (onward b s) k
ended_has_reason fits b s core ended = stuck_has_reason b s core.rules (λ k n p is. (core.slots k (Stopped p n) is).2) ended
