-- The names that are taken off the chain, each told at its place.
use Rattle.std.proofs.Common.{◌≡◌, ◌⊎◌, ℕ, zero, suc, ◌+◌, ◌<◌, Bool, true, false, List, [], ◌∷◌, ◌++◌, length, take, get_or, Some, set, refl, ap, sym, ◌∙◌, subst, inl, inr, arith}
use Rattle.std.specs.Prelude.{replicate}
use Rattle.std.specs.List.{position}
use Rattle.std.proofs.lemmas.List.{get_or-replicate, length-replicate, get_or-set_same, get_or-set_other, length-set, take_more}
use Rattle.std.proofs.lemmas.List.Quantifiers.{position-Some}
use Rattle.std.proofs.lemmas.Option.{slice_get-get_or}
use Rattle.carte_name.specs.Names.{name_eq}
use Rattle.carte_value.specs.Truths.{Among, NoneTwice}
use Rattle.carte_value.proofs.Members.{among_append, among_left, among_right}
use Rattle.carte_book.specs.Book.{Book}
use Rattle.carte_book.specs.Needs.{IsRule}
use Rattle.carte_table.proofs.Names.{name_eq_is}
use Rattle.carte_sound.specs.Chains.{ArePicked}
use Rattle.carte_restart.specs.Led.{AreTaken, IsOther, PushesIf}
use Rattle.carte_restart.proofs.Picking.{picked_more}

-- none
pub taken_none : (names : List (List ℕ)) (taken : List Bool) → NoneTwice names → taken ≡ replicate (length names) false → AreTaken names [] taken
taken_none names taken once is = record {
  once = once;
  beside = ap length is ∙ length-replicate (length names) false;
  told = λ i below. (
    (λ so. let none : get_or taken i false ≡ false = ap (λ ts. get_or ts i false) is ∙ get_or-replicate (length names) i false false below in let both : false ≡ true = sym none ∙ so in cc),
    (λ nowhere. absurd nowhere),
  );
}

-- what is read at a place
read_same : (names : List (List ℕ)) (i : ℕ) (d e : List ℕ) → i < length names → get_or names i d ≡ get_or names i e
read_same names i d e below = let both : Some (get_or names i d) ≡ Some (get_or names i e) = sym (slice_get-get_or names i d below) ∙ slice_get-get_or names i e below in cc

-- what stands at a place is there
read_among : (names : List (List ℕ)) (i : ℕ) → i < length names → Among names (get_or names i [])
read_among [] i below = absurd (omega (arith, below))
read_among (x ∷ xs) zero below = inl refl
read_among (x ∷ xs) (suc i) below = inr (read_among xs i (omega (arith, below)))

-- and nowhere else
read_once : (names : List (List ℕ)) → NoneTwice names → (i j : ℕ) → i < length names → j < length names → get_or names i [] ≡ get_or names j [] → i ≡ j
read_once [] once i j here there same = absurd (omega (arith, here))
read_once (x ∷ xs) once zero zero here there same = refl
read_once (x ∷ xs) once zero (suc j) here there same = absurd (once.0 (subst (Among xs) (sym same) (read_among xs j (omega (arith, there)))))
read_once (x ∷ xs) once (suc i) zero here there same = absurd (once.0 (subst (Among xs) same (read_among xs i (omega (arith, here)))))
read_once (x ∷ xs) once (suc i) (suc j) here there same = ap suc (read_once xs once.1 i j (omega (arith, here)) (omega (arith, there)) same)

same_place_or_not : (i j : ℕ) → (i ≡ j) ⊎ ¬ (i ≡ j)
same_place_or_not zero zero = inl refl
same_place_or_not zero (suc j) = inr (λ same. absurd (omega (arith, same)))
same_place_or_not (suc i) zero = inr (λ same. absurd (omega (arith, same)))
same_place_or_not (suc i) (suc j) = elim (same_place_or_not i j) [
  | inl same ↦ inl (ap suc same)
  | inr other ↦ inr (λ same. other (omega (arith, same)))
]

-- one name more that isn't this one changes nothing
more_apart : (keys : List (List ℕ)) (k q : List ℕ) → ¬ (q ≡ k) → Among (keys ++ k ∷ []) q → Among keys q
more_apart keys k q other here = elim (among_append keys (k ∷ []) q here) [
  | inl before ↦ before
  | inr last ↦ elim last [
    | inl same ↦ absurd (other same)
    | inr nowhere ↦ absurd nowhere
  ]
]

module _ (names keys : List (List ℕ)) (taken : List Bool) (k : List ℕ) (so : AreTaken names keys taken) where
  -- a name that is none of them
  pub taken_off : ¬ (Among names k) → AreTaken names (keys ++ k ∷ []) taken
  taken_off off = record {
    once = so.once;
    beside = so.beside;
    told = λ i below. (
      (λ is. among_left keys (k ∷ []) (get_or names i []) ((so.told i below).0 is)),
      (λ here. (so.told i below).1 (more_apart keys k (get_or names i []) (λ same. off (subst (Among names) same (read_among names i below))) here)),
    );
  }

  -- one of them, whose place it tells
  pub place_within : (at : ℕ) → position (name_eq k) names ≡ Some at → at < length taken
  place_within at is = let place = position-Some (name_eq k) names at [] is in let within = place.0 in omega (arith, within, so.beside)

  pub taken_more : (at : ℕ) → position (name_eq k) names ≡ Some at → AreTaken names (keys ++ k ∷ []) (set taken at true)
  taken_more at is = record {
    once = so.once;
    beside = length-set taken at true ∙ so.beside;
    told = λ i below. elim (same_place_or_not i at) [
      | inl here ↦ (
        (λ set_so. among_right keys (k ∷ []) (get_or names i []) (inl (ap (λ j. get_or names j []) here ∙ sym found))),
        (λ there. ap (λ j. get_or (set taken at true) j false) here ∙ get_or-set_same taken at true false (omega (arith, within, so.beside))),
      )
      | inr apart ↦ (
        (λ set_so. among_left keys (k ∷ []) (get_or names i []) ((so.told i below).0 (sym (get_or-set_other taken at i true false apart) ∙ set_so))),
        (λ there. get_or-set_other taken at i true false apart ∙ (so.told i below).1 (more_apart keys k (get_or names i []) (λ same. apart (read_once names so.once i at below within (same ∙ found))) there)),
      )
    ];
  }
    where
      place : (at < length names) × (name_eq k (get_or names at []) ≡ true) × ((j : ℕ) → j < at → name_eq k (get_or names j []) ≡ false)
      place = position-Some (name_eq k) names at [] is

      within : at < length names
      within = place.0

      found : k ≡ get_or names at []
      found = name_eq_is k (get_or names at []) place.1

-- the next name at its place is an other one just where it isn't taken
pub other_step : (b : Book) (names keys : List (List ℕ)) (taken : List Bool) (i : ℕ) (k : List ℕ) (t : Bool) (old new : List (List ℕ)) → AreTaken names keys taken → i < length names → k ≡ get_or names i k → t ≡ get_or taken i false
    → ArePicked (IsOther b keys) (take i names) old → PushesIf (λ q. IsRule b q × (t ≡ false)) old new k → ArePicked (IsOther b keys) (take (i + 1) names) new
other_step b names keys taken i k t old new so below is told picked pushes =
    subst (λ ks. ArePicked (IsOther b keys) ks new) (sym more) (picked_more (IsOther b keys) (take i names) old new k picked (by pushes))
  where
    more : take (i + 1) names ≡ take i names ++ k ∷ []
    more = take_more names i k below ∙ ap (λ x. take i names ++ x ∷ []) (sym is)

    read : get_or names i [] ≡ k
    read = read_same names i [] k below ∙ sym is

    on : t ≡ false → ¬ (Among keys k)
    on free here = let there : get_or taken i false ≡ true = (so.told i below).1 (subst (Among keys) (sym read) here) in let both : false ≡ true = sym free ∙ (told ∙ there) in cc

    back : ¬ (Among keys k) → t ≡ false
    back off = at t refl
      where
        at : (u : Bool) → t ≡ u → t ≡ false
        at true set_so = absurd (off (subst (Among keys) read ((so.told i below).0 (sym told ∙ set_so))))
        at false set_so = set_so

    by : PushesIf (λ q. IsRule b q × (t ≡ false)) old new k → PushesIf (IsOther b keys) old new k
    by (inl ((held, free), so_is)) = inl ((held, on free), so_is)
    by (inr (other, so_is)) = inr ((λ (held, off). other (held, back off)), so_is)
