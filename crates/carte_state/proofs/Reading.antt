-- Bodies that are read one by one, or in parts, and then put together.
use Rattle.std.proofs.Common.{◌≡◌, ◌<◌, ℕ, suc, true, false, List, [], ◌∷◌, ◌++◌, Option, Some, None, Result, Ok, Err, Vec, length, arith, refl, sym, ◌∙◌, ap, subst, append_assoc, append-nil, inl}
use Rattle.carte_name.specs.declared.NoMemory.{NoMemory}
use Rattle.carte_journal.specs.Frames.{BodyAt}
use Rattle.carte_journal.specs.declared.faults.LoadFault.{LoadFault}
use Rattle.carte_journal.specs.declared.faults.LoadFault.TheVariants as fault
use Rattle.carte_record.specs.declared.batch.Batch.{Batch}
use Rattle.carte_record_one.specs.declared.batch.BatchOne.{BatchOne}
use Rattle.carte_record.specs.Bodies.{IsDecoded}
use Rattle.carte_record.specs.Three.{IsDecodedThree}
use Rattle.carte_record.specs.Folds.{apply}
use Rattle.carte_record.specs.Kept.{kept_view}
use Rattle.carte_record.specs.declared.kept.Kept.{Kept}
use Rattle.carte_record_one.specs.Bodies.{IsDecodedOne}
use Rattle.carte_state.specs.Folding.{IsBadBody, IsFolded}
use Rattle.carte_state.specs.Parts.{AllPairs, AreFound, Finds, IsFoundIn, IsNext, is_behind_four, made_at, made_view, ReadsEach, ReadsPart, ReadsTo, bodies_in}
use Rattle.carte_record_one.specs.Kept.{nothing_kept_one}
use Rattle.carte_state.specs.Versions.{Begins, Fours, Fresh, IsBodyOf, IsDecodedAny, Ones, Phase, Takes, TakesThree, Threes, as_any, first_byte, kept_of}
use Rattle.carte_state.specs.declared.any.AnyBatch.{AnyBatch}
use Rattle.carte_state.specs.declared.any.AnyBatch.TheVariants.{One, Three, Four}
use Rattle.carte_state.specs.declared.parts.Found.{Found}
use Rattle.carte_state.specs.declared.parts.Part.{Part}
use Rattle.carte_state.specs.declared.made.Made.{Made}
use Rattle.std.specs.Prelude.{IfOk}
use Rattle.carte_state.proofs.Folds.{any_body_one, bad_behind, bad_in_front, folded_both}

-- ---- bytes

-- bytes of one kind are none of another
pub one_decoded : (body : List ℕ) (r : Result (Option BatchOne) NoMemory) → first_byte body ≡ 1 → IsDecodedOne body r → IsDecodedAny body (as_any One r)
one_decoded body (Ok (Some B)) kind is = is
one_decoded body (Ok None) kind none = only
  where
    only : (A : AnyBatch) → ¬ (IsBodyOf A body)
    only (One B) is = none B is
    only (Three B) is = let clash : 1 ≡ 3 = sym kind ∙ ap first_byte is.bytes in omega (arith, clash)
    only (Four B) is = let clash : 1 ≡ 4 = sym kind ∙ ap first_byte is.bytes in omega (arith, clash)
one_decoded body (Err e) kind is = tt

pub three_decoded : (body : List ℕ) (r : Result (Option Batch) NoMemory) → first_byte body ≡ 3 → IsDecodedThree body r → IsDecodedAny body (as_any Three r)
three_decoded body (Ok (Some B)) kind is = is
three_decoded body (Ok None) kind none = only
  where
    only : (A : AnyBatch) → ¬ (IsBodyOf A body)
    only (One B) is = let clash : 3 ≡ 1 = sym kind ∙ ap first_byte is.bytes in omega (arith, clash)
    only (Three B) is = none B is
    only (Four B) is = let clash : 3 ≡ 4 = sym kind ∙ ap first_byte is.bytes in omega (arith, clash)
three_decoded body (Err e) kind is = tt

pub four_decoded : (body : List ℕ) (r : Result (Option Batch) NoMemory) → ¬ (first_byte body ≡ 1) → ¬ (first_byte body ≡ 3) → IsDecoded body r → IsDecodedAny body (as_any Four r)
four_decoded body (Ok (Some B)) one three is = is
four_decoded body (Ok None) one three none = only
  where
    only : (A : AnyBatch) → ¬ (IsBodyOf A body)
    only (One B) is = one (ap first_byte is.bytes)
    only (Three B) is = three (ap first_byte is.bytes)
    only (Four B) is = none B is
four_decoded body (Err e) one three is = tt

-- ---- items in pairs

-- where the second list is cut, the first one can be
pub record Cut {A B : Type 0} (R : A → B → Type 0) (xs : List A) (done : List B) (y : B) (rest : List B) : Type 0 where
  pub front : List A
  pub item : A
  pub back : List A
  pub all : xs ≡ front ++ item ∷ back
  pub before : AllPairs R front done
  pub here : R item y
  pub behind : AllPairs R back rest

module _ {A B : Type 0} (R : A → B → Type 0) where
  pub pairs_end : (xs : List A) (ys : List B) (x : A) (y : B) → AllPairs R xs ys → R x y → AllPairs R (xs ++ x ∷ []) (ys ++ y ∷ [])
  pairs_end [] [] x y all is = (is, tt)
  pairs_end [] (b ∷ ys) x y never is = absurd never
  pairs_end (a ∷ xs) [] x y never is = absurd never
  pairs_end (a ∷ xs) (b ∷ ys) x y all is = (all.0, pairs_end xs ys x y all.1 is)

  pub pairs_cut : (xs : List A) (done rest : List B) (y : B) → AllPairs R xs (done ++ y ∷ rest) → Cut R xs done y rest
  pairs_cut [] [] rest y never = absurd never
  pairs_cut [] (b ∷ done) rest y never = absurd never
  pairs_cut (x ∷ xs) [] rest y all = record { front = []; item = x; back = xs; all = refl; before = tt; here = all.0; behind = all.1 }
  pairs_cut (x ∷ xs) (b ∷ done) rest y all =
      let cut = pairs_cut xs done rest y all.1 in
      record { front = x ∷ cut.front; item = cut.item; back = cut.back; all = ap (λ l. x ∷ l) cut.all; before = (all.0, cut.before); here = cut.here; behind = cut.behind }

  pub pairs_none : (xs : List A) → AllPairs R xs [] → xs ≡ []
  pairs_none [] all = refl
  pairs_none (x ∷ xs) never = absurd never

-- ---- what bodies make

module _ {A C : Type 0} (view : A → Phase) (seen : C → Phase) where
  -- a fault behind what was read, and before what wasn't
  pub fails_then : (p q : Phase) (xs ys zs : List BodyAt) (f : LoadFault) → IsFolded p xs q → ReadsTo view q ys (Err f) → ReadsTo seen p (xs ++ (ys ++ zs)) (Err f)
  fails_then p q xs ys zs (fault.BadState at) folded bad = bad_behind p q xs (ys ++ zs) at folded (bad_in_front q ys zs at bad)
  fails_then p q xs ys zs fault.DiskFault folded never = never
  fails_then p q xs ys zs fault.NoMemory folded none = tt

-- with one body more that was put in
module _ (p q r : Phase) (founds : List Found) (f : Found)
    (before : (bodies : List BodyAt) → AreFound bodies founds → IsFolded p bodies q) (here : (body : BodyAt) → IsFoundIn body f → IsFolded q (body ∷ []) r) where
  pub found_more : (bodies : List BodyAt) → AreFound bodies (founds ++ f ∷ []) → IsFolded p bodies r
  found_more bodies are =
      let cut = pairs_cut IsFoundIn bodies founds [] f are in
      let none : cut.back ≡ [] = pairs_none IsFoundIn cut.back cut.behind in
      subst (λ bs. IsFolded p bs r) (sym (cut.all ∙ ap (λ l. cut.front ++ cut.item ∷ l) none))
      (folded_both p q r cut.front (cut.item ∷ []) (before cut.front cut.before) (here cut.item cut.here))

-- or wasn't
module _ {A C : Type 0} (view : A → Phase) (seen : C → Phase) (p q : Phase) (all founds rest : List Found) (f : Found) (is : all ≡ founds ++ f ∷ rest)
    (before : (bodies : List BodyAt) → AreFound bodies founds → IsFolded p bodies q) (cause : LoadFault) (here : (body : BodyAt) → IsFoundIn body f → ReadsTo view q (body ∷ []) (Err cause)) where
  pub found_fails : (bodies : List BodyAt) → AreFound bodies all → ReadsTo seen p bodies (Err cause)
  found_fails bodies are =
      let cut = pairs_cut IsFoundIn bodies founds rest f (subst (AreFound bodies) is are) in
      subst (λ bs. ReadsTo seen p bs (let r : Result C LoadFault = Err cause in r)) (sym cut.all)
      (fails_then view seen p q cut.front (cut.item ∷ []) cut.back cause (before cut.front cut.before) (here cut.item cut.here))

-- ---- parts

pub bodies_end : (ps : List Part) (p : Part) → bodies_in (ps ++ p ∷ []) ≡ bodies_in ps ++ p.bodies.items
bodies_end [] p = append-nil p.bodies.items
bodies_end (q ∷ ps) p = ap (λ l. q.bodies.items ++ l) (bodies_end ps p) ∙ sym (append_assoc q.bodies.items (bodies_in ps) p.bodies.items)

bodies_cut : (ps : List Part) (p : Part) (qs : List Part) → bodies_in (ps ++ p ∷ qs) ≡ bodies_in ps ++ (p.bodies.items ++ bodies_in qs)
bodies_cut [] p qs = refl
bodies_cut (q ∷ ps) p qs = ap (λ l. q.bodies.items ++ l) (bodies_cut ps p qs) ∙ sym (append_assoc q.bodies.items (bodies_in ps) (p.bodies.items ++ bodies_in qs))

module _ {Z : Type 0} where
  abbrev pub AreParts : List Part → List (Result (Vec Found Z) NoMemory) → Type 0
  AreParts = AllPairs (ReadsPart {Z = Z})

  pub parts_are : (ps : List Part) (rs : List (Result (Vec Found Z) NoMemory)) → length rs ≡ length ps → ReadsEach ps rs → AreParts ps rs
  parts_are [] [] same each = tt
  parts_are [] (r ∷ rs) same each = absurd (omega (arith, same))
  parts_are (p ∷ ps) [] same each = absurd (omega (arith, same))
  parts_are (p ∷ ps) (r ∷ rs) same each =
      (each 0 p r (omega arith), parts_are ps rs (omega (arith, same)) (λ i q s below. each (suc i) q s (omega (arith, below))))

  -- a part more, of which all was put in
  module _ (p q r : Phase) (done : List (Result (Vec Found Z) NoMemory)) (part : Result (Vec Found Z) NoMemory)
      (before : (ps : List Part) → AreParts ps done → IsFolded p (bodies_in ps) q)
      (here : (x : Part) → ReadsPart {Z = Z} x part → IsFolded q x.bodies.items r) where
    pub part_more : (ps : List Part) → AreParts ps (done ++ part ∷ []) → IsFolded p (bodies_in ps) r
    part_more ps are =
        let cut = pairs_cut (ReadsPart {Z = Z}) ps done [] part are in
        let none : cut.back ≡ [] = pairs_none (ReadsPart {Z = Z}) cut.back cut.behind in
        subst (λ bs. IsFolded p bs r) (sym (ap bodies_in (cut.all ∙ ap (λ l. cut.front ++ cut.item ∷ l) none) ∙ bodies_end cut.front cut.item))
        (folded_both p q r (bodies_in cut.front) cut.item.bodies.items (before cut.front cut.before) (here cut.item cut.here))

  -- or not all
  module _ {A C : Type 0} (view : A → Phase) (seen : C → Phase) (p q : Phase) (all done rest : List (Result (Vec Found Z) NoMemory)) (part : Result (Vec Found Z) NoMemory) (is : all ≡ done ++ part ∷ rest)
      (before : (ps : List Part) → AreParts ps done → IsFolded p (bodies_in ps) q) (cause : LoadFault)
      (here : (x : Part) → ReadsPart {Z = Z} x part → ReadsTo view q x.bodies.items (Err cause)) where
    pub part_fails : (ps : List Part) → AreParts ps all → ReadsTo seen p (bodies_in ps) (Err cause)
    part_fails ps are =
        let cut = pairs_cut (ReadsPart {Z = Z}) ps done rest part (subst (AreParts ps) is are) in
        subst (λ bs. ReadsTo seen p bs (let r : Result C LoadFault = Err cause in r)) (sym (ap bodies_in cut.all ∙ bodies_cut cut.front cut.item cut.back))
        (fails_then view seen p q (bodies_in cut.front) cut.item.bodies.items (bodies_in cut.back) cause (before cut.front cut.before) (here cut.item cut.here))

-- there are bodies in parts that were cut of some
pub some_bodies : {ps qs : List BodyAt} → ps ≡ qs → 0 < length qs → ¬ (ps ≡ [])
some_bodies are some none = omega (arith, some, ap length (sym are ∙ none))

-- ---- what it comes to, by its result

module _ {A : Type 0} (view : A → Phase) (p : Phase) (bodies : List BodyAt) where
  pub reads_ok : (r : Result A LoadFault) → ReadsTo view p bodies r → IfOk r (λ made. IsFolded p bodies (view made))
  reads_ok (Ok made) reads = reads
  reads_ok (Err f) reads = tt

  pub reads_bad : (r : Result A LoadFault) → ReadsTo view p bodies r → (offset : ℕ) → r ≡ Err (fault.BadState offset) → IsBadBody p bodies offset
  reads_bad r reads offset is = subst (ReadsTo view p bodies) is reads

  pub reads_disk : (r : Result A LoadFault) → ReadsTo view p bodies r → ¬ (r ≡ Err fault.DiskFault)
  reads_disk r reads is = subst (ReadsTo view p bodies) is reads

-- a fault is the same however what is made is seen
pub same_fault : {A C : Type 0} (view : A → Phase) (seen : C → Phase) (p : Phase) (bodies : List BodyAt) (f : LoadFault) → ReadsTo view p bodies (Err f) → ReadsTo seen p bodies (Err f)
same_fault view seen p bodies (fault.BadState at) reads = reads
same_fault view seen p bodies fault.DiskFault reads = reads
same_fault view seen p bodies fault.NoMemory reads = reads

-- the first batch of version 1 finds nothing kept
pub first_one : (B : BatchOne) (r : Result (Option Made) NoMemory) → IsNext (Ones nothing_kept_one) (One B) r → IsNext Fresh (One B) r
first_one B (Ok None) next = next
first_one B (Ok (Some m)) next = next
first_one B (Err e) next = next

-- a batch of version 2, by what it finds
pub next_four : (p : Phase) (K : Kept) (B : Batch) (r : Result (Option Made) NoMemory) → Finds p B (Some K) → IsNext (Fours (kept_view K)) (Four B) r → IsNext p (Four B) r
next_four p K B (Ok None) found never = absurd (never tt)
next_four p K B (Ok (Some m)) found next = (found.0, next.1 ∙ ap (λ L. Fours (apply B L)) found.1)
next_four p K B (Err e) found next = tt

takes_three : (p : Phase) (B : Batch) → is_behind_four p ≡ false → Begins (kept_of p) B → TakesThree p B
takes_three Fresh B before begins = tt
takes_three (Ones K) B before begins = begins
takes_three (Threes K) B before begins = tt
takes_three (Fours K) B before begins = let clash : true ≡ false = before in cc

pub next_three : (p : Phase) (K : Kept) (B : Batch) (r : Result (Option Made) NoMemory) → is_behind_four p ≡ false → Finds p B (Some K) → IsNext (Threes (kept_view K)) (Three B) r → IsNext p (Three B) r
next_three p K B (Ok None) before found never = absurd (never tt)
next_three p K B (Ok (Some m)) before found next = (takes_three p B before found.0, next.1 ∙ ap (λ L. Threes (apply B L)) found.1)
next_three p K B (Err e) before found next = tt

-- and where it may not come
pub behind_four : (p : Phase) (B : Batch) → is_behind_four p ≡ true → ¬ (Takes p (Three B))
behind_four Fresh B is = let clash : false ≡ true = is in cc
behind_four (Ones K) B is = let clash : false ≡ true = is in cc
behind_four (Threes K) B is = let clash : false ≡ true = is in cc
behind_four (Fours K) B is = λ never. never

pub no_begin : (p : Phase) (B : Batch) → ¬ (Begins (kept_of p) B) → ¬ (Takes p (Three B))
no_begin Fresh B none = λ takes. none tt
no_begin (Ones K) B none = none
no_begin (Threes K) B none = λ takes. none tt
no_begin (Fours K) B none = λ never. never

-- one body more, by what its batch makes
pub body_reads : (p : Phase) (body : BodyAt) (A : AnyBatch) (at : ℕ) → at ≡ body.0 → IsBodyOf A body.1 → (r : Result (Option Made) NoMemory) → IsNext p A r
    → ReadsTo made_view p (body ∷ []) (made_at at r)
body_reads p body A at here is (Ok None) never = inl ((λ C so may. never (subst (Takes p) (any_body_one C A body.1 so is) may)), here)
body_reads p body A at here is (Ok (Some m)) next = (A, is, next.0, next.1)
body_reads p body A at here is (Err e) next = tt

-- a body that is no batch
pub body_fails : (p : Phase) (body : BodyAt) (at : ℕ) → at ≡ body.0 → ((A : AnyBatch) → ¬ (IsBodyOf A body.1)) → IsBadBody p (body ∷ []) at
body_fails p body at here none = inl ((λ A is may. none A is), here)
