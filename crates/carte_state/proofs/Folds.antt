-- Laws of what bodies make, one after another.
use Rattle.std.proofs.Common.{◌≡◌, ℕ, ◌+◌, ◌<◌, List, [], ◌∷◌, ◌++◌, arith, length, take, drop, get_or, sym, ◌∙◌, ap, subst, inl, inr}
use Rattle.std.proofs.lemmas.List.{drop_more, take-append-drop}
use Rattle.carte_journal.specs.Frames.{Bad, BodyAt, Ends, Reading}
use Rattle.carte_record.specs.Bodies.{IsBody}
use Rattle.carte_record.specs.BodyLaws as second
use Rattle.carte_record.specs.Three.{IsBodyThree}
use Rattle.carte_record.specs.ThreeLaws as third
use Rattle.carte_record.specs.Folds.{apply}
use Rattle.carte_record.specs.declared.batch.Batch.{Batch}
use Rattle.carte_record_one.specs.Bodies.{IsBodyOne}
use Rattle.carte_record_one.specs.BodyLaws as first
use Rattle.carte_record_one.specs.declared.batch.BatchOne.{BatchOne}
use Rattle.carte_state.specs.Folding.{BadAtOne, IsBadBody, IsFolded, KeepsOne, KeepsOrBad, Makes}
use Rattle.carte_state.specs.Versions.{AnyKept, Begins, Fresh, InTwo, IsBodyOf, Phase, Takes, first_byte, kept_of, taken, two_of}
use Rattle.carte_state.specs.declared.any.AnyBatch.{AnyBatch}
use Rattle.carte_state.specs.declared.any.AnyBatch.TheVariants.{One, Three, Four}

-- a list, cut at a place
pub cut_at : {A : Type 0} (xs : List A) (i : ℕ) (x : A) → i < length xs → x ≡ get_or xs i x → xs ≡ take i xs ++ x ∷ drop (i + 1) xs
cut_at xs i x within is =
    sym (take-append-drop i xs) ∙ ap (λ back. take i xs ++ back) (drop_more xs i x within ∙ ap (λ y. y ∷ drop (i + 1) xs) (sym is))

-- bytes are of one batch of any kind at most
pub one_not_three : (b : BatchOne) (c : Batch) (body : List ℕ) → IsBodyOne b body → IsBodyThree c body → ⊥
one_not_three b c body one three = let same : 1 ≡ 3 = ap first_byte (sym one.bytes ∙ three.bytes) in omega (arith, same)

pub one_not_four : (b : BatchOne) (c : Batch) (body : List ℕ) → IsBodyOne b body → IsBody c body → ⊥
one_not_four b c body one four = let same : 1 ≡ 4 = ap first_byte (sym one.bytes ∙ four.bytes) in omega (arith, same)

three_not_four : (b c : Batch) (body : List ℕ) → IsBodyThree b body → IsBody c body → ⊥
three_not_four b c body three four = let same : 3 ≡ 4 = ap first_byte (sym three.bytes ∙ four.bytes) in omega (arith, same)

pub any_body_one : (A C : AnyBatch) (body : List ℕ) → IsBodyOf A body → IsBodyOf C body → A ≡ C
any_body_one (One b) (One c) body is so = ap One (first.one_body b c body is so)
any_body_one (One b) (Three c) body is so = absurd (one_not_three b c body is so)
any_body_one (One b) (Four c) body is so = absurd (one_not_four b c body is so)
any_body_one (Three b) (One c) body is so = absurd (one_not_three c b body so is)
any_body_one (Three b) (Three c) body is so = ap Three (third.one_body_three b c body is so)
any_body_one (Three b) (Four c) body is so = absurd (three_not_four b c body is so)
any_body_one (Four b) (One c) body is so = absurd (one_not_four c b body so is)
any_body_one (Four b) (Three c) body is so = absurd (three_not_four c b body so is)
any_body_one (Four b) (Four c) body is so = ap Four (second.one_body b c body is so)

-- one body more
pub folded_push : (p q : Phase) (bodies : List BodyAt) (body : BodyAt) (A : AnyBatch) → IsFolded p bodies q → IsBodyOf A body.1 → Takes q A
    → IsFolded p (bodies ++ body ∷ []) (taken A q)
folded_push p q [] body A is batch takes = (A, batch, subst (λ r. Takes r A) is takes, ap (taken A) is)
folded_push p q (x ∷ bodies) body A folded batch takes =
    (folded.0, folded.1, folded.2, folded_push (taken folded.0 p) q bodies body A folded.3 batch takes)

-- and more of them
pub folded_both : (p q r : Phase) (xs ys : List BodyAt) → IsFolded p xs q → IsFolded q ys r → IsFolded p (xs ++ ys) r
folded_both p q r [] ys is more = subst (λ t. IsFolded t ys r) is more
folded_both p q r (x ∷ xs) ys folded more = (folded.0, folded.1, folded.2, folded_both (taken folded.0 p) q r xs ys folded.3 more)

-- a bad one behind bodies that are batches, and before others
pub bad_behind : (p q : Phase) (xs ys : List BodyAt) (at : ℕ) → IsFolded p xs q → IsBadBody q ys at → IsBadBody p (xs ++ ys) at
bad_behind p q [] ys at is bad = subst (λ t. IsBadBody t ys at) is bad
bad_behind p q (x ∷ xs) ys at folded bad =
    inr (folded.0, folded.1, folded.2, bad_behind (taken folded.0 p) q xs ys at folded.3 bad)

pub bad_in_front : (p : Phase) (xs ys : List BodyAt) (at : ℕ) → IsBadBody p xs at → IsBadBody p (xs ++ ys) at
bad_in_front p [] ys at never = absurd never
bad_in_front p (x ∷ xs) ys at (inl bad) = inl bad
bad_in_front p (x ∷ xs) ys at (inr (A, is, takes, bad)) = inr (A, is, takes, bad_in_front (taken A p) xs ys at bad)

pub folded_one : (p : Phase) (bodies : List BodyAt) (q r : Phase) → IsFolded p bodies q → IsFolded p bodies r → q ≡ r
folded_one p [] q r one two = one ∙ sym two
folded_one p (body ∷ bodies) q r (A, is, may, one) (C, so, can, two) =
    folded_one (taken A p) bodies q r one (subst (λ D. IsFolded (taken D p) bodies r) (sym (any_body_one A C body.1 is so)) two)

pub bad_one : (p : Phase) (bodies : List BodyAt) (at offset : ℕ) → IsBadBody p bodies at → IsBadBody p bodies offset → at ≡ offset
bad_one p [] at offset never other = absurd never
bad_one p (body ∷ bodies) at offset (inl one) (inl two) = one.1 ∙ sym two.1
bad_one p (body ∷ bodies) at offset (inl one) (inr two) = absurd (one.0 two.0 two.1 two.2)
bad_one p (body ∷ bodies) at offset (inr one) (inl two) = absurd (two.0 one.0 one.1 one.2)
bad_one p (body ∷ bodies) at offset (inr (A, is, may, one)) (inr (C, so, can, two)) =
    bad_one (taken A p) bodies at offset one (subst (λ D. IsBadBody (taken D p) bodies offset) (sym (any_body_one A C body.1 is so)) two)

pub folded_not_bad : (p : Phase) (bodies : List BodyAt) (q : Phase) (at : ℕ) → IsFolded p bodies q → IsBadBody p bodies at → ⊥
folded_not_bad p [] q at folded bad = bad
folded_not_bad p (body ∷ bodies) q at folded (inl bad) = bad.0 folded.0 folded.1 folded.2
folded_not_bad p (body ∷ bodies) q at folded (inr (C, so, can, bad)) =
    folded_not_bad (taken folded.0 p) bodies q at folded.3
    (subst (λ D. IsBadBody (taken D p) bodies at) (any_body_one C folded.0 body.1 so folded.1) bad)

-- bodies make one thing, and with a batch more what it makes of that
pub makes_one : (bodies : List BodyAt) (K L : AnyKept) → Makes bodies K → Makes bodies L → K ≡ L
makes_one bodies K L one two = one.kept ∙ ap kept_of (folded_one Fresh bodies one.phase two.phase one.folded two.folded) ∙ sym two.kept

pub makes_push : (bodies : List BodyAt) (body : BodyAt) (K : AnyKept) (B : Batch) → Makes bodies K → Begins K B → IsBody B body.1
    → Makes (bodies ++ body ∷ []) (InTwo (apply B (two_of K)))
makes_push bodies body K B makes begins batch = record {
  phase = taken (Four B) makes.phase;
  folded = folded_push Fresh makes.phase bodies body (Four B) makes.folded batch (subst (λ L. Begins L B) makes.kept begins);
  kept = ap (λ L. InTwo (apply B (two_of L))) makes.kept;
}

bodies_same : (r : Reading) (gate end : ℕ) (bodies more : List BodyAt) → r ≡ Ends gate bodies → r ≡ Ends end more → bodies ≡ more
bodies_same r gate end bodies more one two = let same : Ends gate bodies ≡ Ends end more = sym one ∙ two in cc

pub keeps_one : KeepsOne
keeps_one limit file K L one two =
    makes_one one.bodies K L one.makes
    (subst (λ bs. Makes bs L) (sym (bodies_same _ one.gate two.gate one.bodies two.bodies one.reads two.reads)) two.makes)

not_both : (r : Reading) (gate at : ℕ) (bodies : List BodyAt) → r ≡ Ends gate bodies → r ≡ Bad at → ⊥
not_both r gate at bodies one two = let same : Ends gate bodies ≡ Bad at = sym one ∙ two in cc

pub bad_at_one : BadAtOne
bad_at_one limit file at offset (inl one) (inl two) = let same : Bad at ≡ Bad offset = sym one ∙ two in cc
bad_at_one limit file at offset (inl one) (inr two) = absurd (not_both _ two.gate at two.bodies two.reads one)
bad_at_one limit file at offset (inr one) (inl two) = absurd (not_both _ one.gate offset one.bodies one.reads two)
bad_at_one limit file at offset (inr one) (inr two) =
    bad_one Fresh one.bodies at offset one.bad
    (subst (λ bs. IsBadBody Fresh bs offset) (sym (bodies_same _ one.gate two.gate one.bodies two.bodies one.reads two.reads)) two.bad)

pub keeps_or_bad : KeepsOrBad
keeps_or_bad limit file K at keeps (inl bad) = not_both _ keeps.gate at keeps.bodies keeps.reads bad
keeps_or_bad limit file K at keeps (inr bad) =
    folded_not_bad Fresh keeps.bodies keeps.makes.phase at keeps.makes.folded
    (subst (λ bs. IsBadBody Fresh bs at) (sym (bodies_same _ keeps.gate bad.gate keeps.bodies bad.bodies keeps.reads bad.reads)) bad.bad)
