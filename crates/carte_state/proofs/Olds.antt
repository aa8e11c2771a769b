-- Which bodies make what is kept in version 1.
use Rattle.std.proofs.Common.{◌≡◌, List, [], ◌∷◌, refl, sym, ◌∙◌, ap}
use Rattle.carte_journal.specs.Frames.{BodyAt}
use Rattle.carte_record.specs.Folds.{apply}
use Rattle.carte_record.specs.Kept.{SomeKept, nothing_kept}
use Rattle.carte_record_one.specs.Folds.{apply_one}
use Rattle.carte_record_one.specs.Kept.{SomeKeptOne, nothing_kept_one}
use Rattle.carte_state.specs.Folding.{AreOne, IsFolded, OldIsOne, OneIsOld}
use Rattle.carte_state.specs.Versions.{Fours, Fresh, InOne, InTwo, Ones, Phase, Threes, kept_of}
use Rattle.carte_state.specs.declared.any.AnyBatch.TheVariants.{One, Three, Four}
use Rattle.carte_state.proofs.Folds.{one_not_four, one_not_three}

-- behind version 2 all is of version 2
fours_stay : (K : SomeKept) (bodies : List BodyAt) (q : Phase) → IsFolded (Fours K) bodies q → (L : SomeKept) × (kept_of q ≡ InTwo L)
fours_stay K [] q is = (K, ap kept_of is)
fours_stay K (body ∷ bodies) q (One B, is, never, rest) = absurd never
fours_stay K (body ∷ bodies) q (Three B, is, never, rest) = absurd never
fours_stay K (body ∷ bodies) q (Four B, is, may, rest) = fours_stay (apply B K) bodies q rest

threes_stay : (K : SomeKept) (bodies : List BodyAt) (q : Phase) → IsFolded (Threes K) bodies q → (L : SomeKept) × (kept_of q ≡ InTwo L)
threes_stay K [] q is = (K, ap kept_of is)
threes_stay K (body ∷ bodies) q (One B, is, never, rest) = absurd never
threes_stay K (body ∷ bodies) q (Three B, is, may, rest) = threes_stay (apply B K) bodies q rest
threes_stay K (body ∷ bodies) q (Four B, is, may, rest) = fours_stay (apply B K) bodies q rest

apart : (K : SomeKeptOne) (L : SomeKept) → InOne K ≡ InTwo L → ⊥
apart K L same = cc

behind_one : (J : SomeKeptOne) (bodies : List BodyAt) (q : Phase) (K : SomeKeptOne) → InOne K ≡ kept_of q → IsFolded (Ones J) bodies q → AreOne bodies
behind_one J [] q K old is = tt
behind_one J (body ∷ bodies) q K old (One B, is, may, rest) = ((B, is), behind_one (apply_one B J) bodies q K old rest)
behind_one J (body ∷ bodies) q K old (Three B, is, may, rest) = let two = threes_stay (apply B nothing_kept) bodies q rest in absurd (apart K two.0 (old ∙ two.1))
behind_one J (body ∷ bodies) q K old (Four B, is, may, rest) = let two = fours_stay (apply B nothing_kept) bodies q rest in absurd (apart K two.0 (old ∙ two.1))

-- and behind version 1 with its bodies alone all is of version 1
ones_make : (J : SomeKeptOne) (bodies : List BodyAt) (q : Phase) → IsFolded (Ones J) bodies q → AreOne bodies → (K : SomeKeptOne) × (kept_of q ≡ InOne K)
ones_make J [] q is ones = (J, ap kept_of is)
ones_make J (body ∷ bodies) q (One B, is, may, rest) ones = ones_make (apply_one B J) bodies q rest ones.1
ones_make J (body ∷ bodies) q (Three B, is, may, rest) ones = absurd (one_not_three ones.0.0 B body.1 ones.0.1 is)
ones_make J (body ∷ bodies) q (Four B, is, may, rest) ones = absurd (one_not_four ones.0.0 B body.1 ones.0.1 is)

-- from none on
old_bodies : (bodies : List BodyAt) (q : Phase) (K : SomeKeptOne) → InOne K ≡ kept_of q → IsFolded Fresh bodies q → AreOne bodies × ¬ (bodies ≡ [])
old_bodies [] q K old is = absurd (apart K nothing_kept (old ∙ ap kept_of is))
old_bodies (body ∷ bodies) q K old (One B, is, may, rest) =
    (((B, is), behind_one (apply_one B nothing_kept_one) bodies q K old rest), λ none. let clash : ⊥ = cc in clash)
old_bodies (body ∷ bodies) q K old (Three B, is, may, rest) = let two = threes_stay (apply B nothing_kept) bodies q rest in absurd (apart K two.0 (old ∙ two.1))
old_bodies (body ∷ bodies) q K old (Four B, is, may, rest) = let two = fours_stay (apply B nothing_kept) bodies q rest in absurd (apart K two.0 (old ∙ two.1))

pub old_is_one : OldIsOne
old_is_one bodies K makes = old_bodies bodies makes.phase K makes.kept makes.folded

new_bodies : (bodies : List BodyAt) (q : Phase) (K : SomeKept) → InTwo K ≡ kept_of q → IsFolded Fresh bodies q → AreOne bodies → bodies ≡ []
new_bodies [] q K new is ones = refl
new_bodies (body ∷ bodies) q K new (One B, is, may, rest) ones =
    let one = ones_make (apply_one B nothing_kept_one) bodies q rest ones.1 in
    absurd (apart one.0 K (sym (new ∙ one.1)))
new_bodies (body ∷ bodies) q K new (Three B, is, may, rest) ones = absurd (one_not_three ones.0.0 B body.1 ones.0.1 is)
new_bodies (body ∷ bodies) q K new (Four B, is, may, rest) ones = absurd (one_not_four ones.0.0 B body.1 ones.0.1 is)

pub one_is_old : OneIsOld
one_is_old bodies K makes ones = new_bodies bodies makes.phase K makes.kept makes.folded ones
