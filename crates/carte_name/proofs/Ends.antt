-- A front is put together of two pieces of its text: the first begins where it begins, and the last ends where it ends.
use Rattle.std.proofs.Common.{◌≡◌, ℕ, zero, suc, ◌+◌, ◌≤◌, List, [], ◌∷◌, ◌++◌, length, take, drop, refl, sym, ap, ◌∙◌, arith, length-drop, append-nil}
use Rattle.std.proofs.lemmas.List.{take_all, drop_all}
use Rattle.std.proofs.lemmas.Simd.{put_chunk_is}
use borrow.Rule.Slice.PartMut.{put_mid}
use lib.Lanes.{put_chunk}
use Rattle.carte_name.specs.Fronts.{padded, front_of}

first_piece : (n : ℕ) (t : List ℕ) → put_chunk 0 (padded n []) t ≡ padded n t
first_piece zero t = refl
first_piece (suc n) [] = refl
first_piece (suc n) (x ∷ t) = ap (λ f. x ∷ f) (first_piece n t)

no_piece : (n k : ℕ) → put_chunk k (padded n []) [] ≡ padded n []
no_piece zero k = refl
no_piece (suc n) zero = refl
no_piece (suc n) (suc k) = ap (λ f. 0 ∷ f) (no_piece n k)

last_piece : (n k m : ℕ) (t : List ℕ) → k ≤ m → put_chunk k (padded n (take m t)) (drop k t) ≡ padded n t
last_piece zero k m t le = refl
last_piece (suc n) zero zero [] le = refl
last_piece (suc n) zero (suc m) [] le = refl
last_piece (suc n) (suc k) zero t le = absurd (omega arith)
last_piece (suc n) (suc k) (suc m) [] le = ap (λ f. 0 ∷ f) (no_piece n k)
last_piece (suc n) zero zero (x ∷ t) le = ap (λ f. x ∷ f) (first_piece n t)
last_piece (suc n) zero (suc m) (x ∷ t) le = ap (λ f. x ∷ f) (last_piece n zero m t (omega arith))
last_piece (suc n) (suc k) (suc m) (x ∷ t) le = ap (λ f. x ∷ f) (last_piece n k m t (omega arith))

pub two_pieces : (k m : ℕ) (t : List ℕ) → k ≤ m → put_chunk k (put_chunk 0 (padded 16 []) (take m t)) (drop k t) ≡ front_of t
unfolding front_of
two_pieces k m t le = ap (λ f. put_chunk k f (drop k t)) (first_piece 16 (take m t)) ∙ last_piece 16 k m t le

-- a store into the part of a list from a place on is a store at the place
pub placed : (a k : ℕ) (xs ys : List ℕ) → a + k ≡ length xs → length ys ≤ k → put_mid a k xs (put_chunk 0 (take k (drop a xs)) ys) ≡ put_chunk a xs ys
placed a k xs ys long room =
    let back : length (drop a xs) ≡ k = omega (arith, length-drop a xs) in
    let whole : take k (drop a xs) ≡ drop a xs = take_all k (drop a xs) (omega arith) in
    let none : drop k (drop a xs) ≡ [] = drop_all k (drop a xs) (omega arith) in
    let stored : put_chunk 0 (drop a xs) ys ≡ ys ++ drop (length ys) (drop a xs) = put_chunk_is 0 (drop a xs) ys (omega arith) in
    rw (whole, none, stored, append-nil (ys ++ drop (length ys) (drop a xs))) (sym (put_chunk_is a xs ys (omega arith)))
