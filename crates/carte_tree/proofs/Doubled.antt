-- What stands before a quote and behind it is UTF-8 where the whole is.
use Rattle.std.proofs.Common.{suc-add, zero, suc, ℕ, List, [], ◌∷◌, ◌++◌, length, take, drop, ◌≡◌, ◌<◌, ◌+◌, refl, length-append, add-zero, ◌∙◌, subst, arith, get_or}
use Rattle.std.proofs.Math.Nat.{le_refl}
use Rattle.std.specs.Str.{IsUtf8}
use Rattle.std.proofs.lemmas.List.{take-append-le, take_all, get_or-append-add}
use Rattle.std.proofs.lemmas.Str.{IsUtf8-take, IsUtf8-drop, IsUtf8-from_ascii, IsCharBoundary-before_ascii, IsCharBoundary-after_ascii}

at_seam : (xs ys : List ℕ) → get_or (xs ++ 34 ∷ ys) (length xs) 0 ≡ 34
at_seam xs ys = rw (← add-zero (length xs)) (get_or-append-add xs (34 ∷ ys) 0 0)

long : (xs ys : List ℕ) → length xs < length (xs ++ 34 ∷ ys)
long xs ys = simp length-append (omega arith)

drop_past : (xs ys : List ℕ) → drop (length xs + 1) (xs ++ 34 ∷ ys) ≡ ys
drop_past [] ys = refl
drop_past (x ∷ xs) ys = rw (suc-add (length xs) 1) (drop_past xs ys)

pub before : (xs ys : List ℕ) → IsUtf8 (xs ++ 34 ∷ ys) → IsUtf8 xs
before xs ys h =
    let e : take (length xs) (xs ++ 34 ∷ ys) ≡ xs = take-append-le (length xs) xs (34 ∷ ys) (le_refl (length xs)) ∙ take_all (length xs) xs (le_refl (length xs)) in
    let b : get_or (xs ++ 34 ∷ ys) (length xs) 0 < 128 = rw (at_seam xs ys) (omega arith) in
    subst IsUtf8 e (IsUtf8-take (xs ++ 34 ∷ ys) (length xs) h (IsCharBoundary-before_ascii (xs ++ 34 ∷ ys) (length xs) (long xs ys) b))

pub behind : (xs ys : List ℕ) → IsUtf8 (xs ++ 34 ∷ ys) → IsUtf8 ys
behind xs ys h =
    let e : drop (length xs + 1) (xs ++ 34 ∷ ys) ≡ ys = drop_past xs ys in
    let b : get_or (xs ++ 34 ∷ ys) (length xs) 0 < 128 = rw (at_seam xs ys) (omega arith) in
    subst IsUtf8 e (IsUtf8-drop (xs ++ 34 ∷ ys) (length xs + 1) h (IsCharBoundary-after_ascii (xs ++ 34 ∷ ys) (length xs) h (long xs ys) b))

ascii_quote : (i : ℕ) → get_or (34 ∷ []) i 0 < 128
ascii_quote zero = omega arith
ascii_quote (suc i) = omega arith

pub quote : IsUtf8 (34 ∷ [])
quote = IsUtf8-from_ascii (34 ∷ []) ascii_quote
