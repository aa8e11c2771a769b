-- A text whose quotes are no longer doubled is UTF-8 where the text is.
use Rattle.std.proofs.Common.{ℕ, Bool, true, false, List, [], ◌∷◌, ◌++◌, ◌≡◌, ◌==◌, if◌then◌else◌, refl, append_assoc}
use Rattle.std.specs.Str.{IsUtf8}
use Rattle.std.proofs.lemmas.Bool.{eqb-true}
use Rattle.std.proofs.lemmas.Str.{IsUtf8-append}
use Rattle.carte_lexer.specs.Lexer.{unpaired}
use Rattle.carte_tree.proofs.Doubled.{before, behind, quote}

utf8_by : (d p : Bool) (b : ℕ) (xs bs : List ℕ) → (b == 34) ≡ d → IsUtf8 (xs ++ b ∷ bs)
    → ((ys : List ℕ) (q : Bool) → IsUtf8 (ys ++ bs) → IsUtf8 (ys ++ unpaired q bs))
    → IsUtf8 (xs ++ (if d then (if p then unpaired false bs else b ∷ unpaired true bs) else b ∷ unpaired false bs))
utf8_by false p b xs bs is h go = rw (append_assoc xs (b ∷ []) (unpaired false bs)) at (go (xs ++ b ∷ []) false (rw (append_assoc xs (b ∷ []) bs) h))
utf8_by true true b xs bs is h go =
    let e : b ≡ 34 = eqb-true b 34 is in
    let h' : IsUtf8 (xs ++ 34 ∷ bs) = rw e at h in
    IsUtf8-append xs (unpaired false bs) (before xs bs h') (go [] false (behind xs bs h'))
utf8_by true false b xs bs is h go =
    let e : b ≡ 34 = eqb-true b 34 is in
    let h' : IsUtf8 (xs ++ 34 ∷ bs) = rw e at h in
    rw e (IsUtf8-append xs (34 ∷ unpaired true bs) (before xs bs h') (IsUtf8-append (34 ∷ []) (unpaired true bs) quote (go [] true (behind xs bs h'))))

unpaired_on : (bs : List ℕ) (xs : List ℕ) (p : Bool) → IsUtf8 (xs ++ bs) → IsUtf8 (xs ++ unpaired p bs)
unpaired_on [] xs p h = h
unpaired_on (b ∷ bs) xs p h = utf8_by (b == 34) p b xs bs refl h (λ ys q k. unpaired_on bs ys q k)

pub unpaired_utf8 : (bs : List ℕ) → IsUtf8 bs → IsUtf8 (unpaired false bs)
unpaired_utf8 bs h = unpaired_on bs [] false h
