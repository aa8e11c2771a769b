-- Laws of a piece put over a list, and of a list that is torn in some ranges, for callers that write.
use Rattle.std.proofs.Common.{◌≡◌, ℕ, ◌+◌, ◌-◌, ◌<◌, ◌≤◌, List, ◌++◌, length, take, drop, arith, sym, ◌∙◌, ap, append-nil, append_assoc, length-take, length-drop}
use Rattle.std.specs.Prelude.{replicate}
use Rattle.std.proofs.lemmas.Grind.{same_number_lists}
use Rattle.std.proofs.lemmas.List.{get_or-drop, get_or-take, drop_at, take-append-le, take-take}
use Rattle.carte_io.specs.Disk.{IsTorn, IsWritten, longest, put_at}

-- a piece within the list, or right behind it
pub put_inside : (old : List ℕ) (at : ℕ) (piece : List ℕ) → at ≤ length old
    → put_at old at piece ≡ take at old ++ (piece ++ drop (at + length piece) old)
put_inside old at piece within =
    let none : at - length old ≡ 0 = omega arith in
    ap (λ n. take at (old ++ replicate n 0) ++ piece ++ drop (at + length piece) old) none
    ∙ ap (λ xs. take at xs ++ piece ++ drop (at + length piece) old) (append-nil old)
    ∙ append_assoc (take at old) piece (drop (at + length piece) old)

pub take_put : (old : List ℕ) (at k : ℕ) (piece : List ℕ) → at ≤ length old → k ≤ at → take k (put_at old at piece) ≡ take k old
take_put old at k piece within below =
    ap (take k) (put_inside old at piece within)
    ∙ take-append-le k (take at old) (piece ++ drop (at + length piece) old) (omega (arith, length-take at old))
    ∙ take-take k at old below

pub drop_put : (old : List ℕ) (at : ℕ) (piece : List ℕ) → at ≤ length old
    → drop at (put_at old at piece) ≡ piece ++ drop (at + length piece) old
drop_put old at piece within =
    ap (drop at) (put_inside old at piece within)
    ∙ drop_at (take at old) (piece ++ drop (at + length piece) old) at (omega (arith, length-take at old))

-- what lies in front of the ranges is as before
pub torn_take : (k : ℕ) (ranges : List (ℕ × ℕ)) (old new : List ℕ) → IsTorn ranges old new → k ≤ length old
    → ((i : ℕ) → i < k → ¬ IsWritten ranges i) → take k new ≡ take k old
torn_take k ranges old new torn within out = same_number_lists _ _
    (omega (arith, length-take k new, length-take k old, torn.no_shorter))
    (λ i below.
    let lt : i < k = omega (arith, length-take k new, below) in
    get_or-take k new i 0 lt ∙ torn.outside i (omega arith) (out i lt) ∙ sym (get_or-take k old i 0 lt))

-- and what lies behind them, where they end within the list
pub torn_drop : (k : ℕ) (ranges : List (ℕ × ℕ)) (old new : List ℕ) → IsTorn ranges old new → longest (length old) ranges ≤ length old
    → ((i : ℕ) → k ≤ i → ¬ IsWritten ranges i) → drop k new ≡ drop k old
torn_drop k ranges old new torn within out =
    let len : length new ≡ length old = omega (arith, torn.no_shorter, torn.no_longer) in
    same_number_lists _ _
    (omega (arith, length-drop k new, length-drop k old, len))
    (λ i below.
    get_or-drop k new i 0 ∙ torn.outside (k + i) (omega (arith, length-drop k new, below, len)) (out (k + i) (omega arith)) ∙ sym (get_or-drop k old i 0))
