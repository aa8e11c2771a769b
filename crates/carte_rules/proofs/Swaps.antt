-- Steps that commute lead to the same end in each order.
use Rattle.std.proofs.Common.{◌≡◌, ℕ, ◌+◌, ◌-◌, ◌<◌, take, drop, append_assoc, length-append, List, [], ◌∷◌, ◌++◌, refl, sym, ap, ◌∙◌, length, set, slice_index_or, arith, IsPermutation, Bool, true, false, Option, Some, None, option_and_then}
use Rattle.std.proofs.lemmas.List.Sorted.{IsPermutation-keeps}
use Rattle.std.proofs.lemmas.List.Edits.{swap_is}
use Rattle.std.proofs.lemmas.List.{get_or-drop, set-get_or, take-append-drop, drop_more, length-take-le, length-drop, set_at, set_comm}
use Rattle.std.specs.List.{swap}
use Rattle.std.proofs.lemmas.Bool.{ltb-true, ltb-false}
use lib.Dec.{ltb}

module _ {X S : Type 0} (step : X → S → Option S) where
  -- the steps of a list, one after the other
  abbrev pub run : List X → S → Option S
  run [] s = Some s
  run (x ∷ xs) s = option_and_then (run xs) (step x s)

  bound : (o : Option S) (f g : S → Option S) → ((s : S) → f s ≡ g s) → option_and_then f o ≡ option_and_then g o
  bound None f g same = refl
  bound (Some s) f g same = same s

  joined : (o : Option S) (f g h : S → Option S) → ((s : S) → f s ≡ option_and_then h (g s)) → option_and_then f o ≡ option_and_then h (option_and_then g o)
  joined None f g h same = refl
  joined (Some s) f g h same = same s

  pub run-append : (xs ys : List X) (s : S) → run (xs ++ ys) s ≡ option_and_then (run ys) (run xs s)
  run-append [] ys s = refl
  run-append (x ∷ xs) ys s = joined (step x s) _ _ _ (run-append xs ys)

  module _ (comm : (x y : X) (s : S) → option_and_then (step y) (step x s) ≡ option_and_then (step x) (step y s)) where
    two : (x y : X) (zs : List X) (s : S) → run (x ∷ y ∷ zs) s ≡ run (y ∷ x ∷ zs) s
    two x y zs s = assoc x y (step x s) ∙ ap (option_and_then (run zs)) (comm x y s) ∙ sym (assoc y x (step y s))
      where
        assoc : (a b : X) (o : Option S) → option_and_then (run (b ∷ zs)) o ≡ option_and_then (run zs) (option_and_then (step b) o)
        assoc a b None = refl
        assoc a b (Some t) = refl

    -- a step may come later
    past : (x : X) (ms zs : List X) (s : S) → run (x ∷ ms ++ zs) s ≡ run (ms ++ x ∷ zs) s
    past x [] zs s = refl
    past x (m ∷ ms) zs s = two x m (ms ++ zs) s ∙ bound (step m s) _ _ (past x ms zs)

    apart : (x y : X) (front ms back : List X) (s : S) → run ((front ++ x ∷ ms) ++ y ∷ back) s ≡ run ((front ++ y ∷ ms) ++ x ∷ back) s
    apart x y front ms back s =
        ap (λ l. run l s) (append_assoc front (x ∷ ms) (y ∷ back)) ∙ run-append front (x ∷ ms ++ y ∷ back) s
        ∙ bound (run front s) _ _ (λ t. past x ms (y ∷ back) t ∙ run-append ms (x ∷ y ∷ back) t ∙ bound (run ms t) _ _ (two x y back) ∙ sym (run-append ms (y ∷ x ∷ back) t) ∙ sym (past y ms (x ∷ back) t))
        ∙ sym (run-append front (y ∷ ms ++ x ∷ back) s) ∙ ap (λ l. run l s) (sym (append_assoc front (y ∷ ms) (x ∷ back)))

    swap_less : (l : List X) (i j : ℕ) (d : X) (s : S) → i < j → j < length l → run (swap l i j) s ≡ run l s
    swap_less l i j d s a b =
        let x = slice_index_or l i d in
        let y = slice_index_or l j d in
        let front = take i l in
        let r = drop (i + 1) l in
        let long_front : length front ≡ i = length-take-le i l (omega (arith, a, b)) in
        let whole : l ≡ front ++ x ∷ r = sym (rw (sym (drop_more l i d (omega (arith, a, b)))) (take-append-drop i l)) in
        let long_r : length r ≡ length l - (i + 1) = length-drop (i + 1) l in
        let m = take (j - i - 1) r in
        let back = drop (j - i) r in
        let in_r : j - i - 1 < length r = omega (arith, a, b, long_r) in
        let jj : i + 1 + (j - i - 1) ≡ j = omega (arith, a) in
        let at_j : slice_index_or r (j - i - 1) d ≡ y = rw (get_or-drop (i + 1) l (j - i - 1) d, jj) refl in
        let long_m : length m ≡ j - i - 1 = length-take-le (j - i - 1) r (omega (arith, in_r)) in
        let after : j - i - 1 + 1 ≡ j - i = omega (arith, a) in
        let r_is : r ≡ m ++ y ∷ back = sym (rw (drop_more r (j - i - 1) d in_r, at_j, after) at (take-append-drop (j - i - 1) r)) in
        let once : set l i y ≡ (front ++ y ∷ m) ++ y ∷ back =
        ap (λ v. set v i y) whole ∙ set_at front x r y i long_front ∙ ap (λ v. front ++ y ∷ v) r_is ∙ sym (append_assoc front (y ∷ m) (y ∷ back)) in
        let long_y : length (front ++ y ∷ m) ≡ j = omega (arith, length-append front (y ∷ m), long_front, long_m, a) in
        let twice : set (set l i y) j x ≡ (front ++ y ∷ m) ++ x ∷ back = ap (λ v. set v j x) once ∙ set_at (front ++ y ∷ m) y back x j long_y in
        let swapped : swap l i j ≡ (front ++ y ∷ m) ++ x ∷ back = sym (swap_is l i j d (omega (arith, a, b)) b) ∙ twice in
        let is : l ≡ (front ++ x ∷ m) ++ y ∷ back = whole ∙ ap (λ v. front ++ x ∷ v) r_is ∙ sym (append_assoc front (x ∷ m) (y ∷ back)) in
        ap (λ v. run v s) swapped ∙ apart y x front m back s ∙ ap (λ v. run v s) (sym is)

    run_swap : (l : List X) (i j : ℕ) (s : S) → i < length l → j < length l → run (swap l i j) s ≡ run l s
    run_swap [] i j s a b = absurd (omega (arith, a))
    run_swap (d ∷ ls) i j s a b = go (ltb i j) refl
      where
        l : List X
        l = d ∷ ls

        go : (v : Bool) → ltb i j ≡ v → run (swap l i j) s ≡ run l s
        go true e = swap_less l i j d s (ltb-true _ _ e) b
        go false e = go2 (ltb j i) refl
          where
            go2 : (v : Bool) → ltb j i ≡ v → run (swap l i j) s ≡ run l s
            go2 true e2 =
                let less = ltb-true _ _ e2 in
                let same : swap l j i ≡ swap l i j = sym (swap_is l j i d b a) ∙ set_comm l j i _ _ (λ z. absurd (omega (arith, z, less))) ∙ swap_is l i j d a b in
                rw (sym same) (swap_less l j i d s less a)
            go2 false e2 =
                let same : i ≡ j = omega (arith, ltb-false _ _ e, ltb-false _ _ e2) in
                let still : swap l i j ≡ l = rw same (sym (swap_is l j j d b b) ∙ rw (set-get_or l j d) (set-get_or l j d)) in
                rw still refl

    pub run_permutation : (xs ys : List X) → IsPermutation xs ys → (s : S) → run ys s ≡ run xs s
    run_permutation xs ys p = IsPermutation-keeps xs (λ l. (s : S) → run l s ≡ run xs s) (λ s. refl) (λ l i j a b h s. run_swap l i j s a b ∙ h s) ys p
