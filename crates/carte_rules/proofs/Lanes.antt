-- Sixteen bytes tested at once: a lane is set where its byte doesn't stand for itself.
use Rattle.std.proofs.Common.{◌≡◌, ℕ, Bool, true, false, not, ◌&&◌, ◌||◌, ◌+◌, ◌%◌, ◌^◌, eqb, nat_lt, cond, List, [], ◌∷◌, length, map, replicate, bit_and, bit_or, refl, ap, ap₂, ◌∙◌, arith, inl, inr}
use Rattle.std.specs.List.{prefix_len}
use Rattle.std.proofs.lemmas.Bool.{cases_Bool}
use Rattle.std.proofs.lemmas.Bool.Decides.{nat_tests}
use Rattle.std.proofs.lemmas.List.{length-map}
use Rattle.std.proofs.lemmas.Simd.{zip2_splat, zip2_of_maps, map-map, mask_l-mod, first_set_mask_l}
use lib.Lanes.{zip2, mask_l, top}
use lib.Count.{count_trailing_zeros}
use Rattle.toml_parser.specs.Strings.{is_plain}

-- an operation on two vectors that were computed lane by lane from v, and a test against one byte
pub joined : (h : ℕ → ℕ → ℕ) (f g : ℕ → ℕ) (v : List ℕ) {a b : List ℕ} → a ≡ map f v → b ≡ map g v → zip2 h a b ≡ map (λ x. h (f x) (g x)) v
joined h f g v one two = zip2_of_maps h f g v one two

pub tested : (h : ℕ → ℕ → ℕ) (v : List ℕ) (y : ℕ) → length v ≡ 16 → zip2 h v (replicate 16 y) ≡ map (λ x. h x y) v
tested h v y long = zip2_splat h v 16 y long

prefix_alike : (p q : ℕ → Bool) → ((x : ℕ) → p x ≡ q x) → (xs : List ℕ) → prefix_len p xs ≡ prefix_len q xs
prefix_alike p q same [] = refl
prefix_alike p q same (x ∷ xs) = ap₂ (λ b n. cond b (1 + n) 0) (same x) (prefix_alike p q same xs)

-- the first lane that is set is where a run of bytes ends
pub first_end : (q : ℕ → Bool) (xs z : List ℕ) (r : ℕ) → length xs ≡ 16 → r ≡ cond (eqb (mask_l (map (top 7) z) % 2 ^ 64) 0) 16 (count_trailing_zeros 64 (mask_l (map (top 7) z) % 2 ^ 64))
    → (f : ℕ → ℕ) → z ≡ map f xs → ((x : ℕ) → not (top 7 (f x)) ≡ q x) → r ≡ prefix_len q xs
first_end q xs z r long found f lanes opposite =
    let tops = ap (map (top 7)) lanes ∙ map-map (top 7) f xs in
    let mask = ap (λ l. mask_l l % 2 ^ 64) tops ∙ mask_l-mod (map (λ x. top 7 (f x)) xs) 64 (omega (arith, length-map xs (λ x. top 7 (f x)), long)) in
    found
    ∙ ap (λ m. cond (eqb m 0) 16 (count_trailing_zeros 64 m)) mask
    ∙ first_set_mask_l (λ x. top 7 (f x)) xs 16 long (omega arith)
    ∙ prefix_alike (λ x. not (top 7 (f x))) q opposite xs

abbrev lane : Bool → ℕ
lane b = cond b 255 0

or_lanes : (a b : Bool) → bit_or (lane a) (lane b) ≡ lane (a || b)
or_lanes true true = refl
or_lanes true false = refl
or_lanes false true = refl
or_lanes false false = refl

and_lanes : (a b : Bool) → bit_and (lane a) (lane b) ≡ lane (a && b)
and_lanes true true = refl
and_lanes true false = refl
and_lanes false true = refl
and_lanes false false = refl

top_lane : (b : Bool) → top 7 (lane b) ≡ b
top_lane true = refl
top_lane false = refl

ends_by_lanes : (a b c d e : Bool) → top 7 (bit_or (bit_or (lane a) (lane b)) (bit_or (bit_and (lane c) (lane d)) (lane e))) ≡ ((a || b) || ((c && d) || e))
ends_by_lanes a b c d e =
    ap (top 7) (ap₂ bit_or (or_lanes a b) (ap (λ l. bit_or l (lane e)) (and_lanes c d) ∙ or_lanes (c && d) e) ∙ or_lanes (a || b) ((c && d) || e))
    ∙ top_lane ((a || b) || ((c && d) || e))

-- a byte ends a run where it is a delimiter, begins an escape, or is a control character
abbrev ends : ℕ → ℕ → ℕ → Bool
ends d e x = (eqb x d || eqb x e) || ((nat_lt x 32 && not (eqb x 9)) || eqb x 127)

double_quoted : (d e x : ℕ) → eqb d 34 ≡ true → e ≡ 92 → not (ends d e x) ≡ is_plain d false x
double_quoted d e x double backslash = grind (arith, nat_tests)

single_quoted : (d e x : ℕ) → eqb d 34 ≡ false → e ≡ d → not (ends d e x) ≡ is_plain d false x
single_quoted d e x single same = grind (arith, nat_tests)

ends_or_plain : (d e x : ℕ) → e ≡ cond (eqb d 34) 92 d → not (ends d e x) ≡ is_plain d false x
ends_or_plain d e x is = elim (cases_Bool (eqb d 34)) [
  | inl double ↦ double_quoted d e x double (is ∙ ap (λ b. cond b 92 d) double)
  | inr single ↦ single_quoted d e x single (is ∙ ap (λ b. cond b 92 d) single)
]

pub set_or_plain : (d e : ℕ) → e ≡ cond (eqb d 34) 92 d → (x : ℕ) → not (top 7 (bit_or (bit_or (lane (eqb x d)) (lane (eqb x e))) (bit_or (bit_and (lane (nat_lt x 32)) (lane (not (eqb x 9)))) (lane (eqb x 127))))) ≡ is_plain d false x
set_or_plain d e is x = ap not (ends_by_lanes (eqb x d) (eqb x e) (nat_lt x 32) (not (eqb x 9)) (eqb x 127)) ∙ ends_or_plain d e x is
