-- How wide the ranges are, where the tokens come one by one.
use Rattle.std.proofs.Common.{ℕ, true, false, Bool, List, [], ◌∷◌, ◌++◌, ◌≡◌, ◌≤◌, ◌+◌, Option, Some, None, if◌then◌else◌, nat_lt, refl, sym, ◌∙◌, ap, arith}
use Rattle.std.proofs.lemmas.Bool.{le-ltb, ltb-false}
use Rattle.carte_value.specs.Areas.{area_of, size_of}
use Rattle.carte_lexer.specs.Tokens.{Token, cell, colon, Sign, sign_token, Placed, tokens_of}
use Rattle.carte_lexer.specs.declared.tokens.Sign.TheVariants as signs
use Rattle.carte_lexer.specs.Widths.{range_size, size_at, wide_from}
use Rattle.carte_lexer.specs.Ranges.{begun_tokens, first_of, wide_behind, wide_after, wide_counted}
use Rattle.carte_lexer.specs.declared.width.Ranges.{Ranges}
use Rattle.carte_lexer.specs.declared.width.Begun.{Begun}
use Rattle.carte_lexer.specs.declared.width.Begun.TheVariants.{Nothing as nothing, Corner as corner, Half as half}

-- the last tokens are no range with this one
abbrev pub EndsBegun : Begun → Token → Type 0
EndsBegun nothing t = Unit {0}
EndsBegun (corner place k) t = t ≡ colon → ⊥
EndsBegun (half place k behind) t = (j : List ℕ) → t ≡ cell j → ⊥

no_cell : (t : Token) (ts : List Token) → ((k : List ℕ) → t ≡ cell k → ⊥) → range_size t ts ≡ 0
no_cell (cell k) ts h = absurd (h k refl)
no_cell _ ts h = refl

no_colon : (k : List ℕ) (t : Token) (ts : List Token) → (t ≡ colon → ⊥) → range_size (cell k) (t ∷ ts) ≡ 0
no_colon k colon ts h = absurd (h refl)
no_colon k _ ts h = refl

no_second : (k : List ℕ) (t : Token) (ts : List Token) → ((j : List ℕ) → t ≡ cell j → ⊥) → range_size (cell k) (colon ∷ t ∷ ts) ≡ 0
no_second k (cell j) ts h = absurd (h j refl)
no_second k _ ts h = refl

skipped : (sum : ℕ) (p : Placed) (ps : List Placed) → sum ≤ 65536 → size_at (p ∷ ps) ≡ 0 → wide_from sum (p ∷ ps) ≡ wide_from sum ps
skipped sum p ps low none =
    let same : sum + size_at (p ∷ ps) ≡ sum = omega arith in
    ap (λ n. if nat_lt 65536 n then Some p.place else wide_from n ps) same ∙ ap (λ b. if b then Some p.place else wide_from sum ps) (le-ltb 65536 sum low)

ended : (sum : ℕ) (b : Begun) (p : Placed) (ps : List Placed) → sum ≤ 65536 → EndsBegun b p.token → wide_from sum (begun_tokens b ++ p ∷ ps) ≡ wide_from sum (p ∷ ps)
ended sum nothing p ps low h = refl
ended sum (corner place k) p ps low h = skipped sum (record { place = place; token = cell k }) (p ∷ ps) low (no_colon k p.token (tokens_of ps) h)
ended sum (half place k behind) p ps low h =
    skipped sum (record { place = place; token = cell k }) (record { place = behind; token = colon } ∷ p ∷ ps) low (no_second k p.token (tokens_of ps) h) ∙ skipped sum (record { place = behind; token = colon }) (p ∷ ps) low refl

ends_other : (b : Begun) (t : Token) → ((k : List ℕ) → t ≡ cell k → ⊥) → (t ≡ colon → ⊥) → EndsBegun b t
ends_other nothing t h k = tt
ends_other (corner place j) t h k = k
ends_other (half place j behind) t h k = h

-- a token that is neither a cell nor a colon
pub other_taken : (w : Ranges) (p : Placed) (ps : List Placed) → w.cells ≤ 65536 → ((k : List ℕ) → p.token ≡ cell k → ⊥) → (p.token ≡ colon → ⊥) → wide_after w (p ∷ ps) ≡ wide_behind w ps
other_taken w p ps low h k =
    ap (λ o. first_of w.too_wide o) (ended w.cells w.begun p ps low (ends_other w.begun p.token h k) ∙ skipped w.cells p ps low (no_cell p.token (tokens_of ps) h))

sign_no_cell : (s : Sign) (k : List ℕ) → sign_token s ≡ cell k → ⊥
sign_no_cell (signs.Op o) k h = cc
sign_no_cell signs.Open k h = cc
sign_no_cell signs.Close k h = cc
sign_no_cell signs.Comma k h = cc
sign_no_cell signs.Colon k h = cc

sign_no_colon : (s : Sign) → (s ≡ signs.Colon → ⊥) → sign_token s ≡ colon → ⊥
sign_no_colon (signs.Op o) h k = cc
sign_no_colon signs.Open h k = cc
sign_no_colon signs.Close h k = cc
sign_no_colon signs.Comma h k = cc
sign_no_colon signs.Colon h k = h refl

-- a sign that is no colon
pub sign_taken : (w : Ranges) (place : ℕ) (s : Sign) (ps : List Placed) → w.cells ≤ 65536 → (s ≡ signs.Colon → ⊥) → wide_after w (record { place = place; token = sign_token s } ∷ ps) ≡ wide_behind w ps
sign_taken w place s ps low h = other_taken w (record { place = place; token = sign_token s }) ps low (sign_no_cell s) (sign_no_colon s h)

abbrev AtCell : ℕ → List ℕ → Placed
AtCell place k = record { place = place; token = cell k }

abbrev AtColon : ℕ → Placed
AtColon place = record { place = place; token = colon }

range_by : (b : Bool) (o : Option ℕ) (sum first behind place : ℕ) (k j : List ℕ) (ps : List Placed) → nat_lt 65536 (sum + size_of (area_of k j)) ≡ b
    → first_of o (if b then Some first else wide_from (sum + size_of (area_of k j)) (AtColon behind ∷ AtCell place j ∷ ps)) ≡ first_of o (if b then Some first else wide_from (sum + size_of (area_of k j)) (AtCell place j ∷ ps))
range_by true o sum first behind place k j ps is = refl
range_by false o sum first behind place k j ps is =
    ap (λ x. first_of o x) (skipped (sum + size_of (area_of k j)) (AtColon behind) (AtCell place j ∷ ps) (ltb-false 65536 (sum + size_of (area_of k j)) is) refl)

-- a cell that ends a range
pub range_taken : (w : Ranges) (first behind place : ℕ) (k j : List ℕ) (ps : List Placed) → w.begun ≡ half first k behind
    → wide_after w (AtCell place j ∷ ps) ≡ wide_counted w first (size_of (area_of k j)) (AtCell place j ∷ ps)
range_taken w first behind place k j ps is =
    ap (λ b. wide_behind w (begun_tokens b ++ AtCell place j ∷ ps)) is ∙ range_by (nat_lt 65536 (w.cells + size_of (area_of k j))) w.too_wide w.cells first behind place k j ps refl

-- and one that ends none
pub cell_taken : (w : Ranges) (place : ℕ) (j : List ℕ) (ps : List Placed) → w.cells ≤ 65536 → EndsBegun w.begun (cell j) → wide_after w (AtCell place j ∷ ps) ≡ wide_behind w (AtCell place j ∷ ps)
cell_taken w place j ps low h = ap (λ o. first_of w.too_wide o) (ended w.cells w.begun (AtCell place j) ps low h)

pub not_half : (b : Begun) (j : List ℕ) → ((place : ℕ) (k : List ℕ) (behind : ℕ) → b ≡ half place k behind → ⊥) → EndsBegun b (cell j)
not_half nothing j h = tt
not_half (corner place k) j h = λ e. (let z : ⊥ = cc in z)
not_half (half place k behind) j h = absurd (h place k behind refl)

none_begun : (sum : ℕ) (b : Begun) → sum ≤ 65536 → wide_from sum (begun_tokens b ++ []) ≡ None
none_begun sum nothing low = refl
none_begun sum (corner place k) low = skipped sum (AtCell place k) [] low refl
none_begun sum (half place k behind) low = skipped sum (AtCell place k) (AtColon behind ∷ []) low refl ∙ skipped sum (AtColon behind) [] low refl

-- the text ends
pub none_after : (w : Ranges) → w.cells ≤ 65536 → w.too_wide ≡ wide_after w []
none_after w low = told w.too_wide ∙ sym (ap (λ o. first_of w.too_wide o) (none_begun w.cells w.begun low))
  where
    told : (o : Option ℕ) → o ≡ first_of o None
    told None = refl
    told (Some place) = refl
