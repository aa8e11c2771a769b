-- Bytes that begin with a chunk of a known length.
use Rattle.std.proofs.Common.{◌≡◌, ℕ, ◌<◌, ◌≤◌, ◌^◌, List, ◌++◌, length, take, drop, get_or, ap, sym, ◌∙◌, subst, arith, take-append-drop, length-take-le, length-take, get_or-take, inl, inr}
use Rattle.std.specs.Int.{w32, to_be_bytes, from_be_bytes}
use Rattle.std.proofs.lemmas.Bool.{cases_lt}
use Rattle.std.proofs.lemmas.List.{get_or_past}
use Rattle.std.proofs.lemmas.Nat.{be_bytes_4}
use Rattle.carte_codec.specs.Parts.{spelled_count, FitsCount}

-- a chunk, and what follows it
pub chunk_ahead : (bs chunk rest : List ℕ) (n : ℕ) → chunk ≡ take n bs → rest ≡ drop n bs → bs ≡ chunk ++ rest
chunk_ahead bs chunk rest n front back = sym (ap (λ xs. xs ++ rest) front ∙ ap (λ xs. take n bs ++ xs) back ∙ take-append-drop n bs)

-- the first n bytes are bytes
front_small : (bs : List ℕ) (n : ℕ) → ((i : ℕ) → get_or bs i 0 < 256) → (i : ℕ) → get_or (take n bs) i 0 < 256
front_small bs n small i = elim (cases_lt i n) [
  | inl below ↦ rw (get_or-take n bs i 0 below) (small i)
  | inr past ↦ rw (get_or_past (take n bs) i 0 (omega (arith, length-take n bs))) (omega arith)
]

from_be_small : (bs : List ℕ) → ((i : ℕ) → get_or bs i 0 < 256) → from_be_bytes w32 bs < 2 ^ 32
from_be_small bs small = omega (arith, small 0, small 1, small 2, small 3)

pub count_found : (bs chunk rest : List ℕ) (n : ℕ) → ((i : ℕ) → get_or bs i 0 < 256) → 4 ≤ length bs → chunk ≡ take 4 bs → rest ≡ drop 4 bs → n ≡ from_be_bytes w32 chunk → FitsCount n × (bs ≡ spelled_count n ++ rest)
count_found bs chunk rest n small enough front back is =
    let bytes : (i : ℕ) → get_or chunk i 0 < 256 = subst (λ xs. (i : ℕ) → get_or xs i 0 < 256) (sym front) (front_small bs 4 small) in
    let long : length chunk ≡ 4 = ap length front ∙ length-take-le 4 bs enough in
    let spelled : to_be_bytes w32 n ≡ chunk = be_bytes_4 chunk n long bytes is in
    (subst (λ m. m < 2 ^ 32) (sym is) (from_be_small chunk bytes), chunk_ahead bs chunk rest 4 front back ∙ ap (λ xs. xs ++ rest) (sym spelled))
