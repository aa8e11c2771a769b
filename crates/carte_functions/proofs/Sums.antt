-- Sums of numbers that are added one by one.
use Rattle.std.proofs.Common.{◌≡◌, ℕ, ◌+◌, ◌*◌, ◌<◌, ◌^◌, ℤ, pos, ◌+ℤ◌, ◌≤ℤ◌, neg_ℤ, List, ◌∷◌, length, drop, slice_index_or, arith, drop-cons}
use Rattle.std.proofs.lemmas.Int.{ints}
use Rattle.carte_value.specs.declared.value.Value.{Value}
use Rattle.carte_tree.specs.Numbers.{numbers_in, total}

-- so much has been added of the first i values, and the rest makes it whole
pub record IsSumTo (vs : List Value) (i : ℕ) (sum : ℤ) : Type 0 where
  pub low : neg_ℤ (pos (i * 2 ^ 63)) ≤ℤ sum
  pub high : sum ≤ℤ pos (i * 2 ^ 63)
  pub whole : sum +ℤ total (numbers_in (drop i vs)) ≡ total (numbers_in vs)

-- one value more
pub sum_on : (vs : List Value) (i : ℕ) (s a : ℤ) (v : Value) (whole : ℤ) → i < length vs → v ≡ slice_index_or vs i v →
    ((us : List Value) → total (numbers_in (v ∷ us)) ≡ a +ℤ total (numbers_in us)) →
    s +ℤ total (numbers_in (drop i vs)) ≡ whole → (s +ℤ a) +ℤ total (numbers_in (drop (i + 1) vs)) ≡ whole
sum_on vs i s a v whole within is adds before =
    let rest : drop i vs ≡ v ∷ drop (i + 1) vs = grind (arith, drop-cons) in
    let h = rw (rest, adds (drop (i + 1) vs)) at before in
    omega (arith, ints, h)
