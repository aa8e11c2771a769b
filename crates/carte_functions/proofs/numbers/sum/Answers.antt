use Rattle.std.proofs.Common.{◌≡◌, ◌+ℤ◌, arith, to_z, of_z}
use Rattle.std.proofs.lemmas.Int.{ints}
use mir.Syntax.{w128}
use Rattle.carte_functions.proofs.Sums.{sum_on}
use Rattle.carte_functions.proofs.numbers.sum.Goals as goal

pub loop-value-preserved : goal.loop-value-preserved
loop-value-preserved c =
    let i = c.loop-value.invariant in
    let low = i.low in
    let high = i.high in
    let sum : to_z w128 (of_z w128 c.plus-sum.result) ≡ c.loop-value.sum +ℤ c.addend.result = omega (arith, ints) in
    rw sum (record { low = omega (arith, ints); high = omega (arith, ints); whole = sum_on _ _ _ _ _ _ c.loop-value-test.true c.value-item.is c.addend.ensures (rw c.loop-value.sum-is at i.whole) })
