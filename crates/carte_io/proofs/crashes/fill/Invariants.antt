use Rattle.std.proofs.Common.{◌≡◌, ◌⊎◌, ℕ, ◌<◌, ◌≤◌, get_or}
use Rattle.carte_io.proofs.crashes.fill.Given as goal

abbrev pub invariant-loop-i : goal.invariant-loop-i
invariant-loop-i l = record {
  inside : (k : ℕ) → l.at ≤ k → k < l.i → get_or l.bytes k 0 ≡ l.byte;
  outside : (k : ℕ) → (k < l.at) ⊎ (l.i ≤ k) → get_or l.bytes k 0 ≡ get_or l.fn.bytes k 0;
}
