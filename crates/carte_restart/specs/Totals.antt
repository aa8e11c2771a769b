-- What is counted of each of some names, all together.
use Rattle.std.specs.Prelude.{ℕ, ◌≤◌, ◌+◌, List, [], ◌∷◌}
use Rattle.carte_effect.specs.Ledger.{Ledger, given_up}
use Rattle.carte_value.specs.Truths.{Among, NoneTwice}
use Rattle.carte_rebuild.specs.Ends.{GivenUpAtMost}

abbrev pub total : (List ℕ → ℕ) → List (List ℕ) → ℕ
total n [] = 0
total n (k ∷ ks) = n k + total n ks

-- Where of each key at most so many starts have no end, and only these keys were started and ended, as many starts are in vain as that makes in all.
abbrev pub AreFewInAll : Type 0
AreFewInAll = (r : Ledger) (n : List ℕ → ℕ) (keys : List (List ℕ)) → ((k : List ℕ) → GivenUpAtMost r k (n k))
    → ((k : List ℕ) → Among r.starts k → Among keys k) → ((k : List ℕ) → Among r.ends k → Among r.starts k) → NoneTwice keys → given_up r ≤ total n keys
