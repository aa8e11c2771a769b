-- The starts and the ends of tasks.
use Rattle.std.specs.Prelude.{ℕ, List, [], ◌∷◌, ◌++◌, ◌-◌, length}

-- the keys of tasks that were started, and of those that ended, each in order
pub record Ledger : Type 0 where
  pub starts : List (List ℕ)
  pub ends : List (List ℕ)

abbrev pub no_runs : Ledger
no_runs = record { starts = []; ends = [] }

abbrev pub with_start : Ledger → List ℕ → Ledger
with_start r k = record { starts = r.starts ++ k ∷ []; ends = r.ends }

abbrev pub with_end : Ledger → List ℕ → Ledger
with_end r k = record { starts = r.starts; ends = r.ends ++ k ∷ [] }

abbrev pub with_later : Ledger → Ledger → Ledger
with_later r s = record { starts = r.starts ++ s.starts; ends = r.ends ++ s.ends }

-- 0 where there are more ends than starts
abbrev pub given_up : Ledger → ℕ
given_up r = length r.starts - length r.ends
