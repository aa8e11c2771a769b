-- Passes over the entries.
use Rattle.std.specs.Prelude.{ℕ, ◌≡◌, ◌≤◌, ◌<◌, Bool, true, List, Some, slice_get}
use Rattle.carte_record.specs.declared.entry.Entry.{Entry}
use Rattle.carte_record.specs.declared.kept.Kept.{Kept}
use Rattle.carte_record.specs.Kept.{kept_view}
use Rattle.carte_mark.specs.Reached.{Spreads, IsClosedAt, IsClosed}

-- the keys of the entries from one place to another whose needs are there are there too
abbrev pub IsClosedFrom : Kept → List (List ℕ) → ℕ → ℕ → Type 0
IsClosedFrom K names from end = (i : ℕ) (e : Entry) → from ≤ i → i < end → slice_get K.entries i ≡ Some e → (kept_view K).entries e.key ≡ Some e → IsClosedAt (kept_view K) names e.key

-- a pass over the entries before a place, that put the last key at the place before this one
pub record Passes (K : Kept) (end last : ℕ) (old new : List (List ℕ)) : Type 0 where
  pub spreads : Spreads (kept_view K) old new
  pub same : last ≡ 0 → new ≡ old
  pub closed : IsClosedFrom K new last end

-- passes that tell whether all that is reached is there
pub record IsRound (K : Kept) (old new : List (List ℕ)) (done : Bool) : Type 0 where
  pub spreads : Spreads (kept_view K) old new
  pub closed : done ≡ true → IsClosed (kept_view K) new

-- all that is reached
pub record AreReached (K : Kept) (old new : List (List ℕ)) : Type 0 where
  pub spreads : Spreads (kept_view K) old new
  pub closed : IsClosed (kept_view K) new
