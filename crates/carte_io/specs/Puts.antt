-- Laws of a piece put over a list.
use Rattle.std.specs.Prelude.{◌≡◌, ◌⊎◌, ℕ, ◌+◌, ◌<◌, ◌≤◌, max, List, length}
use Rattle.std.proofs.Common.{get_or, arith, rules, inl, inr, length-append, length-take, length-drop}
use Rattle.std.proofs.lemmas.List.{length-replicate, places}
use Rattle.carte_io.specs.Disk.{put_at}

pub length-put_at : (old : List ℕ) (at : ℕ) (piece : List ℕ) → length (put_at old at piece) ≡ max (length old) (at + length piece)
length-put_at old at piece = simp (length-append, length-take, length-drop, length-replicate) (omega arith)

-- outside of its range the list is as before
pub put_at_outside : (old : List ℕ) (at : ℕ) (piece : List ℕ) (i : ℕ) → i < length old → (i < at) ⊎ (at + length piece ≤ i)
    → get_or (put_at old at piece) i 0 ≡ get_or old i 0
put_at_outside old at piece i within (inl below) = search (rules, places)
put_at_outside old at piece i within (inr above) = search (rules, places)
