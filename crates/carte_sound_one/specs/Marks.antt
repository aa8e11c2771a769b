-- Fresh entries of version 1, and what keys led to.
use Rattle.std.specs.Prelude.{ℕ, ◌≡◌, true, List, Some}
use Rattle.carte_value.specs.Truths.{Among}
use Rattle.carte_record_one.specs.Kept.{SomeKeptOne, is_fresh_one}
use Rattle.carte_record_one.specs.declared.entry.EntryOne.{EntryOne}

-- the key has a fresh entry
pub record IsFreshOne (K : SomeKeptOne) (k : List ℕ) : Type 0 where
  pub entry : EntryOne
  pub kept : K.entries k ≡ Some entry
  pub fresh : is_fresh_one entry ≡ true

-- a key leads to what its entry needs, and to all that those names lead to
pub data LeadsOne (K : SomeKeptOne) : List ℕ → List ℕ → Type 0 where
  need : {k j : List ℕ} (e : EntryOne) → K.entries k ≡ Some e → Among e.needs j → LeadsOne K k j
  on : {k i j : List ℕ} (e : EntryOne) → K.entries k ≡ Some e → Among e.needs i → LeadsOne K i j → LeadsOne K k j
