-- A rewriting of the file, which leaves what is kept as it is.
use Rattle.std.specs.Prelude.{List, [], ◌∷◌}
use Rattle.carte_io.specs.Stations.{Step}
use Rattle.carte_journal.specs.Frames.{BodyAt}
use Rattle.carte_journal.specs.Journals.{Standing}
use Rattle.carte_journal.specs.Regions.{IsRegionOf, Planned, bytes_of, calls_to_turn}
use Rattle.carte_record.specs.Kept.{SomeKept}
use Rattle.carte_state.specs.Folding.{Makes}
use Rattle.carte_state.specs.States.{Stand}
use Rattle.carte_state.specs.Versions.{AnyKept, InTwo}

-- the region of bodies that make this of nothing, wherever they stood
pub record IsRegionFor (K : SomeKept) (p : Planned) : Type 0 where
  pub bodies : List BodyAt
  pub region : IsRegionOf p (bytes_of bodies)
  pub makes : Makes bodies (InTwo K)

-- as a step, from what is kept to the same
abbrev pub step_over : Planned → AnyKept → List (Step AnyKept)
step_over p K = record { calls = calls_to_turn p.bank; to = K } ∷ []

-- the state with another journal
abbrev pub with_journal : Stand → Standing → Stand
with_journal s j = record { journal = j; kept = s.kept; one = s.one }
