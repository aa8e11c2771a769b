-- How many bytes the live information takes in a file.
use Rattle.std.specs.Prelude.{ℕ, ◌≡◌, ◌+◌, ◌<◌, ◌^◌, List, [], ◌∷◌, length}
use Rattle.carte_journal.specs.Frames.{BodyAt}
use Rattle.carte_record.specs.declared.batch.Batch.{Batch}
use Rattle.std.specs.List.{flat_map}
use Rattle.carte_value.specs.Spelling.{spelling}
use Rattle.carte_codec.specs.Parts.{spelled_link, spelled_list, spelled_option}
use Rattle.carte_record.specs.declared.kept.Kept.{Kept}
use Rattle.carte_record.specs.declared.way.Way.TheVariants.{Verifying, Constructive, Deep}
use Rattle.carte_record.specs.Bodies.{IsBody, spelled_batch, spelled_deep, spelled_entry, spelled_names, spelled_trace}
use Rattle.carte_record.specs.Latest.{last_ones}
use Rattle.carte_compact.specs.Live.{chain_for, entry_at, found_at, link_at, stale_at}

-- each batch in an open frame, which is a gate byte, a length of 4 bytes and the body, and a closed gate byte behind the last
abbrev pub region_length : List Batch → ℕ
region_length [] = 1
region_length (B ∷ Bs) = 5 + length (spelled_batch B) + region_length Bs

-- how long the front of the batch is, and its back
abbrev pub front_size : Kept → List (List ℕ) → List (List ℕ) → ℕ
front_size K names keys =
    1 + length (spelled_list spelling K.values) + length (flat_map spelled_link (found_at (link_at K.seen) names))
    + length (flat_map spelled_entry (found_at (entry_at K.entries) keys)) + length (spelled_names (stale_at K.entries keys)) + 12

-- in how many bytes those traces are spelled behind which no equal one comes, with their number
pub record AreTraceLengths (K : Kept) (verifying constructive deep : ℕ) : Type 0 where
  pub verifying_is : verifying ≡ length (spelled_list spelled_trace (last_ones Verifying K.verifying))
  pub constructive_is : constructive ≡ length (spelled_list spelled_trace (last_ones Constructive K.constructive))
  pub deep_is : deep ≡ length (spelled_list spelled_deep (last_ones Deep K.deep))

abbrev pub back_size : Kept → ℕ
back_size K =
    length (spelled_list spelled_trace (last_ones Verifying K.verifying)) + length (spelled_list spelled_trace (last_ones Constructive K.constructive))
    + length (spelled_list spelled_deep (last_ones Deep K.deep)) + length (spelled_option spelled_names (chain_for K.chain))

-- the bodies of these batches
abbrev pub AreBodies : List Batch → List BodyAt → Type 0
AreBodies [] [] = Unit {0}
AreBodies (B ∷ Bs) (body ∷ bodies) = IsBody B body.1 × AreBodies Bs bodies
AreBodies Bs bodies = ⊥

-- how many bytes such a region of bodies has
abbrev pub bodies_length : List BodyAt → ℕ
bodies_length [] = 1
bodies_length (body ∷ bodies) = 5 + length body.1 + bodies_length bodies

-- each has fewer bytes than a frame can state
abbrev pub AreShort : List BodyAt → Type 0
AreShort [] = Unit {0}
AreShort (body ∷ bodies) = (length body.1 < 2 ^ 32) × AreShort bodies
