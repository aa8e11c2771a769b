-- What applying a batch makes of a state, and what its images keep.
use Rattle.std.proofs.Common.{◌≡◌, ℕ, ◌<◌, Bool, true, false, if◌then◌else◌, List, [], ◌∷◌, ◌++◌, refl, sym, ◌∙◌, ap, subst, arith, length, inl, inr}
use Rattle.std.specs.Prelude.{◌==◌}
use Rattle.std.proofs.lemmas.Bool.{cases_Bool}
use Rattle.carte_io.specs.Disk.{Leaves, Story}
use Rattle.carte_io.specs.Stations.{Step, StepsThrough}
use Rattle.carte_io.proofs.Acknowledged.{step_as, steps_none, steps_one}
use Rattle.carte_io.proofs.Images.{settled_image, throughout_none}
use Rattle.carte_journal.specs.Frames.{Ends, reading}
use Rattle.carte_journal.specs.Journals.{IsAtRest, IsReadAs, calls_of, step_of}
use Rattle.carte_journal.proofs.Commits.{some_calls}
use Rattle.carte_bank.specs.Moves.{is_move}
use Rattle.carte_record.specs.Bodies.{IsBody, spelled_batch}
use Rattle.carte_record.specs.Folds.{apply}
use Rattle.carte_record.specs.declared.batch.Batch.{Batch}
use Rattle.carte_record.specs.Empty.{is_empty}
use Rattle.carte_state.specs.Folding.{Keeps, Makes}
use Rattle.carte_state.specs.States.{IsKeptOn, Stand, any_in, step_for}
use Rattle.carte_state.specs.Versions.{AnyKept, Begins, InTwo, two_of}
use Rattle.carte_state.proofs.Folds.{makes_push}

-- a state that a settled file keeps
module _ (s : Stand) (story : Story) (on : IsKeptOn s story) where
  pub kept_leaves : Leaves (Keeps s.journal.limit (any_in s)) story.now
  kept_leaves image there = record {
    gate = s.journal.gate;
    bodies = on.bodies;
    reads = ap (reading s.journal.limit) (settled_image story.now image on.rest.settled there) ∙ on.rest.read.reads;
    makes = on.makes;
  }

  -- while no call is made
  still : (empty : Bool) (step : Step AnyKept) → 0 < step.calls
      → StepsThrough (Keeps s.journal.limit) (any_in s) (if empty then [] else step ∷ []) story story
  still true step some = steps_none (Keeps s.journal.limit) (any_in s) story story (throughout_none story story _ refl kept_leaves)
  still false step some = steps_one (Keeps s.journal.limit) (any_in s) step story story
      (throughout_none story story _ refl (record { either = λ c image. inl (kept_leaves c image); after = λ enough. absurd (omega (arith, enough, some)) }))

  pub still_steps : (B : Batch) → StepsThrough (Keeps s.journal.limit) (any_in s) (step_for s.journal (any_in s) B) story story
  still_steps B = still (is_empty B) (record { calls = calls_of s.journal; to = InTwo (apply B (two_of (any_in s))) }) (omega (arith, some_calls s.journal.fresh))

  module _ (B : Batch) (begins : Begins (any_in s) B) (body : List ℕ) (batch : IsBody B body) (new : Story) where
    -- the file holds the bodies, without the batch and with it
    pub keeps_start : (file : List ℕ) → IsReadAs s.journal.limit (Ends s.journal.gate on.bodies) file → Keeps s.journal.limit (any_in s) file
    keeps_start file reads = record { gate = s.journal.gate; bodies = on.bodies; reads = reads; makes = on.makes }

    pub keeps_end : (file : List ℕ) → IsReadAs s.journal.limit (step_of s.journal on.bodies body).to file → Keeps s.journal.limit (InTwo (apply B (two_of (any_in s)))) file
    keeps_end file reads = record {
      gate = _;
      bodies = on.bodies ++ (s.journal.gate, body) ∷ [];
      reads = reads;
      makes = makes_push on.bodies (s.journal.gate, body) (any_in s) B on.makes begins batch;
    }

    made : (empty : Bool) (step : Step AnyKept) → empty ≡ false → StepsThrough (Keeps s.journal.limit) (any_in s) (step ∷ []) story new
        → StepsThrough (Keeps s.journal.limit) (any_in s) (if empty then [] else step ∷ []) story new
    made true step some steps = absurd (cc)
    made false step some steps = steps

    -- a commit of its bytes, whether it passes or not
    pub commit_steps : is_empty B ≡ false
        → StepsThrough (IsReadAs s.journal.limit) (Ends s.journal.gate on.bodies) (step_of s.journal on.bodies body ∷ []) story new
        → StepsThrough (Keeps s.journal.limit) (any_in s) (step_for s.journal (any_in s) B) story new
    commit_steps some steps =
        made (is_empty B) (record { calls = calls_of s.journal; to = InTwo (apply B (two_of (any_in s))) }) some
        (step_as (IsReadAs s.journal.limit) (Keeps s.journal.limit) (Ends s.journal.gate on.bodies) (step_of s.journal on.bodies body) (any_in s)
        (record { calls = calls_of s.journal; to = InTwo (apply B (two_of (any_in s))) }) refl keeps_start keeps_end story new steps)

    -- and where it passed
    pub commit_kept : (t : Stand) → any_in t ≡ InTwo (apply B (two_of (any_in s))) → IsAtRest t.journal (on.bodies ++ (s.journal.gate, body) ∷ []) new → IsKeptOn t new
    commit_kept t is rest = record {
      bodies = on.bodies ++ (s.journal.gate, body) ∷ [];
      rest = rest;
      makes = subst (Makes (on.bodies ++ (s.journal.gate, body) ∷ [])) (sym is)
          (makes_push on.bodies (s.journal.gate, body) (any_in s) B on.makes begins batch);
    }

-- the body of a batch is no move
pub no_move : (B : Batch) (body : List ℕ) → body ≡ spelled_batch B → is_move body ≡ false
no_move B body is =
    ap is_move is ∙ elim (cases_Bool (length (spelled_batch B) == 9)) [
      | inl on ↦ rw on refl
      | inr off ↦ rw off refl
    ]
