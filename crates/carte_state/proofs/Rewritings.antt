-- A rewriting, as what is kept sees it.
use Rattle.std.proofs.Common.{◌≡◌, ℕ, List, [], ◌∷◌, None, refl, subst, sym}
use Rattle.carte_io.specs.Disk.{Story}
use Rattle.carte_io.specs.Stations.{StepsThrough}
use Rattle.carte_io.proofs.Acknowledged.{step_as}
use Rattle.carte_journal.specs.Frames.{BodyAt, Ends, end_of}
use Rattle.carte_journal.specs.Journals.{IsAtRest, IsReadAs, Standing}
use Rattle.carte_journal.specs.Regions.{Planned, bytes_of, gate_of, placed_at, step_to}
use Rattle.carte_state.specs.Folding.{IsFolded, Keeps, Makes}
use Rattle.carte_state.specs.Rewriting.{IsRegionFor, step_over, with_journal}
use Rattle.carte_state.specs.States.{IsKeptOn, Stand, any_in, any_of, kept_in}
use Rattle.carte_state.specs.Versions.{AnyKept, Fresh, InTwo, Phase, taken}

-- where bodies stand doesn't count
folded_placed : (p q : Phase) (at : ℕ) (bodies : List BodyAt) → IsFolded p bodies q → IsFolded p (placed_at at (bytes_of bodies)) q
folded_placed p q at [] folded = folded
folded_placed p q at (body ∷ bodies) folded =
    (folded.0, folded.1, folded.2, folded_placed (taken folded.0 p) q (end_of at body.1) bodies folded.3)

makes_placed : (K : AnyKept) (at : ℕ) (bodies : List BodyAt) → Makes bodies K → Makes (placed_at at (bytes_of bodies)) K
makes_placed K at bodies makes = record { phase = makes.phase; folded = folded_placed Fresh makes.phase at bodies makes.folded; kept = makes.kept }

module _ (s : Stand) (new : s.one ≡ None) (p : Planned) (old : Story) (on : IsKeptOn s old) (is : IsRegionFor (kept_in s) p) where
  placed : Makes (placed_at p.at (bytes_of is.bodies)) (any_in s)
  placed = subst (λ o. Makes (placed_at p.at (bytes_of is.bodies)) (any_of o (kept_in s))) (sym new) (makes_placed (InTwo (kept_in s)) p.at is.bodies is.makes)

  pub rewritten_kept : (j : Standing) (now : Story) → IsAtRest j (placed_at p.at (bytes_of is.bodies)) now → IsKeptOn (with_journal s j) now
  rewritten_kept j now rest = record {
    bodies = placed_at p.at (bytes_of is.bodies);
    rest = rest;
    makes = placed;
  }

  pub rewritten_steps : (now : Story) → StepsThrough (IsReadAs s.journal.limit) (Ends s.journal.gate on.bodies) (step_to p (bytes_of is.bodies) ∷ []) old now
      → StepsThrough (Keeps s.journal.limit) (any_in s) (step_over p (any_in s)) old now
  rewritten_steps now =
      step_as (IsReadAs s.journal.limit) (Keeps s.journal.limit) (Ends s.journal.gate on.bodies) (step_to p (bytes_of is.bodies)) (any_in s) _ refl
      (λ file reads. record { gate = s.journal.gate; bodies = on.bodies; reads = reads; makes = on.makes })
      (λ file reads. record {
        gate = gate_of p.at (bytes_of is.bodies);
        bodies = placed_at p.at (bytes_of is.bodies);
        reads = reads;
        makes = placed;
      })
      old now
