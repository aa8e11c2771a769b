-- What a rewriting comes to.
use Rattle.std.proofs.Common.{◌≡◌, ◌+◌, ◌<◌, ◌≤◌, false, List, [], ◌∷◌, ◌++◌, Result, Ok, Err, length, refl, sym, ◌∙◌, ap, subst, inl, arith, length-append}
use Rattle.std.specs.Int.{to_be_bytes, w32}
use Rattle.std.specs.Prelude.{IfOk}
use Rattle.carte_io.specs.Causes.{Rose}
use Rattle.carte_io.specs.Disk.{CountsUp, Story, moments}
use Rattle.carte_io.specs.Stations.{Step, StepsThrough}
use Rattle.carte_io.proofs.Acknowledged.{steps_one}
use Rattle.carte_io.proofs.Images.{throughout_none}
use Rattle.carte_journal.specs.Frames.{BodyAt}
use Rattle.carte_journal.specs.Journals.{broke}
use Rattle.carte_journal.specs.Regions as regions
use Rattle.carte_journal.specs.Regions.{Planned, bytes_of, calls_to_turn, region_end, region_of, rewritten}
use Rattle.carte_state.specs.Applying.{IsStill}
use Rattle.carte_state.specs.Around.{OverDisk}
use Rattle.carte_state.specs.Folding.{Keeps, Makes}
use Rattle.carte_state.specs.Rewriting.{IsRegionFor, step_over, with_journal}
use Rattle.carte_state.specs.States.{IsKeptOn, Stand, any_in, kept_in}
use Rattle.carte_state.specs.Versions.{AnyKept, InTwo}
use Rattle.carte_state.specs.declared.fault.ApplyFault.{ApplyFault}
use Rattle.carte_state.specs.declared.fault.ApplyFault.TheVariants.{DiskFault, Full}
use Rattle.carte_state.proofs.Applies.{kept_leaves}
use Rattle.carte_compact.specs.Lengths.{AreShort, bodies_length}
use Rattle.carte_compact.specs.Rewriting.{IsLiveRegion, Renewed, Rewrites, step_again}
use Rattle.carte_compact.proofs.Living.{is_kept}
use Rattle.carte_compact.proofs.Shut.{makes}

-- ---- bodies of a region

pub short_bytes : (bodies : List BodyAt) → AreShort bodies → regions.AreShort (bytes_of bodies)
short_bytes [] short = tt
short_bytes (body ∷ bodies) short = (short.0, short_bytes bodies short.1)

pub region_long : (bodies : List BodyAt) → length (region_of (bytes_of bodies)) ≡ bodies_length bodies
region_long [] = refl
region_long (body ∷ bodies) =
    let rest = region_long bodies in
    let both = length-append body.1 (region_of (bytes_of bodies)) in
    let all = length-append (to_be_bytes w32 (length body.1)) (body.1 ++ region_of (bytes_of bodies)) in
    omega (arith, rest, both, all)

pub region_for : (s : Stand) (p : Planned) → IsLiveRegion s p → IsRegionFor (kept_in s) p
region_for s p live = record {
  bodies = live.bodies;
  region = live.region;
  makes = subst (λ K. Makes live.bodies (InTwo K)) (is_kept s.kept live.batches live.live) (makes live.batches live.bodies live.are);
}

-- what three clauses say of a region that is there
pub if_all : {E : Type 0} (r : Result Planned E) (P Q R S : Planned → Type 0) → ((p : Planned) → P p → Q p → R p → S p) → IfOk r P → IfOk r Q → IfOk r R → IfOk r S
if_all (Ok p) P Q R S f a b c = f p a b c
if_all (Err e) P Q R S f a b c = tt

-- ---- what comes of it

-- while no call is made
stays : (s : Stand) (story : Story) → IsKeptOn s story → StepsThrough (Keeps s.journal.limit) (any_in s) (step_again s) story story
stays s story on =
    steps_one (Keeps s.journal.limit) (any_in s) (record { calls = calls_to_turn s.journal.bank; to = any_in s }) story story
    (throughout_none story story _ refl (record { either = λ c image. inl (kept_leaves s story on c image); after = λ enough. kept_leaves s story on }))

module _ (d : OverDisk) (old new : Stand) (ordered : d.tells → CountsUp (moments d.new)) where
  -- nothing has changed
  pub unmoved : IsStill d old new → (result : Result (Unit {0}) ApplyFault) → Renewed d old new result → Rewrites d old new result
  unmoved still result comes = record {
    comes = comes;
    limit = ap (λ (s : Stand). s.journal.limit) still.stand;
    kept = ap (λ (s : Stand). s.kept) still.stand;
    one = ap (λ (s : Stand). s.one) still.stand;
    steps = λ told on. subst (λ (u : Story). StepsThrough (Keeps old.journal.limit) (any_in old) (step_again old) d.old u) (sym still.disk.story) (stays old d.old on);
    ordered = ordered;
  }

  module _ (p : Planned) (live : IsLiveRegion old p) where
    -- there was no room
    pub crammed : old.journal.limit < region_end p → IsStill d old new → Rewrites d old new (Err (Full (region_end p) old.journal.limit))
    crammed over still = unmoved still (Err (Full (region_end p) old.journal.limit)) (record { region = p; live = live; needed_is = refl; limit_is = refl; over = over }, still)

    module _ (room : region_end p ≤ old.journal.limit)
        (steps : d.tells → IsKeptOn old d.old → StepsThrough (Keeps old.journal.limit) (any_in old) (step_over p (any_in old)) d.old d.new) where
      again : d.tells → IsKeptOn old d.old → StepsThrough (Keeps old.journal.limit) (any_in old) (step_again old) d.old d.new
      again told on =
          subst (λ bank. StepsThrough (Keeps old.journal.limit) (any_in old) (let step : Step AnyKept = record { calls = calls_to_turn bank; to = any_in old } in step ∷ []) d.old d.new)
          live.planned.bank (steps told on)

      pub passed : old.journal.broken ≡ false → new ≡ with_journal old (rewritten old.journal p) → d.failed ≡ d.failed_before
          → (d.tells → d.new.now.passed ≡ d.old.now.passed + calls_to_turn old.journal.bank) → (d.tells → IsKeptOn old d.old → IsKeptOn new d.new)
          → Rewrites d old new (Ok tt)
      passed whole after faults calls rest = record {
        comes = record {
          region = p;
          live = live;
          room = room;
          after = after;
          whole = ap (λ (s : Stand). s.journal.broken) after ∙ whole;
          faults = faults;
          calls = calls;
          rest = rest;
        };
        limit = ap (λ (s : Stand). s.journal.limit) after;
        kept = ap (λ (s : Stand). s.kept) after;
        one = ap (λ (s : Stand). s.one) after;
        steps = again;
        ordered = ordered;
      }

      pub broken : new ≡ with_journal old (broke old.journal) → d.failed_before ≤ d.failed → Rose d.failed_before d.failed
          → (d.tells → (d.old.now.passed ≤ d.new.now.passed) × (d.new.now.passed < d.old.now.passed + calls_to_turn old.journal.bank))
          → Rewrites d old new (Err DiskFault)
      broken after later rose few = record {
        comes = record { region = p; live = live; room = room; after = after; later = later; rose = rose; few = few };
        limit = ap (λ (s : Stand). s.journal.limit) after;
        kept = ap (λ (s : Stand). s.kept) after;
        one = ap (λ (s : Stand). s.one) after;
        steps = again;
        ordered = ordered;
      }
