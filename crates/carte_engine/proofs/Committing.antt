-- What a commit of one batch comes to, and what its images keep.
use Rattle.std.proofs.Common.{◌≡◌, ◌⊎◌, ℕ, ◌+◌, Bool, true, false, if◌then◌else◌, List, [], ◌∷◌, ◌++◌, None, Result, Ok, Err, refl, sym, ◌∙◌, ap, subst, inl, inr, arith}
use Rattle.std.specs.Prelude.{MatchResult}
use Rattle.carte_io.specs.Causes.{Rose}
use Rattle.carte_io.specs.Disk.{LeavesOnly, Story}
use Rattle.carte_io.specs.Stations.{IsAtOneOf, Step, StepsThrough, calls_in, last_of}
use Rattle.carte_io.proofs.Acknowledged.{AreMade, last_of-append, steps_leave}
use Rattle.carte_io.proofs.Images.{leaves_more, leaves_none}
use Rattle.carte_journal.specs.Journals.{Standing, calls_of}
use Rattle.carte_record.specs.Empty.{is_empty}
use Rattle.carte_record.specs.Folds.{apply}
use Rattle.carte_record.specs.Kept.{kept_view}
use Rattle.carte_record.specs.declared.batch.Batch.{Batch}
use Rattle.carte_state.specs.Applying.{Applies, Comes, IsStill}
use Rattle.carte_state.specs.Around.{OverDisk}
use Rattle.carte_state.specs.Folding.{Keeps}
use Rattle.carte_state.specs.States.{IsKeptOn, Stand, any_in, any_of, step_for}
use Rattle.carte_state.specs.Versions.{AnyKept, InTwo, apply_to, two_of}
use Rattle.carte_state.specs.declared.fault.ApplyFault.{ApplyFault}
use Rattle.carte_state.specs.declared.fault.ApplyFault.TheVariants.{DiskFault, Full, NoMemory}
use Rattle.carte_state.proofs.Applies.{kept_leaves}
use Rattle.carte_compact.specs.Rewriting.{Renewed, Rewrites, step_again}
use Rattle.carte_compact.proofs.Behind.{kept_throughout}
use Rattle.carte_compact.proofs.Room.{due_has_room}
use Rattle.carte_engine.specs.Committing.{Commits, Follows, HasPassed, IsBase, IsDue, Readies, Unreadied, behind, seen, step_begun, steps_once, steps_ready, until}
use Rattle.carte_engine.proofs.Steps.{EndsWell, again_made, batch_calls, batch_last, begun_made, begun_passed, begun_through, both_calls, both_made, both_passed, both_through, none_through, passed_since}

-- ---- disks by what is told of them

module _ (d : OverDisk) (old new : Stand) (B : Batch) where
  still_seen : IsStill d old new → IsStill (seen d) old new
  still_seen s = record { stand = s.stand; disk = record { same = tt; story = s.disk.story; faults = s.disk.faults } }

  comes_seen : (result : Result (Unit {0}) ApplyFault) → Comes d old new B result → Comes (seen d) old new B result
  comes_seen (Ok done) p = record {
    room = p.room;
    after = p.after;
    whole = p.whole;
    faults = p.faults;
    still = λ empty. still_seen (p.still empty);
    calls = p.calls;
    rest = p.rest;
  }
  comes_seen (Err DiskFault) f = record { filled = f.filled; room = f.room; broken = f.broken; later = f.later; rose = f.rose; few = f.few }
  comes_seen (Err (Full needed limit)) o = (o.0, still_seen o.1)
  comes_seen (Err NoMemory) s = (s.0, still_seen s.1)

  pub applies_seen : (result : Result (Unit {0}) ApplyFault) → Applies d old new B result → Applies (seen d) old new B result
  applies_seen result a = record { comes = comes_seen result a.comes; limit = a.limit; steps = a.steps; ordered = a.ordered }

  rewrites_seen : (fault : ApplyFault) → Rewrites d old new (Err fault) → Rewrites (seen d) old new (Err fault)
  rewrites_seen fault r = record { comes = renewed_seen fault r.comes; limit = r.limit; kept = r.kept; one = r.one; steps = r.steps; ordered = r.ordered }
    where
      renewed_seen : (fault : ApplyFault) → Renewed d old new (Err fault) → Renewed (seen d) old new (Err fault)
      renewed_seen DiskFault b = record { region = b.region; live = b.live; room = b.room; after = b.after; later = b.later; rose = b.rose; few = b.few }
      renewed_seen (Full needed limit) c = (c.0, still_seen c.1)
      renewed_seen NoMemory s = still_seen s

pub commits_seen : (first : Bool) (d : OverDisk) (old new : Stand) (B : Batch) (result : Result (Unit {0}) ApplyFault) → Commits first d old new B result → Commits first (seen d) old new B result
commits_seen first d old new B result (inl f) = inl (record { base = f.base; between = f.between; ready = f.ready; applies = f.applies })
commits_seen first d old new B result (inr (fault, is, inl b)) = inr (fault, is, inl (record { due = b.due; is = b.is; rewrites = rewrites_seen d old new B DiskFault b.rewrites }))
commits_seen first d old new B result (inr (fault, is, inr l)) = inr (fault, is, inr (record { is = l.is; still = still_seen d old new B l.still }))

-- a rewriting that passed, up to the moment behind it
renews_until : (d : OverDisk) (old base : Stand) → Rewrites d old base (Ok tt) → Rewrites (until d d.new) old base (Ok tt)
renews_until d old base r = record {
  comes = record {
    region = r.comes.region;
    live = r.comes.live;
    room = r.comes.room;
    after = r.comes.after;
    whole = r.comes.whole;
    faults = refl;
    calls = r.comes.calls;
    rest = r.comes.rest;
  };
  limit = r.limit;
  kept = r.kept;
  one = r.one;
  steps = r.steps;
  ordered = r.ordered;
}

module _ (first : Bool) where
  readies_until : (d : OverDisk) (old base : Stand) (B : Batch) → Readies first d old B base → Readies first (until d d.new) old B base
  readies_until d old base B (inl (undue, same, story, faults)) = inl (undue, same, story, refl)
  readies_until d old base B (inr (due, rewrites)) = inr (due, renews_until d old base rewrites)

  readies_faults : (d : OverDisk) (old base : Stand) (B : Batch) → Readies first d old B base → d.failed ≡ d.failed_before
  readies_faults d old base B (inl (undue, same, story, faults)) = faults
  readies_faults d old base B (inr (due, rewrites)) = rewrites.comes.faults

  -- two stretches of one disk: up to the first call's end, and from there on
  pub followed : (tells : Type 0) (old between new : Story) (before mid after : ℕ) (one two same : Type 0) (s base t : Stand) (B : Batch) (result : Result (Unit {0}) ApplyFault)
      → Readies first (record { tells = tells; old = old; new = between; failed_before = before; failed = mid; same = one }) s B base
      → Applies (record { tells = tells; old = between; new = new; failed_before = mid; failed = after; same = two }) base t B result
      → Follows first (record { tells = tells; old = old; new = new; failed_before = before; failed = after; same = same }) s t B result
  followed tells old between new before mid after one two same s base t B result ready applies =
      let front : OverDisk = record { tells = tells; old = old; new = between; failed_before = before; failed = mid; same = one } in
      let back : OverDisk = record { tells = tells; old = between; new = new; failed_before = mid; failed = after; same = two } in
      record {
        base = base;
        between = between;
        ready = readies_until front s base B ready;
        applies = subst (λ n. Applies (record { tells = tells; old = between; new = new; failed_before = n; failed = after; same = Unit {0} }) base t B result)
            (readies_faults front s base B ready) (applies_seen back base t B result applies);
      }

  -- a rewriting that is due and wasn't made
  pub unreadied : (d : OverDisk) (old new : Stand) (B : Batch) (fault : ApplyFault) → IsDue first old B → Rewrites d old new (Err fault) → Unreadied first d old new B fault
  unreadied d old new B DiskFault due r = inl (record { due = due; is = refl; rewrites = r })
  unreadied d old new B NoMemory due r = inr (record { is = refl; still = r.comes })
  unreadied d old new B (Full needed limit) due r = absurd (due_has_room old B first due needed limit r.comes.0)

  -- what comes of a rewriting that is due
  pub made_ready : (d : OverDisk) (old new : Stand) (B : Batch) (result : Result (Unit {0}) ApplyFault) → IsDue first old B → Rewrites d old new result
      → MatchResult result (λ done. Readies first d old B new) (λ fault. Unreadied first d old new B fault)
  made_ready d old new B (Ok done) due rewrites = inr (due, rewrites)
  made_ready d old new B (Err fault) due rewrites = unreadied d old new B fault due rewrites

  -- ---- what is told of every commit

  pub ready_kept : (d : OverDisk) (old base : Stand) (B : Batch) → Readies first d old B base → any_in base ≡ any_in old
  ready_kept d old base B (inl (undue, same, story, faults)) = ap any_in same
  ready_kept d old base B (inr (due, rewrites)) = ap (λ o. any_of o (kept_view base.kept)) rewrites.one ∙ ap (λ K. any_of old.one (kept_view K)) rewrites.kept

  pub ready_limit : (d : OverDisk) (old base : Stand) (B : Batch) → Readies first d old B base → base.journal.limit ≡ old.journal.limit
  ready_limit d old base B (inl (undue, same, story, faults)) = ap (λ (s : Stand). s.journal.limit) same
  ready_limit d old base B (inr (due, rewrites)) = rewrites.limit

  pub ready_rest : (d : OverDisk) (old base : Stand) (B : Batch) → Readies first d old B base → d.tells → IsKeptOn old d.old → IsKeptOn base d.new
  ready_rest d old base B (inl (undue, same, story, faults)) told on =
      subst (λ (u : Story). IsKeptOn base u) (sym story) (subst (λ (s : Stand). IsKeptOn s d.old) (sym same) on)
  ready_rest d old base B (inr (due, rewrites)) told on = rewrites.comes.rest told on

  -- the state as it stood when the batch was put
  pub ready_base : (d : OverDisk) (old base : Stand) (B : Batch) → Readies first d old B base → IsBase first old B base
  ready_base d old base B (inl (undue, same, story, faults)) = inl (undue, same)
  ready_base d old base B (inr (due, rewrites)) = inr (due, rewrites.comes.region, rewrites.comes.live, rewrites.comes.after)

  pub commit_limit : (d : OverDisk) (old new : Stand) (B : Batch) (result : Result (Unit {0}) ApplyFault) → Commits first d old new B result → new.journal.limit ≡ old.journal.limit
  commit_limit d old new B result (inl f) = f.applies.limit ∙ ready_limit (until d f.between) old f.base B f.ready
  commit_limit d old new B result (inr (fault, is, inl b)) = b.rewrites.limit
  commit_limit d old new B result (inr (fault, is, inr l)) = ap (λ (s : Stand). s.journal.limit) l.still.stand

-- what passed has no fault
no_fault : (P : Type 0) (r : Result (Unit {0}) ApplyFault) (fault : ApplyFault) → r ≡ Ok tt → r ≡ Err fault → P
no_fault P r fault passed failed = let both : Ok tt ≡ Err fault = sym passed ∙ failed in cc

-- a commit that passed
pub record HasPut (d : OverDisk) (old new : Stand) (B : Batch) : Type 0 where
  pub any : any_in new ≡ apply_to B (any_in old)
  pub one : new.one ≡ None
  pub whole : new.journal.broken ≡ false
  pub faults : d.failed ≡ d.failed_before
  pub rest : d.tells → IsKeptOn old d.old → IsKeptOn new d.new

module _ (first : Bool) (d : OverDisk) (old new : Stand) (B : Batch) where
  pub put_follows : Commits first d old new B (Ok tt) → Follows first d old new B (Ok tt)
  put_follows (inl f) = f
  put_follows (inr (fault, is, unready)) = no_fault (Follows first d old new B (Ok tt)) (Ok tt) fault refl is

  pub has_put : Commits first d old new B (Ok tt) → HasPut d old new B
  has_put commits =
      let f = put_follows commits in
      record {
        any = f.applies.comes.after.any ∙ ap (apply_to B) (ready_kept first (until d f.between) old f.base B f.ready);
        one = f.applies.comes.after.one;
        whole = f.applies.comes.whole;
        faults = f.applies.comes.faults;
        rest = λ told on. f.applies.comes.rest told (ready_rest first (until d f.between) old f.base B f.ready told on);
      }

  -- and one that didn't: only of a disk that failed the count has risen
  pub failed_commit : Commits first d old new B (Err DiskFault) → Rose d.failed_before d.failed
  failed_commit (inl f) = f.applies.comes.rose
  failed_commit (inr (fault, is, inl b)) = b.rewrites.comes.rose
  failed_commit (inr (fault, is, inr l)) = let why = l.is in cc

  pub full_commit : (needed limit : ℕ) → Commits first d old new B (Err (Full needed limit)) → Follows first d old new B (Err (Full needed limit))
  full_commit needed limit (inl f) = f
  full_commit needed limit (inr (fault, is, inl b)) = let why = b.is in cc
  full_commit needed limit (inr (fault, is, inr l)) = let why = l.is in cc

  pub short_commit : Commits first d old new B (Err NoMemory) → Follows first d old new B (Err NoMemory) ⊎ IsStill d old new
  short_commit (inl f) = inl f
  short_commit (inr (fault, is, inl b)) = let why = b.is in cc
  short_commit (inr (fault, is, inr l)) = inr l.still

  -- so the count stands
  pub full_faults : (needed limit : ℕ) → Commits first d old new B (Err (Full needed limit)) → d.failed ≡ d.failed_before
  full_faults needed limit commits = (full_commit needed limit commits).applies.comes.1.disk.faults

  pub short_faults : Commits first d old new B (Err NoMemory) → d.failed ≡ d.failed_before
  short_faults commits = elim (short_commit commits) [
    | inl f ↦ f.applies.comes.1.disk.faults
    | inr still ↦ still.disk.faults
  ]

-- ---- its steps

module _ (first : Bool) (d : OverDisk) (old base : Stand) (B : Batch) where
  ready_made : (ready : Readies first d old B base) → AreMade (steps_ready first d old base B ready)
  ready_made (inl plain) = tt
  ready_made (inr turned) = again_made old

  ready_last : (ready : Readies first d old B base) → last_of (any_in old) (steps_ready first d old base B ready) ≡ any_in old
  ready_last (inl plain) = refl
  ready_last (inr turned) = refl

  ready_calls : (ready : Readies first d old B base) → d.tells → d.new.now.passed ≡ d.old.now.passed + calls_in (steps_ready first d old base B ready)
  ready_calls (inl (undue, same, story, faults)) told = omega (arith, ap (λ (u : Story). u.now.passed) story)
  ready_calls (inr (due, rewrites)) told = omega (arith, rewrites.comes.calls told)

  ready_through : (ready : Readies first d old B base) → d.tells → IsKeptOn old d.old → StepsThrough (Keeps old.journal.limit) (any_in old) (steps_ready first d old base B ready) d.old d.new
  ready_through (inl (undue, same, story, faults)) told on = none_through old d.old d.new story on
  ready_through (inr (due, rewrites)) told on = rewrites.steps told on

module _ (first : Bool) (d : OverDisk) (old new : Stand) (B : Batch) where
  module _ (result : Result (Unit {0}) ApplyFault) where
    abbrev steps : Commits first d old new B result → List (Step AnyKept)
    steps commits = steps_once first d old new B result commits

    -- each makes some call
    pub once_made : (commits : Commits first d old new B result) → AreMade (steps commits)
    once_made (inl f) =
        both_made (steps_ready first (until d f.between) old f.base B f.ready) (step_begun f.base.journal (any_in old) B result)
        (ready_made first (until d f.between) old f.base B f.ready) (begun_made f.base.journal (any_in old) B result)
    once_made (inr (fault, is, inl b)) = again_made old
    once_made (inr (fault, is, inr l)) = tt

    pub once_well : (commits : Commits first d old new B result) → d.tells → EndsWell (steps commits) d.old d.new
    once_well (inl f) told = inr (f.applies.ordered told)
    once_well (inr (fault, is, inl b)) told = inr (b.rewrites.ordered told)
    once_well (inr (fault, is, inr l)) told = inl (refl, l.still.disk.story)

    -- what was acknowledged stands
    pub once_through : (commits : Commits first d old new B result) → d.tells → IsKeptOn old d.old → StepsThrough (Keeps old.journal.limit) (any_in old) (steps commits) d.old d.new
    once_through (inl f) told on =
        let e = until d f.between in
        let front = steps_ready first e old f.base B f.ready in
        let back : AnyKept → List (Step AnyKept) = λ K. step_begun f.base.journal K B result in
        let here = begun_through (behind d f.between) f.base new B result f.applies told (ready_rest first e old f.base B f.ready told on) in
        let there = subst (λ K. StepsThrough (Keeps f.base.journal.limit) K (back K) f.between d.new) (ready_kept first e old f.base B f.ready) here in
        let under = subst (λ limit. StepsThrough (Keeps limit) (any_in old) (back (any_in old)) f.between d.new) (ready_limit first e old f.base B f.ready) there in
        both_through (Keeps old.journal.limit) (any_in old) front (back (any_in old)) d.old f.between d.new (ready_through first e old f.base B f.ready told on) (ready_calls first e old f.base B f.ready told)
        (inr (f.applies.ordered told)) (begun_made f.base.journal (any_in old) B result)
        (subst (λ K. StepsThrough (Keeps old.journal.limit) K (back (any_in old)) f.between d.new) (sym (ready_last first e old f.base B f.ready)) under)
    once_through (inr (fault, is, inl b)) told on = b.rewrites.steps told on
    once_through (inr (fault, is, inr l)) told on = none_through old d.old d.new l.still.disk.story on

  -- of those of a batch that was put the last one leads to what is kept then
  pub once_last : (commits : Commits first d old new B (Ok tt)) → last_of (any_in old) (steps_once first d old new B (Ok tt) commits) ≡ any_in new
  once_last (inl f) =
      let e = until d f.between in
      last_of-append (any_in old) (steps_ready first e old f.base B f.ready) (step_for f.base.journal (any_in old) B)
      ∙ (ap (λ K. last_of K (step_for f.base.journal (any_in old) B)) (ready_last first e old f.base B f.ready)
      ∙ (batch_last f.base.journal (any_in old) B
      ∙ sym (f.applies.comes.after.any ∙ ap (apply_to B) (ready_kept first e old f.base B f.ready))))
  once_last (inr (fault, is, unready)) = no_fault _ (Ok tt) fault refl is

  -- and so many calls have passed
  pub once_calls : (commits : Commits first d old new B (Ok tt)) → d.tells → d.new.now.passed ≡ d.old.now.passed + calls_in (steps_once first d old new B (Ok tt) commits)
  once_calls (inl f) told =
      let e = until d f.between in
      both_calls (steps_ready first e old f.base B f.ready) (step_for f.base.journal (any_in old) B) d.old.now.passed f.between.now.passed d.new.now.passed (ready_calls first e old f.base B f.ready told)
      (omega (arith, f.applies.comes.calls told, batch_calls f.base.journal (any_in old) B))
  once_calls (inr (fault, is, unready)) told = no_fault _ (Ok tt) fault refl is

  -- or not all, where the disk failed
  pub once_passed : (fault : ApplyFault) (commits : Commits first d old new B (Err fault)) → d.tells → HasPassed d d.old (steps_once first d old new B (Err fault) commits) fault
  once_passed fault (inl f) told =
      let e = until d f.between in
      let front = steps_ready first e old f.base B f.ready in
      let made : f.between.now.passed ≡ d.old.now.passed + calls_in front = ready_calls first e old f.base B f.ready told in
      let back = step_begun f.base.journal (any_in old) B (Err fault) in
      passed_since d d.old f.between (front ++ back) fault (omega (arith, made))
      (both_passed d f.between f.between front back fault made (begun_passed (behind d f.between) f.base new B (any_in old) fault f.applies told))
  once_passed fault (inr (other, is, inl b)) told = broken fault (let same : fault ≡ other = cc in same ∙ b.is) b.rewrites
    where
      broken : (fault : ApplyFault) → fault ≡ DiskFault → Rewrites d old new (Err DiskFault) → HasPassed d d.old (step_again old) fault
      broken DiskFault is rewrites = let few = rewrites.comes.few told in (few.0, omega (arith, few.1))
      broken (Full needed limit) is rewrites = cc
      broken NoMemory is rewrites = cc
  once_passed fault (inr (other, is, inr l)) told = lacking fault (let same : fault ≡ other = cc in same ∙ l.is) l.still.disk.story
    where
      lacking : (fault : ApplyFault) → fault ≡ NoMemory → d.new ≡ d.old → HasPassed d d.old [] fault
      lacking DiskFault is same = cc
      lacking (Full needed limit) is same = cc
      lacking NoMemory is same = omega (arith, ap (λ (u : Story). u.now.passed) same)

-- ---- what a crash leaves

module _ (first : Bool) (d : OverDisk) (old : Stand) (B : Batch) (told : d.tells) (on : IsKeptOn old d.old) where
  abbrev Stays : List ℕ → Type 0
  Stays file = Keeps old.journal.limit (any_in old) file ⊎ Keeps old.journal.limit (apply_to B (any_in old)) file

  at_batch : (empty : Bool) (calls : ℕ) (file : List ℕ) → IsAtOneOf (Keeps old.journal.limit) (any_in old) (if empty then [] else let step : Step AnyKept = record { calls = calls; to = InTwo (apply B (two_of (any_in old))) } in step ∷ []) file
      → Keeps old.journal.limit (any_in old) file ⊎ Keeps old.journal.limit (if empty then any_in old else InTwo (apply B (two_of (any_in old)))) file
  at_batch true calls file at = inl at
  at_batch false calls file at = at

  at_begun : (j : Standing) (result : Result (Unit {0}) ApplyFault) (file : List ℕ) → IsAtOneOf (Keeps old.journal.limit) (any_in old) (step_begun j (any_in old) B result) file → Stays file
  at_begun j (Ok done) file at = at_batch (is_empty B) (calls_of j) file at
  at_begun j (Err DiskFault) file at = at_batch (is_empty B) (calls_of j) file at
  at_begun j (Err (Full needed limit)) file at = inl at
  at_begun j (Err NoMemory) file at = inl at

  at_ready : (e : OverDisk) (base : Stand) (result : Result (Unit {0}) ApplyFault) (ready : Readies first e old B base) (file : List ℕ)
      → IsAtOneOf (Keeps old.journal.limit) (any_in old) (steps_ready first e old base B ready ++ step_begun base.journal (any_in old) B result) file → Stays file
  at_ready e base result (inl plain) file at = at_begun base.journal result file at
  at_ready e base result (inr turned) file (inl at) = inl at
  at_ready e base result (inr turned) file (inr at) = at_begun base.journal result file at

  pub commit_leaves : (new : Stand) (result : Result (Unit {0}) ApplyFault) → Commits first d old new B result → LeavesOnly d.old d.new Stays
  commit_leaves new result (inl f) =
      leaves_more d.old d.new (IsAtOneOf (Keeps old.journal.limit) (any_in old) (steps_once first d old new B result (inl f))) Stays (at_ready (until d f.between) f.base result f.ready)
      (steps_leave (Keeps old.journal.limit) (any_in old) (steps_once first d old new B result (inl f)) d.old d.new (f.applies.ordered told) (once_through first d old new B result (inl f) told on))
  commit_leaves new result (inr (fault, is, inl b)) =
      leaves_more d.old d.new (Keeps old.journal.limit (any_in old)) Stays (λ file at. inl at)
      (kept_throughout old d.old d.new (b.rewrites.ordered told) (b.rewrites.steps told on))
  commit_leaves new result (inr (fault, is, inr l)) = leaves_none d.old d.new Stays l.still.disk.story (λ file image. inl (kept_leaves old d.old on file image))
