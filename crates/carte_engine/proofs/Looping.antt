-- One batch after another: a loop of commits, by the commit of each.
use Rattle.std.proofs.Common.{◌≡◌, ℕ, Bool, true, false, List, [], ◌∷◌, ◌++◌, Result, Ok, Err, refl, sym, subst}
use Rattle.carte_io.specs.Disk.{Story}
use Rattle.carte_record.specs.declared.batch.Batch.{Batch}
use Rattle.carte_state.specs.Around.{OverDisk}
use Rattle.carte_state.specs.Runs.{applied_to}
use Rattle.carte_state.specs.States.{Stand, any_in}
use Rattle.carte_state.specs.declared.fault.ApplyFault.{ApplyFault}
use Rattle.carte_engine.specs.Committing.{Commits, CommitsAll, PutsAll, StopsAt, behind, is_first, until}
use Rattle.carte_engine.proofs.Committing.{commits_seen, has_put}
use Rattle.carte_engine.proofs.Several.{first_behind, is_first_behind, puts_faults, puts_kept}

-- one batch more
more_put : (first : Bool) (d : OverDisk) (between : Story) (old : Stand) (Bs : List Batch) (mid : Stand) (B : Batch) (new : Stand) → PutsAll first (until d between) old Bs mid
    → Commits (first_behind first Bs) (behind d between) mid new B (Ok tt) → PutsAll first d old (Bs ++ B ∷ []) new
more_put first d between old [] mid B new puts commits =
    let e : Story → Stand → Type 0 = λ (u : Story) (s : Stand). Commits first (record { tells = d.tells; old = u; new = d.new; failed_before = d.failed_before; failed = d.failed; same = Unit {0} }) s new B (Ok tt) in
    let here : e d.old old = subst (λ (u : Story). e u old) puts.1 (subst (e between) puts.0 commits) in
    let faults = (has_put first (behind d between) mid new B commits).faults in
    (new, d.new, subst (λ n. Commits first (record { tells = d.tells; old = d.old; new = d.new; failed_before = d.failed_before; failed = n; same = Unit {0} }) old new B (Ok tt)) faults here, (refl, refl, faults))
more_put first d between old (C ∷ Bs) mid B new (next, earlier, commits_first, puts) commits =
    (next, earlier, commits_first, more_put false (behind d earlier) between next Bs mid B new puts (subst (λ t. Commits t (behind d between) mid new B (Ok tt)) (later Bs) commits))
  where
    later : (Bs : List Batch) → false ≡ first_behind false Bs
    later [] = refl
    later (B ∷ Bs) = refl

-- the batches so far were put, by the disk's story and its faults
abbrev pub SoFar : Type 0 → Story → Story → ℕ → ℕ → Stand → List Batch → Stand → Type 0
SoFar tells old new before now state done mid = PutsAll true (record { tells = tells; old = old; new = new; failed_before = before; failed = now; same = Unit {0} }) state done mid

pub so_far_kept : (tells : Type 0) (old new : Story) (before now : ℕ) (state : Stand) (done : List Batch) (mid : Stand) → SoFar tells old new before now state done mid → any_in mid ≡ applied_to (any_in state) done
so_far_kept tells old new before now state done mid so =
    puts_kept true (record { tells = tells; old = old; new = new; failed_before = before; failed = now; same = Unit {0} }) state done mid so

module _ (tells : Type 0) (old between new : Story) (before mid now : ℕ) (same : Type 0) (state : Stand) (done : List Batch) (at : Stand) (B : Batch) (after : Stand) (so : SoFar tells old between before mid state done at) where
  abbrev Last : ℕ → ℕ → Type 0 → OverDisk
  Last m n same = record { tells = tells; old = between; new = new; failed_before = m; failed = n; same = same }

  faults : mid ≡ before
  faults = puts_faults true (record { tells = tells; old = old; new = between; failed_before = before; failed = mid; same = Unit {0} }) state done at so

  front : PutsAll true (record { tells = tells; old = old; new = between; failed_before = before; failed = before; same = Unit {0} }) state done at
  front = subst (λ n. SoFar tells old between before n state done at) faults so

  -- the commit of the next one, from the first moment's count of faults on
  next : (result : Result (Unit {0}) ApplyFault) → Commits (is_first done) (Last mid now same) at after B result → Commits (is_first done) (Last before now (Unit {0})) at after B result
  next result commits = subst (λ n. Commits (is_first done) (Last n now (Unit {0})) at after B result) faults (commits_seen (is_first done) (Last mid now same) at after B result commits)

  pub one_put : Commits (is_first done) (Last mid now same) at after B (Ok tt) → SoFar tells old new before now state (done ++ B ∷ []) after
  one_put commits =
      more_put true (record { tells = tells; old = old; new = new; failed_before = before; failed = now; same = Unit {0} }) between state done at B after front
      (subst (λ t. Commits t (Last before now (Unit {0})) at after B (Ok tt)) (sym (is_first_behind done)) (next (Ok tt) commits))

  pub one_stopped : (other : Type 0) (Bs rest : List Batch) (fault : ApplyFault) → Bs ≡ done ++ B ∷ rest → Commits (is_first done) (Last mid now same) at after B (Err fault)
      → StopsAt (record { tells = tells; old = old; new = new; failed_before = before; failed = now; same = other }) state Bs after fault
  one_stopped other Bs rest fault all commits = record { front = done; batch = B; rest = rest; all = all; mid = at; between = between; puts = front; stops = next (Err fault) commits }

-- at the end
pub all_put : (d : OverDisk) (state : Stand) (Bs : List Batch) (at : Stand) → SoFar d.tells d.old d.new d.failed_before d.failed state Bs at → PutsAll true d state Bs at
all_put d state [] at so = so
all_put d state (B ∷ Bs) at so = so

-- one batch alone
pub one_batch : (d : OverDisk) (old new : Stand) (B : Batch) (result : Result (Unit {0}) ApplyFault) → Commits true d old new B result → CommitsAll d old new (B ∷ []) result
one_batch d old new B (Ok done) commits =
    let here = commits_seen true d old new B (Ok tt) commits in
    let faults = (has_put true d old new B commits).faults in
    (new, d.new, subst (λ n. Commits true (record { tells = d.tells; old = d.old; new = d.new; failed_before = d.failed_before; failed = n; same = Unit {0} }) old new B (Ok tt)) faults here, (refl, refl, faults))
one_batch d old new B (Err fault) commits =
    record { front = []; batch = B; rest = []; all = refl; mid = old; between = d.old; puts = (refl, refl, refl); stops = commits_seen true d old new B (Err fault) commits }

-- the next one isn't the first
pub then_later : (done : List Batch) (B : Batch) → false ≡ is_first (done ++ B ∷ [])
then_later [] B = refl
then_later (C ∷ done) B = refl
