-- What putting a batch in comes to.
use Rattle.std.proofs.Common.{◌≡◌, ℕ, ◌+◌, ◌<◌, ◌≤◌, Bool, true, false, if◌then◌else◌, Result, Ok, Err, refl, sym, ◌∙◌, ap, subst, arith, inl}
use Rattle.std.specs.Prelude.{IsTrue, ◌↔◌, ◌≢◌}
use Rattle.carte_state.specs.Around.{OverDisk}
use Rattle.carte_io.specs.Causes.{HasCauseOf}
use Rattle.carte_io.specs.Disk.{CountsUp, Story, moments}
use Rattle.carte_io.specs.Stations.{StepsThrough}
use Rattle.carte_journal.specs.Journals.{Standing, calls_of}
use Rattle.carte_journal.proofs.Commits.{some_calls}
use Rattle.carte_record.proofs.Empties.{empty_same}
use Rattle.carte_record.specs.declared.batch.Batch.{Batch}
use Rattle.carte_record.specs.Empty.{is_empty}
use Rattle.carte_state.specs.Applying.{Applies, Comes, IsStill}
use Rattle.carte_state.specs.Folding.{Keeps}
use Rattle.carte_state.specs.States.{IsKeptOn, Stand, any_in, calls_for, kept_in, needs_for, step_for}
use Rattle.carte_state.specs.Versions.{Begins}
use Rattle.carte_state.specs.declared.fault.ApplyFault.{ApplyFault}
use Rattle.carte_state.specs.declared.fault.ApplyFault.TheVariants.{DiskFault, Full, NoMemory}
use Rattle.carte_state.proofs.Applies.{still_steps}
use Rattle.carte_state.proofs.Beginnings.{none_old}

module _ (d : OverDisk) (old new : Stand) (B : Batch) (ordered : d.tells → CountsUp (moments d.new)) (still : IsStill d old new) where
  -- nothing has changed
  pub unmoved : (result : Result (Unit {0}) ApplyFault) → Comes d old new B result → Applies d old new B result
  unmoved result comes = record {
    comes = comes;
    limit = ap (λ (s : Stand). s.journal.limit) still.stand;
    steps = λ told on. subst (λ (u : Story). StepsThrough (Keeps old.journal.limit) (any_in old) (step_for old.journal (any_in old) B) d.old u)
        (sym still.disk.story) (still_steps old d.old on B);
    ordered = ordered;
  }

  pub put_none : old.journal.broken ≡ false → Begins (any_in old) B → is_empty B ≡ true → Applies d old new B (Ok tt)
  put_none whole begins empty = unmoved (Ok tt) (record {
    room = inl empty;
    after = record {
      journal = rw empty (ap (λ (s : Stand). s.journal) still.stand);
      kept = ap kept_in still.stand ∙ sym (empty_same B (kept_in old) empty);
      any = rw empty (ap any_in still.stand);
      one = ap (λ (s : Stand). s.one) still.stand ∙ none_old old.one (kept_in old) B begins empty;
    };
    whole = ap (λ (s : Stand). s.journal.broken) still.stand ∙ whole;
    faults = still.disk.faults;
    still = λ always. still;
    calls = λ told. rw empty (omega (arith, ap (λ (u : Story). u.now.passed) still.disk.story));
    rest = λ told on. subst (λ (u : Story). IsKeptOn new u) (sym still.disk.story) (subst (λ (s : Stand). IsKeptOn s d.old) (sym still.stand) on);
  })

  -- there is no frame for the batch
  pub unframed : is_empty B ≡ false → (fault : ApplyFault) → fault ≢ DiskFault
      → ((needed limit : ℕ) → fault ≡ Full needed limit → (needed ≡ needs_for old B) × (limit ≡ old.journal.limit) × (limit < needed)) → Applies d old new B (Err fault)
  unframed filled DiskFault other full = absurd (other refl)
  unframed filled (Full needed limit) other full =
      let over = full needed limit refl in
      unmoved (Err (Full needed limit)) (record { filled = filled; needed_is = over.0; limit_is = over.1; over = over.2 }, still)
  unframed filled NoMemory other full = unmoved (Err NoMemory) (filled, still)

-- what follows for each result
module _ (d : OverDisk) (old new : Stand) (B : Batch) where
  pub broken_by : old.journal.broken ≡ false → (result : Result (Unit {0}) ApplyFault) → Comes d old new B result → IsTrue new.journal.broken ↔ (result ≡ Err DiskFault)
  broken_by whole (Ok done) puts = ((λ b. let w = puts.whole in cc), (λ is. cc))
  broken_by whole (Err DiskFault) fails = ((λ b. refl), (λ is. fails.broken))
  broken_by whole (Err (Full needed limit)) over = ((λ b. let same = ap (λ (s : Stand). s.journal.broken) over.1.stand in cc), (λ is. cc))
  broken_by whole (Err NoMemory) none = ((λ b. let same = ap (λ (s : Stand). s.journal.broken) none.1.stand in cc), (λ is. cc))

  pub cause_by : (result : Result (Unit {0}) ApplyFault) → Comes d old new B result → HasCauseOf DiskFault d.failed_before d.failed result
  cause_by (Ok done) puts = record { later = omega (arith, puts.faults); failed = λ is. cc; passed = λ other. puts.faults }
  cause_by (Err DiskFault) fails = record { later = fails.later; failed = λ is. fails.rose; passed = λ other. absurd (other refl) }
  cause_by (Err (Full needed limit)) over = record { later = omega (arith, over.1.disk.faults); failed = λ is. cc; passed = λ other. over.1.disk.faults }
  cause_by (Err NoMemory) none = record { later = omega (arith, none.1.disk.faults); failed = λ is. cc; passed = λ other. none.1.disk.faults }

  some_for : (j : Standing) (empty : Bool) → empty ≡ false → 0 < (if empty then 0 else calls_of j)
  some_for j true filled = absurd (cc)
  some_for j false filled = omega (arith, some_calls j.fresh)

  few_still : is_empty B ≡ false → IsStill d old new → (d.old.now.passed ≤ d.new.now.passed) × (d.new.now.passed < d.old.now.passed + calls_for old.journal B)
  few_still filled still =
      let same = ap (λ (u : Story). u.now.passed) still.disk.story in
      (omega (arith, same), omega (arith, same, some_for old.journal (is_empty B) filled))

  pub few_by : d.tells → (fault : ApplyFault) → Comes d old new B (Err fault) → (d.old.now.passed ≤ d.new.now.passed) × (d.new.now.passed < d.old.now.passed + calls_for old.journal B)
  few_by told DiskFault fails = fails.few told
  few_by told (Full needed limit) over = few_still over.0.filled over.1
  few_by told NoMemory none = few_still none.0 none.1
