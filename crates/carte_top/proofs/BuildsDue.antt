-- The status that is due of a build over a book that is had in some way: each cause of another one contradicts it.
use Rattle.std.proofs.Common.{◌≡◌, ℕ, List, [], ◌∷◌, ◌++◌, Result, Ok, Err, refl, sym, ap, ◌∙◌, inl, inr, ◌⊎◌, subst}
use Rattle.carte_book.specs.Book.{Book}
use Rattle.carte_book.specs.declared.reason.Reason.{Reason}
use Rattle.carte_record.specs.declared.batch.Batch.{Batch}
use Rattle.carte_sound.specs.Base.{HasDistinctDigests}
use Rattle.carte_state.specs.Folding.{Keeps}
use Rattle.carte_state.specs.declared.fault.ApplyFault.{ApplyFault}
use Rattle.carte_state.specs.declared.fault.ApplyFault.TheVariants as applying
use Rattle.carte_state.proofs.Folds.{bad_at_one, keeps_one, keeps_or_bad}
use Rattle.carte_words.specs.declared.words.Words.{Words as Asked}
use Rattle.carte_engine.specs.Committing.{behind as onwards}
use Rattle.carte_engine.specs.Schedulers.{IsServed, IsRefusedFor}
use Rattle.carte_engine.specs.declared.answer.Answer.{Answer}
use Rattle.carte_engine.specs.declared.answer.Answer.TheVariants as answer
use Rattle.carte_engine.proofs.Several.{fit_not_full, overfilled}
use Rattle.carte_report.specs.declared.status.Status.{Status}
use Rattle.carte_report.specs.declared.status.Status.TheVariants.{Done, BookRefused, Usage, BuildRefused, ReadFault, WriteFault, DiskFault, BadState, StateFull, NoMemory, ScriptTooLong}
use Rattle.carte_top.specs.Around.{OverDisk, OverSink, TakesAll}
use Rattle.carte_top.specs.Chosen.{scheduler_of}
use Rattle.carte_top.specs.Due.{AllFit, AllOver, IsBadNow, IsDueOver, IsFound, IsFull, IsFullOver, IsHindered, IsKept, IsPlanned, NoneFit}
use Rattle.carte_top.specs.Found.{ArePut, Commits, Found, IsStopped, Overfills, RefusesFor, Replies, behind}
use Rattle.carte_top.specs.Outcome.{BuiltOver, IsBad}
use Rattle.carte_top.proofs.Unique.{one_refusal, served_or_refused}
use Rattle.carte_engine.specs.Versions.{IsSoundAny}
use Rattle.carte_state.specs.Versions.{AnyKept}

-- ---- the state and its room

module _ (limit : ℕ) (d : OverDisk) where
  pub found_one : (P Q : AnyKept → Type 0) → IsKept limit d P → Found limit d Q → (K : AnyKept) × Keeps limit K d.old.now.reads × P K × Q K
  found_one P Q is found =
      let same : found.0 ≡ is.1 = keeps_one limit d.old.now.reads found.0 is.1 (found.1 is.0) is.2 in
      (is.1, is.2, is.3, subst Q same found.2)

  pub kept_or_bad : (P : AnyKept → Type 0) (at : ℕ) → IsKept limit d P → IsBad limit d at → ⊥
  kept_or_bad P at is bad = keeps_or_bad limit d.old.now.reads is.1 at is.2 (bad is.0).0

  pub found_or_bad : (Q : AnyKept → Type 0) (at : ℕ) → IsBadNow limit d at → Found limit d Q → ⊥
  found_or_bad Q at bad found = keeps_or_bad limit d.old.now.reads found.0 at (found.1 bad.0) bad.1

pub bad_one : (limit : ℕ) (d : OverDisk) (at offset : ℕ) → IsBadNow limit d at → IsBad limit d offset → BadState offset ≡ BadState at
bad_one limit d at offset is bad = ap BadState (bad_at_one limit d.old.now.reads offset at (bad is.0).0 is.1)

-- what a commit that passed, or one that was too much, says of room and needs
abbrev Passed : Result (Unit {0}) ApplyFault
Passed = Ok tt

never_passed : (needed most : ℕ) → (Passed ≡ Err (applying.Full needed most)) ⊎ (Passed ≡ Err applying.DiskFault) ⊎ (Passed ≡ Err applying.NoMemory) → ⊥
never_passed needed most (inl is) = cc
never_passed needed most (inr (inl is)) = cc
never_passed needed most (inr (inr is)) = cc

abbrev TooMuch : ℕ → ℕ → Result (Unit {0}) ApplyFault
TooMuch needed most = Err (applying.Full needed most)

same_needed : (n m needed most : ℕ) → (TooMuch n m ≡ TooMuch needed most) ⊎ (TooMuch n m ≡ Err applying.DiskFault) ⊎ (TooMuch n m ≡ Err applying.NoMemory) → n ≡ needed
same_needed n m needed most (inl is) = cc
same_needed n m needed most (inr (inl is)) = cc
same_needed n m needed most (inr (inr is)) = cc

pub none_fit : (limit : ℕ) (d : OverDisk) (May : List Batch → Type 0) (needed most : ℕ) → AllOver limit d needed most May → NoneFit limit d May
none_fit limit d May needed most all Bs may = (needed, all.2 Bs may)

-- what such batches say of a limit, against what all of them say
module _ (limit : ℕ) (d : OverDisk) (May : List Batch → Type 0) (K : AnyKept) (Bs : List Batch) (may : May Bs) (told : d.tells) where
  pub all_fit : AllFit limit d May → (needed most : ℕ) → IsStopped limit d K Bs (applying.Full needed most) → ⊥
  all_fit fit needed most stopped =
      let found = stopped.found in
      fit_not_full (onwards d found.story) found.stand stopped.last Bs needed most stopped.stops (fit Bs may found.stand (found.loaded told) found.limit_is)

  pub no_room : NoneFit limit d May → ArePut limit d K Bs → ⊥
  no_room none put =
      let found = put.found in
      let over = none Bs may in
      never_passed over.0 found.stand.journal.limit
      (overfilled (onwards d found.story) found.stand put.last Bs Passed over.0 put.puts (over.1 found.stand (found.loaded told) found.limit_is))

  pub over_same : (needed most n m : ℕ) → AllOver limit d needed most May → IsStopped limit d K Bs (applying.Full n m) → m ≡ limit → StateFull n m ≡ StateFull needed most
  over_same needed most n m all stopped most_is =
      let found = stopped.found in
      let numbers : n ≡ needed = same_needed n m needed found.stand.journal.limit
      (overfilled (onwards d found.story) found.stand stopped.last Bs (TooMuch n m) needed stopped.stops (all.2 Bs may found.stand (found.loaded told) found.limit_is)) in
      let limits : m ≡ most = most_is ∙ sym all.0 in
      cc

-- ---- a build

-- what is due and what was done are said of one book and of what one file keeps
pub record Meets (limit : ℕ) (d : OverDisk) (X : Book → Type 0) (Y Q : Book → AnyKept → Type 0) : Type 0 where
  pub book : Book
  pub first : X book
  pub told : d.tells
  pub kept : AnyKept
  pub keeps : Keeps limit kept d.old.now.reads
  pub history : List Book
  pub sound : IsSoundAny kept history
  pub distinct : HasDistinctDigests (history ++ book ∷ [])
  pub room : Y book kept
  pub did : Q book kept

-- Is is how the book is there where a status is due, and Has how a run had it
module _ (limit : ℕ) (d : OverDisk) (Is Has : (Book → Type 0) → Type 0) (one : (P Q : Book → Type 0) → Is P → Has Q → (b : Book) × P b × Q b) where
  pub meet : (P X : Book → Type 0) (Y Q : Book → AnyKept → Type 0) → ((b : Book) → P b → X b × IsFound limit d b (Y b)) → Is P → Has (λ b. Found limit d (Q b)) → Meets limit d X Y Q
  meet P X Y Q parts is did =
      let at = one P (λ b. Found limit d (Q b)) is did in
      let part = parts at.0 at.1 in
      let there = found_one limit d (λ K. (H : List Book) × IsSoundAny K H × HasDistinctDigests (H ++ at.0 ∷ []) × Y at.0 K) (Q at.0) part.1 at.2 in
      record {
        book = at.0;
        first = part.0;
        told = part.1.0;
        kept = there.0;
        keeps = there.1;
        history = there.2.0;
        sound = there.2.1;
        distinct = there.2.2;
        room = there.2.3;
        did = there.3;
      }

  never_bad : (P X : Book → Type 0) (Y : Book → AnyKept → Type 0) → ((b : Book) → P b → X b × IsFound limit d b (Y b)) → Is P → Has (λ b. Unit {0}) → (offset : ℕ) → IsBad limit d offset → ⊥
  never_bad P X Y parts is has offset bad =
      let at = one P (λ b. Unit {0}) is has in
      kept_or_bad limit d (λ K. (H : List Book) × IsSoundAny K H × HasDistinctDigests (H ++ at.0 ∷ []) × Y at.0 K) offset (parts at.0 at.1).1 bad

  not_found : (Q : Book → AnyKept → Type 0) (at : ℕ) → Is (λ b. IsBadNow limit d at) → Has (λ b. Found limit d (Q b)) → ⊥
  not_found Q at is did = let both = one (λ b. IsBadNow limit d at) (λ b. Found limit d (Q b)) is did in found_or_bad limit d (Q both.0) at both.1 both.2

  module _ (w : Asked) (front : List ℕ) (k : OverSink) where
    abbrev Replied : Book → AnyKept → Type 0
    Replied = Replies limit w d k (behind front TakesAll)

    -- where there is room for all batches that it may commit
    module _ (X : Book → Type 0) (is : Is (λ b. X b × IsFound limit d b (λ K. AllFit limit d (IsPlanned w b K)))) where
      abbrev Fits : Book → AnyKept → Type 0
      Fits b K = AllFit limit d (IsPlanned w b K)

      meets : (Q : Book → AnyKept → Type 0) → Has (λ b. Found limit d (Q b)) → Meets limit d X Fits Q
      meets Q did = meet (λ b. X b × IsFound limit d b (Fits b)) X Fits Q (λ b part. part) is did

      not_full : (needed most : ℕ) → Has (λ b. Found limit d (Overfills limit w d needed most b)) → ⊥
      not_full needed most did =
          let m = meets (λ b. Overfills limit w d needed most b) did in
          all_fit limit d (IsPlanned w m.book m.kept) m.kept m.did.halts.batches (m.did.halts.answer, m.did.halts.answers m.history m.sound m.distinct) m.told m.room needed most m.did.halts.stopped

      refused : (reason : Reason) → Has (λ b. Found limit d (RefusesFor limit w d reason b)) → (b : Book) × X b × IsRefusedFor (scheduler_of w.scheduler) b w.targets reason
      refused reason did =
          let m = meets (RefusesFor limit w d reason) did in
          (m.book, m.first, (m.did.1.answers m.history m.sound m.distinct).right.refused)

      served : Has (λ b. Found limit d (Replied b)) → (b : Book) × X b × IsServed (scheduler_of w.scheduler) b w.targets
      served did =
          let m = meets Replied did in
          (m.book, m.first, (m.did.commits.answers m.history m.sound m.distinct).right.served)

      not_bad : Has (λ b. Unit {0}) → (offset : ℕ) → IsBad limit d offset → ⊥
      not_bad has offset bad = never_bad (λ b. X b × IsFound limit d b (Fits b)) X Fits (λ b part. part) is has offset bad

    -- where there is room for none
    module _ (Over : Book → AnyKept → Type 0) (none : (b : Book) (K : AnyKept) → Over b K → NoneFit limit d (IsPlanned w b K)) (is : Is (λ b. IsFound limit d b (Over b))) where
      meets_over : (Q : Book → AnyKept → Type 0) → Has (λ b. Found limit d (Q b)) → Meets limit d (λ b. Unit {0}) Over Q
      meets_over Q did = meet (λ b. IsFound limit d b (Over b)) (λ b. Unit {0}) Over Q (λ b part. (tt, part)) is did

      not_committed : (b : Book) (K : AnyKept) (H : List Book) (a : Answer) → d.tells → IsSoundAny K H → HasDistinctDigests (H ++ b ∷ []) → Over b K → Commits limit w d b K a → ⊥
      not_committed b K H a told sound distinct over did = no_room limit d (IsPlanned w b K) K did.batches (a, did.answers H sound distinct) told (none b K over) did.put

      not_done : Has (λ b. Found limit d (Replied b)) → ⊥
      not_done did =
          let m = meets_over Replied did in
          not_committed m.book m.kept m.history (answer.Built m.did.built) m.told m.sound m.distinct m.room m.did.commits

      not_kept : (reason : Reason) → Has (λ b. Found limit d (RefusesFor limit w d reason b)) → ⊥
      not_kept reason did =
          let m = meets_over (RefusesFor limit w d reason) did in
          not_committed m.book m.kept m.history (answer.Refused reason m.did.0) m.told m.sound m.distinct m.room m.did.1

      not_bad_over : Has (λ b. Unit {0}) → (offset : ℕ) → IsBad limit d offset → ⊥
      not_bad_over has offset bad = never_bad (λ b. IsFound limit d b (Over b)) (λ b. Unit {0}) Over (λ b part. (tt, part)) is has offset bad

    pub full_due : (status : Status) → BuiltOver Has limit w front d k status → IsFullOver Is limit w d → IsFull status ⊎ IsHindered status
    full_due WriteFault did is = inr tt
    full_due DiskFault did is = inr tt
    full_due NoMemory did is = inr tt
    full_due ReadFault did is = absurd did
    full_due (BookRefused fault) did is = absurd did
    full_due (Usage fault) did is = absurd did
    full_due ScriptTooLong did is = absurd did
    full_due (StateFull n m) did is = inl tt
    full_due Done did is = absurd (not_done (λ b K. NoneFit limit d (IsPlanned w b K)) (λ b K none. none) is did)
    full_due (BuildRefused r) did is = absurd (not_kept (λ b K. NoneFit limit d (IsPlanned w b K)) (λ b K none. none) is r did.0)
    full_due (BadState at) did is = absurd (not_bad_over (λ b K. NoneFit limit d (IsPlanned w b K)) (λ b K none. none) is did.0 at did.1)

    -- and each needs as many bytes
    module _ (needed most : ℕ) where
      abbrev Over : Book → AnyKept → Type 0
      Over b K = AllOver limit d needed most (IsPlanned w b K)

      over_none : (b : Book) (K : AnyKept) → Over b K → NoneFit limit d (IsPlanned w b K)
      over_none b K all = none_fit limit d (IsPlanned w b K) needed most all

      as_full : Is (λ b. IsFound limit d b (Over b)) → (n most_told : ℕ) → Has (λ b. Found limit d (Overfills limit w d n most_told b)) → StateFull n most_told ≡ StateFull needed most
      as_full is n most_told did =
          let m = meets_over Over over_none is (λ b. Overfills limit w d n most_told b) did in
          over_same limit d (IsPlanned w m.book m.kept) m.kept m.did.halts.batches (m.did.halts.answer, m.did.halts.answers m.history m.sound m.distinct) m.told needed most n most_told m.room m.did.halts.stopped m.did.most_is

    abbrev IsServedBy : Book → Type 0
    IsServedBy b = IsServed (scheduler_of w.scheduler) b w.targets

    abbrev IsRefusedBy : Reason → Book → Type 0
    IsRefusedBy r b = IsRefusedFor (scheduler_of w.scheduler) b w.targets r

    pub over_due : (status due : Status) → BuiltOver Has limit w front d k status → IsDueOver Is limit w d due → (status ≡ due) ⊎ IsHindered status
    over_due WriteFault due did is = inr tt
    over_due DiskFault due did is = inr tt
    over_due NoMemory due did is = inr tt
    over_due ReadFault due did is = absurd did
    over_due (BookRefused fault) due did is = absurd did
    over_due (Usage fault) due did is = absurd did
    over_due ScriptTooLong due did is = absurd did
    over_due status ScriptTooLong did is = absurd is
    over_due status (BookRefused fault) did is = absurd is
    over_due status (Usage fault) did is = absurd is
    over_due status ReadFault did is = absurd is
    over_due status WriteFault did is = absurd is
    over_due status DiskFault did is = absurd is
    over_due status NoMemory did is = absurd is
    over_due Done Done did is = inl refl
    over_due Done (BuildRefused r) did is = let at = served (IsRefusedBy r) is did in absurd (served_or_refused (scheduler_of w.scheduler) at.0 w.targets r at.2 at.1)
    over_due Done (BadState at) did is = absurd (not_found Replied at is did)
    over_due Done (StateFull n m) did is = absurd (not_done (Over n m) (over_none n m) is did)
    over_due (BuildRefused r) Done did is = let at = refused IsServedBy is r did.0 in absurd (served_or_refused (scheduler_of w.scheduler) at.0 w.targets r at.1 at.2)
    over_due (BuildRefused r) (BuildRefused q) did is = let at = refused (IsRefusedBy q) is r did.0 in inl (ap BuildRefused (one_refusal (scheduler_of w.scheduler) at.0 w.targets r q at.2 at.1))
    over_due (BuildRefused r) (BadState at) did is = absurd (not_found (RefusesFor limit w d r) at is did.0)
    over_due (BuildRefused r) (StateFull n m) did is = absurd (not_kept (Over n m) (over_none n m) is r did.0)
    over_due (BadState at) Done did is = absurd (not_bad IsServedBy is did.0 at did.1)
    over_due (BadState at) (BuildRefused r) did is = absurd (not_bad (IsRefusedBy r) is did.0 at did.1)
    over_due (BadState at) (BadState offset) did is = inl (bad_one limit d offset at (one (λ b. IsBadNow limit d offset) (λ b. Unit {0}) is did.0).1 did.1)
    over_due (BadState at) (StateFull n m) did is = absurd (not_bad_over (Over n m) (over_none n m) is did.0 at did.1)
    over_due (StateFull n m) Done did is = absurd (not_full IsServedBy is n m did.0)
    over_due (StateFull n m) (BuildRefused r) did is = absurd (not_full (IsRefusedBy r) is n m did.0)
    over_due (StateFull n m) (BadState at) did is = absurd (not_found (λ b. Overfills limit w d n m b) at is did.0)
    over_due (StateFull n m) (StateFull needed most) did is = inl (as_full needed most is n m did.0)
