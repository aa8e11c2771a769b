-- The status that is due comes, but for want of memory and devices: each cause of another one contradicts it.
use Rattle.std.proofs.Common.{◌≡◌, ℕ, ◌<◌, ◌≤◌, List, [], ◌∷◌, ◌++◌, length, length-append, Result, Ok, Err, refl, sym, ap, inl, inr, ◌⊎◌, subst, arith}
use Rattle.std.proofs.lemmas.Bool.{lt-ltb}
use Rattle.carte_name.specs.declared.kind.Kind.{Kind}
use Rattle.carte_name.specs.declared.kind.Kind.TheVariants.{Rules, Sheet}
use Rattle.carte_book.specs.Book.{Book}
use Rattle.carte_book.specs.Reason.{AllClean, IsReason}
use Rattle.carte_book.proofs.Reasons.{no_reason, one_reason}
use Rattle.carte_session.specs.declared.end.SessionEnd.{SessionEnd}
use Rattle.carte_session.specs.declared.end.SessionEnd.TheVariants as session
use Rattle.carte_session.specs.declared.end.StepEnd.TheVariants as line
use Rattle.carte_book.specs.declared.fault.BookFault.{BookFault}
use Rattle.carte_book.specs.declared.fault.BookFault.TheVariants.{Limit, NoMemory as BookNoMemory}
use Rattle.carte_book.specs.declared.fault.Which.TheVariants.{Bytes}
use Rattle.carte_sound.specs.Base.{HasDistinctDigests}
use Rattle.carte_words.specs.declared.words.Command.{Command}
use Rattle.carte_words.specs.declared.words.Command.TheVariants as command
use Rattle.carte_words.specs.declared.words.Words.{Words as Asked}
use Rattle.carte_engine.specs.Schedulers.{IsServed, IsRefusedFor}
use Rattle.carte_report.specs.declared.status.Status.{Status}
use Rattle.carte_report.specs.declared.status.Status.TheVariants.{Done, BookRefused, Usage, BuildRefused, ReadFault, WriteFault, DiskFault, BadState, StateFull, NoMemory, ScriptTooLong}
use Rattle.carte_shell.specs.Lasting.{IsWithin}
use Rattle.carte_shell.proofs.Lasting.{session_within}
use Rattle.carte_top.specs.Around.{OverSource, OverDisk, OverSink, TakesAll}
use Rattle.carte_top.specs.Chosen.{scheduler_of, BookOfKind}
use Rattle.carte_top.specs.Due.{AllFit, AllOver, IsBadNow, IsBook, IsBuildDue, IsCleanDue, IsDue, IsDueFor, IsDueOver, IsExplainDue, IsFound, IsFull, IsFullDue, IsFullFor, IsFullOver, IsGenerateDue, IsHindered, IsKept, IsPlanned, IsSessionDue, LinesFit, NoneFit}
use Rattle.carte_top.specs.Found.{Clears, ClearsTooMuch, Found, Holds, AreClearing, Makes, Overfills, Refuses, RefusesFor, Replies, Explains, Carries, for_last, front_of}
use Rattle.carte_top.specs.Outcome.{Asks, Built, Cleaned, ComesTo, Does, Explained, Generated, IsBad, Lacks, Ran, Sat, status_of}
use Rattle.carte_top.proofs.BuildsDue.{all_fit, bad_one, found_one, found_or_bad, full_due, kept_or_bad, meet, no_room, none_fit, over_due, over_same}
use Rattle.carte_top.proofs.Unique.{one_generated, one_meant, one_of_kind, one_outcome}
use Rattle.carte_engine.specs.Versions.{IsSoundAny, Under}
use Rattle.carte_state.specs.Versions.{AnyKept}

-- ---- the book

module _ (kind : Kind) (s : OverSource) (P Q : Book → Type 0) where
  over_one : IsBook kind s P → Holds kind s Q → (b : Book) × P b × Q b
  over_one is holds =
      let there = subst (λ (xs : List ℕ). BookOfKind kind xs (Ok holds.2)) (sym (holds.1 is.0).0) holds.3 in
      let same : holds.2 ≡ is.1 = one_of_kind kind s.old.left holds.2 is.1 there is.2 in
      (is.1, is.3, subst Q same holds.4)

-- too many bytes are no book, and neither are the first ones of them
too_long : (kind : Kind) (bytes : List ℕ) → 16777216 < length bytes → BookOfKind kind bytes (Err (Limit Bytes 16777216))
too_long Rules bytes long = rw (lt-ltb 16777216 (length bytes) long) refl
too_long Sheet bytes long = rw (lt-ltb 16777216 (length bytes) long) refl

refused_in_part : (kind : Kind) (bytes more : List ℕ) (fault : BookFault) → length bytes ≡ 16777217 → BookOfKind kind bytes (Err fault) → BookOfKind kind (bytes ++ more) (Err fault)
refused_in_part kind bytes more fault long not =
    let same : Err fault ≡ Err (Limit Bytes 16777216) = one_outcome kind bytes (Err fault) (Err (Limit Bytes 16777216)) not (too_long kind bytes (omega (arith, long))) in
    let is : fault ≡ Limit Bytes 16777216 = cc in
    subst (λ (f : BookFault). BookOfKind kind (bytes ++ more) (Err f)) (sym is) (too_long kind (bytes ++ more) (simp length-append (omega (arith, long))))

refusal : (kind : Kind) (s : OverSource) (fault : BookFault) → s.tells → Refuses kind s fault → BookOfKind kind s.old.left (Err fault)
refusal kind s BookNoMemory told never = absurd never
refusal kind s fault told (bytes, inl was, not) = subst (λ (xs : List ℕ). BookOfKind kind xs (Err fault)) (sym (was told).0) not
refusal kind s fault told (bytes, inr part, not) =
    subst (λ (xs : List ℕ). BookOfKind kind xs (Err fault)) (sym (part.1 told)) (refused_in_part kind bytes s.new.left fault part.0 not)

one_fault : (kind : Kind) (s : OverSource) (f g : BookFault) → s.tells → Refuses kind s f → BookOfKind kind s.old.left (Err g) → f ≡ g
one_fault kind s f g told refuses not = let same : Err f ≡ Err g = one_outcome kind s.old.left (Err f) (Err g) (refusal kind s f told refuses) not in cc

book_or_none : (kind : Kind) (s : OverSource) (b : Book) (fault : BookFault) → BookOfKind kind s.old.left (Ok b) → BookOfKind kind s.old.left (Err fault) → ⊥
book_or_none kind s b fault is not = let same : Ok b ≡ Err fault = one_outcome kind s.old.left (Ok b) (Err fault) is not in cc

is_book : (kind : Kind) (s : OverSource) (P : Book → Type 0) (fault : BookFault) → IsBook kind s P → Refuses kind s fault → ⊥
is_book kind s P fault is refuses = book_or_none kind s is.1 fault is.2 (refusal kind s fault is.0 refuses)

is_none : (kind : Kind) (s : OverSource) (Q : Book → Type 0) (fault : BookFault) → s.tells → BookOfKind kind s.old.left (Err fault) → Holds kind s Q → ⊥
is_none kind s Q fault told not holds =
    book_or_none kind s holds.2 fault (subst (λ (xs : List ℕ). BookOfKind kind xs (Ok holds.2)) (sym (holds.1 told).0) holds.3) not

-- ---- a build

module _ (limit : ℕ) (w : Asked) (s : OverSource) (d : OverDisk) (k : OverSink) where
  -- a book that is due isn't refused
  refused_due : (fault : BookFault) (due : Status) → Refuses w.kind s fault → IsDueOver (IsBook w.kind s) limit w d due → ⊥
  refused_due f Done refuses is = is_book w.kind s (λ b. IsServed (scheduler_of w.scheduler) b w.targets × IsFound limit d b (λ K. AllFit limit d (IsPlanned w b K))) f is refuses
  refused_due f (BuildRefused r) refuses is =
      is_book w.kind s (λ b. IsRefusedFor (scheduler_of w.scheduler) b w.targets r × IsFound limit d b (λ K. AllFit limit d (IsPlanned w b K))) f is refuses
  refused_due f (BadState at) refuses is = is_book w.kind s (λ b. IsBadNow limit d at) f is refuses
  refused_due f (StateFull n m) refuses is = is_book w.kind s (λ b. IsFound limit d b (λ K. AllOver limit d n m (IsPlanned w b K))) f is refuses
  refused_due f (BookRefused g) refuses is = is
  refused_due f (Usage g) refuses is = is
  refused_due f ReadFault refuses is = is
  refused_due f WriteFault refuses is = is
  refused_due f DiskFault refuses is = is
  refused_due f NoMemory refuses is = is
  refused_due f ScriptTooLong refuses is = is

  built_due : (status due : Status) → Built limit w s d k status → IsBuildDue limit w s d due → (status ≡ due) ⊎ IsHindered status
  built_due ReadFault due did is = inr tt
  built_due WriteFault due did is = inr tt
  built_due DiskFault due did is = inr tt
  built_due NoMemory due did is = inr tt
  built_due (Usage fault) due did is = absurd did
  built_due ScriptTooLong due did is = absurd did
  built_due (BookRefused f) (BookRefused g) did is = inl (ap BookRefused (one_fault w.kind s f g is.0 did.0 is.1))
  built_due (BookRefused f) due did is = absurd (refused_due f due did.0 is)
  built_due Done (BookRefused f) did is = absurd (is_none w.kind s (λ b. Found limit d (Replies limit w d k TakesAll b)) f is.0 is.1 did)
  built_due (BuildRefused r) (BookRefused f) did is = absurd (is_none w.kind s (λ b. Found limit d (RefusesFor limit w d r b)) f is.0 is.1 did.0)
  built_due (BadState at) (BookRefused f) did is = absurd (is_none w.kind s (λ b. Unit {0}) f is.0 is.1 did.0)
  built_due (StateFull n m) (BookRefused f) did is = absurd (is_none w.kind s (λ b. Found limit d (Overfills limit w d n m b)) f is.0 is.1 did.0)
  built_due status due did is = over_due limit d (IsBook w.kind s) (Holds w.kind s) (over_one w.kind s) w [] k status due did is

  built_full : (status : Status) → Built limit w s d k status → IsFullOver (IsBook w.kind s) limit w d → IsFull status ⊎ IsHindered status
  built_full ReadFault did is = inr tt
  built_full (BookRefused f) did is = absurd (is_book w.kind s (λ b. IsFound limit d b (λ K. NoneFit limit d (IsPlanned w b K))) f is did.0)
  built_full status did is = full_due limit d (IsBook w.kind s) (Holds w.kind s) (over_one w.kind s) w [] k status did is

-- ---- a generated book

-- it is one book
one_made : (w : Asked) (P Q : Book → Type 0) → Makes w P → Makes w Q → (b : Book) × P b × Q b
one_made w P Q one other = (one.0, one.2, subst Q (one_generated w.seed w.count other.0 one.0 other.1 one.1) other.2)

made_due : (limit : ℕ) (w : Asked) (d : OverDisk) (k : OverSink) (status due : Status) → Generated limit w d k status → IsGenerateDue limit w d due → (status ≡ due) ⊎ IsHindered status
made_due limit w d k status due did is = over_due limit d (Makes w) (Makes w) (one_made w) (for_last w) (front_of w) k status due did is

-- ---- a clearing

module _ (limit : ℕ) (d : OverDisk) (k : OverSink) where
  abbrev Fits : AnyKept → Type 0
  Fits K = AllFit limit d (AreClearing K)

  cleaned_due : (status due : Status) → Cleaned limit d k status → IsCleanDue limit d due → (status ≡ due) ⊎ IsHindered status
  cleaned_due ReadFault due did is = inr tt
  cleaned_due WriteFault due did is = inr tt
  cleaned_due DiskFault due did is = inr tt
  cleaned_due NoMemory due did is = inr tt
  cleaned_due (Usage fault) due did is = absurd did
  cleaned_due (BookRefused fault) due did is = absurd did
  cleaned_due (BuildRefused reason) due did is = absurd did
  cleaned_due ScriptTooLong due did is = absurd did
  cleaned_due status ScriptTooLong did is = absurd is
  cleaned_due status (Usage fault) did is = absurd is
  cleaned_due status (BookRefused fault) did is = absurd is
  cleaned_due status (BuildRefused reason) did is = absurd is
  cleaned_due status ReadFault did is = absurd is
  cleaned_due status WriteFault did is = absurd is
  cleaned_due status DiskFault did is = absurd is
  cleaned_due status NoMemory did is = absurd is
  cleaned_due Done Done did is = inl refl
  cleaned_due Done (BadState at) did is = absurd (found_or_bad limit d (Clears limit d k TakesAll) at is did)
  cleaned_due Done (StateFull n m) did is =
      let at = found_one limit d (λ K. AllOver limit d n m (AreClearing K)) (Clears limit d k TakesAll) is did in
      absurd (no_room limit d (AreClearing at.0) at.0 (at.3.batch ∷ []) (at.3.batch, at.3.clearing, refl) is.0 (none_fit limit d (AreClearing at.0) n m at.2) at.3.put)
  cleaned_due (BadState at) Done did is = absurd (kept_or_bad limit d Fits at is did.0)
  cleaned_due (BadState at) (BadState offset) did is = inl (bad_one limit d offset at is did.0)
  cleaned_due (BadState at) (StateFull n m) did is = absurd (kept_or_bad limit d (λ K. AllOver limit d n m (AreClearing K)) at is did.0)
  cleaned_due (StateFull n m) Done did is =
      let at = found_one limit d Fits (ClearsTooMuch limit d n m) is did.0 in
      let clears = at.3.clears_not in
      absurd (all_fit limit d (AreClearing at.0) at.0 (clears.batch ∷ []) (clears.batch, clears.clearing, refl) is.0 at.2 n m clears.stopped)
  cleaned_due (StateFull n m) (BadState at) did is = absurd (found_or_bad limit d (ClearsTooMuch limit d n m) at is did.0)
  cleaned_due (StateFull n m) (StateFull needed most) did is =
      let at = found_one limit d (λ K. AllOver limit d needed most (AreClearing K)) (ClearsTooMuch limit d n m) is did.0 in
      let clears = at.3.clears_not in
      inl (over_same limit d (AreClearing at.0) at.0 (clears.batch ∷ []) (clears.batch, clears.clearing, refl) is.0 needed most n m at.2 clears.stopped at.3.most_is)

-- ---- an explanation

module _ (limit : ℕ) (w : Asked) (s : OverSource) (d : OverDisk) (k : OverSink) where
  abbrev Seen : Book → Type 0
  Seen b = IsFound limit d b (λ K. Unit {0})

  module _ (X : Book → Type 0) (is : IsBook w.kind s (λ b. X b × Seen b)) where
    seen_none : (fault : BookFault) → Refuses w.kind s fault → ⊥
    seen_none fault refuses = is_book w.kind s (λ b. X b × Seen b) fault is refuses

    seen_bad : (offset : ℕ) → IsBad limit d offset → ⊥
    seen_bad offset bad = kept_or_bad limit d (λ K. (H : List Book) × IsSoundAny K H × HasDistinctDigests (H ++ is.1 ∷ []) × Unit {0}) offset is.3.1 bad

    seen_with : (Q : Book → AnyKept → Type 0) → Holds w.kind s (λ b. Found limit d (λ K. Under K b (Q b K))) → (b : Book) × X b × ((K : AnyKept) × Q b K)
    seen_with Q did =
        let m = meet limit d (IsBook w.kind s) (Holds w.kind s) (over_one w.kind s) (λ b. X b × Seen b) X (λ b K. Unit {0}) (λ b K. Under K b (Q b K)) (λ b part. part) is did in
        (m.book, m.first, (m.kept, m.did m.history m.sound m.distinct))

  explained : Holds w.kind s (λ b. Found limit d (Explains w k TakesAll b)) → Holds w.kind s (λ b. Found limit d (λ K. Under K b (AllClean b w.targets)))
  explained did = let found = did.4 in (did.0, did.1, did.2, did.3, (found.0, found.1, (λ H sound distinct. (found.2.whys H sound distinct).0)))

  told_due : (status due : Status) → Explained limit w s d k status → IsExplainDue limit w s d due → (status ≡ due) ⊎ IsHindered status
  told_due ReadFault due did is = inr tt
  told_due WriteFault due did is = inr tt
  told_due DiskFault due did is = inr tt
  told_due NoMemory due did is = inr tt
  told_due (Usage fault) due did is = absurd did.0
  told_due (StateFull n m) due did is = absurd did.0
  told_due ScriptTooLong due did is = absurd did.0
  told_due status (Usage fault) did is = absurd is
  told_due status (StateFull n m) did is = absurd is
  told_due status ScriptTooLong did is = absurd is
  told_due status ReadFault did is = absurd is
  told_due status WriteFault did is = absurd is
  told_due status DiskFault did is = absurd is
  told_due status NoMemory did is = absurd is
  told_due Done Done did is = inl refl
  told_due Done (BookRefused f) did is = absurd (is_none w.kind s (λ b. Found limit d (Explains w k TakesAll b)) f is.0 is.1 did)
  told_due Done (BuildRefused r) did is =
      let at = seen_with (λ b. IsReason b w.targets r) is (λ b K. AllClean b w.targets) (explained did) in
      absurd (no_reason at.0 w.targets r at.1 at.2.1)
  told_due Done (BadState at) did is = absurd (found_or_bad limit d (Explains w k TakesAll did.2) at is.3 did.4)
  told_due (BookRefused f) Done did is = absurd (seen_none (λ b. AllClean b w.targets) is f did.0.0)
  told_due (BookRefused f) (BookRefused g) did is = inl (ap BookRefused (one_fault w.kind s f g is.0 did.0.0 is.1))
  told_due (BookRefused f) (BuildRefused r) did is = absurd (seen_none (λ b. IsReason b w.targets r) is f did.0.0)
  told_due (BookRefused f) (BadState at) did is = absurd (is_book w.kind s (λ b. IsBadNow limit d at) f is did.0.0)
  told_due (BuildRefused r) Done did is =
      let at = seen_with (λ b. AllClean b w.targets) is (λ b K. IsReason b w.targets r) did.0 in
      absurd (no_reason at.0 w.targets r at.2.1 at.1)
  told_due (BuildRefused r) (BookRefused f) did is = absurd (is_none w.kind s (λ b. Found limit d (λ K. Under K b (IsReason b w.targets r))) f is.0 is.1 did.0)
  told_due (BuildRefused r) (BuildRefused q) did is =
      let at = seen_with (λ b. IsReason b w.targets q) is (λ b K. IsReason b w.targets r) did.0 in
      inl (ap BuildRefused (one_reason at.0 w.targets r q at.2.1 at.1))
  told_due (BuildRefused r) (BadState at) did is = absurd (found_or_bad limit d (λ K. Under K did.0.2 (IsReason did.0.2 w.targets r)) at is.3 did.0.4)
  told_due (BadState at) Done did is = absurd (seen_bad (λ b. AllClean b w.targets) is at did.0.1)
  told_due (BadState at) (BookRefused f) did is = absurd (is_none w.kind s (λ b. Unit {0}) f is.0 is.1 did.0.0)
  told_due (BadState at) (BuildRefused r) did is = absurd (seen_bad (λ b. IsReason b w.targets r) is at did.0.1)
  told_due (BadState at) (BadState offset) did is = inl (bad_one limit d offset at is.3 did.0.1)

-- ---- a session

module _ (limit : ℕ) (w : Asked) (s c : OverSource) (d : OverDisk) (k : OverSink) where
  abbrev Sittable : Book → Type 0
  Sittable b = c.tells × (length c.old.left ≤ 67108864) × IsKept limit d (LinesFit limit w c d b)

  lacking_due : (status due : Status) → Lacks limit w s d status → IsSessionDue limit w s c d due → (status ≡ due) ⊎ IsHindered status
  lacking_due ReadFault due did is = inr tt
  lacking_due DiskFault due did is = inr tt
  lacking_due NoMemory due did is = inr tt
  lacking_due WriteFault due did is = absurd did
  lacking_due Done due did is = absurd did
  lacking_due (Usage fault) due did is = absurd did
  lacking_due (BuildRefused r) due did is = absurd did
  lacking_due (StateFull n m) due did is = absurd did
  lacking_due ScriptTooLong due did is = absurd did
  lacking_due status (Usage fault) did is = absurd is
  lacking_due status (BuildRefused r) did is = absurd is
  lacking_due status (StateFull n m) did is = absurd is
  lacking_due status ScriptTooLong did is = absurd is
  lacking_due status ReadFault did is = absurd is
  lacking_due status WriteFault did is = absurd is
  lacking_due status DiskFault did is = absurd is
  lacking_due status NoMemory did is = absurd is
  lacking_due (BookRefused f) Done did is = absurd (is_book w.kind s Sittable f is did.0)
  lacking_due (BookRefused f) (BookRefused g) did is = inl (ap BookRefused (one_fault w.kind s f g is.0 did.0 is.1))
  lacking_due (BookRefused f) (BadState at) did is = absurd (is_book w.kind s (λ b. IsBadNow limit d at) f is did.0)
  lacking_due (BadState at) Done did is = absurd (kept_or_bad limit d (LinesFit limit w c d is.1) at is.3.2 did.1)
  lacking_due (BadState at) (BookRefused f) did is = absurd (is_none w.kind s (λ b. Unit {0}) f is.0 is.1 did.0)
  lacking_due (BadState at) (BadState offset) did is = inl (bad_one limit d offset at is.3 did.1)

  -- a session whose lines all have room isn't stopped for want of it, nor is its script too long
  sat_within : (end : Result (Unit {0}) SessionEnd) → ComesTo limit w s c d k end → IsBook w.kind s Sittable → IsWithin end
  sat_within end did is =
      let there = over_one w.kind s Sittable (λ b. Found limit d (Carries limit w c d k end b)) is did in
      let at = found_one limit d (LinesFit limit w c d there.0) (Carries limit w c d k end there.0) there.1.2 there.2 in
      session_within d.tells c.tells k.tells at.3.first at.3.last c.old c.new k.old k.new 67108864 end at.3.goes there.1.0 there.1.1 (at.2 at.3.first at.3.begins)

  -- what else may stop it is want of memory, or a device
  done_or_hindered : (end : Result (Unit {0}) SessionEnd) → IsWithin end → (status_of end ≡ Done) ⊎ IsHindered (status_of end)
  done_or_hindered (Ok done) within = inl refl
  done_or_hindered (Err session.ReadFault) within = inr tt
  done_or_hindered (Err session.WriteFault) within = inr tt
  done_or_hindered (Err session.NoMemory) within = inr tt
  done_or_hindered (Err session.TooLong) within = absurd within
  done_or_hindered (Err (session.Machine line.DiskFault)) within = inr tt
  done_or_hindered (Err (session.Machine line.NoMemory)) within = inr tt
  done_or_hindered (Err (session.Machine (line.StateFull n m))) within = absurd within

  begun_due : (end : Result (Unit {0}) SessionEnd) (due : Status) → ComesTo limit w s c d k end → IsSessionDue limit w s c d due → (status_of end ≡ due) ⊎ IsHindered (status_of end)
  begun_due end Done did is = done_or_hindered end (sat_within end did is)
  begun_due end (BookRefused f) did is = absurd (is_none w.kind s (λ b. Found limit d (Carries limit w c d k end b)) f is.0 is.1 did)
  begun_due end (BadState at) did is = absurd (found_or_bad limit d (Carries limit w c d k end did.2) at is.3 did.4)
  begun_due end (Usage fault) did is = absurd is
  begun_due end (BuildRefused r) did is = absurd is
  begun_due end (StateFull n m) did is = absurd is
  begun_due end ScriptTooLong did is = absurd is
  begun_due end ReadFault did is = absurd is
  begun_due end WriteFault did is = absurd is
  begun_due end DiskFault did is = absurd is
  begun_due end NoMemory did is = absurd is

  sat_due : (status due : Status) → Sat limit w s c d k status → IsSessionDue limit w s c d due → (status ≡ due) ⊎ IsHindered status
  sat_due status due (inl did) is = lacking_due status due did.0 is
  sat_due status due (inr (end, told, did)) is = subst (λ (x : Status). (x ≡ due) ⊎ IsHindered x) (sym told) (begun_due end due did is)

-- ---- a run

module _ (limit : ℕ) (words : List (List ℕ)) (s c : OverSource) (d : OverDisk) (k : OverSink) where
  by_command : (to : Command) (w : Asked) (status due : Status) → Does to limit w s c d k status → IsDueFor to limit w s c d due → (status ≡ due) ⊎ IsHindered status
  by_command command.Build w status due did is = built_due limit w s d k status due did is
  by_command command.Session w status due did is = sat_due limit w s c d k status due did is
  by_command command.Explain w status due did is = told_due limit w s d k status due did.0 is
  by_command command.Clean w status due did is = cleaned_due limit d k status due did.1 is
  by_command command.Generate w status due did is = made_due limit w d k status due did.1 is

  asked_due : (status due : Status) → Asks words (λ w. Does w.command limit w s c d k status) → Asks words (λ w. IsDueFor w.command limit w s c d due) → (status ≡ due) ⊎ IsHindered status
  asked_due status due did is =
      let same : did.0 ≡ is.0 = one_meant words did.0 is.0 did.1 is.1 in
      by_command is.0.command is.0 status due (subst (λ (w : Asked). Does w.command limit w s c d k status) same did.2) is.2

  full_by : (to : Command) (w : Asked) (status : Status) → Does to limit w s c d k status → IsFullFor to limit s d w → IsFull status ⊎ IsHindered status
  full_by command.Build w status did is = built_full limit w s d k status did is
  full_by command.Generate w status did is = full_due limit d (Makes w) (Makes w) (one_made w) (for_last w) (front_of w) k status did.1 is
  full_by command.Session w status did is = absurd is
  full_by command.Explain w status did is = absurd is
  full_by command.Clean w status did is = absurd is

  asked_full : (status : Status) → Asks words (λ w. Does w.command limit w s c d k status) → IsFullDue limit words s d → IsFull status ⊎ IsHindered status
  asked_full status did is =
      let same : did.0 ≡ is.0 = one_meant words did.0 is.0 did.1 is.1 in
      full_by is.0.command is.0 status (subst (λ (w : Asked). Does w.command limit w s c d k status) same did.2) is.2

  pub comes_full : (status : Status) → Ran limit words s c d k status → IsFullDue limit words s d → IsFull status ⊎ IsHindered status
  comes_full NoMemory ran is = inr tt
  comes_full (Usage f) ran is = let e = ran.0 in let g = is.1 in cc
  comes_full status ran is = asked_full status ran is

  pub comes : (status due : Status) → Ran limit words s c d k status → IsDue limit words s c d due → (status ≡ due) ⊎ IsHindered status
  comes NoMemory due ran is = inr tt
  comes (Usage f) (Usage g) ran is = inl (let same : f ≡ g = (let e = ran.0 in cc) in ap Usage same)
  comes (Usage f) due ran is = let e = ran.0 in let g = is.1 in cc
  comes status (Usage g) ran is = let e = ran.1 in cc
  comes status due ran is = asked_due status due ran is
