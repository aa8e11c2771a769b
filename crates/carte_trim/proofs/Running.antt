-- A run, put together of its parts.
use Rattle.std.proofs.Common.{◌≡◌, ℕ, ◌<◌, ◌≤◌, List, length, Result, Ok, Err, ap, sym, ◌∙◌, subst, inl, inr}
use Rattle.carte_io.specs.Causes.{Rose}
use Rattle.carte_io.specs.Disk.{LeavesOnly, Story}
use Rattle.carte_record.specs.Kept.{SomeKept}
use Rattle.carte_trim.specs.Around.{OverDisk, OverSink, IsUntouched, TakesAll, TakesFront}
use Rattle.carte_trim.specs.New.{IsNew, KeepsEither}
use Rattle.carte_trim.specs.Outcome.{HasRoomFor, IsMade, IsShort, IsSpared, Made, MadeLeaves, Replies, TellsNew, TellsSink}
use Rattle.carte_trim.specs.Parts.{Answers, LengthOr, Makes, RunsOver}
use Rattle.carte_trim.specs.Texts.{reply}
use Rattle.carte_trim.specs.Trimmed.{IsNumberOf, IsTrimmed}
use Rattle.carte_trim.specs.declared.status.Status.{Status}
use Rattle.carte_trim.specs.declared.status.Status.TheVariants.{Done, Usage, WriteFault, StateFault, BadState, Full, NoMemory, NotNew, NewFault, OldState}

untouched : (k : OverSink) → k.new ≡ k.old → IsUntouched k
untouched k same = (ap (λ s. s.taken) same, ap (λ s. s.handed) same, ap (λ s. s.faults) same)

-- ---- the new file

-- what was written keeps this, and then its length was asked for
pub made_length : (limit : ℕ) (L : SomeKept) (d : OverDisk) (between : ℕ) (r : Result ℕ Status) → between ≡ d.failed_before
    → IsMade limit d L → LengthOr d.tells d.new between d.failed r → (d.tells → IsNew d.old → LeavesOnly d.old d.new (KeepsEither limit L)) → Makes limit L d r
made_length limit L d between (Ok bytes) same made length leaves = record { made = (made, length.0, length.1 ∙ same); leaves = leaves }
made_length limit L d between (Err NewFault) same made rose leaves = record { made = subst (λ n. Rose n d.failed) same rose; leaves = leaves }
made_length limit L d between (Err Done) same made never leaves = absurd never
made_length limit L d between (Err Usage) same made never leaves = absurd never
made_length limit L d between (Err WriteFault) same made never leaves = absurd never
made_length limit L d between (Err StateFault) same made never leaves = absurd never
made_length limit L d between (Err (BadState offset)) same made never leaves = absurd never
made_length limit L d between (Err (Full needed most)) same made never leaves = absurd never
made_length limit L d between (Err NoMemory) same made never leaves = absurd never
made_length limit L d between (Err NotNew) same made never leaves = absurd never
made_length limit L d between (Err OldState) same made never leaves = absurd never

-- ---- over what is kept

module _ (limit n : ℕ) (K : SomeKept) (of_bytes : ℕ) (d : OverDisk) (k : OverSink) where
  abbrev Runs : Status → Type 0
  Runs = RunsOver limit n K of_bytes d k

  -- no call wrote, and nothing was said
  pub runs_not : (status : Status) → Made limit n K of_bytes d k status → IsSpared d → TellsNew d status → TellsSink k status → Runs status
  runs_not status made spared new sink = record { made = made; leaves = inl spared; new = new; sink = sink }

  module _ (L : SomeKept) (trimmed : IsTrimmed K n L) (short : IsShort d) where
    leaves_so : (d.tells → IsNew d.old → LeavesOnly d.old d.new (KeepsEither limit L)) → MadeLeaves limit n K d
    leaves_so leaves = inr (short, (L, trimmed, leaves))

    pub runs_unmade : (status : Status) → Makes limit L d (Err status) → k.new ≡ k.old → Runs status
    runs_unmade (Full needed most) makes still = record {
      made = (short, (L, trimmed, makes.made.0), makes.made.1, untouched k still);
      leaves = leaves_so makes.leaves;
      new = makes.made.2;
      sink = ap (λ s. s.faults) still;
    }
    runs_unmade NoMemory makes still = record { made = untouched k still; leaves = leaves_so makes.leaves; new = makes.made; sink = ap (λ s. s.faults) still }
    runs_unmade NewFault makes still = record { made = untouched k still; leaves = leaves_so makes.leaves; new = makes.made; sink = ap (λ s. s.faults) still }
    runs_unmade Done makes still = absurd makes.made
    runs_unmade Usage makes still = absurd makes.made
    runs_unmade WriteFault makes still = absurd makes.made
    runs_unmade StateFault makes still = absurd makes.made
    runs_unmade (BadState offset) makes still = absurd makes.made
    runs_unmade NotNew makes still = absurd makes.made
    runs_unmade OldState makes still = absurd makes.made

    module _ (bytes traces of_traces : ℕ) (makes : Makes limit L d (Ok bytes)) (number : IsNumberOf L traces) (of_number : IsNumberOf K of_traces) where
      replies : (Takes : OverSink → List ℕ → Type 0) → (k.tells → Takes k (reply traces of_traces bytes of_bytes)) → Replies of_bytes d k Takes K L
      replies Takes takes = record {
        traces = traces;
        of_traces = of_traces;
        bytes = bytes;
        traces_are = number;
        of_traces_are = of_number;
        bytes_are = makes.made.1;
        takes = takes;
      }

      pub runs_made : (status : Status) → Answers (reply traces of_traces bytes of_bytes) k status → Runs status
      runs_made status (inl (is, still)) = subst Runs (sym is) (record { made = still; leaves = leaves_so makes.leaves; new = makes.made.2; sink = still.2 })
      runs_made Done (inr prints) = record {
        made = (short, (L, trimmed, (makes.made.0, replies TakesAll prints.0)));
        leaves = leaves_so makes.leaves;
        new = makes.made.2;
        sink = prints.1;
      }
      runs_made WriteFault (inr prints) = record {
        made = (short, (L, trimmed, (makes.made.0, replies TakesFront prints.0)));
        leaves = leaves_so makes.leaves;
        new = makes.made.2;
        sink = prints.1;
      }
      runs_made Usage (inr never) = absurd never
      runs_made StateFault (inr never) = absurd never
      runs_made (BadState offset) (inr never) = absurd never
      runs_made (Full needed most) (inr never) = absurd never
      runs_made NoMemory (inr never) = absurd never
      runs_made NotNew (inr never) = absurd never
      runs_made NewFault (inr never) = absurd never
      runs_made OldState (inr never) = absurd never

-- ---- the same of a disk that was looked at before, and of the very disk

module _ (limit n : ℕ) (K : SomeKept) (of_bytes : ℕ) (d : OverDisk) (old : Story) (before : ℕ) (S : Type 0) (same : d.tells → d.old ≡ old) (faults : d.failed_before ≡ before) (k : OverSink) where
  abbrev e : OverDisk
  e = record d { old = old; failed_before = before; same = S }

  new_too : d.tells → IsNew old → IsNew d.old
  new_too told new = subst IsNew (sym (same told)) new

  spared_too : IsSpared d → IsSpared e
  spared_too spared told = spared told ∙ same told

  short_too : IsShort d → IsShort e
  short_too short told = subst (λ (s : Story). length s.now.reads ≤ 9) (same told) (short told)

  room_too : (L : SomeKept) → HasRoomFor limit d L → HasRoomFor limit e L
  room_too L (inl (none, spared)) = inl (none, spared_too spared)
  room_too L (inr needed) = inr needed

  made_too : (L : SomeKept) → IsMade limit d L → IsMade limit e L
  made_too L is = record { keeps = λ told new. is.keeps told (new_too told new); room = room_too L is.room }

  replies_too : (Takes : OverSink → List ℕ → Type 0) (L : SomeKept) → Replies of_bytes d k Takes K L → Replies of_bytes e k Takes K L
  replies_too Takes L is = record {
    traces = is.traces;
    of_traces = is.of_traces;
    bytes = is.bytes;
    traces_are = is.traces_are;
    of_traces_are = is.of_traces_are;
    bytes_are = is.bytes_are;
    takes = is.takes;
  }

  made_status : (status : Status) → Made limit n K of_bytes d k status → Made limit n K of_bytes e k status
  made_status Done (short, (L, trimmed, (made, replied))) = (short_too short, (L, trimmed, (made_too L made, replies_too TakesAll L replied)))
  made_status WriteFault (short, (L, trimmed, (made, replied))) = (short_too short, (L, trimmed, (made_too L made, replies_too TakesFront L replied)))
  made_status (Full needed most) (short, left, spared, untouched) = (short_too short, left, spared_too spared, untouched)
  made_status NotNew (long, spared, untouched) = (λ told. subst (λ (s : Story). 9 < length s.now.reads) (same told) (long told), spared_too spared, untouched)
  made_status NewFault made = made
  made_status NoMemory made = made
  made_status Usage made = made
  made_status StateFault made = made
  made_status (BadState offset) made = made
  made_status OldState made = made

  tells_status : (status : Status) → TellsNew d status → TellsNew e status
  tells_status NewFault is = subst (λ (m : ℕ). Rose m d.failed) faults is
  tells_status Done is = is ∙ faults
  tells_status WriteFault is = is ∙ faults
  tells_status (Full needed most) is = is ∙ faults
  tells_status NotNew is = is ∙ faults
  tells_status NoMemory is = is ∙ faults
  tells_status Usage is = is ∙ faults
  tells_status StateFault is = is ∙ faults
  tells_status (BadState offset) is = is ∙ faults
  tells_status OldState is = is ∙ faults

  leaves_too : MadeLeaves limit n K d → MadeLeaves limit n K e
  leaves_too (inl spared) = inl (spared_too spared)
  leaves_too (inr (short, (L, trimmed, leaves))) =
      inr (short_too short, (L, trimmed, λ told new. subst (λ (s : Story). LeavesOnly s d.new (KeepsEither limit L)) (same told) (leaves told (new_too told new))))

  pub runs_too : (status : Status) → RunsOver limit n K of_bytes d k status → RunsOver limit n K of_bytes e k status
  runs_too status runs = record { made = made_status status runs.made; leaves = leaves_too runs.leaves; new = tells_status status runs.new; sink = runs.sink }
