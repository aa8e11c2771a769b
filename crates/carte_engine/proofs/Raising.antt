-- What is kept of version 1, and what a build makes of it.
use Rattle.std.proofs.Common.{◌≡◌, ◌&&◌, Bool, true, false, if◌then◌else◌, List, [], ◌∷◌, ◌++◌, is_none, refl, ap, sym, ◌∙◌, inl, inr}
use Rattle.carte_value.specs.Lists.{Has}
use Rattle.carte_book.specs.Book.{Book}
use Rattle.carte_record.specs.declared.batch.Batch.{Batch}
use Rattle.carte_record.specs.declared.start.Start.TheVariants.{Cleared}
use Rattle.carte_record.specs.Empty.{brings_no_key, brings_no_trace, goes_on, is_empty}
use Rattle.carte_record.specs.Folds.{applied, apply}
use Rattle.carte_record.specs.Kept.{SomeKept, nothing_kept}
use Rattle.carte_record_one.specs.Kept.{SomeKeptOne}
use Rattle.carte_sound.specs.Base.{HasDistinctDigests}
use Rattle.carte_sound.specs.Sound.{IsSound}
use Rattle.carte_sound.proofs.Begins.{behind_sound, has_left}
use Rattle.carte_sound.proofs.Emptied.{empty_applied}
use Rattle.carte_sound_one.specs.Sound.{IsSoundOne, StoodOne}
use Rattle.carte_sound_one.specs.Up.{up}
use Rattle.carte_sound_one.proofs.Up.{up_sound}
use Rattle.carte_plan.proofs.Lists.{empty_is}
use Rattle.carte_state.specs.Runs.{BeginAll, applied_to}
use Rattle.carte_state.specs.Versions.{AnyKept, InOne, InTwo, apply_to}
use Rattle.carte_engine.specs.Versions.{IsSoundAny, IsUp, OverFound, kept_for}

-- ---- a history that grows

-- what is kept of version 1 stays sound
longer_one : (K : SomeKeptOne) (H J : List Book) → ((c : Book) → Has H c → Has J c) → IsSoundOne K H → IsSoundOne K J
longer_one K H J into sound = record {
  nothing = sound.nothing;
  traces = λ w k t has. let s = sound.traces w k t has in record { book = s.book; stood = stood s.book s.stood; trace = s.trace; entry = s.entry; kept = s.kept };
  entries = λ k e kept. let s = sound.entries k e kept in record { book = s.book; stood = stood s.book s.stood; entry = s.entry; fresh = s.fresh };
  stored = λ d v is. let s = sound.stored d v is in (s.0, record { book = s.1.book; stood = into s.1.book s.1.stood; name = s.1.name; is_rule = s.1.is_rule; clean = s.1.clean });
  entry_stored = sound.entry_stored;
  trace_stored = sound.trace_stored;
  chain = sound.chain;
  seen = λ i d is. let s = sound.seen i d is in record { book = s.book; stood = stood s.book s.stood; value = s.value; is_input = s.is_input };
}
  where
    stood : (b : Book) → StoodOne H K b → StoodOne J K b
    stood b s = record { stood = into b s.stood; rules = s.rules }

pub sound_behind : (A : AnyKept) (H J : List Book) → IsSoundAny A H → IsSoundAny A (H ++ J)
sound_behind (InOne K) H J sound = longer_one K H (H ++ J) (λ c there. has_left H J c there) sound
sound_behind (InTwo K) H J sound = behind_sound K H J sound

-- what a build finds is sound for the history with its book
pub sound_for : (A : AnyKept) (H : List Book) (b : Book) → IsSoundAny A H → HasDistinctDigests (H ++ b ∷ []) → IsSound (kept_for A b) (H ++ b ∷ [])
sound_for (InOne K) H b sound distinct = up_sound K H b sound distinct
sound_for (InTwo K) H b sound distinct = behind_sound K H (b ∷ []) sound

-- a history with its last book once more has no other book
pub once_more : (H : List Book) (b c : Book) → Has ((H ++ b ∷ []) ++ b ∷ []) c → Has (H ++ b ∷ []) c
once_more [] b c (inl same) = inl same
once_more [] b c (inr later) = later
once_more (d ∷ H) b c (inl same) = inl same
once_more (d ∷ H) b c (inr later) = inr (once_more H b c later)

pub distinct_more : (H : List Book) (b : Book) → HasDistinctDigests (H ++ b ∷ []) → HasDistinctDigests ((H ++ b ∷ []) ++ b ∷ [])
distinct_more H b distinct = record {
  values = λ c d j k v w in_c in_d has also same. distinct.values c d j k v w (once_more H b c in_c) (once_more H b d in_d) has also same;
  rules = λ c d in_c in_d same. distinct.rules c d (once_more H b c in_c) (once_more H b d in_d) same;
  tasks = λ c d j k f g in_c in_d at_c at_d same. distinct.tasks c d j k f g (once_more H b c in_c) (once_more H b d in_d) at_c at_d same;
}

-- ---- batches

-- a batch of version 2
pub apply_two : (K : SomeKept) (B : Batch) → apply_to B (InTwo K) ≡ InTwo (apply B K)
apply_two K B = on (is_empty B) refl
  where
    on : (empty : Bool) → is_empty B ≡ empty → (if empty then InTwo K else InTwo (apply B K)) ≡ InTwo (apply B K)
    on true is = ap InTwo (sym (ap (λ (C : Batch). apply C K) (empty_is B is) ∙ empty_applied K))
    on false is = refl

pub applied_two : (K : SomeKept) (Bs : List Batch) → applied_to (InTwo K) Bs ≡ InTwo (applied K Bs)
applied_two K [] = refl
applied_two K (B ∷ Bs) = ap (λ A. applied_to A Bs) (apply_two K B) ∙ applied_two (apply B K) Bs

-- what begins cleared isn't empty
pub cleared_filled : (B : Batch) → B.start ≡ Cleared → is_empty B ≡ false
cleared_filled B start = ap (λ s. ((goes_on s && is_none B.chain) && brings_no_key B) && brings_no_trace B) start

-- the first one over version 1, and those behind it
pub raised_by : (K : SomeKeptOne) (b : Book) (B : Batch) → IsUp K b B → apply_to B (InOne K) ≡ InTwo (up K b)
raised_by K b B is = ap (λ t. if t then InOne K else InTwo (apply B nothing_kept)) (cleared_filled B is.start) ∙ ap InTwo is.makes

pub applied_behind : (K : SomeKeptOne) (b : Book) (B : Batch) (Bs : List Batch) → IsUp K b B → applied_to (InOne K) (B ∷ Bs) ≡ InTwo (applied (up K b) Bs)
applied_behind K b B Bs is = ap (λ A. applied_to A Bs) (raised_by K b B is) ∙ applied_two (up K b) Bs

-- the first one of those over what a build finds clears what is of version 1
pub begins_all : (P : SomeKept → List Batch → Type 0) (A : AnyKept) (b : Book) (Bs : List Batch) → OverFound P A b Bs → BeginAll A Bs
begins_all P A b [] over = tt
begins_all P (InOne K) b (B ∷ Bs) over = over.0.start
begins_all P (InTwo K) b (B ∷ Bs) over = tt
