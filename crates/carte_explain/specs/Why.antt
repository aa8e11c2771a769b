-- Why a build would run a key, or would not.
use Rattle.std.specs.Prelude.{ℕ, ◌≡◌, true, false, List, [], ◌∷◌, ◌++◌, Option, Some, None, Result, IfOk, unwrap_or}
use Rattle.carte_value.specs.declared.digest.Digest.{Digest}
use Rattle.carte_value.specs.declared.link.Link.{Link}
use Rattle.carte_value.specs.declared.value.Value.{Value}
use Rattle.carte_value.specs.declared.value.Value.TheVariants.{Empty}
use Rattle.carte_value.specs.Lists.{Has}
use Rattle.carte_value.specs.Spelling.{digest_of}
use Rattle.carte_value.specs.Truths.{Among}
use Rattle.carte_book.specs.Book.{Book, input, content}
use Rattle.carte_book.specs.Needs.{IsRule}
use Rattle.carte_book.specs.Reason.{AllClean}
use Rattle.carte_record.specs.declared.entry.Entry.{Entry}
use Rattle.carte_record.specs.declared.trace.Trace.{Trace}
use Rattle.carte_record.specs.declared.way.Way.{Way}
use Rattle.carte_record.specs.declared.way.Way.TheVariants.{Verifying, Constructive, Deep}
use Rattle.carte_record.specs.Kept.{SomeKept}
use Rattle.carte_record.specs.Ways.{TraceBy, links_by}
use Rattle.carte_mark.specs.Reached.{IsOther, IsSeenChanged}
use Rattle.carte_rebuild.specs.Ends.{IsWork}
use Rattle.carte_rebuild.specs.declared.work.Work.{Work}
use Rattle.carte_sound.specs.Base.{HasDistinctDigests}
use Rattle.carte_sound.specs.Begun.{Beginning, IsBeginning, begin}
use Rattle.carte_sound.specs.Held.{How, dirty, tracing, AreLinks, digest_now, IsTasked, IsHeld}
use Rattle.carte_sound.specs.Sound.{IsSound}
use Rattle.carte_sound.specs.Treated.{IsDoneSuspending}
use Rattle.carte_explain.specs.Paths.{EndsIn, IsFirstChangedPath}
use Rattle.carte_explain.specs.declared.why.RebuilderKind.{RebuilderKind}
use Rattle.carte_explain.specs.declared.why.RebuilderKind.TheVariants as kind
use Rattle.carte_explain.specs.declared.why.Why.{Why}
use Rattle.carte_explain.specs.declared.why.Why.TheVariants.{Input, Reusable, NoTrace, RuleChanged, FirstDifference, StoredDiffers, NoEntry, Stale, Shallow, DirtyInput, DirtyRule}

abbrev pub how_of : RebuilderKind → How
how_of kind.Dirty = dirty
how_of kind.Verifying = tracing Verifying
how_of kind.Constructive = tracing Constructive
how_of kind.Deep = tracing Deep

-- a name's present digest: under deep traces a name that is no input has that of the empty value
abbrev pub IsNew : Way → Option Digest → Digest → Type 0
IsNew Verifying now d = now ≡ Some d
IsNew Constructive now d = now ≡ Some d
IsNew Deep now d = d ≡ unwrap_or now (digest_of Empty)

-- the first of these links whose name has another digest now
pub record IsFirstDifference (w : Way) (b : Book) (ls : List Link) (name : List ℕ) (old new : Digest) : Type 0 where
  pub before : List Link
  pub link : Link
  pub behind : List Link
  pub parted : ls ≡ before ++ link ∷ behind
  pub name_is : name ≡ link.name
  pub old_is : old ≡ link.digest
  pub same : AreLinks (digest_now w b) before
  pub differs : ¬ (digest_now w b name ≡ Some old)
  pub now : IsNew w (digest_now w b name) new

-- there are traces, and none is of the present tasks
pub record IsRuleChanged (w : Way) (M : SomeKept) (b : Book) (k : List ℕ) : Type 0 where
  pub trace : TraceBy w
  pub kept : Has (M.traces w k) trace
  pub others : (t : TraceBy w) → Has (M.traces w k) t → ¬ (IsTasked w b k t)

-- no verifying trace of the present task has the present links
abbrev pub NoneMatches : Way → SomeKept → Book → List ℕ → Type 0
NoneMatches Verifying M b k = (t : Trace) → Has (M.traces Verifying k) t → IsTasked Verifying b k t → ¬ (AreLinks (digest_now Verifying b) t.links)
NoneMatches Constructive M b k = Unit {0}
NoneMatches Deep M b k = Unit {0}

-- the newest trace of the present tasks differs there first, and no verifying one matches
pub record IsNewestDifference (w : Way) (M : SomeKept) (b : Book) (k name : List ℕ) (old new : Digest) : Type 0 where
  pub newer : List (TraceBy w)
  pub newest : TraceBy w
  pub older : List (TraceBy w)
  pub traces : M.traces w k ≡ newer ++ newest ∷ older
  pub others : (t : TraceBy w) → Has newer t → ¬ (IsTasked w b k t)
  pub task : IsTasked w b k newest
  pub first : IsFirstDifference w b (links_by w newest) name old new
  pub none : NoneMatches w M b k

-- the links of a verifying trace of the present task match, but its entry has another result
pub record IsOtherResult (M : SomeKept) (b : Book) (k : List ℕ) (stored result : Digest) : Type 0 where
  pub trace : Trace
  pub kept : Has (M.traces Verifying k) trace
  pub task : IsTasked Verifying b k trace
  pub links : AreLinks (digest_now Verifying b) trace.links
  pub entry : Entry
  pub entered : M.entries k ≡ Some entry
  pub stored_is : stored ≡ entry.result
  pub result_is : result ≡ trace.result
  pub differs : ¬ (stored ≡ result)

-- the entry was kept with the mark stale
abbrev pub IsStale : SomeKept → List ℕ → Type 0
IsStale K k = (e : Entry) × (K.entries k ≡ Some e) × (e.stale ≡ true)

-- it was kept with the mark shallow alone
abbrev pub IsShallow : SomeKept → List ℕ → Type 0
IsShallow K k = (e : Entry) × (K.entries k ≡ Some e) × (e.stale ≡ false) × (e.shallow ≡ true)

-- it was kept with neither mark
abbrev pub IsKeptFresh : SomeKept → List ℕ → Type 0
IsKeptFresh K k = (e : Entry) × (K.entries k ≡ Some e) × (e.stale ≡ false) × (e.shallow ≡ false)

-- the build begins with an entry of it
abbrev pub IsEntered : SomeKept → List ℕ → Type 0
IsEntered M k = (e : Entry) × (M.entries k ≡ Some e)

-- over what was kept, K, and what the build begins with, M
abbrev pub IsCause : How → SomeKept → SomeKept → Book → List ℕ → Why → Type 0
IsCause h K M b k Input = (v : Value) × (content b k ≡ Some (input v))
IsCause h K M b k Reusable = IsRule b k × IsHeld h M b k
IsCause (tracing w) K M b k NoTrace = IsRule b k × ¬ (IsHeld (tracing w) M b k) × (M.traces w k ≡ [])
IsCause (tracing w) K M b k RuleChanged = IsRule b k × ¬ (IsHeld (tracing w) M b k) × IsRuleChanged w M b k
IsCause (tracing w) K M b k (FirstDifference name old new) = IsRule b k × ¬ (IsHeld (tracing w) M b k) × IsNewestDifference w M b k name old new
IsCause (tracing Verifying) K M b k (StoredDiffers stored result) = IsRule b k × ¬ (IsHeld (tracing Verifying) M b k) × IsOtherResult M b k stored result
IsCause dirty K M b k NoEntry = IsRule b k × ¬ (IsHeld dirty M b k) × (M.entries k ≡ None)
IsCause dirty K M b k Stale = IsRule b k × ¬ (IsHeld dirty M b k) × IsEntered M k × IsStale K k
IsCause dirty K M b k Shallow = IsRule b k × ¬ (IsHeld dirty M b k) × IsEntered M k × IsShallow K k
IsCause dirty K M b k (DirtyInput path) = IsRule b k × ¬ (IsHeld dirty M b k) × IsEntered M k × IsKeptFresh K k × IsFirstChangedPath K b k path × EndsIn (IsSeenChanged K b) path
IsCause dirty K M b k (DirtyRule path) = IsRule b k × ¬ (IsHeld dirty M b k) × IsEntered M k × IsKeptFresh K k × IsFirstChangedPath K b k path × EndsIn (IsOther K b) path
IsCause h K M b k why = ⊥

-- why a build over what was kept would run the key, or would not
abbrev pub IsWhy : How → SomeKept → Book → List ℕ → Why → Type 0
IsWhy h K b k why = (x : Beginning) × IsBeginning K b x × IsCause h K (begin K x) b k why

-- what is told of a target of such work is why, whatever history what is kept is sound for
abbrev pub Explains : {E : Type 0} → RebuilderKind → SomeKept → Book → Work → List ℕ → Result Why E → Type 0
Explains r K b w k result = (H : List Book) (targets : List (List ℕ)) (x : Beginning) → IsSound K H → HasDistinctDigests (H ++ b ∷ [])
    → IsBeginning K b x → IsWork (how_of r) (begin K x) b (IsDoneSuspending (how_of r) (begin K x) b targets) w
    → AllClean b targets → Among targets k → IfOk result (IsWhy (how_of r) K b k)
