-- What is looked up for a cause.
use Rattle.std.specs.Prelude.{ℕ, ◌≡◌, Bool, true, false, not, ◌&&◌, ◌||◌, List, Option, Some, None, find, is_none, is_some, unwrap_or, if◌then◌else◌}
use Rattle.carte_value.specs.declared.digest.Digest.{Digest}
use Rattle.carte_value.specs.declared.link.Link.{Link}
use Rattle.carte_value.specs.declared.value.Value.TheVariants.{Empty}
use Rattle.carte_value.specs.Spelling.{digest_of}
use Rattle.carte_effect.specs.Jobs.{outcome_of}
use Rattle.carte_book.specs.Book.{Book, Item, input, rule, content}
use Rattle.carte_book.specs.Task.{task_now}
use Rattle.carte_note.specs.declared.finished.Finished.{Finished}
use Rattle.carte_note.specs.Lists.{finished_of}
use Rattle.carte_record.specs.declared.deep_trace.DeepTrace.{DeepTrace}
use Rattle.carte_record.specs.declared.entry.Entry.{Entry}
use Rattle.carte_record.specs.declared.kept.Kept.{Kept}
use Rattle.carte_record.specs.declared.trace.Trace.{Trace}
use Rattle.carte_record.specs.declared.way.Way.{Way}
use Rattle.carte_record.specs.declared.way.Way.TheVariants.{Verifying, Constructive, Deep}
use Rattle.carte_record.specs.Kept.{SomeKept, kept_view}
use Rattle.carte_table.specs.Lookups.{find_last}
use Rattle.carte_record.specs.Lookups.{first_entry, is_trace_of, is_deep_of}
use Rattle.carte_rebuild.specs.Earlier.{is_wanted}
use Rattle.carte_sound.specs.Begun.{is_digest}
use Rattle.carte_sound.specs.Held.{are_so}
use Rattle.carte_explain.specs.Paths.{IsChangedAnswer, end_of, is_seen_changed}
use Rattle.carte_explain.specs.declared.why.RebuilderKind.{RebuilderKind}
use Rattle.carte_explain.specs.declared.why.RebuilderKind.TheVariants as kind
use Rattle.carte_explain.specs.declared.why.Why.{Why}
use Rattle.carte_explain.specs.declared.why.Why.TheVariants.{Reusable, NoTrace, RuleChanged, FirstDifference, StoredDiffers, NoEntry, Stale, Shallow, DirtyInput, DirtyRule}

abbrev pub is_of_needs : Way → Bool
is_of_needs Verifying = true
is_of_needs Constructive = true
is_of_needs Deep = false

abbrev pub digest_made : Option Finished → Option Digest
digest_made None = None
digest_made (Some f) = Some (digest_of (outcome_of f.made).value)

abbrev pub digest_at : Way → Option Item → Option Finished → Option Digest
digest_at w None o = None
digest_at w (Some (input v)) o = Some (digest_of v)
digest_at w (Some (rule e)) o = if is_of_needs w then digest_made o else None

-- the digest that a name has now, as far as the work tells
abbrev pub digest_found : Way → Book → List Finished → List ℕ → Option Digest
digest_found w b fs k = digest_at w (content b k) (finished_of fs k)

abbrev pub is_apart : (List ℕ → Option Digest) → Link → Bool
is_apart now l = not (is_digest (now l.name) l.digest)

-- a trace of the key, where a task is wanted of this task
abbrev pub is_trace_with : List ℕ → Option Digest → Trace → Bool
is_trace_with k wanted t = is_trace_of k t && is_wanted wanted t.task

abbrev pub is_match : (List ℕ → Option Digest) → List ℕ → Digest → Trace → Bool
is_match now k task t = is_trace_with k (Some task) t && is_none (find (is_apart now) t.links)

abbrev pub differing_why : (List ℕ → Option Digest) → Link → Why
differing_why now l = FirstDifference l.name l.digest (unwrap_or (now l.name) (digest_of Empty))

abbrev pub apart_why : (List ℕ → Option Digest) → Option Link → Why
apart_why now None = Reusable
apart_why now (Some l) = differing_why now l

abbrev pub trace_why : (List ℕ → Option Digest) → List Link → Why
trace_why now ls = apart_why now (find (is_apart now) ls)

-- where no trace of the key is of the present tasks, by whether there is one
abbrev pub untold_why : Bool → Why
untold_why true = RuleChanged
untold_why false = NoTrace

-- by the newest trace, and by the newest one of the present tasks
abbrev pub newest_why : {A : Type 0} → (A → List Link) → (List ℕ → Option Digest) → Option A → Option A → Why
newest_why links now any None = untold_why (is_some any)
newest_why links now any (Some t) = trace_why now (links t)

-- by the traces of a list that are of the key
abbrev pub traces_why : Way → List Trace → Book → List Finished → List ℕ → Digest → Why
traces_why w ts b fs k task = newest_why (λ t. t.links) (digest_found w b fs) (find_last (is_trace_with k None) ts) (find_last (is_trace_with k (Some task)) ts)

abbrev pub stored_why : Option Entry → Trace → Why
stored_why None t = NoEntry
stored_why (Some e) t = StoredDiffers e.result t.result

abbrev pub matching_why : Option Trace → Option Entry → Why → Why
matching_why None o why = why
matching_why (Some t) o why = stored_why o t

abbrev pub verifying_why : Kept → Book → List Finished → List ℕ → Digest → Why
verifying_why K b fs k task = matching_why (find (is_match (digest_found Verifying b fs) k task) K.verifying) (first_entry K.entries k) (traces_why Verifying K.verifying b fs k task)

abbrev pub constructive_why : Kept → Book → List Finished → List ℕ → Digest → Why
constructive_why K b fs k task = traces_why Constructive K.constructive b fs k task

-- what is no rule has no task, and no trace either
abbrev pub by_task : (Digest → Why) → Option Digest → Why
by_task why None = NoTrace
by_task why (Some task) = why task

-- a deep trace of the key, where told is asked for one whose rules have their present tasks
abbrev pub is_deep_with : Bool → Book → List ℕ → DeepTrace → Bool
is_deep_with told b k t = is_deep_of k t && (not told || are_so (task_now b) t.tasks)

abbrev pub deep_why : Kept → Book → List Finished → List ℕ → Why
deep_why K b fs k = newest_why (λ t. t.links) (digest_found Deep b fs) (find_last (is_deep_with false b k) K.deep) (find_last (is_deep_with true b k) K.deep)

-- where nothing that the key leads to has changed, which no history brings about, there is nothing to tell
abbrev pub path_why : SomeKept → Book → Option (List (List ℕ)) → Why
path_why K b None = Reusable
path_why K b (Some path) = if is_seen_changed K b (end_of path) then DirtyInput path else DirtyRule path

abbrev pub FindsPath : SomeKept → Book → List ℕ → Why → Type 0
FindsPath K b k why = (o : Option (List (List ℕ))) × IsChangedAnswer K b k o × (why ≡ path_why K b o)

-- by the marks
abbrev pub FindsMark : Bool → Bool → SomeKept → Book → List ℕ → Why → Type 0
FindsMark true shallow K b k why = why ≡ Stale
FindsMark false true K b k why = why ≡ Shallow
FindsMark false false K b k why = FindsPath K b k why

abbrev pub FindsEntry : Option Entry → SomeKept → Book → List ℕ → Why → Type 0
FindsEntry None K b k why = why ≡ NoEntry
FindsEntry (Some e) K b k why = FindsMark e.stale e.shallow K b k why

abbrev pub FindsCause : RebuilderKind → Kept → Book → List Finished → List ℕ → Why → Type 0
FindsCause kind.Dirty K b fs k why = FindsEntry (first_entry K.entries k) (kept_view K) b k why
FindsCause kind.Verifying K b fs k why = why ≡ by_task (verifying_why K b fs k) (task_now b k)
FindsCause kind.Constructive K b fs k why = why ≡ by_task (constructive_why K b fs k) (task_now b k)
FindsCause kind.Deep K b fs k why = why ≡ deep_why K b fs k
