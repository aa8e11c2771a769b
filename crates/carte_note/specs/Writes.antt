-- What one more finished key brings to a batch, read off the lists of what is kept and of the batch.
use Rattle.std.specs.Prelude.{ℕ, Bool, false, not, ◌&&◌, ◌||◌, List, [], ◌∷◌, ◌++◌, Option, Some, None, is_some, map, if◌then◌else◌}
use Rattle.carte_value.specs.declared.digest.Digest.{Digest}
use Rattle.carte_value.specs.declared.link.Link.{Link}
use Rattle.carte_value.specs.declared.value.Value.{Value}
use Rattle.carte_value.specs.Spelling.{digest_of}
use Rattle.carte_effect.specs.Jobs.{outcome_of}
use Rattle.carte_book.specs.Book.{Book}
use Rattle.carte_book.specs.Task.{task_now}
use Rattle.carte_record.specs.declared.batch.Batch.{Batch}
use Rattle.carte_record.specs.declared.deep_trace.DeepTrace.{DeepTrace}
use Rattle.carte_record.specs.declared.entry.Entry.{Entry}
use Rattle.carte_record.specs.declared.kept.Kept.{Kept}
use Rattle.carte_record.specs.declared.trace.Trace.{Trace}
use Rattle.carte_record.specs.declared.way.Way.{Way}
use Rattle.carte_record.specs.declared.way.Way.TheVariants.{Verifying, Constructive, Deep}
use Rattle.carte_record.specs.Kept.{is_fresh}
use Rattle.carte_record.specs.Ways.{TraceBy}
use Rattle.carte_table.specs.Lookups.{first_link, first_value}
use Rattle.carte_record.specs.Lookups.{first_entry}
use Rattle.carte_sound.specs.Begun.{is_digest}
use Rattle.carte_sound.specs.Held.{How, gathers}
use Rattle.carte_sound.specs.Left.{entry_eq, is_way}
use Rattle.carte_sound.specs.Marks.{present}
use Rattle.carte_sound.specs.True.{or_none}
use Rattle.carte_note.specs.declared.finished.Finished.{Finished}
use Rattle.carte_note.specs.Methods.{is_dirty}
use Rattle.carte_note.specs.Right.{key_of, has_run}

-- the links of what the key's entry names: of the inputs beneath it, or those that it was made by
abbrev pub links_noted : How → Finished → List Link
links_noted h f = if gathers h then f.beneath else (outcome_of f.made).links

abbrev pub names_in : List Link → List (List ℕ)
names_in ls = map (λ l. l.name) ls

abbrev pub digest_made : Finished → Digest
digest_made f = digest_of (outcome_of f.made).value

-- the digest of the key's task
abbrev pub task_made : Book → Finished → Digest
task_made b f = or_none (task_now b (key_of f))

-- a trace with this task and the links that the key was made by, and one with the rules and the inputs beneath it
abbrev pub needs_noted : Digest → Finished → Trace
needs_noted t f = record { key = key_of f; task = t; links = (outcome_of f.made).links; result = digest_made f }

abbrev pub deep_noted : Finished → DeepTrace
deep_noted f = record { key = key_of f; tasks = f.tasks; links = f.beneath; result = digest_made f }

-- the trace of each kind
abbrev pub trace_noted : (w : Way) → Digest → Finished → TraceBy w
trace_noted Verifying t f = needs_noted t f
trace_noted Constructive t f = needs_noted t f
trace_noted Deep t f = deep_noted f

abbrev pub entry_noted : How → Digest → Finished → Entry
entry_noted h t f = record { key = key_of f; task = t; result = digest_made f; needs = names_in (links_noted h f); stale = false; shallow = gathers h }

-- a value behind those of the batch, where neither these nor those that are kept have its digest
abbrev pub with_value : List Value → Value → List Value → List Value
with_value kept v vs = if is_some (first_value kept (digest_of v)) || is_some (first_value vs (digest_of v)) then vs else vs ++ v ∷ []

-- of a key that ran
abbrev pub values_noted : List Value → Finished → List Value → List Value
values_noted kept f vs = if has_run f.made then with_value kept (outcome_of f.made).value vs else vs

abbrev pub traces_noted : How → (w : Way) → Book → Finished → List (TraceBy w) → List (TraceBy w)
traces_noted h w b f ts = if has_run f.made && is_way h w then ts ++ trace_noted w (task_made b f) f ∷ [] else ts

-- the batch with the key's trace of this kind
abbrev pub traced : Way → Digest → Finished → Batch → Batch
traced Verifying t f B = record B { verifying = B.verifying ++ needs_noted t f ∷ [] }
traced Constructive t f B = record B { constructive = B.constructive ++ needs_noted t f ∷ [] }
traced Deep t f B = record B { deep = B.deep ++ deep_noted f ∷ [] }

-- an input with its digest behind those of the batch, where the name isn't there yet and isn't kept with this digest
abbrev pub with_seen : Book → List Link → Link → List Link → List Link
with_seen b kept l ls = if is_some (present b l.name) && not (is_some (first_link ls l.name) || is_digest (first_link kept l.name) l.digest) then ls ++ l ∷ [] else ls

abbrev pub all_seen : Book → List Link → List Link → List Link → List Link
all_seen b kept [] ls = ls
all_seen b kept (m ∷ ms) ls = all_seen b kept ms (with_seen b kept m ls)

-- the kept entry stays: under deep traces a fresh one, and always one that is equal
abbrev pub stays_as : How → Option Entry → Entry → Bool
stays_as h None e = false
stays_as h (Some old) e = (gathers h && is_fresh old) || entry_eq old e

-- a held key brings nothing under dirty bits
abbrev pub brings_nothing : How → Finished → Bool
brings_nothing h f = is_dirty h && not (has_run f.made)

abbrev pub stays : How → Kept → Digest → Finished → Bool
stays h K t f = brings_nothing h f || stays_as h (first_entry K.entries (key_of f)) (entry_noted h t f)

abbrev pub seen_noted : How → Book → Kept → Finished → List Link → List Link
seen_noted h b K f ls = if stays h K (task_made b f) f then ls else all_seen b K.seen (links_noted h f) ls

abbrev pub entries_noted : How → Book → Kept → Finished → List Entry → List Entry
entries_noted h b K f es = if stays h K (task_made b f) f then es else es ++ entry_noted h (task_made b f) f ∷ []

-- the batch with the value and the trace of a key that ran
abbrev pub with_run : How → Book → Kept → Finished → Batch → Batch
with_run h b K f B = record B {
  values = values_noted K.values f B.values;
  verifying = traces_noted h Verifying b f B.verifying;
  constructive = traces_noted h Constructive b f B.constructive;
  deep = traces_noted h Deep b f B.deep;
}

-- and with its entry, and the inputs that the entry names
abbrev pub with_entry : How → Book → Kept → Finished → Batch → Batch
with_entry h b K f B = record B { seen = seen_noted h b K f B.seen; entries = entries_noted h b K f B.entries }

-- with all that the key brings
abbrev pub with_finished : How → Book → Kept → Finished → Batch → Batch
with_finished h b K f B = with_entry h b K f (with_run h b K f B)
