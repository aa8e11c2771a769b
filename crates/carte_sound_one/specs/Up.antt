-- What becomes of what was kept in version 1.
use Rattle.std.specs.Prelude.{List, [], map, option_map, if◌then◌else◌}
use Rattle.carte_book.specs.Book.{Book}
use Rattle.carte_book.specs.Digest.{rules_digest_of}
use Rattle.carte_book.specs.Task.{task_now}
use Rattle.carte_record.specs.Kept.{SomeKept, nothing_kept}
use Rattle.carte_record.specs.declared.entry.Entry.{Entry}
use Rattle.carte_record.specs.declared.trace.Trace.{Trace}
use Rattle.carte_record.specs.declared.way.Way.{Way}
use Rattle.carte_record.specs.declared.way.Way.TheVariants.{Verifying, Constructive, Deep}
use Rattle.carte_record.specs.Ways.{TraceBy}
use Rattle.carte_record_one.specs.Kept.{SomeKeptOne}
use Rattle.carte_record_one.specs.declared.entry.EntryOne.{EntryOne}
use Rattle.carte_record_one.specs.declared.trace.TraceOne.{TraceOne}
use Rattle.carte_sound.specs.Begun.{is_digest}
use Rattle.carte_sound.specs.True.{or_none}

-- an entry and a trace with the task that their key has in the book
abbrev pub raised_entry : Book → EntryOne → Entry
raised_entry b e = record { key = e.key; task = or_none (task_now b e.key); result = e.result; needs = e.needs; stale = e.stale; shallow = e.shallow }

abbrev pub raised_trace : Book → TraceOne → Trace
raised_trace b t = record { key = t.key; task = or_none (task_now b t.key); links = t.links; result = t.result }

-- of deep traces, which named no rules, none is kept
abbrev pub raised_traces : (w : Way) → Book → List TraceOne → List (TraceBy w)
raised_traces Verifying b ts = map (raised_trace b) ts
raised_traces Constructive b ts = map (raised_trace b) ts
raised_traces Deep b ts = []

-- all of it so
abbrev pub raised : SomeKeptOne → Book → SomeKept
raised K b = record {
  seen = K.seen;
  entries = λ k. option_map (raised_entry b) (K.entries k);
  traces = λ w k. raised_traces w b (K.traces w k);
  chain = K.chain;
  stored = K.stored;
}

-- where the kept rules are those of the book, and else nothing
abbrev pub up : SomeKeptOne → Book → SomeKept
up K b = if is_digest K.rules (rules_digest_of b) then raised K b else nothing_kept
