-- The spellings of the parts of a batch are one, and so is a batch's.
use Rattle.std.proofs.Common.{◌≡◌, ℕ, Bool, false, List, [], ◌++◌, refl, ap, sym, ◌∙◌, Option}
use Rattle.carte_value.specs.declared.digest.Digest.{Digest}
use Rattle.carte_value.specs.declared.link.Link.{Link}
use Rattle.carte_value.specs.declared.value.Value.{Value}
use Rattle.carte_codec.specs.Spellings.{OneSpelling}
use Rattle.carte_value.specs.Spelling.{spelling, IsValue}
use Rattle.carte_codec.specs.Parts.{spelled_pair, FitsPair, spelled_option, FitsOption, spelled_list, FitsList, spelled_link, FitsLink}
use Rattle.carte_codec.specs.Laws.{name_one, digest_one, bool_one, value_one, pair_one, option_one, list_one, link_one, as_one}
use Rattle.carte_record.specs.declared.codec.batch.Kind.{Kind}
use Rattle.carte_record.specs.declared.start.Start.{Start}
use Rattle.carte_record.specs.declared.start.Start.TheVariants.{GoOn, Cleared}
use Rattle.carte_record.specs.declared.entry.Entry.{Entry}
use Rattle.carte_record.specs.declared.trace.Trace.{Trace}
use Rattle.carte_record.specs.declared.deep_trace.DeepTrace.{DeepTrace}
use Rattle.carte_record.specs.declared.batch.Batch.{Batch}
use Rattle.carte_record.specs.Bodies.{spelled_names, FitsNames, spelled_start, FitsStart, spelled_entry, FitsEntry, spelled_trace, FitsTrace, spelled_deep, FitsDeep, spelled_kind, the_kind, spelled_batch, FitsBatch, OneBody}

starts_same : (v w : Start) (r s : List ℕ) → FitsStart v → FitsStart w → spelled_start v ++ r ≡ spelled_start w ++ s → (v ≡ w) × (r ≡ s)
starts_same GoOn GoOn r s is is' same = (refl, cc)
starts_same Cleared Cleared r s is is' same = (refl, cc)
starts_same v w r s is is' same = let no : ⊥ = cc in absurd no

pub start_one : OneSpelling spelled_start FitsStart
start_one = record { one = starts_same }

pub names_one : OneSpelling spelled_names FitsNames
names_one = list_one name_one

abbrev pub EntryParts : Type 0
EntryParts = List ℕ × (Digest × (Digest × (Bool × List (List ℕ))))

abbrev pub entry_parts : Entry → EntryParts
entry_parts e = (e.key, (e.task, (e.result, (e.shallow, e.needs))))

abbrev pub entry_of : EntryParts → Entry
entry_of p = record { key = p.0; task = p.1.0; result = p.1.1.0; needs = p.1.1.1.1; stale = false; shallow = p.1.1.1.0 }

pub entry_one : OneSpelling spelled_entry FitsEntry
entry_one = as_one entry_parts entry_of FitsEntry (λ e fit. ((fit.0, (fit.1, (fit.2, (tt, fit.3)))), ap (λ b. let f : Entry = record e { stale = b } in f) (sym fit.4))) (pair_one name_one (pair_one digest_one (pair_one digest_one (pair_one bool_one names_one))))

abbrev pub TraceParts : Type 0
TraceParts = List ℕ × (Digest × (List Link × Digest))

abbrev pub trace_parts : Trace → TraceParts
trace_parts t = (t.key, (t.task, (t.links, t.result)))

abbrev pub trace_of : TraceParts → Trace
trace_of p = record { key = p.0; task = p.1.0; links = p.1.1.0; result = p.1.1.1 }

pub trace_one : OneSpelling spelled_trace FitsTrace
trace_one = as_one trace_parts trace_of FitsTrace (λ t fit. ((fit.0, (fit.1, (fit.2, fit.3))), refl)) (pair_one name_one (pair_one digest_one (pair_one (list_one link_one) digest_one)))

abbrev pub DeepParts : Type 0
DeepParts = List ℕ × (List Link × (List Link × Digest))

abbrev pub deep_parts : DeepTrace → DeepParts
deep_parts t = (t.key, (t.tasks, (t.links, t.result)))

abbrev pub deep_of : DeepParts → DeepTrace
deep_of p = record { key = p.0; tasks = p.1.0; links = p.1.1.0; result = p.1.1.1 }

pub deep_one : OneSpelling spelled_deep FitsDeep
deep_one = as_one deep_parts deep_of FitsDeep (λ t fit. ((fit.0, (fit.1, (fit.2, fit.3))), refl)) (pair_one name_one (pair_one (list_one link_one) (pair_one (list_one link_one) digest_one)))

-- the kind of a body has one spelling, and no value
pub kind_one : OneSpelling spelled_kind (λ k. Unit {0})
kind_one = record { one = λ j k r s is is' same. (refl, cc) }

abbrev pub Front : Type 0
Front = Start × (List Value × (List (List ℕ) × (List Link × (List Entry × List (List ℕ)))))

abbrev pub front_of : Batch → Front
front_of b = (b.start, (b.values, (b.gone, (b.seen, (b.entries, b.stale)))))

pub front_one : OneSpelling (spelled_pair spelled_start (spelled_pair (spelled_list spelling) (spelled_pair spelled_names (spelled_pair (spelled_list spelled_link) (spelled_pair (spelled_list spelled_entry) spelled_names))))) (FitsPair FitsStart (FitsPair (FitsList IsValue) (FitsPair FitsNames (FitsPair (FitsList FitsLink) (FitsPair (FitsList FitsEntry) FitsNames)))))
front_one = pair_one start_one (pair_one (list_one value_one) (pair_one names_one (pair_one (list_one link_one) (pair_one (list_one entry_one) names_one))))

abbrev pub Back : Type 0
Back = List Trace × (List Trace × (List DeepTrace × Option (List (List ℕ))))

abbrev pub back_of : Batch → Back
back_of b = (b.verifying, (b.constructive, (b.deep, b.chain)))

pub back_one : OneSpelling (spelled_pair (spelled_list spelled_trace) (spelled_pair (spelled_list spelled_trace) (spelled_pair (spelled_list spelled_deep) (spelled_option spelled_names)))) (FitsPair (FitsList FitsTrace) (FitsPair (FitsList FitsTrace) (FitsPair (FitsList FitsDeep) (FitsOption FitsNames))))
back_one = pair_one (list_one trace_one) (pair_one (list_one trace_one) (pair_one (list_one deep_one) (option_one names_one)))

abbrev pub BatchParts : Type 0
BatchParts = Kind × (Front × Back)

abbrev pub batch_parts : Batch → BatchParts
batch_parts b = (the_kind, (front_of b, back_of b))

abbrev pub batch_of : BatchParts → Batch
batch_of p = record {
  start = p.1.0.0;
  values = p.1.0.1.0;
  gone = p.1.0.1.1.0;
  seen = p.1.0.1.1.1.0;
  entries = p.1.0.1.1.1.1.0;
  stale = p.1.0.1.1.1.1.1;
  verifying = p.1.1.0;
  constructive = p.1.1.1.0;
  deep = p.1.1.1.1.0;
  chain = p.1.1.1.1.1;
}

pub batch_one : OneSpelling spelled_batch FitsBatch
batch_one = as_one batch_parts batch_of FitsBatch (λ b fit. ((tt, fit), refl)) (pair_one kind_one (pair_one front_one back_one))

pub one_body : OneBody
one_body b c body is is' =
    let same : spelled_batch b ++ [] ≡ spelled_batch c ++ [] = ap (λ xs. xs ++ []) (sym is.bytes ∙ is'.bytes) in
    (batch_one.one b c [] [] is.fits is'.fits same).0
