-- The spelling of a batch of kind 3 is one.
use Rattle.std.proofs.Common.{◌≡◌, ℕ, List, [], ◌++◌, refl, ap, sym, ◌∙◌, Option, Some, None}
use Rattle.carte_value.specs.Spelling.{spelling, IsValue}
use Rattle.carte_codec.specs.Spellings.{OneSpelling}
use Rattle.carte_codec.specs.Parts.{spelled_pair, FitsPair, spelled_option, FitsOption, spelled_list, FitsList, spelled_link, FitsLink}
use Rattle.carte_codec.specs.Laws.{pair_one, option_one, list_one, as_one}
use Rattle.carte_record.specs.declared.codec.three.KindThree.{KindThree}
use Rattle.carte_record.specs.declared.trace.Trace.{Trace}
use Rattle.carte_record.specs.declared.batch.Batch.{Batch}
use Rattle.carte_record.specs.Bodies.{spelled_names, FitsNames, spelled_start, FitsStart, spelled_entry, FitsEntry, spelled_trace, FitsTrace}
use Rattle.carte_record.specs.BodyLaws.{Front, front_of, front_one, names_one, trace_one}
use Rattle.carte_record.specs.Three.{kind_three, spelled_kind_three, spelled_three, FitsThree, OneBodyThree}

pub kind_three_one : OneSpelling spelled_kind_three (λ k. Unit {0})
kind_three_one = record { one = λ j k r s is is' same. (refl, cc) }

abbrev pub BackThree : Type 0
BackThree = List Trace × (List Trace × (List Trace × Option (List (List ℕ))))

pub back_three_one : OneSpelling (spelled_pair (spelled_list spelled_trace) (spelled_pair (spelled_list spelled_trace) (spelled_pair (spelled_list spelled_trace) (spelled_option spelled_names)))) (FitsPair (FitsList FitsTrace) (FitsPair (FitsList FitsTrace) (FitsPair (FitsList FitsTrace) (FitsOption FitsNames))))
back_three_one = pair_one (list_one trace_one) (pair_one (list_one trace_one) (pair_one (list_one trace_one) (option_one names_one)))

abbrev pub PartsThree : Type 0
PartsThree = KindThree × (Front × BackThree)

-- as they are spelled, one after the other
abbrev pub spelled_parts_three : PartsThree → List ℕ
spelled_parts_three = spelled_pair spelled_kind_three (spelled_pair (spelled_pair spelled_start (spelled_pair (spelled_list spelling) (spelled_pair spelled_names (spelled_pair (spelled_list spelled_link) (spelled_pair (spelled_list spelled_entry) spelled_names))))) (spelled_pair (spelled_list spelled_trace) (spelled_pair (spelled_list spelled_trace) (spelled_pair (spelled_list spelled_trace) (spelled_option spelled_names)))))

abbrev pub FitsPartsThree : PartsThree → Type 0
FitsPartsThree = FitsPair (λ k. Unit {0}) (FitsPair (FitsPair FitsStart (FitsPair (FitsList IsValue) (FitsPair FitsNames (FitsPair (FitsList FitsLink) (FitsPair (FitsList FitsEntry) FitsNames))))) (FitsPair (FitsList FitsTrace) (FitsPair (FitsList FitsTrace) (FitsPair (FitsList FitsTrace) (FitsOption FitsNames)))))

-- the parts of a batch with these deep traces, and the batch that is read of parts, without them
abbrev pub three_parts : Batch → List Trace → PartsThree
three_parts b ds = (kind_three, (front_of b, (b.verifying, (b.constructive, (ds, b.chain)))))

abbrev pub batch_three : PartsThree → Batch
batch_three p = record {
  start = p.1.0.0;
  values = p.1.0.1.0;
  gone = p.1.0.1.1.0;
  seen = p.1.0.1.1.1.0;
  entries = p.1.0.1.1.1.1.0;
  stale = p.1.0.1.1.1.1.1;
  verifying = p.1.1.0;
  constructive = p.1.1.1.0;
  deep = [];
  chain = p.1.1.1.1.1;
}

-- the deep traces among them
abbrev pub deep_in : PartsThree → List Trace
deep_in p = p.1.1.1.1.0

-- what was read, where nothing is left behind it
abbrev pub IsWholeThree : PartsThree → List ℕ → Option Batch → Type 0
IsWholeThree p rest (Some b) = (b ≡ batch_three p) × (rest ≡ [])
IsWholeThree p rest None = ¬ (rest ≡ [])

-- a batch and deep traces
abbrev pub WithDeep : Type 0
WithDeep = Batch × List Trace

abbrev pub three_of : PartsThree → WithDeep
three_of p = (batch_three p, deep_in p)

-- of batches that have no deep traces of their own
abbrev pub FitsBare : WithDeep → Type 0
FitsBare x = (x.0.deep ≡ []) × FitsThree x.0 x.1

parts_back : (x : WithDeep) → x.0.deep ≡ [] → three_of (three_parts x.0 x.1) ≡ x
parts_back (b, ds) none = ap (λ deep. let c : WithDeep = (record b { deep = deep }, ds) in c) (sym none)

pub three_one : OneSpelling (λ (x : WithDeep). spelled_three x.0 x.1) FitsBare
three_one = as_one (λ (x : WithDeep). three_parts x.0 x.1) three_of FitsBare (λ x fit. ((tt, fit.1), parts_back x fit.0)) (pair_one kind_three_one (pair_one front_one back_three_one))

pub one_body_three : OneBodyThree
one_body_three b c body is is' =
    let same : spelled_three b is.deep ++ [] ≡ spelled_three c is'.deep ++ [] = ap (λ xs. xs ++ []) (sym is.bytes ∙ is'.bytes) in
    ap (λ (x : WithDeep). x.0) (three_one.one (b, is.deep) (c, is'.deep) [] [] (is.none, is.fits) (is'.none, is'.fits) same).0
