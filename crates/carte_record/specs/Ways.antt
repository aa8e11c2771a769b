-- The traces of each kind: deep ones name the rules beneath their key, each with its task, and the others the task of the key alone.
use Rattle.std.specs.Prelude.{ℕ, Bool, List}
use Rattle.carte_value.specs.declared.digest.Digest.{Digest}
use Rattle.carte_value.specs.declared.link.Link.{Link}
use Rattle.carte_record.specs.declared.trace.Trace.{Trace}
use Rattle.carte_record.specs.declared.deep_trace.DeepTrace.{DeepTrace}
use Rattle.carte_record.specs.declared.way.Way.{Way}
use Rattle.carte_record.specs.declared.way.Way.TheVariants.{Verifying, Constructive, Deep}
use Rattle.carte_record.specs.Lookups.{trace_eq, deep_eq}

abbrev pub TraceBy : Way → Type 0
TraceBy Verifying = Trace
TraceBy Constructive = Trace
TraceBy Deep = DeepTrace

abbrev pub key_by : (w : Way) → TraceBy w → List ℕ
key_by Verifying = λ t. t.key
key_by Constructive = λ t. t.key
key_by Deep = λ t. t.key

abbrev pub links_by : (w : Way) → TraceBy w → List Link
links_by Verifying = λ t. t.links
links_by Constructive = λ t. t.links
links_by Deep = λ t. t.links

abbrev pub result_by : (w : Way) → TraceBy w → Digest
result_by Verifying = λ t. t.result
result_by Constructive = λ t. t.result
result_by Deep = λ t. t.result

-- whether two of a kind are equal
abbrev pub eq_by : (w : Way) → TraceBy w → TraceBy w → Bool
eq_by Verifying = trace_eq
eq_by Constructive = trace_eq
eq_by Deep = deep_eq
