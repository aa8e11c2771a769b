-- How a batch grows as keys are noted, also where memory lacks.
use Rattle.std.proofs.Common.{◌≡◌, Bool, true, false, List, [], ◌∷◌, ◌++◌, refl, ◌∙◌, subst, sym, cond}
use Rattle.carte_value.specs.Lists.{Begins}
use Rattle.carte_value.specs.declared.link.Link.{Link}
use Rattle.carte_value.specs.declared.value.Value.{Value}
use Rattle.carte_record.specs.declared.batch.Batch.{Batch}
use Rattle.carte_record.specs.declared.entry.Entry.{Entry}
use Rattle.carte_record.specs.declared.trace.Trace.{Trace}
use Rattle.carte_record.specs.declared.deep_trace.DeepTrace.{DeepTrace}
use Rattle.carte_table.proofs.Steps.{begins_self, begins_on}
use Rattle.carte_note.specs.Grown.{Grown}

-- an item was put there, or it wasn't
pub begins_pushed : {A : Type 0} (xs ys : List A) (x : A) (t : Bool) → ys ≡ cond t (xs ++ x ∷ []) xs → Begins xs ys
begins_pushed xs ys x true is = subst (λ zs. Begins xs zs) (sym is) (x ∷ [], refl)
begins_pushed xs ys x false is = subst (λ zs. Begins xs zs) (sym is) (begins_self xs)

-- other lists in place of these
abbrev pub with_lists : Batch → List Value → List Link → List Entry → List Trace → List Trace → List DeepTrace → Batch
with_lists B vs ls es ts cs ds = record B { values = vs; seen = ls; entries = es; verifying = ts; constructive = cs; deep = ds }

pub grown : (B : Batch) (vs : List Value) (ls : List Link) (es : List Entry) (ts cs : List Trace) (ds : List DeepTrace) → Begins B.values vs → Begins B.seen ls → Begins B.entries es → Begins B.verifying ts → Begins B.constructive cs → Begins B.deep ds
    → Grown B (with_lists B vs ls es ts cs ds)
grown B vs ls es ts cs ds values seen entries verifying constructive deep = record {
  front = record { values = values; seen = seen; entries = entries; verifying = verifying; constructive = constructive; deep = deep };
  start = refl;
  gone = refl;
  stale = refl;
  chain = refl;
}

pub grown_self : (B : Batch) → Grown B B
grown_self B = grown B B.values B.seen B.entries B.verifying B.constructive B.deep (begins_self B.values) (begins_self B.seen) (begins_self B.entries) (begins_self B.verifying) (begins_self B.constructive) (begins_self B.deep)

abbrev pub with_values : Batch → List Value → Batch
with_values B vs = with_lists B vs B.seen B.entries B.verifying B.constructive B.deep

pub grown_values : (B : Batch) (vs : List Value) → Begins B.values vs → Grown B (with_values B vs)
grown_values B vs values = grown B vs B.seen B.entries B.verifying B.constructive B.deep values (begins_self B.seen) (begins_self B.entries) (begins_self B.verifying) (begins_self B.constructive) (begins_self B.deep)

pub grown_entries : (B : Batch) (ls : List Link) (es : List Entry) → Begins B.seen ls → Begins B.entries es → Grown B (with_lists B B.values ls es B.verifying B.constructive B.deep)
grown_entries B ls es seen entries = grown B B.values ls es B.verifying B.constructive B.deep (begins_self B.values) seen entries (begins_self B.verifying) (begins_self B.constructive) (begins_self B.deep)

pub grown_traces : (B : Batch) (ts cs : List Trace) (ds : List DeepTrace) → Begins B.verifying ts → Begins B.constructive cs → Begins B.deep ds → Grown B (with_lists B B.values B.seen B.entries ts cs ds)
grown_traces B ts cs ds verifying constructive deep = grown B B.values B.seen B.entries ts cs ds (begins_self B.values) (begins_self B.seen) (begins_self B.entries) verifying constructive deep

pub grown_on : (A B C : Batch) → Grown A B → Grown B C → Grown A C
grown_on A B C first then = record {
  front = record {
    values = begins_on A.values B.values C.values first.front.values then.front.values;
    seen = begins_on A.seen B.seen C.seen first.front.seen then.front.seen;
    entries = begins_on A.entries B.entries C.entries first.front.entries then.front.entries;
    verifying = begins_on A.verifying B.verifying C.verifying first.front.verifying then.front.verifying;
    constructive = begins_on A.constructive B.constructive C.constructive first.front.constructive then.front.constructive;
    deep = begins_on A.deep B.deep C.deep first.front.deep then.front.deep;
  };
  start = then.start ∙ first.start;
  gone = then.gone ∙ first.gone;
  stale = then.stale ∙ first.stale;
  chain = then.chain ∙ first.chain;
}
