-- A new chain changes nothing of soundness.
use Rattle.std.proofs.Common.{ℕ, List, inl, inr}
use Rattle.carte_value.specs.Truths.{NoneTwice}
use Rattle.carte_book.specs.Book.{Book}
use Rattle.carte_record.specs.declared.entry.Entry.{Entry}
use Rattle.carte_record.specs.Kept.{SomeKept}
use Rattle.carte_sound.specs.Marks.{IsFresh, Leads, need, on}
use Rattle.carte_sound.specs.Sound.{IsFreshIn, IsSound}
use Rattle.carte_sound.specs.Base.{IsBase}

abbrev pub with_chain : SomeKept → List (List ℕ) → SomeKept
with_chain K chain = record K { chain = chain }

unchained_leads : (K : SomeKept) (chain : List (List ℕ)) (k i : List ℕ) → Leads (with_chain K chain) k i → Leads K k i
unchained_leads K chain k i (need e kept among) = need e kept among
unchained_leads K chain k i (on {i = j} e kept among leads) = on e kept among (unchained_leads K chain j i leads)

module _ (K : SomeKept) (H : List Book) (chain : List (List ℕ)) where
  chained_fresh : (j : List ℕ) → IsFresh K j → IsFresh (with_chain K chain) j
  chained_fresh j f = record { entry = f.entry; kept = f.kept; fresh = f.fresh }

  chained_in : (c : Book) (k : List ℕ) (e : Entry) → IsFreshIn K c k e → IsFreshIn (with_chain K chain) c k e
  chained_in c k e in_c = record {
    names = λ i leads. elim (in_c.names i (unchained_leads K chain k i leads)) [
      | inl s ↦ inl (record { value = s.value; is_input = s.is_input; seen = s.seen })
      | inr r ↦ inr (record { entry = r.entry; kept = r.kept; task = r.task })
    ];
    rules = λ j among r. chained_fresh j (in_c.rules j among r);
  }

  pub chained_sound : NoneTwice chain → IsSound K H → IsSound (with_chain K chain) H
  chained_sound once sound = record {
    traces = λ w k t there. let s = sound.traces w k t there in record { book = s.book; stood = s.stood; trace = s.trace; entry = s.entry; kept = s.kept };
    entries = λ k e kept. let s = sound.entries k e kept in record { book = s.book; stood = s.stood; entry = s.entry; fresh = λ fresh. chained_in s.book k e (s.fresh fresh) };
    stored = sound.stored;
    entry_stored = sound.entry_stored;
    trace_stored = sound.trace_stored;
    chain = once;
    apart = sound.apart;
  }

  pub chained_base : (b : Book) → NoneTwice chain → IsBase K b H → IsBase (with_chain K chain) b H
  chained_base b once base = record {
    sound = chained_sound once base.sound;
    present = base.present;
    distinct = base.distinct;
    keys = base.keys;
    inputs = base.inputs;
    now = λ k e kept fresh. let n = base.now k e kept fresh in record {
      formula = n.formula;
      is_rule = n.is_rule;
      value = n.value;
      clean = n.clean;
      key = n.key;
      task = n.task;
      result = n.result;
      needs = n.needs;
      rules = λ j among r. chained_fresh j (n.rules j among r);
      seen = n.seen;
    };
  }
