-- One finished key more keeps what is kept sound, under all four rebuilders.
use Rattle.std.proofs.Common.{◌≡◌, ℕ, Bool, true, false, List, Some, refl, ap, sym, ◌∙◌, inl, inr, subst}
use Rattle.carte_value.specs.declared.digest.Digest.{Digest}
use Rattle.carte_value.specs.Spelling.{digest_of}
use Rattle.carte_book.specs.Book.{Book, clean}
use Rattle.carte_book.specs.Edits.{IsInput}
use Rattle.carte_record.specs.declared.entry.Entry.{Entry}
use Rattle.carte_record.specs.Ways.{TraceBy, result_by}
use Rattle.carte_record.specs.declared.way.Way.{Way}
use Rattle.carte_record.specs.Kept.{SomeKept, is_fresh, put_at}
use Rattle.carte_value.specs.Lists.{Has}
use Rattle.carte_sound.specs.True.{digest_or, trace_of, IsTraceOf, IsEntryOf}
use Rattle.carte_sound.specs.Sound.{IsStored, IsEntryOfSome, IsTraceOfSome, IsSound}
use Rattle.carte_sound.specs.Base.{IsBase}
use Rattle.carte_sound.specs.Held.{How}
use Rattle.carte_sound.specs.Left.{entry_left, add}
use Rattle.carte_sound.proofs.Tests.{eq_or_apart, put_here, put_there, put_cases}
use Rattle.carte_sound.proofs.Begun.{present_input, not_both}
use Rattle.carte_sound.proofs.Entries.{Leaves, full, old, shallow, leaves}
use Rattle.carte_sound.proofs.Written.{seen_back, stored_grows, stored_ran, stored_back, traces_back}
use Rattle.carte_sound.proofs.NowFresh.{now_fresh}
use Rattle.carte_sound.proofs.Traces.{trace_result}
use Rattle.carte_sound.proofs.AddedNow.{now_entry, IsNext, leaves_entry, added_now, added_rule}

module _ (h : How) (b : Book) (H : List Book) (K : SomeKept) (k : List ℕ) (ran : Bool) (p : IsNext h b H K k ran) where
  entry_stays : (q : List ℕ) (e : Entry) → K.entries q ≡ Some e → (x : Entry) × ((add h b K k ran).entries q ≡ Some x)
  entry_stays q e kept = elim (eq_or_apart q k) [
    | inl is ↦ (entry_left h K b k, ap (put_at K.entries k (entry_left h K b k)) is ∙ put_here K.entries k (entry_left h K b k))
    | inr apart ↦ (e, put_there K.entries k (entry_left h K b k) q apart ∙ kept)
  ]

  -- the store p.clean the key's value
  pub value_stored : IsStored (add h b K k ran) (digest_or (clean b k))
  value_stored = subst (IsStored (add h b K k ran)) (sym (ap digest_or p.clean)) (elim (p.stored) [
    | inl yes_ran ↦ stored_ran h b K k ran p.value p.clean yes_ran
    | inr before ↦ (before.0, stored_grows h b K k ran (digest_of p.value) before.0 before.1)
  ])

  result_stored : (w : Way) → IsStored (add h b K k ran) (result_by w (trace_of w b k))
  result_stored w = subst (IsStored (add h b K k ran)) (sym (trace_result w b k)) value_stored

  stored_on : (d : Digest) → IsStored K d → IsStored (add h b K k ran) d
  stored_on d before = (before.0, stored_grows h b K k ran d before.0 before.1)

  pub leaves_stored : (e : Entry) → Leaves b K k e → IsStored (add h b K k ran) e.result
  leaves_stored e (full r) = value_stored
  leaves_stored e (old x kept fresh) = stored_on e.result (p.base.sound.entry_stored k e kept)
  leaves_stored e (shallow none) = value_stored

  entry_sound : (q : List ℕ) (e : Entry) → (add h b K k ran).entries q ≡ Some e → IsEntryOfSome (add h b K k ran) H q e
  entry_sound q e kept = elim (put_cases K.entries k (entry_left h K b k) q e kept) [
    | inl new ↦ record {
      book = b;
      stood = p.base.present;
      entry = subst (λ j. IsEntryOf b j e) (sym new.0) (leaves_entry h b H K k ran p e (subst (Leaves b K k) new.1 (leaves h b K k p.order)));
      fresh = λ fresh. now_fresh (add h b K k ran) b (added_now h b H K k ran p) (added_rule h b H K k ran p) q e kept fresh;
    }
    | inr before ↦ elim (is_fresh e) as (λ t. is_fresh e ≡ t → IsEntryOfSome (add h b K k ran) H q e) [
      | true ↦ λ fresh. record {
        book = b;
        stood = p.base.present;
        entry = now_entry K b q e fresh (p.base.now q e before.1 fresh);
        fresh = λ again. now_fresh (add h b K k ran) b (added_now h b H K k ran p) (added_rule h b H K k ran p) q e kept again;
      }
      | false ↦ λ not_fresh. let s = p.base.sound.entries q e before.1 in record { book = s.book; stood = s.stood; entry = s.entry; fresh = λ fresh. cc }
    ] refl
  ]

  trace_sound : (w : Way) (q : List ℕ) (t : TraceBy w) → Has ((add h b K k ran).traces w q) t → IsTraceOfSome (add h b K k ran) H w q t
  trace_sound w q t there = elim (traces_back h b K k ran w q t there) [
    | inl before ↦
        let s = p.base.sound.traces w q t before in
        let x = entry_stays q s.entry s.kept in
        record { book = s.book; stood = s.stood; trace = s.trace; entry = x.0; kept = x.1 }
    | inr new ↦ record {
      book = b;
      stood = p.base.present;
      trace = subst (λ j. IsTraceOf w b j t) (sym new.0) (record { formula = p.formula; is_rule = p.is_rule; value = p.value; clean = p.clean; trace = new.1 });
      entry = entry_left h K b k;
      kept = ap (put_at K.entries k (entry_left h K b k)) new.0 ∙ put_here K.entries k (entry_left h K b k);
    }
  ]

  -- what was seen is an input
  added_input : (i : List ℕ) (d : Digest) → (add h b K k ran).seen i ≡ Some d → IsInput b i
  added_input i d is = elim (seen_back h b K k ran i d is) [
    | inl before ↦ p.base.inputs i d before
    | inr now ↦ let v = present_input b i d now in (v.0, v.1)
  ]

  pub added_sound : IsSound (add h b K k ran) H
  added_sound = record {
    traces = trace_sound;
    entries = entry_sound;
    stored = λ d u is. elim (stored_back h b K k ran p.value p.clean d u is) [
      | inl before ↦ p.base.sound.stored d u before
      | inr new ↦ (ap digest_of new.1 ∙ sym new.0, record { book = b; stood = p.base.present; name = k; is_rule = (p.formula, p.is_rule); clean = p.clean ∙ ap Some (sym new.1) })
    ];
    entry_stored = λ q e kept. elim (put_cases K.entries k (entry_left h K b k) q e kept) [
      | inl new ↦ leaves_stored e (subst (Leaves b K k) new.1 (leaves h b K k p.order))
      | inr before ↦ stored_on e.result (p.base.sound.entry_stored q e before.1)
    ];
    trace_stored = λ w q t there. elim (traces_back h b K k ran w q t there) [
      | inl before ↦ stored_on (result_by w t) (p.base.sound.trace_stored w q t before)
      | inr new ↦ subst (λ (x : TraceBy w). IsStored (add h b K k ran) (result_by w x)) (sym new.1) (result_stored w)
    ];
    chain = p.base.sound.chain;
    apart = λ i d e seen kept. let v = added_input i d seen in let r = added_rule h b H K k ran p i e kept in not_both b i v.0 r.0 v.1 r.1;
  }

  -- one finished key more
  pub added : IsBase (add h b K k ran) b H
  added = record {
    sound = added_sound;
    present = p.base.present;
    distinct = p.base.distinct;
    keys = added_rule h b H K k ran p;
    inputs = added_input;
    now = added_now h b H K k ran p;
  }
