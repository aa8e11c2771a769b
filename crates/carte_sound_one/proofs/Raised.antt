-- What is raised from version 1 was there before.
use Rattle.std.proofs.Common.{◌≡◌, ℕ, List, [], ◌∷◌, Option, Some, None, map, option_map, refl, ap, sym, ◌∙◌, inl, inr, subst}
use Rattle.carte_value.specs.declared.digest.Digest.{Digest}
use Rattle.carte_value.specs.Lists.{Has}
use Rattle.carte_value.specs.Truths.{Among}
use Rattle.carte_book.specs.Book.{Book}
use Rattle.carte_book.specs.Task.{task_now}
use Rattle.carte_record.specs.declared.entry.Entry.{Entry}
use Rattle.carte_record.specs.declared.trace.Trace.{Trace}
use Rattle.carte_record.specs.declared.way.Way.{Way}
use Rattle.carte_record.specs.declared.way.Way.TheVariants.{Verifying, Constructive, Deep}
use Rattle.carte_record.specs.Ways.{TraceBy, result_by}
use Rattle.carte_record_one.specs.Kept.{SomeKeptOne}
use Rattle.carte_record_one.specs.declared.entry.EntryOne.{EntryOne}
use Rattle.carte_record_one.specs.declared.trace.TraceOne.{TraceOne}
use Rattle.carte_sound.specs.Marks.{IsFresh, Leads, need, on}
use Rattle.carte_sound_one.specs.Marks as old
use Rattle.carte_sound_one.specs.Marks.{IsFreshOne, LeadsOne}
use Rattle.carte_sound.specs.True.{or_none, needs_trace, trace_of}
use Rattle.carte_sound_one.specs.True.{trace_of_one}
use Rattle.carte_sound_one.specs.Up.{raised_entry, raised_trace, raised}

module _ (K : SomeKeptOne) (b : Book) where
  pub raised_from : (k : List ℕ) (e : Entry) → (raised K b).entries k ≡ Some e → (d : EntryOne) × (K.entries k ≡ Some d) × (e ≡ raised_entry b d)
  raised_from k e = on_entry (K.entries k)
    where
      on_entry : (o : Option EntryOne) → option_map (raised_entry b) o ≡ Some e → (d : EntryOne) × (o ≡ Some d) × (e ≡ raised_entry b d)
      on_entry None is = cc
      on_entry (Some d) is = (d, refl, (let same : raised_entry b d ≡ e = cc in sym same))

  pub raised_at : (k : List ℕ) (d : EntryOne) → K.entries k ≡ Some d → (raised K b).entries k ≡ Some (raised_entry b d)
  raised_at k d is = ap (option_map (raised_entry b)) is

  mapped_from : (ss : List TraceOne) (t : Trace) → Has (map (raised_trace b) ss) t → (s : TraceOne) × Has ss s × (t ≡ raised_trace b s)
  mapped_from [] t there = absurd there
  mapped_from (s ∷ ss) t (inl same) = (s, inl refl, same)
  mapped_from (s ∷ ss) t (inr later) = let x = mapped_from ss t later in (x.0, inr x.1, x.2)

  -- a trace of the needs of its key
  abbrev pub IsRaised : (w : Way) → TraceBy w → TraceOne → Type 0
  IsRaised Verifying t s = t ≡ raised_trace b s
  IsRaised Constructive t s = t ≡ raised_trace b s
  IsRaised Deep t s = ⊥

  pub trace_from : (w : Way) (k : List ℕ) (t : TraceBy w) → Has ((raised K b).traces w k) t → (s : TraceOne) × Has (K.traces w k) s × IsRaised w t s
  trace_from Verifying k t there = mapped_from (K.traces Verifying k) t there
  trace_from Constructive k t there = mapped_from (K.traces Constructive k) t there
  trace_from Deep k t there = absurd there

  -- its result was that of the other, and it is a book's where the other was and the key has the same task there
  pub raised_result : (w : Way) (t : TraceBy w) (s : TraceOne) → IsRaised w t s → result_by w t ≡ s.result
  raised_result Verifying t s is = ap (λ (x : Trace). x.result) is
  raised_result Constructive t s is = ap (λ (x : Trace). x.result) is
  raised_result Deep t s is = absurd is

  pub raised_of : (w : Way) (c : Book) (k : List ℕ) (t : TraceBy w) (s : TraceOne) → IsRaised w t s → s ≡ trace_of_one w c k → task_now b k ≡ task_now c k → t ≡ trace_of w c k
  raised_of Verifying c k t s is of same = is ∙ ap (raised_trace b) of ∙ ap (λ (o : Option Digest). let y : Trace = record (needs_trace c k) { task = or_none o } in y) same
  raised_of Constructive c k t s is of same = is ∙ ap (raised_trace b) of ∙ ap (λ (o : Option Digest). let y : Trace = record (needs_trace c k) { task = or_none o } in y) same
  raised_of Deep c k t s is of same = absurd is

  -- what a key leads to it led to before
  pub led_before : (k i : List ℕ) → Leads (raised K b) k i → LeadsOne K k i
  led_before k i (need e kept among) = let from = raised_from k e kept in old.LeadsOne.need from.0 from.1 (subst (λ (y : Entry). Among y.needs i) from.2 among)
  led_before k i (on {i = j} e kept among leads) = let from = raised_from k e kept in old.LeadsOne.on from.0 from.1 (subst (λ (y : Entry). Among y.needs j) from.2 among) (led_before j i leads)

  -- and what was fresh is fresh
  pub fresh_at : (k : List ℕ) → IsFreshOne K k → IsFresh (raised K b) k
  fresh_at k f = record { entry = raised_entry b f.entry; kept = raised_at k f.entry f.kept; fresh = f.fresh }
