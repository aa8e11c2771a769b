-- A key that was finished is held from then on, until what it was made of changes.
use Rattle.std.proofs.Common.{◌≡◌, ℕ, Bool, true, false, List, [], ◌∷◌, refl, ap, sym, ◌∙◌, inl, inr, subst}
use Rattle.carte_name.specs.Names.{name_eq}
use Rattle.carte_value.specs.Truths.{Among}
use Rattle.carte_book.specs.Book.{Book, clean}
use Rattle.carte_book.specs.Needs.{IsRule}
use Rattle.carte_book.specs.Reason.{IsClean}
use Rattle.carte_record.specs.declared.trace.Trace.{Trace}
use Rattle.carte_record.specs.declared.way.Way.{Way}
use Rattle.carte_record.specs.declared.way.Way.TheVariants.{Verifying, Constructive, Deep}
use Rattle.carte_record.specs.Kept.{SomeKept}
use Rattle.carte_record.specs.Ways.{TraceBy}
use Rattle.carte_value.specs.Lists.{Has}
use Rattle.carte_sound.specs.True.{digest_or, trace_of, full_entry}
use Rattle.carte_sound.specs.Base.{IsBase}
use Rattle.carte_sound.specs.Held.{How, dirty, tracing, IsTrusted, IsHeld}
use Rattle.carte_sound.specs.Left.{entry_left, add, Finishes, add_all}
use Rattle.carte_sound.specs.Finished.{RanOrHeld, IsFinishedAfter, AreFinished}
use Rattle.carte_sound.proofs.Tests.{name_self, eq_or_apart, put_here, put_there}
use Rattle.carte_sound.proofs.Held.{verifying_held}
use Rattle.carte_sound.proofs.Minimal.{held_links, own_tasked}
use Rattle.carte_sound.proofs.TracesKept.{traces_grow, trace_there}
use Rattle.carte_sound.proofs.LeftSound.{finished_before, fresh_here}

-- what a build still has of the traces that it began with, and that the keys finished so far are held
pub record IsHolding (h : How) (b : Book) (M L : SomeKept) (before : List (List ℕ)) : Type 0 where
  pub traces : (w : Way) (q : List ℕ) (t : TraceBy w) → Has (M.traces w q) t → Has (L.traces w q) t
  pub held : (j : List ℕ) → Among before j → IsHeld h L b j

full_result : (b : Book) (L : SomeKept) (k : List ℕ) (ran : Bool) (t : Trace) → t.result ≡ digest_or (clean b k) → IsTrusted Verifying (add (tracing Verifying) b L k ran) k t
full_result b L k ran t is = (full_entry b k, put_here L.entries k (full_entry b k), sym is)

module _ (b : Book) (H : List Book) (M : SomeKept) (begun : IsBase M b H) where
  -- a key is held as soon as it is finished
  held_here : (h : How) (L : SomeKept) (before : List (List ℕ)) → IsHolding h b M L before → (k : List ℕ) → IsRule b k → IsClean b k → (ran : Bool) → RanOrHeld h M b k ran → IsHeld h (add h b L k ran) b k
  held_here dirty L before at k is_rule has ran came = elim (fresh_here dirty b L k ran) [
    | inl is ↦ cc
    | inr fresh ↦ fresh
  ]
  held_here (tracing Verifying) L before at k is_rule has true came = (
    trace_of Verifying b k,
    record {
      kept = trace_there Verifying b L k refl;
      task = own_tasked Verifying b k is_rule;
      links = held_links Verifying b k is_rule has;
      trusted = full_result b L k true (trace_of Verifying b k) refl;
    },
  )
  held_here (tracing Verifying) L before at k is_rule has false came =
      let r = (verifying_held M b H begun k came.0 came.1).0 in (
        came.0,
        record {
          kept = traces_grow (tracing Verifying) b L k false Verifying k came.0 (at.traces Verifying k came.0 came.1.kept);
          task = came.1.task;
          links = came.1.links;
          trusted = full_result b L k false came.0 (r.digest ∙ ap digest_or (sym r.clean));
        },
      )
  held_here (tracing Constructive) L before at k is_rule has true came = (
    trace_of Constructive b k,
    record {
      kept = trace_there Constructive b L k refl;
      task = own_tasked Constructive b k is_rule;
      links = held_links Constructive b k is_rule has;
      trusted = tt;
    },
  )
  held_here (tracing Constructive) L before at k is_rule has false came = (
    came.0,
    record {
      kept = traces_grow (tracing Constructive) b L k false Constructive k came.0 (at.traces Constructive k came.0 came.1.kept);
      task = came.1.task;
      links = came.1.links;
      trusted = tt;
    },
  )
  held_here (tracing Deep) L before at k is_rule has true came = (
    trace_of Deep b k,
    record {
      kept = trace_there Deep b L k refl;
      task = own_tasked Deep b k is_rule;
      links = held_links Deep b k is_rule has;
      trusted = tt;
    },
  )
  held_here (tracing Deep) L before at k is_rule has false came = (
    came.0,
    record {
      kept = traces_grow (tracing Deep) b L k false Deep k came.0 (at.traces Deep k came.0 came.1.kept);
      task = came.1.task;
      links = came.1.links;
      trusted = tt;
    },
  )

  -- and stays so as others are finished
  held_on : (h : How) (L : SomeKept) (k : List ℕ) (ran : Bool) (j : List ℕ) → name_eq j k ≡ false → IsHeld h L b j → IsHeld h (add h b L k ran) b j
  held_on dirty L k ran j apart held = record { entry = held.entry; kept = put_there L.entries k (entry_left dirty L b k) j apart ∙ held.kept; fresh = held.fresh }
  held_on (tracing Verifying) L k ran j apart held = (
    held.0,
    record {
      kept = traces_grow (tracing Verifying) b L k ran Verifying j held.0 held.1.kept;
      task = held.1.task;
      links = held.1.links;
      trusted = (held.1.trusted.0, put_there L.entries k (entry_left (tracing Verifying) L b k) j apart ∙ held.1.trusted.1, held.1.trusted.2);
    },
  )
  held_on (tracing Constructive) L k ran j apart held = (held.0, record { kept = traces_grow (tracing Constructive) b L k ran Constructive j held.0 held.1.kept; task = held.1.task; links = held.1.links; trusted = tt })
  held_on (tracing Deep) L k ran j apart held = (held.0, record { kept = traces_grow (tracing Deep) b L k ran Deep j held.0 held.1.kept; task = held.1.task; links = held.1.links; trusted = tt })

  pub next_holding : (h : How) (L : SomeKept) (before : List (List ℕ)) (k : List ℕ) (ran : Bool) → IsHolding h b M L before → IsFinishedAfter h b M before k ran → IsHolding h b M (add h b L k ran) (k ∷ before)
  next_holding h L before k ran at next = record {
    traces = λ w q t there. traces_grow h b L k ran w q t (at.traces w q t there);
    held = λ j among. elim (eq_or_apart j k) [
      | inl is ↦ subst (IsHeld h (add h b L k ran) b) (sym is) (held_here h L before at k next.is_rule next.clean ran next.came)
      | inr apart ↦ held_on h L k ran j apart (at.held j (other j apart among))
    ];
  }
    where
      other : (j : List ℕ) → name_eq j k ≡ false → Among (k ∷ before) j → Among before j
      other j apart (inl same) = absurd (let e : name_eq k k ≡ false = subst (λ x. name_eq x k ≡ false) same apart in let t : name_eq k k ≡ true = name_self k in cc)
      other j apart (inr later) = later

  pub holdings : (h : How) (fs : Finishes) (L : SomeKept) (before : List (List ℕ)) → IsHolding h b M L before → AreFinished h b M before fs → IsHolding h b M (add_all h b L fs) (finished_before fs before)
  holdings h [] L before at are = at
  holdings h (f ∷ fs) L before at are = holdings h fs (add h b L f.0 f.1) (f.0 ∷ before) (next_holding h L before f.0 f.1 at are.0) are.1

  pub first_holding : (h : How) → IsHolding h b M M []
  first_holding h = record { traces = λ w q t there. there; held = λ j among. absurd among }
