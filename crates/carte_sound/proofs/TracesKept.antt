-- Traces stay as keys are finished.
use Rattle.std.proofs.Common.{◌≡◌, ℕ, Bool, true, false, not, ◌&&◌, cond, List, [], ◌∷◌, filter, refl, ap, inl, inr}
use Rattle.carte_value.specs.declared.digest.Digest.{Digest}
use Rattle.carte_value.specs.declared.link.Link.{Link}
use Rattle.carte_name.specs.Names.{name_eq}
use Rattle.carte_book.specs.Book.{Book}
use Rattle.carte_record.specs.declared.trace.Trace.{Trace}
use Rattle.carte_record.specs.declared.way.Way.{Way}
use Rattle.carte_record.specs.Alike.{eq_by_is}
use Rattle.carte_record.specs.Kept.{SomeKept, newest}
use Rattle.carte_record.specs.Ways.{TraceBy, eq_by}
use Rattle.carte_value.specs.Lists.{Has}
use Rattle.carte_sound.specs.True.{trace_of}
use Rattle.carte_sound.specs.Held.{How, tracing}
use Rattle.carte_sound.specs.Left.{is_way, add, Finishes, add_all}
use Rattle.carte_sound.proofs.Tests.{name_self}

trace_by : List ℕ → Digest → List Link → Digest → Trace
trace_by k a ls d = record { key = k; task = a; links = ls; result = d }

trace_parts : (s t : Trace) → trace_by s.key s.task s.links s.result ≡ trace_by t.key t.task t.links t.result → s ≡ t
unfolding trace_by
trace_parts s t same = same

-- traces with the same parts are the same
pub same_parts : (s t : Trace) → s.key ≡ t.key → s.task ≡ t.task → s.links ≡ t.links → s.result ≡ t.result → s ≡ t
same_parts s t key task links result = trace_parts s t (cc)

filter_has : {A : Type 0} (p : A → Bool) (ts : List A) (t : A) → p t ≡ true → Has ts t → Has (filter p ts) t
filter_has p [] t passes there = absurd there
filter_has p (s ∷ ss) t passes there = elim (p s) as (λ x. p s ≡ x → Has (cond x (s ∷ filter p ss) (filter p ss)) t) [
  | true ↦ λ is. elim there [
    | inl same ↦ inl same
    | inr later ↦ inr (filter_has p ss t passes later)
  ]
  | false ↦ λ is. elim there [
    | inl same ↦ absurd (let e : p t ≡ p s = ap p same in cc)
    | inr later ↦ filter_has p ss t passes later
  ]
] refl

-- a trace that becomes the newest drives none out
newest_has : (w : Way) (new : TraceBy w) (ts : List (TraceBy w)) (t : TraceBy w) → Has ts t → Has (newest (eq_by w) new ts) t
newest_has w new ts t there = elim (eq_by w t new) as (λ x. eq_by w t new ≡ x → Has (newest (eq_by w) new ts) t) [
  | true ↦ λ is. inl (eq_by_is w t new is)
  | false ↦ λ is. inr (filter_has (λ s. not (eq_by w s new)) ts t (ap not is) there)
] refl

chosen_has : (w : Way) (x : Bool) (new : TraceBy w) (ts : List (TraceBy w)) (t : TraceBy w) → Has ts t → Has (cond x (newest (eq_by w) new ts) ts) t
chosen_has w true new ts t there = newest_has w new ts t there
chosen_has w false new ts t there = there

pub traces_grow : (h : How) (b : Book) (K : SomeKept) (k : List ℕ) (ran : Bool) (w : Way) (q : List ℕ) (t : TraceBy w) → Has (K.traces w q) t → Has ((add h b K k ran).traces w q) t
traces_grow h b K k ran w q t there = chosen_has w ((ran && is_way h w) && name_eq q k) (trace_of w b k) (K.traces w q) t there

-- nor do the keys of a whole build
pub traces_grow_all : (h : How) (b : Book) (K : SomeKept) (fs : Finishes) (w : Way) (q : List ℕ) (t : TraceBy w) → Has (K.traces w q) t → Has ((add_all h b K fs).traces w q) t
traces_grow_all h b K [] w q t there = there
traces_grow_all h b K (f ∷ fs) w q t there = traces_grow_all h b (add h b K f.0 f.1) fs w q t (traces_grow h b K f.0 f.1 w q t there)

-- a key that ran has the new trace
pub trace_there : (w : Way) (b : Book) (K : SomeKept) (k : List ℕ) → is_way (tracing w) w ≡ true → Has ((add (tracing w) b K k true).traces w k) (trace_of w b k)
trace_there w b K k is_w = on_tests ((true && is_way (tracing w) w) && name_eq k k) (tests (is_way (tracing w) w) (name_eq k k) is_w (name_self k))
  where
    tests : (x y : Bool) → x ≡ true → y ≡ true → ((true && x) && y) ≡ true
    tests x y one other = rw (one, other) refl

    on_tests : (x : Bool) → x ≡ true → Has (cond x (newest (eq_by w) (trace_of w b k) (K.traces w k)) (K.traces w k)) (trace_of w b k)
    on_tests true is = inl refl
    on_tests false is = cc
