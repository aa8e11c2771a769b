-- The last trace of a key that passes a test is the first such one of those that are kept, which stand newest first.
use Rattle.std.proofs.Common.{◌≡◌, ℕ, Bool, true, false, not, ◌&&◌, cond, List, [], ◌∷◌, Option, Some, None, filter, refl, ap, sym, ◌∙◌}
use Rattle.std.specs.Prelude.{find}
use Rattle.std.specs.Option.{option_or}
use Rattle.carte_name.specs.Names.{name_eq}
use Rattle.carte_record.specs.declared.way.Way.{Way}
use Rattle.carte_record.specs.Alike.{eq_by_is}
use Rattle.carte_record.specs.Kept.{newest, traces_in}
use Rattle.carte_record.specs.Ways.{TraceBy, key_by, eq_by}
use Rattle.carte_table.specs.Lookups.{find_last}

or_or : {A : Type 0} (a c o : Option A) → option_or (option_or a c) o ≡ option_or a (option_or c o)
or_or None c o = refl
or_or (Some t) c o = refl

or_none : {A : Type 0} (o : Option A) → option_or o None ≡ o
or_none None = refl
or_none (Some t) = refl

module _ (w : Way) (p : TraceBy w → Bool) where
  -- what goes with a trace that fails fails too
  found_less : (t : TraceBy w) (ts : List (TraceBy w)) → p t ≡ false → find p (filter (λ s. not (eq_by w s t)) ts) ≡ find p ts
  found_less t [] fails = refl
  found_less t (s ∷ ts) fails = on (eq_by w s t) refl (found_less t ts fails)
    where
      on : (c : Bool) → eq_by w s t ≡ c → find p (filter (λ r. not (eq_by w r t)) ts) ≡ find p ts → find p (cond (not c) (s ∷ filter (λ r. not (eq_by w r t)) ts) (filter (λ r. not (eq_by w r t)) ts)) ≡ cond (p s) (Some s) (find p ts)
      on true same rest = rest ∙ ap (λ c. cond c (Some s) (find p ts)) (sym (ap p (eq_by_is w s t same) ∙ fails))
      on false apart rest = ap (cond (p s) (Some s)) rest

  found_newest : (t : TraceBy w) (old : List (TraceBy w)) → option_or (cond (p t) (Some t) None) (find p old) ≡ find p (newest (eq_by w) t old)
  found_newest t old = on (p t) refl
    where
      on : (c : Bool) → p t ≡ c → option_or (cond c (Some t) None) (find p old) ≡ cond c (Some t) (find p (filter (λ s. not (eq_by w s t)) old))
      on true passes = refl
      on false fails = sym (found_less t old fails)

  -- a trace of the key that passes
  abbrev pub passes_of : List ℕ → TraceBy w → Bool
  passes_of k t = name_eq k (key_by w t) && p t

  found_step : (k : List ℕ) (t : TraceBy w) (old : List (TraceBy w)) → option_or (cond (passes_of k t) (Some t) None) (find p old) ≡ find p (cond (name_eq k (key_by w t)) (newest (eq_by w) t old) old)
  found_step k t old = on (name_eq k (key_by w t))
    where
      on : (c : Bool) → option_or (cond (c && p t) (Some t) None) (find p old) ≡ find p (cond c (newest (eq_by w) t old) old)
      on true = found_newest t old
      on false = refl

  found_in : (k : List ℕ) (ts old : List (TraceBy w)) → option_or (find_last (passes_of k) ts) (find p old) ≡ find p (traces_in w k ts old)
  found_in k [] old = refl
  found_in k (t ∷ ts) old =
      or_or (find_last (passes_of k) ts) (cond (passes_of k t) (Some t) None) (find p old) ∙ ap (option_or (find_last (passes_of k) ts)) (found_step k t old) ∙ found_in k ts (cond (name_eq k (key_by w t)) (newest (eq_by w) t old) old)

  pub newest_found : (k : List ℕ) (ts : List (TraceBy w)) → find_last (passes_of k) ts ≡ find p (traces_in w k ts [])
  newest_found k ts = sym (or_none (find_last (passes_of k) ts)) ∙ found_in k ts []
