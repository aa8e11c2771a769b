-- Checks that are collected place by place.
use Rattle.std.proofs.Common.{◌≡◌, ℕ, ◌+◌, ◌<◌, true, false, cond, List, [], ◌∷◌, ◌++◌, Option, Some, None, suc, length, get_or, take, slice_get, map, refl, ap, sym, ◌∙◌, append_assoc, append-nil, arith}
use Rattle.std.proofs.Math.Seq.{take-length}
use Rattle.std.proofs.lemmas.List.{take_more}
use Rattle.carte_value.specs.declared.digest.Digest.{Digest}
use Rattle.carte_value.specs.declared.value.Value.{Value}
use Rattle.carte_task.specs.Checking.{Checking}
use Rattle.carte_record.specs.declared.trace.Trace.{Trace}
use Rattle.carte_record.specs.Lookups.{is_trace_of}
use Rattle.carte_table.specs.Places.{places}
use Rattle.carte_rebuild.specs.Earlier.{checks_for, checks_if, checks_in, checks_now}

module _ (task : Digest) (wanted : Option Digest) (vs : List Value) (k : List ℕ) where
  -- those of the traces at these places
  abbrev pub checks_at : List Trace → List ℕ → List Checking
  checks_at ts [] = []
  checks_at ts (n ∷ ns) = checks_if task wanted vs k (slice_get ts n) ++ checks_at ts ns

  at_next : (t : Trace) (ts : List Trace) (ns : List ℕ) → checks_at (t ∷ ts) (map suc ns) ≡ checks_at ts ns
  at_next t ts [] = refl
  at_next t ts (n ∷ ns) = ap (λ cs. checks_if task wanted vs k (slice_get ts n) ++ cs) (at_next t ts ns)

  -- at all places of the key they are those of its traces
  pub at_places : (ts : List Trace) → checks_at ts (places (is_trace_of k) ts) ≡ checks_in task wanted vs k ts
  at_places [] = refl
  at_places (t ∷ ts) =
      elim (is_trace_of k t) as (λ b. checks_at (t ∷ ts) (cond b (0 ∷ map suc (places (is_trace_of k) ts)) (map suc (places (is_trace_of k) ts))) ≡ cond b (checks_for task wanted vs k t) [] ++ checks_in task wanted vs k ts) [
        | true ↦ ap (λ cs. checks_for task wanted vs k t ++ cs) (at_next t ts (places (is_trace_of k) ts) ∙ at_places ts)
        | false ↦ at_next t ts (places (is_trace_of k) ts) ∙ at_places ts
      ]

  at_end : (ts : List Trace) (ns : List ℕ) (n : ℕ) → checks_at ts (ns ++ n ∷ []) ≡ checks_at ts ns ++ checks_if task wanted vs k (slice_get ts n)
  at_end ts [] n = append-nil (checks_if task wanted vs k (slice_get ts n))
  at_end ts (m ∷ ns) n = ap (λ cs. checks_if task wanted vs k (slice_get ts m) ++ cs) (at_end ts ns n) ∙ sym (append_assoc (checks_if task wanted vs k (slice_get ts m)) (checks_at ts ns) (checks_if task wanted vs k (slice_get ts n)))

  -- one place more
  pub at_more : (ts : List Trace) (ns : List ℕ) (i d : ℕ) (old new : List Checking) (o : Option Trace) → i < length ns → o ≡ slice_get ts (get_or ns i d) → old ≡ checks_at ts (take i ns) → new ≡ old ++ checks_if task wanted vs k o → new ≡ checks_at ts (take (i + 1) ns)
  at_more ts ns i d old new o within found before added =
      added ∙ ap (λ cs. cs ++ checks_if task wanted vs k o) before ∙ ap (λ x. checks_at ts (take i ns) ++ checks_if task wanted vs k x) found
      ∙ sym (at_end ts (take i ns) (get_or ns i d)) ∙ ap (checks_at ts) (sym (take_more ns i d within))

  -- at last all of them
  pub at_last : (ts : List Trace) (ns : List ℕ) (i : ℕ) (cs : List Checking) → i ≡ length ns → ns ≡ places (is_trace_of k) ts → cs ≡ checks_at ts (take i ns) → cs ≡ checks_in task wanted vs k ts
  at_last ts ns i cs end are is = is ∙ ap (checks_at ts) (ap (λ m. take m ns) end ∙ take-length ns ∙ are) ∙ at_places ts

  -- none where there are no places
  pub at_none : (ts : List Trace) (ns : List ℕ) → length ns ≡ 0 → ns ≡ places (is_trace_of k) ts → [] ≡ checks_in task wanted vs k ts
  at_none ts [] end are = at_last ts [] 0 [] refl are refl
  at_none ts (n ∷ ns) end are = absurd (let none : length (n ∷ ns) ≡ 0 = end in omega arith)

-- what a key without traces has, whether it is a rule or not
pub none_now : (task : Option Digest) (wanted : Option Digest) (vs : List Value) (k : List ℕ) (ts : List Trace) (ns : List ℕ) → length ns ≡ 0 → ns ≡ places (is_trace_of k) ts → [] ≡ checks_now task wanted vs k ts
none_now None wanted vs k ts ns end are = refl
none_now (Some task) wanted vs k ts ns end are = at_none task wanted vs k ts ns end are
