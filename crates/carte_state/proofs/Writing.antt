-- Lists for what is kept after a batch, and room for one batch behind others.
use Rattle.std.proofs.Common.{◌≡◌, ℕ, ◌+◌, ◌≤◌, Bool, true, false, cond, if◌then◌else◌, List, [], ◌∷◌, ◌++◌, length, Option, Some, None, refl, sym, ap, ◌∙◌, subst, arith}
use Rattle.std.specs.Prelude.{filter, find, option_map, unwrap_or}
use Rattle.std.specs.Option.{option_or}
use Rattle.carte_journal.specs.Journals.{Standing}
use Rattle.carte_table.specs.Changes.{is_of_none}
use Rattle.carte_table.specs.Lookups.{digest_in, find_last, first_link, is_link_of, is_value_of, link_in}
use Rattle.carte_table.proofs.Found.{map_or}
use Rattle.carte_record.specs.Bodies.{spelled_batch}
use Rattle.carte_record.specs.Empty.{is_empty}
use Rattle.carte_record.specs.Folds.{apply, batch_traces, is_among, started, without}
use Rattle.carte_record.specs.Growth.{put_in}
use Rattle.carte_record.specs.Kept.{kept_traces, kept_view, nothing_kept, staled, traces_in}
use Rattle.carte_record.specs.Lookups.{entry_in, first_entry, is_entry_of}
use Rattle.carte_record.specs.Marked.{all_marked}
use Rattle.carte_record.specs.declared.batch.Batch.{Batch}
use Rattle.carte_record.specs.declared.kept.Kept.{Kept}
use Rattle.carte_record.specs.declared.start.Start.{Start}
use Rattle.carte_record.specs.declared.start.Start.TheVariants.{GoOn, Cleared}
use Rattle.carte_record.specs.declared.way.Way.{Way}
use Rattle.carte_record.specs.declared.way.Way.TheVariants.{Verifying, Constructive, Deep}
use Rattle.carte_record.proofs.Gone.{without_view}
use Rattle.carte_record.proofs.Growing.{kept_same, traces_on}
use Rattle.carte_record.proofs.Marks.{marked_found}
use Rattle.carte_state.specs.Runs.{journal_behind}
use Rattle.carte_state.specs.States.{journal_after}
use Rattle.carte_state.specs.Writing.{FitInTurn}

-- ---- lists

-- the items in front of others, the last one first
abbrev in_front : {A : Type 0} → List A → List A → List A
in_front [] ys = ys
in_front (x ∷ xs) ys = in_front xs (x ∷ ys)

or_or : {A : Type 0} (o : Option A) (b : Bool) (x : A) (r : Option A) → option_or o (cond b (Some x) r) ≡ option_or (option_or o (if b then Some x else None)) r
or_or None true x r = refl
or_or None false x r = refl
or_or (Some y) b x r = refl

found_in_front : {A : Type 0} (p : A → Bool) (xs ys : List A) → find p (in_front xs ys) ≡ option_or (find_last p xs) (find p ys)
found_in_front p [] ys = refl
found_in_front p (x ∷ xs) ys = found_in_front p xs (x ∷ ys) ∙ or_or (find_last p xs) (p x) x (find p ys)

found_behind : {A : Type 0} (p : A → Bool) (xs ys : List A) → find p (xs ++ ys) ≡ option_or (find p xs) (find p ys)
found_behind p [] ys = refl
found_behind {A = A} p (x ∷ xs) ys = on (p x) (found_behind p xs ys)
  where
    on : (b : Bool) → find p (xs ++ ys) ≡ option_or (find p xs) (find p ys) → cond b (Some x) (find p (xs ++ ys)) ≡ option_or (cond b (Some x) (find p xs)) (find p ys)
    on true later = refl
    on false later = later

-- what a batch begins with
abbrev begun : Start → Kept → Kept
begun GoOn K = K
begun Cleared K = record { seen = []; entries = []; verifying = []; constructive = []; deep = []; chain = []; values = [] }

begun_view : (s : Start) (K : Kept) → kept_view (begun s K) ≡ started s (kept_view K)
begun_view GoOn K = refl
begun_view Cleared K = kept_same (kept_view (begun Cleared K)) nothing_kept (λ k. refl) (λ k. refl) none refl (λ d. refl)
  where
    none : (w : Way) (k : List ℕ) → traces_in w k (kept_traces w (begun Cleared K)) [] ≡ []
    none Verifying k = refl
    none Constructive k = refl
    none Deep k = refl

-- without what it drops
abbrev left : List (List ℕ) → Kept → Kept
left ks K = record {
  seen = filter (is_of_none (λ l. l.name) ks) K.seen;
  entries = filter (is_of_none (λ e. e.key) ks) K.entries;
  verifying = filter (is_of_none (λ t. t.key) ks) K.verifying;
  constructive = filter (is_of_none (λ t. t.key) ks) K.constructive;
  deep = filter (is_of_none (λ t. t.key) ks) K.deep;
  chain = K.chain;
  values = K.values;
}

-- and with what it brings
abbrev brought : Batch → Kept → Kept
brought B K = record {
  seen = in_front B.seen K.seen;
  entries = all_marked true (in_front B.entries K.entries) B.stale;
  verifying = K.verifying ++ B.verifying;
  constructive = K.constructive ++ B.constructive;
  deep = K.deep ++ B.deep;
  chain = unwrap_or B.chain K.chain;
  values = K.values ++ B.values;
}

brought_view : (B : Batch) (K : Kept) → kept_view (brought B K) ≡ put_in B (kept_view K)
brought_view B K = kept_same (kept_view (brought B K)) (put_in B (kept_view K)) seen entries traces refl (λ d. found_behind (is_value_of d) K.values B.values)
  where
    seen : (k : List ℕ) → first_link (in_front B.seen K.seen) k ≡ option_or (link_in B.seen k) (first_link K.seen k)
    seen k = ap digest_in (found_in_front (is_link_of k) B.seen K.seen) ∙ map_or (λ l. l.digest) (find_last (is_link_of k) B.seen) (find (is_link_of k) K.seen)

    entries : (k : List ℕ) → first_entry (all_marked true (in_front B.entries K.entries) B.stale) k ≡ option_map (staled (is_among B.stale k)) (option_or (entry_in B.entries k) (first_entry K.entries k))
    entries k = marked_found (in_front B.entries K.entries) B.stale k ∙ ap (option_map (staled (is_among B.stale k))) (found_in_front (is_entry_of k) B.entries K.entries)

    traces : (w : Way) (k : List ℕ) → traces_in w k (kept_traces w (brought B K)) [] ≡ traces_in w k (batch_traces w B) (traces_in w k (kept_traces w K) [])
    traces Verifying k = traces_on Verifying k K.verifying B.verifying []
    traces Constructive k = traces_on Constructive k K.constructive B.constructive []
    traces Deep k = traces_on Deep k K.deep B.deep []

abbrev pub lists_behind : Batch → Kept → Kept
lists_behind B K = brought B (left B.gone (begun B.start K))

pub lists_view : (B : Batch) (K : Kept) → kept_view (lists_behind B K) ≡ apply B (kept_view K)
lists_view B K =
    let L = begun B.start K in
    brought_view B (left B.gone L) ∙ ap (put_in B) (without_view L (left B.gone L) B.gone refl refl refl refl refl refl refl ∙ ap (without B.gone) (begun_view B.start K))

-- ---- room

module _ (j : Standing) (B : Batch) where
  pub limit_behind : (empty : Bool) → is_empty B ≡ empty → (journal_after j B).limit ≡ j.limit
  limit_behind true is = rw is refl
  limit_behind false is = rw is refl

  pub gate_behind : (empty : Bool) → is_empty B ≡ empty → (journal_after j B).gate ≤ j.gate + 5 + length (spelled_batch B)
  gate_behind true is = rw is (omega (arith))
  gate_behind false is = rw is (omega (arith))

-- the front fits, and ends in front of this place
pub record FitsTo (j : Standing) (front : List Batch) (end : ℕ) : Type 0 where
  pub fits : FitInTurn j front
  pub below : (journal_behind j front).gate + 1 ≤ end
  pub limit : (journal_behind j front).limit ≡ j.limit

pub one_more : (j : Standing) (front : List Batch) (B : Batch) (end more : ℕ) → FitsTo j front end → more ≡ end + (5 + length (spelled_batch B)) → more ≤ j.limit → FitsTo j (front ++ B ∷ []) more
one_more j [] B end more so is few = record {
  fits = (omega (arith, so.below, is, few), tt);
  below = let moved = gate_behind j B (is_empty B) refl in omega (arith, so.below, moved, is);
  limit = limit_behind j B (is_empty B) refl;
}
one_more j (C ∷ front) B end more so is few =
    let same = limit_behind j C (is_empty C) refl in
    let rest = one_more (journal_after j C) front B end more (record { fits = so.fits.1; below = so.below; limit = so.limit ∙ sym same }) is (subst (λ n. more ≤ n) (sym same) few) in
    record { fits = (so.fits.0, rest.fits); below = rest.below; limit = rest.limit ∙ same }
