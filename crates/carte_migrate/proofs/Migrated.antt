-- The live information of what is raised, begun cleared.
use Rattle.std.proofs.Common.{◌≡◌, ℕ, true, ◌&&◌, List, [], ◌∷◌, length, Option, Some, None, is_none, option_to_list, map, refl, ap, sym, ◌∙◌, subst, inl, inr}
use Rattle.std.specs.Prelude.{◌==◌}
use Rattle.carte_value.specs.Spelling.{digest_of}
use Rattle.carte_codec.specs.Each.{EachFits}
use Rattle.carte_record.specs.declared.batch.Batch.{Batch}
use Rattle.carte_record.specs.declared.kept.Kept.{Kept}
use Rattle.carte_record.specs.declared.start.Start.{Start}
use Rattle.carte_record.specs.declared.start.Start.TheVariants.{Cleared, GoOn}
use Rattle.carte_record.specs.declared.way.Way.{Way}
use Rattle.carte_record.specs.declared.way.Way.TheVariants.{Verifying, Constructive, Deep}
use Rattle.carte_record.specs.Bodies.{IsUnmarked}
use Rattle.carte_record.specs.Empty.{brings_no_key, brings_no_trace, goes_on, is_empty}
use Rattle.carte_record.specs.Folds.{applied, apply, carried, started}
use Rattle.carte_record.specs.Kept.{SomeKept, nothing_kept}
use Rattle.carte_record.proofs.Growing.{kept_same}
use Rattle.carte_sound.specs.LeadsTo.{empty_batch}
use Rattle.carte_sound.specs.Lists.{EachOnce}
use Rattle.carte_sound.proofs.Emptied.{empty_applied}
use Rattle.carte_state.specs.Runs.{AreUnmarked}
use Rattle.carte_compact.specs.Live.{IsLive}
use Rattle.carte_compact.proofs.Bare.{both, no_items}
use Rattle.carte_migrate.specs.Cleared.{cleared}
use Rattle.carte_migrate.specs.Each.{CarriesEach}
use Rattle.carte_migrate.proofs.Once.{each, nothing_each}

pub cleared_start : (o : Option Batch) → (cleared o).start ≡ Cleared
cleared_start None = refl
cleared_start (Some B) = refl

no_chain : (o : Option (List (List ℕ))) → is_none o ≡ true → o ≡ None
no_chain None is = refl
no_chain (Some ks) is = cc

-- one with nothing in it is the empty one
pub cleared_new : (B : Batch) → is_empty B ≡ true → record B { start = Cleared } ≡ cleared None
cleared_new B is =
    let halves = both ((goes_on B.start && is_none B.chain) && brings_no_key B) (brings_no_trace B) is in
    let front = both (goes_on B.start && is_none B.chain) (brings_no_key B) halves.0 in
    let keys = both ((length B.values == 0 && length B.gone == 0) && length B.seen == 0) (length B.entries == 0 && length B.stale == 0) front.1 in
    let named = both (length B.values == 0 && length B.gone == 0) (length B.seen == 0) keys.0 in
    let held = both (length B.values == 0) (length B.gone == 0) named.0 in
    let marked = both (length B.entries == 0) (length B.stale == 0) keys.1 in
    let ways = both (length B.verifying == 0 && length B.constructive == 0) (length B.deep == 0) halves.1 in
    let two = both (length B.verifying == 0) (length B.constructive == 0) ways.0 in
    join (no_items B.values held.0) (no_items B.gone held.1) (no_items B.seen named.1) (no_items B.entries marked.0) (no_items B.stale marked.1)
    (no_items B.verifying two.0) (no_items B.constructive two.1) (no_items B.deep ways.1) (no_chain B.chain (both (goes_on B.start) (is_none B.chain) front.0).1)
  where
    join : B.values ≡ [] → B.gone ≡ [] → B.seen ≡ [] → B.entries ≡ [] → B.stale ≡ [] → B.verifying ≡ [] → B.constructive ≡ [] → B.deep ≡ [] → B.chain ≡ None → record B { start = Cleared } ≡ cleared None
    join values gone seen entries stale verifying constructive deep chain i = record { start = Cleared; values = values i; gone = gone i; seen = seen i; entries = entries i; stale = stale i; verifying = verifying i; constructive = constructive i; deep = deep i; chain = chain i }

-- of nothing it makes the same
restarted : (B : Batch) (K : SomeKept) → carried (record B { start = Cleared }) K ≡ carried B K
restarted B K = kept_same (carried (record B { start = Cleared }) K) (carried B K) (λ k. refl) (λ k. refl) traces refl (λ d. refl)
  where
    traces : (w : Way) (k : List ℕ) → (carried (record B { start = Cleared }) K).traces w k ≡ (carried B K).traces w k
    traces Verifying k = refl
    traces Constructive k = refl
    traces Deep k = refl

begun : (s : Start) → started s nothing_kept ≡ nothing_kept
begun GoOn = refl
begun Cleared = refl

from_nothing : (B : Batch) → apply (record B { start = Cleared }) nothing_kept ≡ apply B nothing_kept
from_nothing B = restarted B nothing_kept ∙ ap (carried B) (sym (begun B.start))

pub one_kept : (K : SomeKept) (Bs : List Batch) (o : Option Batch) → Bs ≡ option_to_list o → applied nothing_kept Bs ≡ K → apply (cleared o) nothing_kept ≡ K
one_kept K Bs None is kept = from_nothing empty_batch ∙ empty_applied nothing_kept ∙ ap (applied nothing_kept) (sym is) ∙ kept
one_kept K Bs (Some B) is kept = from_nothing B ∙ ap (applied nothing_kept) (sym is) ∙ kept

pub one_unmarked : (Bs : List Batch) (o : Option Batch) → Bs ≡ option_to_list o → AreUnmarked Bs → EachFits IsUnmarked (cleared o).entries
one_unmarked Bs None is unmarked = tt
one_unmarked Bs (Some B) is unmarked = (subst AreUnmarked is unmarked).0

pub one_each : (K : Kept) (Bs : List Batch) (o : Option Batch) → IsLive K Bs → EachOnce (map digest_of K.values) → Bs ≡ option_to_list o → CarriesEach (cleared o)
one_each K Bs None live once is = nothing_each
one_each K Bs (Some B) (inl (bare, none)) once is = let clash : B ∷ [] ≡ [] = sym is ∙ none in cc
one_each K Bs (Some B) (inr (some, live)) once is =
    let lists : B ∷ [] ≡ live.first ∷ [] = sym is ∙ live.batches in
    let same : B ≡ live.first = cc in
    subst (λ C. CarriesEach (record C { start = Cleared })) (sym same) (each K live.names live.keys live.seen.rising live.listed.rising once live.first live.all)
