-- An empty batch changes nothing, and of lists with no item nothing is kept.
use Rattle.std.proofs.Common.{◌≡◌, ℕ, Bool, true, false, ◌&&◌, List, [], ◌∷◌, Option, Some, None, refl, ap, ◌∙◌, length, arith}
use Rattle.std.proofs.lemmas.Bool.{eqb-true}
use Rattle.std.specs.Prelude.{◌==◌, is_none, option_map, unwrap_or}
use Rattle.std.specs.Option.{option_or}
use Rattle.carte_record.specs.declared.start.Start.{Start}
use Rattle.carte_record.specs.declared.start.Start.TheVariants.{GoOn, Cleared}
use Rattle.carte_record.specs.declared.batch.Batch.{Batch}
use Rattle.carte_record.specs.declared.kept.Kept.{Kept}
use Rattle.carte_record.specs.declared.way.Way.{Way}
use Rattle.carte_record.specs.declared.way.Way.TheVariants.{Verifying, Constructive, Deep}
use Rattle.carte_table.specs.Lookups.{first_link, first_value, link_in}
use Rattle.carte_record.specs.Lookups.{entry_in, first_entry}
use Rattle.carte_record.specs.Kept.{SomeKept, kept_view, nothing_kept, traces_in, staled}
use Rattle.carte_record.specs.Folds.{apply, started, carried, batch_traces, is_among}
use Rattle.carte_record.specs.Empty.{goes_on, brings_no_key, brings_no_trace, drops_nothing, is_bare, EmptyChangesNothing}
use Rattle.carte_table.proofs.Found.{or_none}
use Rattle.carte_record.specs.Growth.{put_in}
use Rattle.carte_record.proofs.Growing.{kept_same, no_traces}
use Rattle.carte_record.proofs.Gone.{dropping_none}

pub both : (b c : Bool) → b && c ≡ true → (b ≡ true) × (c ≡ true)
both true c is = (refl, is)
both false c is = cc

pub nil_from : {A : Type 0} (xs : List A) → length xs == 0 ≡ true → xs ≡ []
nil_from [] is = refl
nil_from (x ∷ xs) is = absurd (let long : length (x ∷ xs) ≡ 0 = eqb-true (length (x ∷ xs)) 0 is in omega arith)

none_from : {A : Type 0} (o : Option A) → is_none o ≡ true → o ≡ None
none_from None is = refl
none_from (Some x) is = cc

pub start_from : (s : Start) → goes_on s ≡ true → s ≡ GoOn
start_from GoOn is = refl
start_from Cleared is = cc

pub empty_same : EmptyChangesNothing
empty_same B K is =
    let all = both ((goes_on B.start && is_none B.chain) && brings_no_key B) (brings_no_trace B) is in
    let rest = both (goes_on B.start && is_none B.chain) (brings_no_key B) all.0 in
    let head = both (goes_on B.start) (is_none B.chain) rest.0 in
    let keys = both ((length B.values == 0 && length B.gone == 0) && length B.seen == 0) (length B.entries == 0 && length B.stale == 0) rest.1 in
    let more = both (length B.values == 0 && length B.gone == 0) (length B.seen == 0) keys.0 in
    let most = both (length B.values == 0) (length B.gone == 0) more.0 in
    let less = both (length B.entries == 0) (length B.stale == 0) keys.1 in
    let ways = both (length B.verifying == 0 && length B.constructive == 0) (length B.deep == 0) all.1 in
    let two = both (length B.verifying == 0) (length B.constructive == 0) ways.0 in
    ap (λ s. carried B (started s K)) (start_from B.start head.0) ∙ dropping_none B K (nil_from B.gone most.1) ∙ kept_same (put_in B K) K
    (λ k. ap (λ ls. option_or (link_in ls k) (K.seen k)) (nil_from B.seen more.1))
    (λ k. ap (λ es. option_map (staled (is_among B.stale k)) (option_or (entry_in es k) (K.entries k))) (nil_from B.entries less.0)
    ∙ (ap (λ ks. option_map (staled (is_among ks k)) (K.entries k)) (nil_from B.stale less.1) ∙ unmarked (K.entries k)))
    (traces two.0 two.1 ways.1) (ap (λ o. unwrap_or o K.chain) (none_from B.chain head.1))
    (λ d. ap (λ vs. option_or (K.stored d) (first_value vs d)) (nil_from B.values most.0) ∙ or_none (K.stored d))
  where
    unmarked : (o : _) → option_map (staled false) o ≡ o
    unmarked None = refl
    unmarked (Some e) = refl

    traces : length B.verifying == 0 ≡ true → length B.constructive == 0 ≡ true → length B.deep == 0 ≡ true → (w : Way) (k : List ℕ) → traces_in w k (batch_traces w B) (K.traces w k) ≡ K.traces w k
    traces v c d Verifying k = ap (λ ts. traces_in Verifying k ts (K.traces Verifying k)) (nil_from B.verifying v)
    traces v c d Constructive k = ap (λ ts. traces_in Constructive k ts (K.traces Constructive k)) (nil_from B.constructive c)
    traces v c d Deep k = ap (λ ts. traces_in Deep k ts (K.traces Deep k)) (nil_from B.deep d)

-- a batch that begins with all that is kept
pub nothing_dropped : (B : Batch) (K : SomeKept) → drops_nothing B ≡ true → apply B K ≡ put_in B K
nothing_dropped B K is =
    let parts = both (goes_on B.start) (length B.gone == 0) is in
    ap (λ s. carried B (started s K)) (start_from B.start parts.0) ∙ dropping_none B K (nil_from B.gone parts.1)

-- where no list has an item
pub bare_kept : (K : Kept) → is_bare K ≡ true → kept_view K ≡ nothing_kept
bare_kept K is =
    let halves = both (length K.chain == 0 && (length K.seen == 0 && length K.entries == 0)) ((length K.verifying == 0 && length K.constructive == 0) && (length K.deep == 0 && length K.values == 0)) is in
    let head = both (length K.chain == 0) (length K.seen == 0 && length K.entries == 0) halves.0 in
    let tail = both (length K.verifying == 0 && length K.constructive == 0) (length K.deep == 0 && length K.values == 0) halves.1 in
    let links = both (length K.seen == 0) (length K.entries == 0) head.1 in
    let ways = both (length K.verifying == 0) (length K.constructive == 0) tail.0 in
    let more = both (length K.deep == 0) (length K.values == 0) tail.1 in
    kept_same (kept_view K) nothing_kept (λ k. ap (λ ls. first_link ls k) (nil_from K.seen links.0)) (λ k. ap (λ es. first_entry es k) (nil_from K.entries links.1))
    (no_traces K (nil_from K.verifying ways.0) (nil_from K.constructive ways.1) (nil_from K.deep more.0)) (nil_from K.chain head.0) (λ d. ap (λ vs. first_value vs d) (nil_from K.values more.1))
