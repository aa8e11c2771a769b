-- The batch that clears a state leaves nothing, and has no more than that takes.
use Rattle.std.proofs.Common.{◌≡◌, ℕ, Bool, true, false, ◌&&◌, if◌then◌else◌, List, [], ◌∷◌, length, Option, Some, None, refl, sym, ap, ◌∙◌, inl, inr, arith}
use Rattle.std.proofs.lemmas.Bool.{eqb-true}
use Rattle.std.specs.Prelude.{◌==◌, is_none}
use Rattle.carte_value.specs.declared.digest.Digest.{Digest}
use Rattle.carte_value.specs.declared.link.Link.{Link}
use Rattle.carte_value.specs.declared.value.Value.{Value}
use Rattle.carte_name.specs.Names.{name_eq}
use Rattle.carte_value.specs.Spelling.{digest_of}
use Rattle.carte_record.specs.declared.entry.Entry.{Entry}
use Rattle.carte_record.specs.declared.kept.Kept.{Kept}
use Rattle.carte_record.specs.declared.start.Start.TheVariants.{Cleared}
use Rattle.carte_record.specs.declared.way.Way.{Way}
use Rattle.carte_record.specs.declared.way.Way.TheVariants.{Verifying, Constructive, Deep}
use Rattle.carte_record.specs.Empty.{is_bare}
use Rattle.carte_record.specs.Folds.{apply, batch_traces}
use Rattle.carte_record.specs.Kept.{SomeKept, kept_view, newest, nothing_kept, traces_in}
use Rattle.carte_record.specs.Ways.{TraceBy, key_by, eq_by}
use Rattle.carte_table.specs.Lookups.{first_link, first_value}
use Rattle.carte_record.specs.Lookups.{first_entry}
use Rattle.carte_record.proofs.Growing.{kept_same, no_traces}
use Rattle.carte_sound.specs.LeadsTo.{empty_batch}
use Rattle.carte_sound.proofs.Tests.{name_self, digest_self}
use Rattle.carte_record_one.specs.declared.kept.KeptOne.{KeptOne}
use Rattle.carte_state.specs.States.{Stand, any_in, any_of}
use Rattle.carte_state.specs.Versions.{InTwo, two_of}
use Rattle.carte_engine.specs.Clearing.{clearing}
use Rattle.carte_top.specs.Found.{IsClearing}

both : (b c : Bool) → b && c ≡ true → (b ≡ true) × (c ≡ true)
both true c is = (refl, is)
both false c is = cc

nil_from : {A : Type 0} (xs : List A) → length xs == 0 ≡ true → xs ≡ []
nil_from [] is = refl
nil_from (x ∷ xs) is = absurd (let long : length (x ∷ xs) ≡ 0 = eqb-true (length (x ∷ xs)) 0 is in omega arith)

-- where nothing stands in any list
bare_keeps : (K : Kept) → is_bare K ≡ true → kept_view K ≡ nothing_kept
bare_keeps K is =
    let halves = both (length K.chain == 0 && (length K.seen == 0 && length K.entries == 0))
    ((length K.verifying == 0 && length K.constructive == 0) && (length K.deep == 0 && length K.values == 0)) is in
    let head = both (length K.chain == 0) (length K.seen == 0 && length K.entries == 0) halves.0 in
    let tail = both (length K.verifying == 0 && length K.constructive == 0) (length K.deep == 0 && length K.values == 0) halves.1 in
    let links = both (length K.seen == 0) (length K.entries == 0) head.1 in
    let ways = both (length K.verifying == 0) (length K.constructive == 0) tail.0 in
    let more = both (length K.deep == 0) (length K.values == 0) tail.1 in
    kept_same (kept_view K) nothing_kept
    (λ k. ap (λ ls. first_link ls k) (nil_from K.seen links.0)) (λ k. ap (λ es. first_entry es k) (nil_from K.entries links.1))
    (no_traces K (nil_from K.verifying ways.0) (nil_from K.constructive ways.1) (nil_from K.deep more.0))
    (nil_from K.chain head.0) (λ d. ap (λ vs. first_value vs d) (nil_from K.values more.1))

cleared_keeps : (K : SomeKept) → apply (record empty_batch { start = Cleared }) K ≡ nothing_kept
cleared_keeps K = kept_same (apply (record empty_batch { start = Cleared }) K) nothing_kept (λ k. refl) (λ k. refl) none refl (λ d. refl)
  where
    none : (w : Way) (k : List ℕ) → traces_in w k (batch_traces w (record empty_batch { start = Cleared })) [] ≡ []
    none Verifying k = refl
    none Constructive k = refl
    none Deep k = refl

-- and where nothing is kept, nothing does
no_link : (ls : List Link) → ((k : List ℕ) → first_link ls k ≡ None) → ls ≡ []
no_link [] none = refl
no_link (l ∷ ls) none = let there : first_link (l ∷ ls) l.name ≡ Some l.digest = rw (name_self l.name) refl in let here = none l.name in cc

no_entry : (es : List Entry) → ((k : List ℕ) → first_entry es k ≡ None) → es ≡ []
no_entry [] none = refl
no_entry (e ∷ es) none = let there : first_entry (e ∷ es) e.key ≡ Some e = rw (name_self e.key) refl in let here = none e.key in cc

pub no_value : (vs : List Value) → ((d : Digest) → first_value vs d ≡ None) → vs ≡ []
no_value [] none = refl
no_value (v ∷ vs) none = let there : first_value (v ∷ vs) (digest_of v) ≡ Some v = rw (digest_self (digest_of v)) refl in let here = none (digest_of v) in cc

module _ (w : Way) where
  some_newest : (b : Bool) (t : TraceBy w) (old : List (TraceBy w)) → ¬ (old ≡ []) → ¬ ((if b then newest (eq_by w) t old else old) ≡ [])
  some_newest true t old some is = cc
  some_newest false t old some is = some is

  still_some : (k : List ℕ) (ts old : List (TraceBy w)) → ¬ (old ≡ []) → ¬ (traces_in w k ts old ≡ [])
  still_some k [] old some is = some is
  still_some k (t ∷ ts) old some is = still_some k ts (if name_eq k (key_by w t) then newest (eq_by w) t old else old) (some_newest (name_eq k (key_by w t)) t old some) is

  no_trace : (ts : List (TraceBy w)) → ((k : List ℕ) → traces_in w k ts [] ≡ []) → ts ≡ []
  no_trace [] none = refl
  no_trace (t ∷ ts) none =
      let there : traces_in w (key_by w t) (t ∷ ts) [] ≡ traces_in w (key_by w t) ts (t ∷ []) = rw (name_self (key_by w t)) refl in
      absurd (still_some (key_by w t) ts (t ∷ []) (λ is. cc) (sym there ∙ none (key_by w t)))

nothing_bare : (K : Kept) → kept_view K ≡ nothing_kept → is_bare K ≡ true
nothing_bare K is =
    let chain : K.chain ≡ [] = ap (λ (L : SomeKept). L.chain) is in
    let seen = no_link K.seen (λ k. ap (λ (L : SomeKept). L.seen k) is) in
    let entries = no_entry K.entries (λ k. ap (λ (L : SomeKept). L.entries k) is) in
    let verifying = no_trace Verifying K.verifying (λ k. ap (λ (L : SomeKept). L.traces Verifying k) is) in
    let constructive = no_trace Constructive K.constructive (λ k. ap (λ (L : SomeKept). L.traces Constructive k) is) in
    let deep = no_trace Deep K.deep (λ k. ap (λ (L : SomeKept). L.traces Deep k) is) in
    let values = no_value K.values (λ d. ap (λ (L : SomeKept). L.stored d) is) in
    rw (chain, seen, entries, verifying, constructive, deep, values) refl

-- what is kept of version 1 is something
by_bare : (K : Kept) (t : Bool) → is_bare K ≡ t → IsClearing (InTwo (kept_view K)) (if t then empty_batch else record empty_batch { start = Cleared })
by_bare K true bare = record { leaves = ap InTwo (bare_keeps K bare); least = inl (ap InTwo (bare_keeps K bare), refl) }
by_bare K false bare = record { leaves = ap InTwo (cleared_keeps (kept_view K)); least = inr (λ nothing. let all = nothing_bare K (ap two_of nothing) in cc, refl) }

by_version : (o : Option KeptOne) (K : Kept) → IsClearing (any_of o (kept_view K)) (if is_none o && is_bare K then empty_batch else record empty_batch { start = Cleared })
by_version None K = by_bare K (is_bare K) refl
by_version (Some J) K = record { leaves = ap InTwo (cleared_keeps nothing_kept); least = inr (λ nothing. cc, refl) }

pub is_clearing : (s : Stand) → IsClearing (any_in s) (clearing s)
is_clearing s = by_version s.one s.kept
