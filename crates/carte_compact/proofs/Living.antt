-- The live information makes of nothing what is kept.
use Rattle.std.proofs.Common.{◌≡◌, ℕ, Bool, true, false, ◌&&◌, List, [], ◌∷◌, Option, Some, None, refl, ap, sym, ◌∙◌, inl, inr}
use Rattle.std.specs.Prelude.{option_map, unwrap_or}
use Rattle.carte_value.specs.declared.digest.Digest.{Digest}
use Rattle.carte_value.specs.declared.link.Link.{Link}
use Rattle.carte_value.specs.Truths.{Among, IsListOf}
use Rattle.carte_table.specs.Lookups.{digest_in, first_link, link_in}
use Rattle.carte_table.proofs.Found.{or_none}
use Rattle.carte_table.proofs.Names.{name_eq_is}
use Rattle.carte_record.specs.declared.batch.Batch.{Batch}
use Rattle.carte_record.specs.declared.entry.Entry.{Entry}
use Rattle.carte_record.specs.declared.kept.Kept.{Kept}
use Rattle.carte_record.specs.declared.way.Way.{Way}
use Rattle.carte_record.specs.declared.way.Way.TheVariants.{Verifying, Constructive, Deep}
use Rattle.carte_record.specs.Folds.{applied, apply, batch_traces, carried, is_among, started}
use Rattle.carte_record.specs.Kept.{kept_traces, kept_view, nothing_kept, staled, traces_in}
use Rattle.carte_record.specs.Lookups.{entry_in, first_entry, is_entry_of}
use Rattle.carte_record.specs.Marked.{marked_as}
use Rattle.carte_record.specs.Growth.{put_in}
use Rattle.carte_record.proofs.Empties.{bare_kept}
use Rattle.carte_record.proofs.Gone.{dropping_none}
use Rattle.carte_record.proofs.Growing.{kept_same}
use Rattle.carte_record.proofs.Looked.{find_passes}
use Rattle.carte_compact.specs.Laws.{LiveIsKept}
use Rattle.carte_compact.specs.Live.{IsAllOf, chain_for, entry_at, found_at, is_stale, keys_of, link_at, names_of, stale_at}
use Rattle.carte_compact.proofs.Found.{among_let, each_found, unlisted}
use Rattle.carte_compact.proofs.Repeats.{last_traces}
use Rattle.carte_compact.proofs.Ties.{first_stays}

-- ---- links and entries that are found

own_link : (ls : List Link) (n : List ℕ) (l : Link) → link_at ls n ≡ Some l → l.name ≡ n
own_link ls n l is = on (first_link ls n) is
  where
    on : (o : Option Digest) → option_map (λ d. let m : Link = record { name = n; digest = d } in m) o ≡ Some l → l.name ≡ n
    on None is = cc
    on (Some d) is = cc

own_entry : (es : List Entry) (k : List ℕ) (e : Entry) → entry_at es k ≡ Some e → e.key ≡ k
own_entry es k e is = on (first_entry es k) refl is
  where
    on : (o : Option Entry) → first_entry es k ≡ o → option_map (marked_as false) o ≡ Some e → e.key ≡ k
    on None found is = cc
    on (Some f) found is =
        let same : marked_as false f ≡ e = cc in
        sym (ap (λ (g : Entry). g.key) same) ∙ sym (name_eq_is k f.key (find_passes (is_entry_of k) es f found))

abbrev linked : List ℕ → Digest → Link
linked n d = record { name = n; digest = d }

digest_of_link : (n : List ℕ) (o : Option Digest) → digest_in (option_map (linked n) o) ≡ o
digest_of_link n None = refl
digest_of_link n (Some d) = refl

-- an entry without its mark that gets it again
marked_again : (o : Option Entry) (b : Bool) → b ≡ is_stale o → option_map (staled b) (option_map (marked_as false) o) ≡ o
marked_again None b is = refl
marked_again (Some e) true is = ap (λ c. let f : Entry = record e { stale = c } in Some f) is
marked_again (Some e) false is = ap (λ c. let f : Entry = record e { stale = c } in Some f) is

chain_again : (ks : List (List ℕ)) → unwrap_or (chain_for ks) [] ≡ ks
chain_again [] = refl
chain_again (k ∷ ks) = refl

-- ---- what each part makes

module _ (K : Kept) (names keys : List (List ℕ)) (seen : IsListOf (Among (names_of K.seen)) names) (listed : IsListOf (Among (keys_of K.entries)) keys) where
  links : (ls : List Link) → ls ≡ found_at (link_at K.seen) names → (k : List ℕ) → link_in ls k ≡ first_link K.seen k
  links ls is k =
      ap (λ us. link_in us k) is
      ∙ ap digest_in (each_found (λ l. l.name) (link_at K.seen) (own_link K.seen) names k (λ apart. ap (λ o. option_map (λ d. linked k d) (digest_in o)) (unlisted (λ l. l.name) K.seen names k seen apart)))
      ∙ digest_of_link k (first_link K.seen k)

  lacks : (k : List ℕ) → is_among keys k ≡ false → first_entry K.entries k ≡ None
  lacks k apart = unlisted (λ e. e.key) K.entries keys k listed apart

  entries : (es : List Entry) → es ≡ found_at (entry_at K.entries) keys → (k : List ℕ) → entry_in es k ≡ option_map (marked_as false) (first_entry K.entries k)
  entries es is k =
      ap (λ us. entry_in us k) is
      ∙ each_found (λ e. e.key) (entry_at K.entries) (own_entry K.entries) keys k (λ apart. ap (option_map (marked_as false)) (lacks k apart))

  marks : (k : List ℕ) → is_among (stale_at K.entries keys) k ≡ is_stale (first_entry K.entries k)
  marks k = among_let (λ j. is_stale (first_entry K.entries j)) keys k ∙ on (is_among keys k) refl
    where
      on : (b : Bool) → is_among keys k ≡ b → b && is_stale (first_entry K.entries k) ≡ is_stale (first_entry K.entries k)
      on true there = refl
      on false apart = sym (ap is_stale (lacks k apart))

  -- the batch
  module _ (B : Batch) (all : IsAllOf K names keys B) where
    traces : (w : Way) (k : List ℕ) → traces_in w k (batch_traces w B) [] ≡ traces_in w k (kept_traces w K) []
    traces Verifying k = ap (λ ts. traces_in Verifying k ts []) all.verifying ∙ last_traces Verifying k K.verifying
    traces Constructive k = ap (λ ts. traces_in Constructive k ts []) all.constructive ∙ last_traces Constructive k K.constructive
    traces Deep k = ap (λ ts. traces_in Deep k ts []) all.deep ∙ last_traces Deep k K.deep

    pub kept_again : apply B nothing_kept ≡ kept_view K
    kept_again =
        ap (λ s. carried B (started s nothing_kept)) all.start ∙ dropping_none B nothing_kept all.gone
        ∙ kept_same (put_in B nothing_kept) (kept_view K)
        (λ k. or_none (link_in B.seen k) ∙ links B.seen all.seen k)
        (λ k. ap (option_map (staled (is_among B.stale k))) (or_none (entry_in B.entries k) ∙ entries B.entries all.entries k)
        ∙ marked_again (first_entry K.entries k) (is_among B.stale k) (ap (λ ks. is_among ks k) all.stale ∙ marks k))
        traces
        (ap (λ o. unwrap_or o []) all.chain ∙ chain_again K.chain)
        (first_stays K.values B.values all.values)

-- ---- all of it

pub is_kept : LiveIsKept
is_kept K Bs (inl (none, is)) = ap (applied nothing_kept) is ∙ sym (bare_kept K none)
is_kept K Bs (inr (some, live)) = ap (applied nothing_kept) live.batches ∙ kept_again K live.names live.keys live.seen live.listed live.first live.all
