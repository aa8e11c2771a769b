-- There is one live information.
use Rattle.std.proofs.Common.{◌≡◌, ℕ, true, false, List, [], ◌∷◌, ap, sym, ◌∙◌, subst, inl, inr}
use Rattle.carte_value.specs.Truths.{Among}
use Rattle.carte_record.specs.declared.batch.Batch.{Batch}
use Rattle.carte_record.specs.declared.kept.Kept.{Kept}
use Rattle.carte_compact.specs.Laws.{OneLive}
use Rattle.carte_compact.specs.Live.{IsAllOf, IsSomeLive, keys_of, names_of}
use Rattle.carte_compact.proofs.Ranks.{one_by_digest}
use Rattle.carte_compact.proofs.Sizes.{one_list}

one_batch : (K : Kept) (names keys : List (List ℕ)) (B C : Batch) → IsAllOf K names keys B → IsAllOf K names keys C → B ≡ C
one_batch K names keys B C all all' = join (one_by_digest K.values B.values C.values all.values all'.values)
  where
    join : B.values ≡ C.values → B ≡ C
    join values i = record {
      start = (all.start ∙ sym all'.start) i;
      values = values i;
      gone = (all.gone ∙ sym all'.gone) i;
      seen = (all.seen ∙ sym all'.seen) i;
      stale = (all.stale ∙ sym all'.stale) i;
      entries = (all.entries ∙ sym all'.entries) i;
      verifying = (all.verifying ∙ sym all'.verifying) i;
      constructive = (all.constructive ∙ sym all'.constructive) i;
      deep = (all.deep ∙ sym all'.deep) i;
      chain = (all.chain ∙ sym all'.chain) i;
    }

some_one : (K : Kept) (Bs Cs : List Batch) → IsSomeLive K Bs → IsSomeLive K Cs → Bs ≡ Cs
some_one K Bs Cs live live' =
    let names = one_list (Among (names_of K.seen)) live'.names live.names live'.seen live.seen in
    let keys = one_list (Among (keys_of K.entries)) live'.keys live.keys live'.listed live.listed in
    let all : IsAllOf K live.names live.keys live'.first = subst (λ ks. IsAllOf K live.names ks live'.first) keys (subst (λ ns. IsAllOf K ns live'.keys live'.first) names live'.all) in
    live.batches ∙ ap (λ B. B ∷ []) (one_batch K live.names live.keys live.first live'.first live.all all) ∙ sym live'.batches

pub one_live : OneLive
one_live K Bs Cs (inl (bare, none)) (inl (bare', none')) = none ∙ sym none'
one_live K Bs Cs (inl (bare, none)) (inr (some, live)) = let clash : true ≡ false = sym bare ∙ some in cc
one_live K Bs Cs (inr (some, live)) (inl (bare, none)) = let clash : true ≡ false = sym bare ∙ some in cc
one_live K Bs Cs (inr (some, live)) (inr (some', live')) = some_one K Bs Cs live live'
