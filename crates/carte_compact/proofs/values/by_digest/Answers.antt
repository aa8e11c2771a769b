use Rattle.std.proofs.Common.{◌≡◌, ◌≤◌, length, sym, subst, ◌∙◌, rules}
use Rattle.std.specs.List.Sorted.{IsPermutation, IsStableByKey}
use Rattle.std.proofs.lemmas.List.Sorted.{answers_always}
use Rattle.std.proofs.lemmas.Result.{IfOk-weaker}
use Rattle.carte_name.specs.Names.{name_cmp}
use Rattle.carte_table.proofs.Fronts.{take_whole}
use Rattle.carte_compact.specs.Live.{IsByDigest, order_of}
use Rattle.carte_compact.proofs.values.by_digest.Goals as goal

pub returns : goal.returns
returns c =
    let values = c.args.values.now in
    let sorted = c.sort_by_cached_key.new.self.items in
    let past : length values ≤ c.loop-value.value-index = search rules in
    let all : c.loop-value.list.items ≡ values = c.loop-value.invariant ∙ take_whole c.loop-value.value-index values past in
    let listed : IsByDigest values sorted = record {
      same = subst (λ xs. IsPermutation xs sorted) all c.sort_by_cached_key.ensures.permutation;
      rising = (c.in_ok-sort_by_cached_key.ensures {u = tt}).sorted order_of (answers_always _ _ _ (λ f a r g h. search rules));
      stable = subst (λ xs. IsStableByKey order_of name_cmp xs sorted) all (c.sort_by_cached_key.ensures.stable order_of (answers_always _ _ _ (λ f a r g h. search rules)));
    }
    in IfOk-weaker c.with_places.result _ _ (λ list is. subst (IsByDigest values) (sym is) listed) c.with_places.ensures
