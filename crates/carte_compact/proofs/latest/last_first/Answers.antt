use Rattle.std.proofs.Common.{◌≡◌, ◌+◌, ◌-◌, ◌<◌, ◌∷◌, false, true, length, map, drop, ap, sym, ◌∙◌, arith}
use Rattle.std.specs.List.{list_any}
use Rattle.carte_table.proofs.FirstPlaces.{map_end}
use Rattle.carte_compact.specs.Contents.{alike_sym}
use Rattle.carte_compact.specs.declared.content.Content.{Content}
use Rattle.carte_compact.proofs.Backwards.{added, not_from, not_to, passed, told}
use Rattle.carte_record.proofs.Links.{item_ahead}
use Rattle.carte_compact.proofs.latest.last_first.Goals as goal

pub loop-left-preserved-in-Continue-branch-2 : goal.loop-left-preserved-in-Continue-branch-2
loop-left-preserved-in-Continue-branch-2 g c =
    let alike = g.T.Compared.alike in
    let turned = alike_sym alike g.met.T.Compared.alike_is g.met.T.Compared.alike_self in
    let traces = c.args.traces.now in
    let left = c.loop-left.left - 1 in
    let trace = c.index-traces-left.result in
    let before = c.loop-left.invariant in
    let below : left < length traces = omega (arith, before.within, c.loop-left-test.true) in
    let one : left + 1 ≡ c.loop-left.left = omega (arith, c.loop-left-test.true) in
    let ts = drop c.loop-left.left traces in
    let all : drop left traces ≡ trace ∷ ts = item_ahead traces left trace below c.index-traces-left.is ∙ ap (λ n. trace ∷ drop n traces) one in
    let content : Content g.row.T.Denot = record { trace = record { ref_ptr = (0, 0); now = trace } } in
    let insert = c.in_ok-insert.ensures {u = tt} in
    let last : list_any (alike trace) ts ≡ false = sym (before.later content) ∙ not_from _ _ insert.added c.if-branch.true in
    record {
      within = omega (arith, below);
      list = added alike trace ts (drop left traces) (map (λ t. t.now) c.loop-left.list.items) (map (λ t. t.now) c.push.new.self.items) last before.list
          (ap (map (λ t. t.now)) ((c.in_ok-push.ensures {u = tt}).items) ∙ map_end (λ t. t.now) c.loop-left.list.items _) all;
      later = λ q. told alike turned trace q.trace.now ts (drop left traces) _ _ (insert.updates.0 q) (before.later q) all;
    }

pub loop-left-preserved : goal.loop-left-preserved
loop-left-preserved g c =
    let alike = g.T.Compared.alike in
    let turned = alike_sym alike g.met.T.Compared.alike_is g.met.T.Compared.alike_self in
    let traces = c.args.traces.now in
    let left = c.loop-left.left - 1 in
    let trace = c.index-traces-left.result in
    let before = c.loop-left.invariant in
    let below : left < length traces = omega (arith, before.within, c.loop-left-test.true) in
    let one : left + 1 ≡ c.loop-left.left = omega (arith, c.loop-left-test.true) in
    let ts = drop c.loop-left.left traces in
    let all : drop left traces ≡ trace ∷ ts = item_ahead traces left trace below c.index-traces-left.is ∙ ap (λ n. trace ∷ drop n traces) one in
    let content : Content g.row.T.Denot = record { trace = record { ref_ptr = (0, 0); now = trace } } in
    let insert = c.in_ok-insert.ensures {u = tt} in
    let again : list_any (alike trace) ts ≡ true = sym (before.later content) ∙ not_to _ _ insert.added c.if-branch.false in
    record {
      within = omega (arith, below);
      list = passed alike trace ts (drop left traces) (map (λ t. t.now) c.loop-left.list.items) again before.list all;
      later = λ q. told alike turned trace q.trace.now ts (drop left traces) _ _ (insert.updates.0 q) (before.later q) all;
    }
