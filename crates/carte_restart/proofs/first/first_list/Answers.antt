use Rattle.std.proofs.Common.{Bool, List, sym, subst}
use Rattle.carte_value.specs.Truths.{Among, IsListOf}
use Rattle.carte_book.specs.Book.{book_view}
use Rattle.carte_record.specs.Kept.{kept_view}
use Rattle.carte_restart.specs.Led.{AreTaken, IsRuleAmong}
use Rattle.carte_restart.proofs.Picking.{first_list}
use Rattle.carte_restart.proofs.first.first_list.Goals as goal

pub returns : goal.returns
returns c =
    let K = kept_view c.args.kept.now in
    let b = book_view c.args.book.now in
    let led = c.in_ok-led.led in
    let ok = c.in_ok-list.ensures {u = tt} in
    let taken = ok.taken (c.in_ok-taken.ensures {u = tt}) in
    let others = (c.in_ok-others.ensures {u = tt}) K.chain (subst (λ (ks : List Bool). AreTaken c.as_slice.result.now K.chain ks) (sym c.as_slice-2.ensures.value) (subst (λ ks. AreTaken ks K.chain c.chained.new.taken.items) (sym c.as_slice.ensures.names) taken)) in
    let besides = subst (λ ks. IsListOf (λ k. IsRuleAmong b ks k × ¬ (Among K.chain k)) c.in_ok-others.others) c.as_slice.ensures.names others in
    first_list K b c.args.targets.now led c.in_ok-list.list c.in_ok-others.others c.append.new.self (c.in_ok-led.ensures {u = tt}) ok.picked besides (c.in_ok-append.ensures {u = tt})
