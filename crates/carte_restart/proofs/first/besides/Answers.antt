use Rattle.std.proofs.Common.{sym, subst}
use Rattle.carte_book.specs.Book.{book_view}
use Rattle.carte_value.specs.Truths.{Among, IsListOf}
use Rattle.carte_mark.proofs.Listing.{IsInOrder}
use Rattle.carte_progress.proofs.Answered.{if_ok_by}
use Rattle.carte_restart.specs.Led.{IsRuleAmong}
use Rattle.carte_restart.proofs.Picking.{besides_all}
use Rattle.carte_restart.proofs.first.besides.Goals as goal

pub returns : goal.returns
returns c =
    let b = book_view c.args.book.now in
    let led = c.args.led.now in
    let ms = c.in_ok-names.names.items in
    let sorted = c.sort_unstable.new.self.items in
    let once = c.dedup.new.self.items in
    let order : IsInOrder ms sorted once = record { permutation = c.sort_unstable.ensures.permutation; rising = c.sort_unstable.ensures.sorted; once = c.dedup.ensures.filtered } in
    if_ok_by c.listed.result (λ names is chain taken. subst (IsListOf (λ k. IsRuleAmong b led k × ¬ (Among chain k))) (sym is) (besides_all b led chain ms sorted once ((c.in_ok-names.ensures {u = tt}) chain taken) order)) c.listed.ensures
