use Rattle.std.proofs.Common.{◌<◌, ◌≤◌, length, subst, rules, arith}
use Rattle.carte_book.specs.Book.{book_view}
use Rattle.carte_sound.specs.Chains.{ArePicked}
use Rattle.carte_table.proofs.Fronts.{take_whole}
use Rattle.carte_restart.specs.Led.{IsOther}
use Rattle.carte_restart.proofs.Taking.{other_step}
use Rattle.carte_restart.proofs.first.others.Goals as goal

pub loop-at-preserved : goal.loop-at-preserved
loop-at-preserved c chain taken =
    let led = c.args.led.now in
    let at = c.loop-at.at in
    let below : at < length led = omega arith in
    other_step (book_view c.args.book.now) led chain c.args.taken.now at c.index-led-at.result c.is_taken.result c.loop-at.names.items c.push_other.new.names.items taken below c.index-led-at.is c.is_taken.ensures (c.loop-at.invariant chain taken) (c.in_ok-push_other.ensures {u = tt})

pub returns : goal.returns
returns c chain taken =
    let led = c.args.led.now in
    let past : length led ≤ c.loop-at.at = search rules in
    subst (λ ks. ArePicked (IsOther (book_view c.args.book.now) chain) ks c.loop-at.names.items) (take_whole c.loop-at.at led past) (c.loop-at.invariant chain taken)
