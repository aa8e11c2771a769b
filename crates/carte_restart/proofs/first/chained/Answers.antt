use Rattle.std.proofs.Common.{◌<◌, ◌≤◌, [], ◌∷◌, ◌++◌, length, take, ap, sym, ◌∙◌, subst, rules}
use Rattle.std.proofs.lemmas.List.{take_more}
use Rattle.carte_book.specs.Book.{book_view}
use Rattle.carte_sound.specs.Chains.{ArePicked}
use Rattle.carte_table.proofs.Fronts.{take_whole}
use Rattle.carte_restart.specs.Led.{AreTaken, IsRuleAmong}
use Rattle.carte_restart.proofs.Picking.{picked_more}
use Rattle.carte_restart.proofs.first.chained.Goals as goal

pub loop-name-preserved : goal.loop-name-preserved
loop-name-preserved c =
    let P = IsRuleAmong (book_view c.args.book.now) c.args.led.now in
    let names = c.as_slice-name-items.result.now in
    let at = c.loop-name.name-index in
    let below : at < length names = search rules in
    let more = take_more names at c.name-item.result below ∙ ap (λ x. take at names ++ x ∷ []) (sym c.name-item.is) in
    let before = c.loop-name.invariant in
    let ok = c.in_ok-push_led.ensures {u = tt} in
    record {
      picked = subst (λ ks. ArePicked P ks c.push_led.new.names) (sym more) (picked_more P (take at names) c.loop-name.names c.push_led.new.names c.name-item.result before.picked ok.pushes);
      taken = λ none. subst (λ ks. AreTaken c.args.led.now ks c.push_led.new.taken.items) (sym more) (ok.taken (take at names) (before.taken none));
    }

pub returns-clause-picked : goal.returns-clause-picked
returns-clause-picked c =
    let names = c.as_slice-name-items.result.now in
    let past : length names ≤ c.loop-name.name-index = search rules in
    subst (λ ks. ArePicked (IsRuleAmong (book_view c.args.book.now) c.args.led.now) ks c.loop-name.names) (take_whole c.loop-name.name-index names past ∙ c.as_slice-name-items.ensures) c.loop-name.invariant.picked

pub returns-clause-taken : goal.returns-clause-taken
returns-clause-taken c none =
    let names = c.as_slice-name-items.result.now in
    let past : length names ≤ c.loop-name.name-index = search rules in
    subst (λ ks. AreTaken c.args.led.now ks c.loop-name.taken.items) (take_whole c.loop-name.name-index names past ∙ c.as_slice-name-items.ensures) (c.loop-name.invariant.taken none)
