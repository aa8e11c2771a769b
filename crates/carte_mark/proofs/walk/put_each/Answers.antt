use Rattle.std.proofs.Common.{◌<◌, [], ◌∷◌, ◌++◌, length, take, refl, ap, sym, ◌∙◌, rules}
use Rattle.std.proofs.lemmas.List.{take_more}
use Rattle.carte_value.specs.Firsts.{seen_also}
use Rattle.carte_table.proofs.Steps.{begins_self, begins_on}
use Rattle.carte_mark.specs.Puts.{put_all}
use Rattle.carte_mark.proofs.Putting.{put_end}
use Rattle.carte_mark.proofs.walk.put_each.Goals as goal

pub loop-key-init : goal.loop-key-init
loop-key-init c = (begins_self c.args.reached.now, refl)

pub loop-key-preserved : goal.loop-key-preserved
loop-key-preserved c =
    let keys = c.as_slice-key-items.result.now in
    let at = c.loop-key.key-index in
    let below : at < length keys = search rules in
    let more = take_more keys at c.key-item.result below ∙ ap (λ x. take at keys ++ x ∷ []) (sym c.key-item.is) in
    let put = c.in_ok-put.ensures {u = tt} in (
      begins_on c.args.reached.now c.loop-key.reached c.put.new.names c.loop-key.invariant.0 put.front,
      put.put
          ∙ (ap (λ rs. seen_also rs c.key-item.result) c.loop-key.invariant.1
          ∙ (sym (put_end c.args.reached.now (take at keys) c.key-item.result)
          ∙ ap (put_all c.args.reached.now) (sym more))),
    )

pub returns-in_err-put-clause-front : goal.returns-in_err-put-clause-front
returns-in_err-put-clause-front c = begins_on c.args.reached.now c.loop-key.reached c.put.new.names c.loop-key.invariant.0 c.put.ensures.front

pub returns-clause-front : goal.returns-clause-front
returns-clause-front c = c.loop-key.invariant.0
