use Rattle.std.proofs.Common.{◌≡◌, ◌++◌, List, ◌∷◌, [], Some, sym, subst, rules}
use Rattle.std.specs.Prelude.{◌||◌}
use Rattle.carte_table.specs.Lookups.{digest_eq, first_value}
use Rattle.carte_value.specs.declared.value.Value.{Value}
use Rattle.carte_trim.specs.Lists.{HasThose}
use Rattle.carte_trim.proofs.Steps.{put_new}
use Rattle.carte_trim.proofs.named.put.Goals as goal

pub returns-in_ok-push : goal.returns-in_ok-push
returns-in_ok-push c before has =
    let all = c.args.all.now in
    let value = c.in-Some.value.now in
    let there : Some value ≡ first_value all c.args.digest.now = search rules in
    let pushed : c.push.new.self ≡ c.args.list.now ++ value ∷ [] = search rules in
    subst (λ (vs : List Value). HasThose all (λ d. before d || digest_eq d c.args.digest.now) vs) (sym pushed) (put_new all c.args.list.now c.args.digest.now value before there has)
