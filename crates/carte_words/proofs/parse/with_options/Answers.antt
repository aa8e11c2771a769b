use Rattle.std.proofs.Common.{◌≡◌, ◌∙◌, ap₂, codes, refl, rules}
use Rattle.std.proofs.lemmas.Result.{IfOk-weaker}
use Rattle.clap.specs.Words.{rule_of, with_rule}
use Rattle.carte_words.specs.Arguments.{default_rule, option_rule, flag_rule}
use Rattle.carte_words.proofs.parse.with_options.Goals as goal

pub returns : goal.returns
returns c =
    let scheduler : rule_of c.choice.result ≡ default_rule (codes "scheduler") (codes "suspending") = search rules in
    let rebuilder : rule_of c.choice-2.result ≡ default_rule (codes "rebuilder") (codes "verifying") = search rules in
    let workers : rule_of c.choice-3.result ≡ default_rule (codes "workers") (codes "1") = search rules in
    let kind : rule_of c.option.result ≡ option_rule (codes "kind") = search rules in
    let list : rule_of c.flag.result ≡ flag_rule (codes "list") = search rules in
    IfOk-weaker c.with-5.result _ _ (λ x e. e
    ∙ ap₂ with_rule (c.in_ok-command-4.ensures
    ∙ ap₂ with_rule (c.in_ok-command-3.ensures
    ∙ ap₂ with_rule (c.in_ok-command-2.ensures
    ∙ ap₂ with_rule (c.in_ok-command.ensures
    ∙ ap₂ with_rule refl scheduler) rebuilder) workers) kind) list) c.with-5.ensures
