use Rattle.std.proofs.Common.{◌≡◌, subst, sym, refl, Ok, Err, rules}
use Rattle.std.proofs.lemmas.Result.{err_from_is_err_and}
use Rattle.std.specs.FinMap.{insert}
use Rattle.toml.specs.Data.{Members, no_members, member}
use Rattle.toml.specs.View.{view, table_view, members_view}
use Rattle.carte_book.specs.Book.{rule}
use Rattle.carte_rules.specs.Reading.{RulesInto}
use Rattle.carte_rules.proofs.Turns.{rules_turn, rules_end}
use Rattle.carte_rules.proofs.rules.read_formulas.Goals as goal

pub loop-key-init : goal.loop-key-init
loop-key-init c =
    let all : members_view c.into_iter-key-iterator.result ≡ table_view c.args.table = search rules in
    λ m h. (m, h, λ o r. subst (λ (ms : Members). RulesInto ms m o) all r)

pub loop-key-preserved : goal.loop-key-preserved
loop-key-preserved c =
    let turn : members_view c.loop-key.key-iterator ≡ member c.as_str.result.now (view c.in-Some.value) (members_view c.next.new.self) = search rules in
    λ m h.
    let i = c.loop-key.invariant m h in
    let p = c.in_ok-read_rule.ensures i.0 i.1 in
    (insert i.0 c.as_str.result.now (rule p.0), p.2, λ o r. i.2 o (rules_turn _ _ _ _ i.0 p.0 o turn p.1 r))

pub returns : goal.returns
returns c = λ m h.
    let i = c.loop-key.invariant m h in
    let last : members_view c.loop-key.key-iterator ≡ no_members = search rules in
    (i.0, i.2 (Ok i.0) (rules_end _ i.0 last), i.1)

pub returns-in_err-read_rule : goal.returns-in_err-read_rule
returns-in_err-read_rule c =
    let p = err_from_is_err_and c.from_residual.result c.from_residual.ensures.1 in
    rw (p.1, p.2) (λ m h cause.
    let i = c.loop-key.invariant m h in
    let turn : members_view c.loop-key.key-iterator ≡ member c.as_str.result.now (view c.in-Some.value) (members_view c.next.new.self) = search rules in
    i.2 (Err c.in_err-read_rule.field-0.0) (subst (λ (ms : Members). RulesInto ms i.0 (Err c.in_err-read_rule.field-0.0)) (sym turn) (Err c.in_err-read_rule.field-0.0, c.in_err-read_rule.ensures i.0 i.1 cause, refl)))
