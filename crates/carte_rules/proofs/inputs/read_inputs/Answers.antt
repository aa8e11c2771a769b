use Rattle.std.proofs.Common.{◌≡◌, ◌∙◌, ◌∷◌, ℕ, List, String, Global, Ok, string_bytes, ap, sym, subst, rules}
use Rattle.std.specs.FinMap.{empty}
use Rattle.toml.specs.Data.{no_members}
use Rattle.toml.specs.View.{view, members_view}
use Rattle.toml.specs.declared.value.Value.{Value}
use Rattle.carte_rules.specs.Reading.{input_into, inputs_into}
use Rattle.carte_rules.proofs.Fresh.{AllFresh, all_fresh, rest_fresh}
use Rattle.carte_rules.proofs.Turns.{inputs_turn, inputs_end}
use Rattle.carte_rules.proofs.inputs.read_inputs.Goals as goal

pub loop-key-init : goal.loop-key-init
loop-key-init c =
    let gives = c.into_iter-key-iterator.ensures.into_iter_gives in
    (empty, ap (λ (es : List (String Global × Value)). inputs_into (members_view es) empty) (sym gives.0), c.requires, subst (AllFresh empty) (sym gives.0) (all_fresh c.args.table.entries gives.5))

pub loop-key-preserved : goal.loop-key-preserved
loop-key-preserved c =
    let i = c.loop-key.invariant in
    let k = c.in-Some.key in
    let d = view c.in-Some.value in
    let rest = c.next.new.self in
    let turn : c.loop-key.key-iterator ≡ (k, c.in-Some.value) ∷ rest = search rules in
    let bytes : c.as_str.result.now ≡ string_bytes k = search rules in
    let new : AllFresh i.0 ((k, c.in-Some.value) ∷ rest) = subst (AllFresh i.0) turn i.3 in
    let p = c.in_ok-read_input.ensures i.0 d c.value_of.ensures i.2 in
    let put : input_into (string_bytes k) d i.0 ≡ Ok p.0 = ap (λ (q : List ℕ). input_into q d i.0) (sym bytes) ∙ p.2 in
    (p.0, i.1 ∙ inputs_turn _ _ (string_bytes k) d i.0 p.0 (ap members_view turn) put, p.3, rest_fresh k c.in-Some.value rest i.0 p.0 new put)

pub returns : goal.returns
returns c =
    let i = c.loop-key.invariant in
    let last : members_view c.loop-key.key-iterator ≡ no_members = search rules in
    (i.0, i.1 ∙ inputs_end _ i.0 last, i.2)
