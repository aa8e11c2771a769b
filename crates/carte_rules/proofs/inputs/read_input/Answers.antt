use Rattle.std.proofs.Common.{◌≡◌, ◌∙◌, Some, Err, ap, sym, rules}
use Rattle.std.specs.FinMap.{get, insert}
use Rattle.carte_book.specs.Book.{input}
use Rattle.carte_book.specs.Drafts.{kind_of}
use Rattle.carte_book.specs.declared.fault.AddFault.TheVariants.{Twice}
use Rattle.carte_rules.specs.Reading.{value_of}
use Rattle.carte_rules.proofs.Drafts.{any_name, never_twice}
use Rattle.carte_rules.proofs.Keys.{same_name, input_put}
use Rattle.carte_rules.proofs.inputs.read_input.Goals as goal

pub returns-in-Ok-add_input : goal.returns-in-Ok-add_input
returns-in-Ok-add_input c = λ m d is_value h.
    let k = c.args.key.now in
    let j = c.in-Ok.name in
    let is = c.in-Ok.ensures.gives in
    let found : Some c.in-Ok-Some.value ≡ value_of d = search rules in
    let a = c.in-Ok-add_input.ensures.takes m h (any_name (kind_of c.args.draft.now.keys) m j c.args.draft.now.is_rules) in
    (insert m j (input c.in-Ok-Some.value), ap (get m) (sym (same_name k j is)) ∙ a.0, input_put k j d c.in-Ok-Some.value m is found, a.1)

pub returns-in-Err-Twice : goal.returns-in-Err-Twice
returns-in-Err-Twice c = λ m d is_value h none cause.
    let j = c.in-Ok.name in
    let twice : c.add_input.result ≡ Err Twice = cc in
    absurd (never_twice j (input c.in-Ok-Some.value) m c.add_input.new.self c.add_input.result
    (c.add_input.ensures.takes m h (any_name (kind_of c.args.draft.now.keys) m j c.args.draft.now.is_rules))
    (ap (get m) (same_name c.args.key.now j c.in-Ok.ensures.gives) ∙ none) twice)
