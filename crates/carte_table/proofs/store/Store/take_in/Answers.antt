use Rattle.std.proofs.Common.{[], ◌∷◌, Some, None, ap, sym, ◌∙◌, arith, length-append}
use Rattle.std.specs.Prelude.{if◌then◌else◌}
use Rattle.std.specs.Option.{option_or}
use Rattle.carte_table.specs.Lookups.{first_value, is_value_of}
use Rattle.carte_table.proofs.Found.{find_end, or_twice}
use Rattle.carte_table.proofs.Steps.{begins_on}
use Rattle.carte_table.proofs.store.Store.take_in.Goals as goal

pub loop-value-preserved : goal.loop-value-preserved
loop-value-preserved c =
    let before = c.loop-value.invariant in
    let put = c.in_ok-put.ensures {u = tt} in (
      omega (arith, before.0, length-append c.loop-value.yielded (c.in-Some.value ∷ [])),
      λ d. put.ok d ∙ (ap (λ o. option_or o (if is_value_of d c.in-Some.value then Some c.in-Some.value else None)) (before.1 d)
          ∙ (or_twice (first_value c.widen.new.self d) (first_value c.loop-value.yielded d) _ ∙ ap (option_or (first_value c.widen.new.self d)) (sym (find_end (is_value_of d) c.loop-value.yielded c.in-Some.value)))),
      begins_on c.widen.new.self c.loop-value.self c.put.new.self before.2 put.front,
    )
