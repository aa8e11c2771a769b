use Rattle.std.proofs.Common.{◌≡◌, Option, Some, Result, Ok, refl, subst}
use Rattle.carte_name.specs.declared.NoMemory.{NoMemory}
use Rattle.carte_value.specs.declared.value.Value.{Value}
use Rattle.carte_book.specs.Book.{input}
use Rattle.carte_sheet.specs.Steps.{IsValueOf}
use Rattle.carte_sheet.proofs.cell.read_input.Goals as goal

pub returns-in-Ok : goal.returns-in-Ok
returns-in-Ok c = λ m h new.
    let v = c.in-Ok-Some.value in
    let is : c.value_of.result ≡ Ok (Some v) = cc in
    (input v, (v, subst (λ (r : Result (Option Value) NoMemory). IsValueOf c.args.text.now r) is c.value_of.ensures, refl), (c.in-Ok.ensures.takes m h (λ sheet. new)).1)
