use Rattle.std.proofs.Common.{ℕ, ◌+◌, List, sym, subst}
use Rattle.csv.specs.Records.{fields_of}
use Rattle.csv.proofs.RecordFacts.{field-there}
use Rattle.carte_sheet.specs.Steps.{LeavesField}
use Rattle.carte_sheet.proofs.RowLemmas.{at_field}
use Rattle.carte_sheet.proofs.rows.read_at.Goals as goal

pub returns-in-Some : goal.returns-in-Some
returns-in-Some c = λ m h before.
    let is = at_field (fields_of c.args.fields.now) c.args.at c.in-Some.field.now (sym c.in-Some.ensures.value) in
    subst (λ (f : List ℕ). LeavesField c.args.row (c.args.at + 1) f m c.read_field.new.draft c.read_field.result) (sym is) (c.read_field.ensures m h before)

pub returns-in-None : goal.returns-in-None
returns-in-None c = λ m h before. absurd (field-there (fields_of c.args.fields.now) c.args.at c.requires.field (sym c.in-None.ensures.value))
