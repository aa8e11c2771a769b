use Rattle.std.proofs.Common.{ℕ, List, IsTrue, sym, subst, arith}
use Rattle.carte_name.specs.Places.{IsPlace}
use Rattle.carte_name.specs.Names.{is_cell_name}
use Rattle.carte_name.proofs.Places.{cells_by_place}
use Rattle.carte_sheet.proofs.cell.name_at.Goals as goal

pub returns-in-Ok-clause-cell : goal.returns-in-Ok-clause-cell
returns-in-Ok-clause-cell c =
    let place : IsPlace c.args.column c.args.row = record { first_column = c.requires.column; last_column = omega arith; first_row = c.requires.row; last_row = omega arith } in
    subst (λ (k : List ℕ). IsTrue (is_cell_name k)) (sym c.in-Ok.ensures) (cells_by_place.cell c.args.column c.args.row place)
