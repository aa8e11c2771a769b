use Rattle.carte_name.proofs.name.Name.of.Goals as goal

pub returns-in-Rules : goal.returns-in-Rules
returns-in-Rules c = rw c.in-Rules.is c.rule.ensures

pub returns-in-Sheet : goal.returns-in-Sheet
returns-in-Sheet c = rw c.in-Sheet.is c.cell.ensures
