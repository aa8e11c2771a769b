use Rattle.carte_rules.proofs.rules.read_formula.Goals as goal

pub returns-in-Ok : goal.returns-in-Ok
returns-in-Ok c = λ m h. c.put_formula.ensures m c.args.text.now h c.in-Ok.ensures.read
