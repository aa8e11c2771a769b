use Rattle.std.proofs.Common.{◌+◌, Ok}
use Rattle.carte_formula.specs.Tokens.{sign_token}
use Rattle.carte_formula.specs.Resumed.{carrying}
use Rattle.carte_formula.proofs.Resuming.{sign_here, token_advances, fault_advances, follows_on}
use Rattle.carte_formula.proofs.parser.follow_sign.Goals as goal

pub returns-in-Ok : goal.returns-in-Ok
returns-in-Ok c =
    follows_on c.args.kind c.args.text.now c.args.at c.args.operand c.args.progress.now (Ok (c.args.at + 1)) (record { parser = c.take_behind.new.parser; ranges = c.take_sign.new.self })
    (token_advances c.args.kind c.args.text.now c.args.at (c.args.at + 1) (sign_token c.args.sign) (carrying c.args.progress.now c.args.operand) c.take_behind.new.parser c.take_sign.new.self
    (sign_here c.args.kind c.args.text.now c.args.at c.args.sign c.requires.place c.requires.start) c.take_sign.ensures c.in-Ok.ensures)

pub returns-in-Err : goal.returns-in-Err
returns-in-Err c =
    fault_advances c.args.kind c.args.text.now c.args.at (c.args.at + 1) (sign_token c.args.sign) (carrying c.args.progress.now c.args.operand) c.take_behind.new.parser c.in-Err.fault c.first_fault.result
    (sign_here c.args.kind c.args.text.now c.args.at c.args.sign c.requires.place c.requires.start) c.in-Err.ensures c.first_fault.ensures
