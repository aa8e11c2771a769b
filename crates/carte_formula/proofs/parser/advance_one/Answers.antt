use Rattle.std.proofs.Common.{◌+◌}
use Rattle.carte_formula.specs.Tokens.{sign_token}
use Rattle.carte_formula.proofs.Resuming.{sign_here, token_advances, fault_advances}
use Rattle.carte_formula.proofs.parser.advance_one.Goals as goal

pub returns-in-Ok : goal.returns-in-Ok
returns-in-Ok c =
    token_advances c.args.kind c.args.text.now c.args.at (c.args.at + 1) (sign_token c.args.sign) c.args.progress.now c.take_sign-2.new.parser c.take_sign.new.self
    (sign_here c.args.kind c.args.text.now c.args.at c.args.sign c.requires.place c.requires.start) c.take_sign.ensures c.in-Ok.ensures

pub returns-in-Err : goal.returns-in-Err
returns-in-Err c =
    fault_advances c.args.kind c.args.text.now c.args.at (c.args.at + 1) (sign_token c.args.sign) c.args.progress.now c.take_sign-2.new.parser c.in-Err.fault c.first_fault.result
    (sign_here c.args.kind c.args.text.now c.args.at c.args.sign c.requires.place c.requires.start) c.in-Err.ensures c.first_fault.ensures
