use Rattle.std.proofs.Common.{Ok, Some, sym, subst}
use Rattle.carte_lexer.specs.Takes.{MeetsTo}
use Rattle.carte_lexer.specs.declared.tokens.Token.TheVariants as tokens
use Rattle.carte_formula.specs.Machine.{next_state}
use Rattle.carte_formula.specs.Parser.{reached, holding, StepsTo}
use Rattle.carte_formula.proofs.Resuming.{token_advances, fault_advances, operand_advances}
use Rattle.carte_formula.proofs.parser.advance_token.Goals as goal

pub returns-in-Ok : goal.returns-in-Ok
returns-in-Ok c =
    operand_advances c.args.kind c.args.text.now c.args.at c.in_ok-token.end c.in-Ok.operand c.args.progress.now (record { parser = c.stand.new.parser; ranges = c.take.new.self }) c.follow.new.progress c.follow.result
    (token_advances c.args.kind c.args.text.now c.args.at c.in_ok-token.end c.in_ok-token.token c.args.progress.now (holding c.stand.new.parser c.in-Ok.operand) c.take.new.self c.in_ok-token.ensures c.in_ok-take.ensures.taken
    (subst (λ t. StepsTo (Ok tt) (holding c.stand.new.parser c.in-Ok.operand) (next_state (reached c.args.progress.now.parser) t) c.args.at) (sym c.in-Word.is) c.in-Ok.ensures))
    c.follow.ensures

pub returns-in-Err : goal.returns-in-Err
returns-in-Err c =
    fault_advances c.args.kind c.args.text.now c.args.at c.in_ok-token.end (tokens.Word c.in-Word.name) c.args.progress.now c.stand.new.parser c.in-Err.fault c.first_fault.result (subst (λ t. MeetsTo c.args.kind c.args.text.now c.args.at (Ok (Some t, c.in_ok-token.end))) c.in-Word.is c.in_ok-token.ensures) c.in-Err.ensures c.first_fault.ensures

pub returns-in-Err-take_func_at : goal.returns-in-Err-take_func_at
returns-in-Err-take_func_at c =
    fault_advances c.args.kind c.args.text.now c.args.at c.in_ok-token.end (tokens.Func c.in-Func.func) c.args.progress.now c.take_func_at.new.parser c.in-Err-take_func_at.fault c.first_fault-in-Err-take_func_at.result (subst (λ t. MeetsTo c.args.kind c.args.text.now c.args.at (Ok (Some t, c.in_ok-token.end))) c.in-Func.is c.in_ok-token.ensures) c.in-Err-take_func_at.ensures c.first_fault-in-Err-take_func_at.ensures

pub returns-in-Err-take : goal.returns-in-Err-take
returns-in-Err-take c =
    fault_advances c.args.kind c.args.text.now c.args.at c.in_ok-token.end c.in_ok-token.token c.args.progress.now c.take-in_default.new.parser c.in-Err-take.fault c.first_fault-in-Err-take.result c.in_ok-token.ensures c.in-Err-take.ensures c.first_fault-in-Err-take.ensures
