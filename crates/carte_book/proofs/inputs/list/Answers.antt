use Rattle.std.proofs.Common.{◌≡◌, false, ap, sym, ◌∙◌}
use Rattle.carte_book.specs.Inputs.{has_name}
use Rattle.carte_book.proofs.InputNames.{given_more, given_there, numbered_there, same_all, unnumbered}
use Rattle.carte_book.proofs.inputs.list.Goals as goal

pub returns-then-is_some-clause-listed : goal.returns-then-is_some-clause-listed
returns-then-is_some-clause-listed c = numbered_there c.args.inputs.now c.args.name.now (cc)

pub returns-in-Ok-clause-listed : goal.returns-in-Ok-clause-listed
returns-in-Ok-clause-listed c = ap (λ ns. has_name ns c.args.name.now) (c.in-Ok.ensures.names) ∙ given_there c.args.inputs.now c.args.name.now

pub returns-in-Ok-clause-all : goal.returns-in-Ok-clause-all
returns-in-Ok-clause-all c j there = ap (λ ns. has_name ns j) (c.in-Ok.ensures.names) ∙ given_more c.args.inputs.now c.args.name.now j there

pub returns-in-Err-clause-lacking : goal.returns-in-Err-clause-lacking
returns-in-Err-clause-lacking c = unnumbered c.args.inputs.now c.args.name.now (cc)
