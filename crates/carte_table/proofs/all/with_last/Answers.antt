use Rattle.std.proofs.Common.{◌≡◌, ◌+◌, length, arith, rules}
use Rattle.std.specs.Prelude.{IsTrue}
use Rattle.carte_table.proofs.Latest.{any_long, new_long}
use Rattle.carte_table.proofs.all.with_last.Goals as goal

pub returns-then-not-is_new : goal.returns-then-not-is_new
returns-then-not-is_new g c xs new within = let no_shorter = (any_long g.T.Compared.alike g.met.T.Compared.alike_is g.T.Measured.spelled g.met.T.Compared.alike_self c.args.item.now xs).0 in omega (arith, within, no_shorter)

pub returns-in-Some-checked_add : goal.returns-in-Some-checked_add
returns-in-Some-checked_add g c xs new within =
    let is_new : IsTrue c.args.is_new = search rules in
    let more : c.in-Some.more ≡ length (g.T.Measured.spelled c.args.item.now) = search rules in
    let sum : c.in-Some-checked_add.sum ≡ c.args.least + c.in-Some.more = search rules in
    let longer = new_long g.T.Compared.alike g.met.T.Compared.alike_is g.T.Measured.spelled g.met.T.Compared.alike_self c.args.item.now xs (new is_new) in
    omega (arith, within, more, sum, longer)

pub returns-in_default-checked_add : goal.returns-in_default-checked_add
returns-in_default-checked_add g c xs new within = let no_shorter = (any_long g.T.Compared.alike g.met.T.Compared.alike_is g.T.Measured.spelled g.met.T.Compared.alike_self c.args.item.now xs).0 in omega (arith, within, no_shorter)

pub returns-in_default : goal.returns-in_default
returns-in_default g c xs new within = let no_shorter = (any_long g.T.Compared.alike g.met.T.Compared.alike_is g.T.Measured.spelled g.met.T.Compared.alike_self c.args.item.now xs).0 in omega (arith, within, no_shorter)
