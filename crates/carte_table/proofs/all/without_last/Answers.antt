use Rattle.std.proofs.Common.{◌≡◌, ◌-◌, length, arith, rules}
use Rattle.carte_table.proofs.Latest.{any_long}
use Rattle.carte_table.proofs.all.without_last.Goals as goal

pub returns-in-Some : goal.returns-in-Some
returns-in-Some g c xs within =
    let less : c.in-Some.less ≡ length (g.T.Measured.spelled c.args.item.now) = search rules in
    let rest : c.saturating_sub.result ≡ c.args.least - c.in-Some.less = search rules in
    let longer = (any_long g.T.Compared.alike g.met.T.Compared.alike_is g.T.Measured.spelled g.met.T.Compared.alike_self c.args.item.now xs).1 in
    omega (arith, within, less, rest, longer)
