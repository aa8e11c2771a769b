use Rattle.std.proofs.Common.{sym, ◌∙◌}
use Rattle.carte_bench.specs.Held.{book_of}
use Rattle.carte_bench.proofs.Ruled.{so_rule}
use Rattle.carte_bench.proofs.bench.Bench.demand.Goals as goal

pub demand_rule-requires-clause-rule : goal.demand_rule-requires-clause-rule
demand_rule-requires-clause-rule g c = so_rule (book_of c.args.self.now) (g.J.Job.name c.args.job) (rw (← c.key.ensures) (sym c.has_rule.ensures ∙ c.if-has_rule.true))
