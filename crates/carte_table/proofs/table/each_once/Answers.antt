use Rattle.std.proofs.Common.{◌≡◌, ◌∙◌, length}
use Rattle.std.proofs.lemmas.Bool.{eqb-true}
use Rattle.carte_table.proofs.Onces.{keys_distinct}
use Rattle.carte_table.proofs.table.each_once.Goals as goal

pub returns : goal.returns
returns g c is is_of key same places =
    let many : length c.args.items.now ≡ length c.args.table.now.entries = eqb-true (length c.args.items.now) c.len.result is ∙ c.len.ensures.len in
    keys_distinct g.met.K.Eq.laws is_of key same c.args.items.now c.args.table.now.entries c.len.ensures.unique places many
