use Rattle.std.proofs.Common.{rules, tests}
use Rattle.std.proofs.lemmas.Iterator.{YieldsList-from_slice}
use Rattle.std.proofs.lemmas.Iterator.Search.{all_from_yields_List}
use Rattle.carte_state.specs.Columns.{is_four}
use Rattle.carte_state.proofs.columns.all_of_four.Goals as goal

pub returns : goal.returns
returns c =
    all_from_yields_List is_four _ _ _ c.all.ensures.ran (YieldsList-from_slice c.args.founds.now cc) (λ x b q k. search (rules, tests))
