use Rattle.std.proofs.Common.{sym, subst}
use Rattle.carte_value.specs.Truths.{Among}
use Rattle.carte_explain.specs.Nodes.{keys_in, names_in}
use Rattle.carte_explain.proofs.nodes.nodes.Goals as goal

pub returns : goal.returns
returns c = record {
  keys = λ q among. c.in_ok-add_names.ensures.stays q (c.in_ok-add_keys.ensures.there q (subst (λ es. Among (keys_in es) q) (sym c.as_slice.ensures) among));
  seen = λ q among. c.in_ok-add_names.ensures.there q (subst (λ ls. Among (names_in ls) q) (sym c.as_slice-2.ensures) among);
}
