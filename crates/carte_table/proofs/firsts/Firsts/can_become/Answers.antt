use Rattle.std.proofs.Common.{◌∙◌, refl, sym, subst, length, map}
use Rattle.std.proofs.lemmas.Bool.{eqb-true}
use Rattle.std.specs.List.{IsDistinct}
use Rattle.carte_name.specs.Names.{name_eq}
use Rattle.carte_table.specs.Lookups.{has_key}
use Rattle.carte_table.proofs.Onces.{first_is_last, empty_list}
use Rattle.carte_table.proofs.firsts.Firsts.can_become.Goals as goal

pub returns : goal.returns
returns g c = λ is. record {
  empty = empty_list c.args.self.now (eqb-true (length c.args.self.now) 0 (sym (c.if-not-is_empty.ensures {u = tt})));
  once = first_is_last g.T.Keyed.key_of c.args.later.now
      (subst (λ xs. IsDistinct name_eq (map g.T.Keyed.key_of xs)) (c.as_slice.ensures.value ∙ c.later.view_is)
      (c.each_once.ensures is (has_key g.T.Keyed.key_of) g.T.Keyed.key_of (λ k x. refl) (rw c.as_slice.ensures.value c.later.invariant.1)));
}
