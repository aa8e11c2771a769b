use Rattle.std.proofs.Common.{◌≡◌, ◌++◌, take}
use Rattle.std.specs.List.{flat_map}
use Rattle.carte_codec.specs.Each.{EachFits}
use Rattle.carte_codec.proofs.list.write_items.Given as goal

abbrev pub invariant-loop-item : goal.invariant-loop-item
invariant-loop-item g l = record {
  written : l.out.items ≡ l.fn.out.items ++ flat_map g.T.Spelled.spelling (take l.item-index l.items);
  fit : EachFits g.T.Spelled.may (take l.item-index l.items) → EachFits g.T.Spelled.fits (take l.item-index l.items);
}
