use Rattle.std.proofs.Common.{◌≡◌, ◌++◌, length}
use Rattle.std.specs.List.{flat_map}
use Rattle.carte_codec.specs.Each.{EachFits}
use Rattle.carte_codec.proofs.list.read_items.Given as goal

abbrev pub invariant-loop-at : goal.invariant-loop-at
invariant-loop-at g l = record {
  many : length (g.L.ListOf.items l.list) ≡ l._at;
  fit : EachFits g.T.Spelled.fits (g.L.ListOf.items l.list);
  so_far : l.fn.bytes ≡ flat_map g.T.Spelled.spelling (g.L.ListOf.items l.list) ++ l.rest;
}
