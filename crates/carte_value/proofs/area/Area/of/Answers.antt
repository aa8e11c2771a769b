use Rattle.std.proofs.Common.{◌≡◌, sym, subst}
use Rattle.carte_value.specs.Areas.{IsArea, area_of}
use Rattle.carte_value.proofs.Rectangles.{area_within, area_is, record_of}
use Rattle.carte_value.proofs.area.Area.of.Goals as goal

pub returns-clause-made : goal.returns-clause-made
returns-clause-made c =
    let a = c.in_ok-column_a.ensures in
    let b = c.in_ok-column_b.ensures in
    (a.0, b.0, area_is _ _ _ _ _ _ _ _ _ _ a.1 a.2 b.1 b.2 c.min.ensures c.min-2.ensures c.max.ensures c.max-2.ensures)

pub returns-clause-area : goal.returns-clause-area
returns-clause-area c =
    let a = c.in_ok-column_a.ensures in
    let b = c.in_ok-column_b.ensures in
    let same : record_of c.min.result c.min-2.result c.max.result c.max-2.result ≡ area_of c.args.a.now c.args.b.now = area_is _ _ _ _ _ _ _ _ _ _ a.1 a.2 b.1 b.2 c.min.ensures c.min-2.ensures c.max.ensures c.max-2.ensures in
    subst IsArea (sym same) (area_within c.args.a.now c.args.b.now a.0 b.0)
