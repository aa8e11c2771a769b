use Rattle.std.proofs.Common.{◌∙◌, sym, arith}
use Rattle.carte_top.specs.Around.{over_source}
use Rattle.carte_top.proofs.Books.{loads_book}
use Rattle.carte_top.proofs.book.load_book.Goals as goal

pub returns-in-Ok : goal.returns-in-Ok
returns-in-Ok g c =
    let s = over_source g.B.Source.tells g.B.Source.state c.args.source.now c.read_whole.new.source in
    loads_book c.args.kind s c.as_slice.result.now c.parse.result c.parse.ensures
    (λ told. let all = c.in-Ok.ensures.whole told in (sym all.0 ∙ sym c.as_slice.ensures.value, all.1))
    (omega (arith, c.as_slice.ensures.len, c.in-Ok.ensures.short))
    (c.in-Ok.ensures.cause.passed (λ is. cc))
