use Rattle.std.proofs.Common.{◌∙◌, ap, length, sym}
use Rattle.carte_trim.proofs.Files.{one_keeps, two_keeps}
use Rattle.carte_trim.proofs.run.load.Goals as goal

pub returns-then-is_old : goal.returns-then-is_old
returns-then-is_old g c = record {
  loaded = (
    one_keeps 536870912 c.in-Ok.loaded g.S.Disk.tells (g.S.Disk.story c.args.state.now).now.reads (sym c.is_old.ensures ∙ c.if-is_old.true) (λ told. c.in-Ok.ensures.read told) c.in-Ok.ensures.starts.0,
    c.in-Ok.ensures.cause.passed (λ failed. cc),
  );
  spared = λ told. c.in-Ok.ensures.same told;
}

pub returns-in-Ok-len : goal.returns-in-Ok-len
returns-in-Ok-len g c = record {
  loaded = (
    λ told. two_keeps 536870912 c.in-Ok.loaded (g.S.Disk.story c.args.state.now).now.reads (sym c.is_old.ensures ∙ c.if-is_old.false) (c.in-Ok.ensures.read told) c.in-Ok.ensures.starts.0,
    λ told. c.in-Ok-len.ensures.length told ∙ ap (λ u. length u.now.reads) (c.in-Ok.ensures.same told),
    c.in-Ok-len.ensures.cause.passed ∙ c.in-Ok.ensures.cause.passed (λ failed. cc),
  );
  spared = λ told. c.in-Ok-len.ensures.same told ∙ c.in-Ok.ensures.same told;
}
