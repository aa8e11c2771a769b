use Rattle.std.proofs.Common.{◌≡◌, refl, inl, inr, subst, sym}
use Rattle.carte_book.specs.Book.{Book, book_view}
use Rattle.carte_shell.specs.Answers.{NamesInput}
use Rattle.carte_shell.specs.Scenes.{scene}
use Rattle.carte_top.specs.Around.{over_disk}
use Rattle.carte_top.proofs.Between.{opened_on}
use Rattle.carte_top.proofs.one.one.Goals as goal

pub request-requires-clause-whole : goal.request-requires-clause-whole
request-requires-clause-whole g c κs within = c.in-Ok.ensures.whole

pub request-requires-clause-named : goal.request-requires-clause-named
request-requires-clause-named g c κs within = subst (λ (b : Book). NamesInput b.kind c.args.line) (sym c.in-Ok.ensures.book) c.requires

pub returns-in-Ok : goal.returns-in-Ok
returns-in-Ok g c =
    let (m, story, faults, requests) = c.request.ensures in inr (
      scene g.D.Disk.story g.D.Disk.faults (c.in-Ok.shell, c.open.new.state),
      m,
      opened_on 536870912 c.args.choices (book_view c.args.book) (over_disk g.D.Disk.tells g.D.Disk.story g.D.Disk.faults c.args.state.now c.open.new.state)
          (scene g.D.Disk.story g.D.Disk.faults (c.in-Ok.shell, c.open.new.state)) (g.D.Disk.story c.request.new.state) (g.D.Disk.faults c.request.new.state)
          (c.request.new.state ≡ c.args.state.now) c.in-Ok.ensures,
      story,
      faults,
      requests,
    )

pub returns-in-Err : goal.returns-in-Err
returns-in-Err g c = inl (c.in-Err.ensures, (refl, refl, refl))
