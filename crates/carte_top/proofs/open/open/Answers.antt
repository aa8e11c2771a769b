use Rattle.std.proofs.Common.{sym, ap, subst, ◌∙◌}
use Rattle.carte_book.specs.Book.{book_view}
use Rattle.carte_state.specs.States.{IsLoaded, Stand}
use Rattle.carte_top.proofs.open.open.Goals as goal

pub returns-in-Ok : goal.returns-in-Ok
returns-in-Ok g c =
    let same = c.new.ensures.engine in
    record {
      choices = c.new.ensures.choices;
      book = ap book_view c.new.ensures.book;
      limit_is = ap (λ (x : Stand). x.journal.limit) same ∙ c.in-Ok.ensures.loaded.1;
      whole = ap (λ (x : Stand). x.journal.broken) same ∙ c.in-Ok.ensures.loaded.2;
      loaded = λ told. subst (λ (x : Stand). IsLoaded x (g.D.Disk.story c.args.state.now).now.reads) (sym same) (c.in-Ok.ensures.loaded.0 told);
      story = c.in-Ok.ensures.story;
      faults = c.in-Ok.ensures.disk;
    }

pub returns-in-Err : goal.returns-in-Err
returns-in-Err g c = c.in-Err.ensures
