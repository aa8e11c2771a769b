use Rattle.std.proofs.Common.{ℕ, refl, ◌∙◌, subst}
use Rattle.carte_book.specs.Book.{book_view}
use Rattle.carte_state.specs.Folding.{Keeps}
use Rattle.carte_state.specs.States.{any_in}
use Rattle.carte_shell.specs.Scenes.{scene}
use Rattle.carte_top.specs.Around.{over_source, over_disk, over_sink}
use Rattle.carte_top.proofs.Lacking.{sits_no_state}
use Rattle.carte_top.proofs.Putting.{keeps_loaded}
use Rattle.carte_top.proofs.Serving.{served}
use Rattle.carte_top.proofs.Sounds.{stays_unbegun}
use Rattle.carte_top.proofs.session.session_over.Goals as goal

pub session_with-requires : goal.session_with-requires
session_with-requires g c = (c.type_bounds.sync-T, c.in-Ok.ensures.whole)

pub returns-in-Ok : goal.returns-in-Ok
returns-in-Ok g c =
    let m = scene g.D.Disk.story g.D.Disk.faults (c.in-Ok.shell, c.open.new.state) in
    let reads = (g.D.Disk.story c.args.state.now).now.reads in
    served 536870912 c.args.asked.now (book_view c.args.book) (any_in m.stand)
    (over_source g.S.Source.tells g.S.Source.state c.args.script.now c.session_with.new.script)
    (over_disk g.D.Disk.tells g.D.Disk.story g.D.Disk.faults c.args.state.now c.session_with.new.state)
    (over_sink g.O.Sink.tells g.O.Sink.state c.args.out.now c.session_with.new.out)
    m (scene g.D.Disk.story g.D.Disk.faults (c.session_with.new.shell, c.session_with.new.state)) c.session_with.result
    (λ told. subst (λ (l : ℕ). Keeps l (any_in m.stand) reads) c.in-Ok.ensures.limit_is (keeps_loaded m.stand reads (c.in-Ok.ensures.loaded told)))
    (record {
      choices = c.in-Ok.ensures.choices ∙ c.choices_of.ensures;
      book = c.in-Ok.ensures.book;
      keeps = refl;
      limit_is = c.in-Ok.ensures.limit_is;
      loaded = c.in-Ok.ensures.loaded;
      story = c.in-Ok.ensures.story;
      faults = c.in-Ok.ensures.faults;
    })
    refl refl c.session_with.ensures

pub returns-in-Err : goal.returns-in-Err
returns-in-Err g c =
    let d = over_disk g.D.Disk.tells g.D.Disk.story g.D.Disk.faults c.args.state.now c.open.new.state in
    let script = over_source g.S.Source.tells g.S.Source.state c.args.script.now c.args.script.now in
    sits_no_state 536870912 d (over_sink g.O.Sink.tells g.O.Sink.state c.args.out.now c.args.out.now) c.in-Err.ensures.story (refl, refl, refl)
    c.args.asked.now (book_view c.args.book) script c.in-Err.status c.in-Err.ensures.loaded c.in-Err.ensures.disk (refl, refl)
    (stays_unbegun 536870912 (book_view c.args.book) script d c.in-Err.ensures.story)

pub invariant_of-shell : goal.invariant_of-shell
invariant_of-shell g c =
    let book = c.session_with.new.shell.book in
    record { is_nothing = book.is_nothing; fits = book.fits; listed = book.listed; knows = book.knows }
