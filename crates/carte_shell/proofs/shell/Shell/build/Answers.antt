use Rattle.std.proofs.Common.{◌≡◌, true, refl, sym, ap, ◌∙◌, subst}
use Rattle.std.specs.List.{list_all}
use Rattle.carte_record.specs.Empty.{is_empty}
use Rattle.carte_book.specs.Book.{book_view}
use Rattle.carte_words.specs.declared.line.Line.TheVariants as line
use Rattle.carte_shell.specs.Commits.{Puts, Stops}
use Rattle.carte_shell.specs.Scenes.{scene}
use Rattle.carte_shell.specs.Watched.{IsWatchedBehind}
use Rattle.carte_state.specs.States.{Stand}
use Rattle.carte_shell.proofs.Committing.{breaks, puts_nothing}
use Rattle.carte_shell.proofs.Obeying.{same_scene}
use Rattle.carte_shell.proofs.Results.{at_done, at_err}
use Rattle.carte_shell.proofs.shell.Shell.build.Goals as goal

pub returns-in-Err-clause-carried : goal.returns-in-Err-clause-carried
returns-in-Err-clause-carried g c =
    let see = scene g.D.Disk.story g.D.Disk.faults in
    let before = see (c.args.self.now, c.args.disk.now) in
    let begun = see (c.worked_out.new.self, c.args.disk.now) in
    let behind = see (c.commit.new.self, c.commit.new.disk) in
    let Bs = c.in_ok-batches.batches.items in
    let works = c.in_ok-batches.ensures.works in
    let same = same_scene before begun c.worked_out.ensures.choices (ap book_view c.worked_out.ensures.book) c.worked_out.ensures.engine refl refl in
    breaks g.D.Disk.tells before behind (line.Build c.args.targets.now) Bs c.in-Err.end (works.0, works.1)
    (subst (λ m. Stops g.D.Disk.tells m behind Bs c.in-Err.end) same (at_err c.commit.result c.in-Err.end _ _ c.in-Err.is c.commit.ensures.carried))

pub returns-in-Ok-clause-carried : goal.returns-in-Ok-clause-carried
returns-in-Ok-clause-carried g c =
    let see = scene g.D.Disk.story g.D.Disk.faults in
    let before = see (c.args.self.now, c.args.disk.now) in
    let begun = see (c.worked_out.new.self, c.args.disk.now) in
    let behind = see (c.commit.new.self, c.commit.new.disk) in
    let Bs = c.in_ok-batches.batches.items in
    let works = c.in_ok-batches.ensures.works in
    let same = same_scene before begun c.worked_out.ensures.choices (ap book_view c.worked_out.ensures.book) c.worked_out.ensures.engine refl refl in
    (works.0, Bs, works.1, c.staying.ensures.reply ∙ works.2, subst (λ m. Puts g.D.Disk.tells m behind Bs) same (at_done c.commit.result _ _ _ c.in-Ok.is c.commit.ensures.carried))

pub returns-in-Ok-clause-stays : goal.returns-in-Ok-clause-stays
returns-in-Ok-clause-stays g c = λ stays.
    let see = scene g.D.Disk.story g.D.Disk.faults in
    let before = see (c.args.self.now, c.args.disk.now) in
    let begun = see (c.worked_out.new.self, c.args.disk.now) in
    let behind = see (c.commit.new.self, c.commit.new.disk) in
    let Bs = c.in_ok-batches.batches.items in
    let same = same_scene before begun c.worked_out.ensures.choices (ap book_view c.worked_out.ensures.book) c.worked_out.ensures.engine refl refl in
    let none : list_all is_empty Bs ≡ true = ap (list_all is_empty) (sym c.as_slice.ensures.value) ∙ sym c.bring_nothing-stays.ensures ∙ sym c.staying.ensures.stays ∙ stays in
    puts_nothing g.D.Disk.tells begun behind Bs none (at_done c.commit.result _ _ _ c.in-Ok.is c.commit.ensures.carried) ∙ same

pub commit-requires-clause-learned : goal.commit-requires-clause-learned
commit-requires-clause-learned g c =
    let old = c.args.self.now in
    let Bs = c.in_ok-batches.batches.items in
    let watch = c.in_ok-batches.watch in
    subst (λ (s : Stand). IsWatchedBehind s (book_view c.worked_out.new.self.book) Bs watch) (sym c.worked_out.ensures.engine)
    (subst (λ b. IsWatchedBehind old.engine b Bs watch) (sym (ap book_view c.worked_out.ensures.book)) c.in_ok-batches.ensures.learned)
