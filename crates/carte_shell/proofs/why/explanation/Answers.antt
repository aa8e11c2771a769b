use Rattle.std.proofs.Common.{sym, ap, subst, ◌∙◌, inl}
use Rattle.carte_book.specs.Book.{book_view}
use Rattle.carte_book.specs.Reason.{AllClean}
use Rattle.carte_engine.specs.Previews.{IsPreview}
use Rattle.carte_engine.specs.Versions.{Under, kept_for}
use Rattle.carte_state.specs.States.{Stand, any_in}
use Rattle.carte_shell.specs.Chosen.{how_of}
use Rattle.carte_shell.specs.Explained.{AreWhys, TellAll}
use Rattle.carte_shell.specs.Replies.{plain, said}
use Rattle.carte_shell.proofs.Results.{at_ok, lifted}
use Rattle.carte_shell.proofs.Telling.{found_why, refused_by}
use Rattle.carte_shell.proofs.why.explanation.Goals as goal

pub returns-in_ok-text-in-Ok-clause-told : goal.returns-in_ok-text-in-Ok-clause-told
returns-in_ok-text-in-Ok-clause-told c =
    let b = book_view c.args.book.now in
    let A = any_in c.args.engine.now in
    let same = c.kind_of.ensures in
    let told = c.in_ok-text-in-Ok.ensures {u = tt} in
    inl (
      told.0,
      told.1,
      c.plain.ensures.reply ∙ ap plain told.2,
      subst (λ h. Under A b (AllClean b c.args.targets.now × AreWhys h (kept_for A b) b told.0)) same
          (found_why c.kind_of.result A b c.in-Ok.work c.args.targets.now
          (λ H sound distinct. subst (λ h. IsPreview h (kept_for A b) b c.args.targets.now c.in-Ok.work) (sym same) (at_ok c.preview.result c.in-Ok.work _ c.in-Ok.is (c.preview.ensures.served H sound distinct)))
          told.0 told.1 (subst (λ (s : Stand). TellAll c.kind_of.result (kept_for (any_in s) b) b c.in-Ok.work told.0) c.preview.ensures.kept told.3)),
    )

pub returns-in-Err-clause-told : goal.returns-in-Err-clause-told
returns-in-Err-clause-told c =
    lifted c.refusal.result _ _ c.refusal.ensures (λ reply told.
    refused_by (how_of c.args.rebuilder) (any_in c.args.engine.now) (book_view c.args.book.now) c.args.targets.now c.preview.result c.in-Err.fault (said reply) c.in-Err.is c.preview.ensures.refused told)
