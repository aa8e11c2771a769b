use Rattle.std.proofs.Common.{Err, arith, ap, append-nil, length-append, sym, ◌∙◌, ◌≡◌, [], ◌∷◌, length}
use Rattle.std.proofs.lemmas.Result.{err_from_is_err_and}
use Rattle.carte_io.specs.Disk.{Story}
use Rattle.carte_journal.specs.declared.faults.LoadFault.TheVariants.{BadState}
use Rattle.carte_journal.specs.Frames.{Ends, frames_from}
use Rattle.carte_journal.proofs.Readings.{read_more}
use Rattle.carte_journal.proofs.Walks.{adds, adds_bad, adds_ends}
use Rattle.carte_journal.proofs.load.load_bodies.Goals as goal

pub returns-in-None-clause-read : goal.returns-in-None-clause-read
returns-in-None-clause-read g c told =
    let e = rw c.in-None.is at c.in_ok-next.ensures in
    c.frames.invariant.read told
    ∙ ap (adds c.frames.bodies) (ap (λ (s : Story). frames_from c.args.limit c.frames.gate s.now.reads) (sym (c.frames.invariant.same told)) ∙ e.read told)
    ∙ adds_ends c.frames.bodies [] c.frames.gate ∙ ap (Ends c.frames.gate) (append-nil c.frames.bodies)

pub returns-in_err-next-clause-bad : goal.returns-in_err-next-clause-bad
returns-in_err-next-clause-bad g c told offset is =
    let p = err_from_is_err_and c.from_residual.result c.from_residual.ensures.1 in
    let fault_is : c.in_err-next.field-0.0 ≡ BadState offset = cc (p.1, p.2, is) in
    c.frames.invariant.read told
    ∙ ap (adds c.frames.bodies) (ap (λ (s : Story). frames_from c.args.limit c.frames.gate s.now.reads) (sym (c.frames.invariant.same told))
    ∙ c.in_err-next.ensures.bad told offset (ap Err fault_is))
    ∙ adds_bad c.frames.bodies offset

pub frames-preserved : goal.frames-preserved
frames-preserved g c =
    let e = rw c.in-Some.is at c.in_ok-next.ensures in
    let ok = c.in_ok-gate-in-Some.ensures.ok in
    record {
      inside = omega (arith, e.fits.1, ok.0);
      small = omega (arith, e.fits.0, ok.0, c.requires.limit);
      behind = omega (arith, c.frames.invariant.behind, ok.0);
      same = λ told. e.same told ∙ c.frames.invariant.same told;
      room = omega (arith, c.frames.invariant.room, ok.0, ap length ok.1, length-append c.frames.bodies ((c.frames.gate, c.in-Some.bytes.items) ∷ []));
      kept = e.cause.passed (λ never. absurd (cc)) ∙ c.frames.invariant.kept;
      read = λ told.
          read_more c.args.limit c.args.start c.frames.gate c.in_ok-gate-in-Some.gate c.in-Some.bytes.items c.frames.bodies c.add_body.new.bodies _ _
          (c.frames.invariant.same told) (c.frames.invariant.read told) (e.read told) ok.0 ok.1;
    }
