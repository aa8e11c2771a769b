use Rattle.std.proofs.Common.{◌≡◌, List, [], ℕ, length, eqb, false, ap, ◌∙◌}
use Rattle.std.proofs.lemmas.Bool.{eqb-false}
use Rattle.carte_session.proofs.SessionLemmas.{finished_by}
use Rattle.carte_session.proofs.lines.Lines.finish.Goals as goal

some_from : (line rest : List ℕ) → eqb (length line) 0 ≡ false → line ≡ rest → rest ≡ [] → ⊥
some_from line rest some same none = eqb-false (length line) 0 some (ap length (same ∙ none))

pub returns-clause-finished : goal.returns-clause-finished
returns-clause-finished g c = λ m k read p.
    let some : eqb (length c.as_slice-line.result.now) 0 ≡ false = cc in
    finished_by g.M.Machine.answers g.M.Machine.ends c.carry_out.result m _ _ g.O.Sink.tells k _ _ read _ _ _
    (some_from _ _ some c.as_slice-line.ensures.value) c.as_slice-line.ensures.value c.carry_out.ensures.carried p
