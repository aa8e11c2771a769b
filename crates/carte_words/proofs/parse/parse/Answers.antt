use Rattle.std.proofs.Common.{◌∙◌}
use Rattle.carte_words.proofs.Parses.{values, no_faults, some_fault}
use Rattle.carte_words.proofs.parse.parse.Goals as goal

pub returns-in-Ok-try_get_matches_from : goal.returns-in-Ok-try_get_matches_from
returns-in-Ok-try_get_matches_from c =
    let m = c.in-Ok-try_get_matches_from in
    (no_faults _ _ c.in-Ok.ensures m.ensures.kinds, values _ _ _ c.in-Ok.ensures m.ensures.matches)

pub returns-in-Err-try_get_matches_from : goal.returns-in-Err-try_get_matches_from
returns-in-Err-try_get_matches_from c = λ cause.
    let e = c.in-Err-try_get_matches_from in
    let why = c.fault.ensures cause in
    (some_fault _ _ e.error c.in-Ok.ensures e.ensures.kinds (λ o. why.0 (c.kind.ensures ∙ o)), why.1)
