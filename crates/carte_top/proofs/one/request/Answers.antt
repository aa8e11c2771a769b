use Rattle.std.proofs.Common.{refl, inl, inr}
use Rattle.carte_shell.specs.Replies.{said}
use Rattle.carte_top.proofs.one.request.Goals as goal

pub returns-in-Ok : goal.returns-in-Ok
returns-in-Ok g c =
    let (m, story, faults, obeys) = c.in-Ok.ensures in
    (m, story, faults, inl (said c.in-Ok.reply, obeys, c.show.ensures))

pub returns-in-Err : goal.returns-in-Err
returns-in-Err g c =
    let (m, story, faults, breaks) = c.in-Err.ensures in
    (m, story, faults, inr (c.in-Err.end, c.ended.ensures, breaks, (refl, refl, refl)))
