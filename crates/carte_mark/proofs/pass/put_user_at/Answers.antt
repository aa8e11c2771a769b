use Rattle.std.proofs.Common.{Result, Ok, Err, option_copied, ap, sym, ◌∙◌}
use Rattle.std.specs.Prelude.{OnOk}
use Rattle.carte_mark.proofs.Passing.{closed_same}
use Rattle.carte_mark.proofs.pass.put_user_at.Goals as goal

on_ok : {A E : Type 0} {P Q : Type 0} (r : Result A E) → (P → Q) → OnOk r P → OnOk r Q
on_ok (Ok x) f p = f p
on_ok (Err e) f p = p

pub returns-in-Some-clause-closed : goal.returns-in-Some-clause-closed
returns-in-Some-clause-closed c =
    on_ok c.put_user.result (closed_same c.args.kept.now c.put_user.new.names c.args.at c.in-Some.entry.now (sym c.get.ensures ∙ ap option_copied c.in-Some.is)) c.put_user.ensures.closed
