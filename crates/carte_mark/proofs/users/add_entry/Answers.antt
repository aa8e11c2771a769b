use Rattle.std.proofs.Common.{Result, Ok, Err, OnOk, sym, ◌∙◌, ap, option_copied}
use Rattle.carte_mark.specs.Tables.{users_by}
use Rattle.carte_mark.proofs.Using.{adds_found, adds_nothing}
use Rattle.carte_mark.proofs.users.add_entry.Goals as goal

on_ok : {A E : Type 0} {P Q : Type 0} (r : Result A E) → (P → Q) → OnOk r P → OnOk r Q
on_ok (Ok x) f p = f p
on_ok (Err e) f p = p

pub returns-in-Some : goal.returns-in-Some
returns-in-Some c =
    let old = users_by c.args.users.now in
    let new = users_by c.add_all.new.users in
    on_ok c.add_all.result (adds_found c.args.entries.now old new c.args.key.now c.in-Some.entry.now (sym c.find.ensures ∙ ap option_copied c.in-Some.is)) c.add_all.ensures

pub returns-in-None : goal.returns-in-None
returns-in-None c = adds_nothing c.args.entries.now (users_by c.args.users.now) c.args.key.now (sym c.find.ensures ∙ ap option_copied c.in-None.is)
