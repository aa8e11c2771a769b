use Rattle.std.proofs.Common.{Result, Ok, Err, [], ◌++◌, option_copied, ap, sym, ◌∙◌, subst}
use Rattle.std.specs.Prelude.{OnOk}
use Rattle.carte_record.specs.Kept.{kept_view}
use Rattle.carte_mark.specs.Tables.{PutsUsers, named}
use Rattle.carte_mark.proofs.Walking.{puts_nothing}
use Rattle.carte_mark.proofs.walk.put_numbered.Goals as goal

on_ok : {A E : Type 0} {P Q : Type 0} (r : Result A E) → (P → Q) → OnOk r P → OnOk r Q
on_ok (Ok x) f p = f p
on_ok (Err e) f p = p

pub returns-in-Some : goal.returns-in-Some
returns-in-Some c =
    let K = kept_view c.args.kept.now in
    let one = ap named (sym (sym c.key.ensures ∙ ap option_copied c.in-Some.is)) in
    on_ok c.put_that.result (subst (λ ks. PutsUsers K (ks ++ []) c.args.reached.now c.put_that.new.reached) one) c.put_that.ensures

pub returns-in-None : goal.returns-in-None
returns-in-None c =
    let K = kept_view c.args.kept.now in
    let rs = c.args.reached.now in
    subst (λ ks. PutsUsers K (ks ++ []) rs rs) (ap named (sym (sym c.key.ensures ∙ ap option_copied c.in-None.is))) (puts_nothing K rs)
