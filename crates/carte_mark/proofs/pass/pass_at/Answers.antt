use Rattle.std.proofs.Common.{subst}
use Rattle.carte_record.specs.Kept.{kept_view}
use Rattle.carte_mark.specs.Reached.{PutsMore}
use Rattle.carte_mark.proofs.Passing.{pass_put, pass_not}
use Rattle.carte_mark.proofs.pass.pass_at.Goals as goal

pub returns-then-more : goal.returns-then-more
returns-then-more c ns so =
    let K = c.args.kept.now in
    let mid = c.args.names.now in
    let new = c.put_user_at.new.names in
    let puts = subst (PutsMore (kept_view K) mid new) c.if-more.true ((c.in_ok-more.ensures {u = tt}).puts) in
    pass_put K c.args.at c.args.last ns mid new so puts

pub returns : goal.returns
returns c ns so =
    let K = c.args.kept.now in
    let mid = c.args.names.now in
    let new = c.put_user_at.new.names in
    let ok = c.in_ok-more.ensures {u = tt} in
    pass_not K c.args.at c.args.last ns mid new so (ok.puts.same c.if-more.false) ok.closed
