use Rattle.std.proofs.Common.{◌+◌, arith, ap, cond, refl, sym}
use Rattle.carte_journal.specs.Journals.{Standing}
use Rattle.carte_journal.proofs.Commits.{commit_steps, committed_rest, full_steps}
use Rattle.carte_journal.proofs.journal.Journal.commit.Goals as goal

pub returns-then-needed-self-clause-any_moment : goal.returns-then-needed-self-clause-any_moment
returns-then-needed-self-clause-any_moment g c told bodies rest =
    full_steps c.args.self.now bodies c.args.frame.now (g.D.Disk.story c.args.disk.now) rest

pub returns-in-Ok-clause-ok : goal.returns-in-Ok-clause-ok
returns-in-Ok-clause-ok g c told bodies rest =
    let gate_is = ap (λ (j : Standing). j.gate) c.self.view_is in
    let limit_is = ap (λ (j : Standing). j.limit) c.self.view_is in
    let fresh_is = ap (λ (j : Standing). j.fresh) c.self.view_is in
    committed_rest c.args.self.now bodies c.args.frame.now (g.D.Disk.story c.args.disk.now) rest _ c.self.inside.gate _
    gate_is limit_is (omega (arith, c.len.ensures.len, c.needed-needed.ensures)) refl
    (ap (λ (j : Standing). j.bank) c.self.view_is) (ap (λ (j : Standing). j.frames + 1) c.self.view_is)
    (c.in-Ok.ensures.ok told c.args.self.now bodies rest (sym fresh_is) (sym gate_is) (omega (arith, limit_is)))

pub returns-in-Ok-clause-any_moment : goal.returns-in-Ok-clause-any_moment
returns-in-Ok-clause-any_moment g c told bodies rest =
    let gate_is = ap (λ (j : Standing). j.gate) c.self.view_is in
    let limit_is = ap (λ (j : Standing). j.limit) c.self.view_is in
    let fresh_is = ap (λ (j : Standing). j.fresh) c.self.view_is in
    let s = g.D.Disk.story c.args.disk.now in
    commit_steps c.args.self.now bodies c.args.frame.now s rest c.args.self.now.limit c.self.inside.gate (s.now.passed + cond c.self.inside.fresh 6 4) _
    gate_is refl (ap (λ fresh. s.now.passed + cond fresh 6 4) fresh_is)
    (c.append.ensures.any_moment told c.args.self.now bodies rest (sym fresh_is) (sym gate_is) (omega (arith, limit_is, c.len.ensures.len, c.needed-needed.ensures)))

pub returns-in-Err-clause-any_moment : goal.returns-in-Err-clause-any_moment
returns-in-Err-clause-any_moment g c told bodies rest =
    let gate_is = ap (λ (j : Standing). j.gate) c.self.view_is in
    let limit_is = ap (λ (j : Standing). j.limit) c.self.view_is in
    let fresh_is = ap (λ (j : Standing). j.fresh) c.self.view_is in
    let s = g.D.Disk.story c.args.disk.now in
    commit_steps c.args.self.now bodies c.args.frame.now s rest c.args.self.now.limit c.self.inside.gate (s.now.passed + cond c.self.inside.fresh 6 4) _
    gate_is refl (ap (λ fresh. s.now.passed + cond fresh 6 4) fresh_is)
    (c.append.ensures.any_moment told c.args.self.now bodies rest (sym fresh_is) (sym gate_is) (omega (arith, limit_is, c.len.ensures.len, c.needed-needed.ensures)))
