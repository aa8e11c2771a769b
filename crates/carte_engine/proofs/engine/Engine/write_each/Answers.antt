use Rattle.std.proofs.Common.{◌≡◌, ◌<◌, ◌≤◌, ◌+◌, ◌++◌, ◌∷◌, [], Err, sym, ap, ◌∙◌, subst, take, drop, length, rules}
use Rattle.std.proofs.lemmas.List.{drop_more, take-append-drop, take_more}
use Rattle.std.proofs.lemmas.Result.{err_from_is_err_and}
use Rattle.carte_journal.specs.Journals.{Standing}
use Rattle.carte_table.proofs.Fronts.{take_whole}
use Rattle.carte_state.specs.Around.{over_disk}
use Rattle.carte_state.specs.States.{Stand}
use Rattle.carte_state.specs.Writing.{Writes, stand_of}
use Rattle.carte_state.proofs.Runs.{unmarked_in}
use Rattle.carte_engine.specs.Writing.{CommitsLast}
use Rattle.carte_engine.proofs.Looping.{all_put}
use Rattle.carte_engine.proofs.Writing.{WroteTo, none_written, one_unwritten, one_written}
use Rattle.carte_engine.proofs.engine.Engine.write_each.Goals as goal

pub loop-next-init : goal.loop-next-init
loop-next-init g c =
    let start = none_written g.D.Disk.tells (g.D.Disk.story c.args.disk.now) (g.D.Disk.faults c.args.disk.now) c.args.self.now c.args.batches.now c.requires.may c.requires.whole in
    subst (λ (j : Standing). WroteTo g.D.Disk.tells (g.D.Disk.story c.args.disk.now) (g.D.Disk.story c.args.disk.now) (g.D.Disk.faults c.args.disk.now) (g.D.Disk.faults c.args.disk.now) c.args.self.now c.args.batches.now [] j)
    (sym (ap (λ (s : Stand). s.journal) c.self.view_is)) start

pub write-requires-clause-whole : goal.write-requires-clause-whole
write-requires-clause-whole g c = c.loop-next.invariant.whole

pub write-requires-clause-unmarked : goal.write-requires-clause-unmarked
write-requires-clause-unmarked g c =
    let Bs = c.args.batches.now in
    let at = c.loop-next.next-index in
    let below : at < length Bs = search rules in
    unmarked_in Bs (take at Bs) (drop (at + 1) Bs) c.next-item.result
    (sym (take-append-drop at Bs) ∙ ap (λ rest. take at Bs ++ rest) (drop_more Bs at c.next-item.result below ∙ ap (λ x. x ∷ drop (at + 1) Bs) (sym c.next-item.is))) c.requires.unmarked

pub loop-next-preserved : goal.loop-next-preserved
loop-next-preserved g c =
    let Bs = c.args.batches.now in
    let at = c.loop-next.next-index in
    let B = c.next-item.result in
    let below : at < length Bs = search rules in
    let cut : Bs ≡ take at Bs ++ B ∷ drop (at + 1) Bs = sym (take-append-drop at Bs) ∙ ap (λ rest. take at Bs ++ rest) (drop_more Bs at B below ∙ ap (λ x. x ∷ drop (at + 1) Bs) (sym c.next-item.is)) in
    let more = take_more Bs at B below ∙ ap (λ x. take at Bs ++ x ∷ []) (sym c.next-item.is) in
    let j = c.loop-next.self-inside.state.journal in
    let j' = c.write.new.self.journal in
    let s = g.D.Disk.story in
    let n = g.D.Disk.faults in
    let writes = subst (λ r. Writes (over_disk g.D.Disk.tells s n c.loop-next.disk c.write.new.disk) j j' B r) (c.in_ok-write.was {u = tt}) c.write.ensures.writes in
    subst (λ done. WroteTo g.D.Disk.tells (s c.args.disk.now) (s c.write.new.disk) (n c.args.disk.now) (n c.write.new.disk) c.args.self.now Bs done j') (sym more)
    (one_written g.D.Disk.tells (s c.args.disk.now) (s c.loop-next.disk) (n c.args.disk.now) (n c.loop-next.disk) c.args.self.now Bs c.requires.may (take at Bs) j c.loop-next.invariant B (drop (at + 1) Bs) cut
    (s c.write.new.disk) (n c.write.new.disk) _ j' writes)

pub returns-in_err-write : goal.returns-in_err-write
returns-in_err-write g c =
    let Bs = c.args.batches.now in
    let at = c.loop-next.next-index in
    let B = c.next-item.result in
    let fault = c.in_err-write.field-0.0 in
    let below : at < length Bs = search rules in
    let cut : Bs ≡ take at Bs ++ B ∷ drop (at + 1) Bs = sym (take-append-drop at Bs) ∙ ap (λ rest. take at Bs ++ rest) (drop_more Bs at B below ∙ ap (λ x. x ∷ drop (at + 1) Bs) (sym c.next-item.is)) in
    let j = c.loop-next.self-inside.state.journal in
    let j' = c.write.new.self.journal in
    let s = g.D.Disk.story in
    let n = g.D.Disk.faults in
    let p = err_from_is_err_and c.from_residual.result c.from_residual.ensures.1 in
    let writes = subst (λ r. Writes (over_disk g.D.Disk.tells s n c.loop-next.disk c.write.new.disk) j j' B r) c.in_err-write.was c.write.ensures.writes in
    subst (CommitsLast (over_disk g.D.Disk.tells s n c.args.disk.now c.write.new.disk) c.args.self.now Bs) (sym (p.1 ∙ ap Err p.2))
    (one_unwritten g.D.Disk.tells (s c.args.disk.now) (s c.loop-next.disk) (n c.args.disk.now) (n c.loop-next.disk) c.args.self.now Bs c.requires.may (take at Bs) j c.loop-next.invariant B (drop (at + 1) Bs) cut
    (s c.write.new.disk) (n c.write.new.disk) _ _ j' fault writes)

pub returns : goal.returns
returns g c =
    let Bs = c.args.batches.now in
    let at = c.loop-next.next-index in
    let past : length Bs ≤ at = search rules in
    let d = over_disk g.D.Disk.tells g.D.Disk.story g.D.Disk.faults c.args.disk.now c.loop-next.disk in
    let wrote = subst (λ done. WroteTo d.tells d.old d.new d.failed_before d.failed c.args.self.now Bs done c.loop-next.self-inside.state.journal) (take_whole at Bs past) c.loop-next.invariant in
    (stand_of c.loop-next.self-inside.state.journal wrote.lists, all_put d c.args.self.now Bs (stand_of c.loop-next.self-inside.state.journal wrote.lists) wrote.so_far)
