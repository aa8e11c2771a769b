use Rattle.std.proofs.Common.{◌<◌, ◌≤◌, arith, drop, length, rules, subst, sym}
use Rattle.carte_book.specs.Book.{book_view}
use Rattle.carte_note.specs.Methods.{how_of}
use Rattle.carte_plan.specs.Ahead.{AreAhead}
use Rattle.carte_plan.proofs.TasksAhead.{ahead_back, ahead_front}
use Rattle.carte_plan.proofs.Pieces.{IsCutting, cutting_ends, cutting_goes, cutting_starts}
use Rattle.carte_plan.proofs.cutting.in_parts.Goals as goal

pub loop-rest-init : goal.loop-rest-init
loop-rest-init g c =
    let h = how_of c.args.method in
    let b = book_view c.args.book.now in
    let K = c.args.kept.now in
    let fs = c.args.finished.now in (
      subst (λ Bs. IsCutting h b K fs fs c.args.opened c.args.opened Bs) (sym c.new-full.ensures.items) (cutting_starts h b K fs c.args.opened),
      subst (λ ts. AreAhead b fs ts) (sym c.as_slice-tasks.ensures.value) (c.in_ok-ahead.ensures {u = tt}),
    )

pub loop-rest-smaller : goal.loop-rest-smaller
loop-rest-smaller g c = let smaller : length c.split_at.result.1.now < length c.loop-rest.rest.now = omega (arith, c.split_at.ensures.back_len) in smaller

pub loop-rest-preserved : goal.loop-rest-preserved
loop-rest-preserved g c =
    let h = how_of c.args.method in
    let b = book_view c.args.book.now in
    let K = c.args.kept.now in
    let fs = c.args.finished.now in
    let rest = c.loop-rest.rest.now in
    let more = c.split_at.result.1.now in
    let tasks = c.loop-rest.tasks.now in
    let long : 256 < length rest = search rules in
    let next = c.in_ok-next.ensures {u = tt} in (
      subst (λ Bs. IsCutting h b K fs more c.args.opened c.next_part.new.batch Bs) (sym (c.in_ok-push.ensures {u = tt}).items)
          (cutting_goes h b K fs c.args.opened rest c.split_at.result.0.now more c.loop-rest.batch c.in_ok-next.next c.next_part.new.batch c.loop-rest.full.items c.loop-rest.invariant.0 long c.split_at.ensures.front c.split_at.ensures.back c.split_at.ensures.front_len next.part next.rest),
      subst (λ ts. AreAhead b more ts) (sym c.behind_part-tasks.ensures) (subst (λ fs. AreAhead b fs (drop 256 tasks)) (sym c.split_at.ensures.back) (ahead_back b 256 rest tasks c.loop-rest.invariant.1)),
    )

pub returns : goal.returns
returns g c =
    let h = how_of c.args.method in
    let b = book_view c.args.book.now in
    let K = c.args.kept.now in
    let rest = c.loop-rest.rest.now in
    let few : length rest ≤ 256 = search rules in
    cutting_ends h b K c.args.finished.now c.args.opened rest c.loop-rest.batch c.in_ok-last.last c.loop-rest.full.items c.loop-rest.invariant.0 few (c.in_ok-last.ensures {u = tt})

pub next_part-requires : goal.next_part-requires
next_part-requires g c =
    let b = book_view c.args.book.now in
    subst (λ fs. AreAhead b fs c.loop-rest.tasks.now) (sym c.split_at.ensures.front) (ahead_front b 256 c.loop-rest.rest.now c.loop-rest.tasks.now c.loop-rest.invariant.1)

pub last_part-requires : goal.last_part-requires
last_part-requires g c = c.loop-rest.invariant.1
