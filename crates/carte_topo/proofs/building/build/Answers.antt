use Rattle.std.proofs.Common.{ℕ, List, length, ap, sym, ◌∙◌, subst}
use Rattle.carte_value.specs.Truths.{Among}
use Rattle.carte_book.specs.Book.{book_view}
use Rattle.carte_record.specs.Kept.{kept_view}
use Rattle.carte_rebuild.specs.Ends.{IsWork}
use Rattle.carte_topo.specs.Orders.{IsReady}
use Rattle.carte_topo.proofs.Treated.{done_in_order}
use Rattle.carte_topo.proofs.building.build.Goals as goal

pub returns-in-Ok-treat_all-clause-ends : goal.returns-in-Ok-treat_all-clause-ends
returns-in-Ok-treat_all-clause-ends g c =
    let h = g.R.Rebuilder.how c.args.rebuilder.now in
    let K = kept_view c.args.kept.now in
    let b = book_view c.args.book.now in
    let work = c.in-Ok-treat_all.work in
    let order = c.in-Ok.ensures in
    let treated = c.in-Ok-treat_all.ensures {u = tt} in (
      treated.0,
      order.no_dynamic,
      order.all_clean,
      λ given.
          let done = treated.2 given in
          (done_in_order h K b c.args.targets.now c.in-Ok.names work order (subst (λ (l : List (List ℕ)). IsWork h K b (Among l) work) c.as_slice.ensures done.0), done.1),
    )

pub returns-in-Ok-treat_all-clause-all : goal.returns-in-Ok-treat_all-clause-all
returns-in-Ok-treat_all-clause-all g c =
    (c.in-Ok.names, c.in-Ok.ensures, (c.in-Ok-treat_all.ensures {u = tt}).1 ∙ ap length c.as_slice.ensures)

pub returns-in-Ok-treat_all-clause-targets : goal.returns-in-Ok-treat_all-clause-targets
returns-in-Ok-treat_all-clause-targets g c t here =
    subst (λ (ks : List (List ℕ)). IsReady (book_view c.args.book.now) ks t) (sym ((c.in-Ok-treat_all.ensures {u = tt}).3 ∙ c.as_slice.ensures)) (c.in-Ok.ensures.known t here)
