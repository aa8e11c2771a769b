use Rattle.std.proofs.Common.{◌<◌, [], ◌∷◌, ◌++◌, length, take, refl, ap, sym, ◌∙◌, rules}
use Rattle.std.proofs.lemmas.List.{take_more}
use Rattle.carte_book.specs.Book.{book_view}
use Rattle.carte_table.proofs.Steps.{begins_self, begins_on}
use Rattle.carte_note.specs.Writes.{with_seen, all_seen}
use Rattle.carte_note.proofs.Names.{seen_end}
use Rattle.carte_note.proofs.see.see_all.Goals as goal

pub loop-link-init : goal.loop-link-init
loop-link-init c = (begins_self c.args.seen.now, refl)

pub loop-link-preserved : goal.loop-link-preserved
loop-link-preserved c =
    let links = c.as_slice-link-items.result.now in
    let at = c.loop-link.link-index in
    let below : at < length links = search rules in
    let more = take_more links at c.link-item.result below ∙ ap (λ x. take at links ++ x ∷ []) (sym c.link-item.is) in
    let b = book_view c.args.book.now in
    let ks = c.args.kept.now in
    let see = c.in_ok-see.ensures {u = tt} in (
      begins_on c.args.seen.now c.loop-link.seen c.see.new.seen c.loop-link.invariant.0 see.front,
      see.seen
          ∙ (ap (with_seen b ks c.link-item.result) c.loop-link.invariant.1
          ∙ (sym (seen_end b ks (take at links) c.link-item.result c.args.seen.now)
          ∙ ap (λ xs. all_seen b ks xs c.args.seen.now) (sym more))),
    )

pub returns-in_err-see-clause-front : goal.returns-in_err-see-clause-front
returns-in_err-see-clause-front c = begins_on c.args.seen.now c.loop-link.seen c.see.new.seen c.loop-link.invariant.0 c.see.ensures.front

pub returns-clause-front : goal.returns-clause-front
returns-clause-front c = c.loop-link.invariant.0
