use Rattle.std.proofs.Common.{◌≡◌, true, string_bytes, sym, subst, rules}
use Rattle.carte_session.specs.Staying.{Learns}
use Rattle.carte_session.proofs.Staying.{learns_by}
use Rattle.carte_session.proofs.known.Known.learn.Goals as goal

pub returns : goal.returns
returns c =
    let old = c.args.self.now.lines.items in
    let mid = c.make_place.new.self.lines.items in
    let new = c.put-put.new.self.lines.items in
    let line = c.args.line.now in
    let stays : c.args.answer.now.stays ≡ true = search rules in
    subst (λ s. Learns s old line (string_bytes c.args.answer.now.text) new) (sym stays)
    (subst (λ reply. Learns true old line reply new) c.as_str.ensures.value (learns_by line c.as_str.result.now old mid new c.make_place.ensures c.put-put.result c.put-put.ensures.put c.put-put.ensures.refused))
