use Rattle.std.proofs.Common.{false, refl, ap}
use Rattle.carte_table.specs.Lookups.{first_value}
use Rattle.carte_value.specs.declared.digest.Digest.{Digest}
use Rattle.carte_trim.specs.Lists.{in_batch}
use Rattle.carte_trim.proofs.Steps.{those_same}
use Rattle.carte_trim.proofs.named.named.Goals as goal

pub returns : goal.returns
returns c =
    let all = c.args.batch.now.values in
    let one = (c.in_ok-put_each.ensures {u = tt}) (λ (d : Digest). false) (λ (d : Digest). ap (λ vs. first_value vs d) c.new-list.ensures) in
    let two = (c.in_ok-put_each-2.ensures {u = tt}) _ one in
    let three = (c.in_ok-put_each-3.ensures {u = tt}) _ two in
    let four = (c.in_ok-put_each-4.ensures {u = tt}) _ three in
    those_same all c.put_each-4.new.list _ (in_batch c.args.batch.now)
    (λ (d : Digest). rw (c.as_slice.ensures, c.as_slice-2.ensures, c.as_slice-3.ensures, c.as_slice-4.ensures) refl) four
