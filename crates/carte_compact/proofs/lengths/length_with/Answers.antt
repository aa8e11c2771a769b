use Rattle.std.proofs.Common.{◌≡◌, false, ap, sym, ◌∙◌, rules}
use Rattle.carte_record.specs.Empty.{is_bare}
use Rattle.carte_compact.specs.Live.{stale_at}
use Rattle.carte_compact.specs.Lengths.{back_size, front_size}
use Rattle.carte_compact.proofs.Sizes.{from_ok, if_there, in_all}
use Rattle.carte_compact.proofs.lengths.length_with.Goals as goal

pub front_length-requires : goal.front_length-requires
front_length-requires c =
    (c.in_ok-stale.ensures {u = tt}) ∙ ap (stale_at c.args.kept.now.entries) (c.as_slice.ensures.value ∙ sym c.as_slice-3.ensures.value)

pub returns : goal.returns
returns c =
    let K = c.args.kept.now in
    let some : is_bare K ≡ false = search rules in
    let names = c.in_ok-names.names.items in
    let keys = c.in_ok-keys.keys.items in
    let backed : c.in_ok-back.back ≡ back_size K =
    from_ok c.back_length.result _ (λ n. n ≡ back_size K) c.in_ok-back.back c.back_length.ensures (sym c.ok_or.ensures.value ∙ c.in_ok-back.was {u = tt}) in
    let sized : c.in_ok-front.front ≡ front_size K c.as_slice-2.result.now c.as_slice-3.result.now =
    from_ok c.front_length.result _ (λ n. n ≡ front_size K c.as_slice-2.result.now c.as_slice-3.result.now) c.in_ok-front.front c.front_length.ensures (sym c.ok_or-2.ensures.value ∙ c.in_ok-front.was {u = tt}) in
    let front = sized ∙ ap (λ ns. front_size K ns c.as_slice-3.result.now) c.as_slice-2.ensures.value ∙ ap (front_size K names) c.as_slice-3.ensures.value in
    rw c.ok_or-3.ensures.value
    (if_there c.region_length.result _ _ _
    (λ n adds Bs live. in_all K names keys c.in_ok-front.front c.in_ok-back.back n some (c.in_ok-names.ensures {u = tt}) (c.in_ok-keys.ensures {u = tt}) front backed adds Bs live)
    c.region_length.ensures)
