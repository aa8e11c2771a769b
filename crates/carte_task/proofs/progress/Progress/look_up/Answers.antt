use Rattle.std.proofs.Common.{◌≡◌, ◌<◌, [], Some, length, sym, ◌∙◌}
use Rattle.std.specs.List.{slice_get}
use Rattle.std.proofs.lemmas.Option.{get_or_from_slice_get, slice_get_within}
use Rattle.carte_task.specs.State.{pending}
use Rattle.carte_task.specs.Wanting.{names_wanted}
use Rattle.carte_task.proofs.Driving.{looking_on, looking_halts, none_left}
use Rattle.carte_task.proofs.progress.Progress.look_up.Goals as goal

pub returns-in-Err-clause-looked : goal.returns-in-Err-clause-looked
returns-in-Err-clause-looked g c = λ go.
    let names = names_wanted c.loop-name.self.wanted in
    let here : slice_get names c.loop-name.self.looked ≡ Some c.in-Some.name.now = sym c.in-Some.ensures.name in
    let within : c.loop-name.self.looked < length names = slice_get_within names c.loop-name.self.looked c.in-Some.name.now here in
    let is = sym (get_or_from_slice_get names c.loop-name.self.looked c.in-Some.name.now c.in-Some.name.now here) in
    let halted = (c.in-Err.ensures {u = tt}).pushed in
    looking_halts {B = Unit {0}} _ _ _ _ _ _ _ _ _ _ _ names c.loop-name.self.looked c.loop-name.self.values.items c.look_onto.new.values.items c.in-Some.name.now c.in-Err.halt (λ u. pending c.loop-name.self ≡ []) go c.loop-name.invariant.truth halted.1 c.loop-name.invariant.own within is halted.0 (c.loop-name.invariant.along go)

pub loop-name-preserved : goal.loop-name-preserved
loop-name-preserved g c =
    let names = names_wanted c.loop-name.self.wanted in
    let here : slice_get names c.loop-name.self.looked ≡ Some c.in-Some.name.now = sym c.in-Some.ensures.name in
    let within : c.loop-name.self.looked < length names = slice_get_within names c.loop-name.self.looked c.in-Some.name.now here in
    let is = sym (get_or_from_slice_get names c.loop-name.self.looked c.in-Some.name.now c.in-Some.name.now here) in
    let pushed = (c.in-Ok.ensures {u = tt}).pushed in
    record {
      truth = c.look_onto.ensures.truth ∙ c.loop-name.invariant.truth;
      own = ((λ k s h. c.look_onto.ensures.stops.0 k s (c.loop-name.invariant.own.0 k s h)), (λ k s h. c.loop-name.invariant.own.1 k s (c.look_onto.ensures.stops.1 k s h)));
      at = c.loop-name.invariant.at;
      next = c.loop-name.invariant.next;
      along = λ go. looking_on _ _ _ _ _ _ _ _ _ names c.loop-name.self.looked c.loop-name.self.values.items c.look_onto.new.values.items c.in-Some.name.now pushed.0 go c.loop-name.invariant.truth within is pushed.2 pushed.1 (c.loop-name.invariant.along go);
    }

pub returns-clause-looked : goal.returns-clause-looked
returns-clause-looked g c = λ go. (c.loop-name.invariant.along go, none_left (names_wanted c.loop-name.self.wanted) c.loop-name.self.looked (sym (c.in_default.ensures {u = tt}).name))
