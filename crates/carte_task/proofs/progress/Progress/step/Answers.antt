use Rattle.std.proofs.Common.{◌≡◌, Bool, Some, refl, ap, sym, ◌∙◌}
use Rattle.std.specs.List.{slice_get}
use Rattle.std.proofs.lemmas.Option.{slice_get_within, slice_get-get_or}
use Rattle.carte_task.specs.declared.code.Instr.TheVariants as i
use Rattle.carte_task.specs.State.{pending, Stepped}
use Rattle.carte_task.proofs.Driving.{look_on, look_halts}
use Rattle.carte_task.proofs.progress.Progress.step.Goals as goal

pub returns-in-Err-clause-goes : goal.returns-in-Err-clause-goes
returns-in-Err-clause-goes g c =
    let p = c.args.self.now in
    let is : slice_get c.args.code.now p.at ≡ Some (i.Look c.in-Some-Look.name) = slice_get-get_or c.args.code.now p.at c.in-Some-Look.field-0.now c.in-Some-Look.ensures.lookup.3.0 ∙ ap Some (sym c.in-Some-Look.ensures.lookup.1 ∙ c.in-Some-Look.field-0-is) in
    let halted = (c.in-Err.ensures {u = tt}).pushed in
    look_halts {B = Bool} c.args.kind c.args.code.now (g.E.Effect.truth c.args.effect.now) _ _ _ _ _ (pending p) p.next p.at p.values.items c.look_onto.new.values.items c.in-Some-Look.name (Stepped c.args.kind c.args.code.now p (record p { values = c.look_onto.new.values; answers = c.look_onto.new.answers })) c.in-Err.halt c.requires.names c.requires.next is halted.0 halted.1

pub returns-in-Ok-clause-goes : goal.returns-in-Ok-clause-goes
returns-in-Ok-clause-goes g c =
    let p = c.args.self.now in
    let is : slice_get c.args.code.now p.at ≡ Some (i.Look c.in-Some-Look.name) = slice_get-get_or c.args.code.now p.at c.in-Some-Look.field-0.now c.in-Some-Look.ensures.lookup.3.0 ∙ ap Some (sym c.in-Some-Look.ensures.lookup.1 ∙ c.in-Some-Look.field-0-is) in
    let pushed = (c.in-Ok.ensures {u = tt}).pushed in
    (look_on c.args.kind c.args.code.now (g.E.Effect.truth c.args.effect.now) _ _ _ _ (pending p) p.next p.at p.values.items c.look_onto.new.values.items c.in-Some-Look.name pushed.0 c.requires.names c.requires.next is pushed.1 pushed.2, (slice_get_within c.args.code.now p.at (i.Look c.in-Some-Look.name) is, refl))
