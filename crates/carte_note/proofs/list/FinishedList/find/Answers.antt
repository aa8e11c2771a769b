use Rattle.std.proofs.Common.{◌∙◌, ap, subst, IfSome}
use Rattle.std.specs.HashMap.{get}
use Rattle.carte_name.specs.Names.{name_eq}
use Rattle.carte_table.specs.Places.{IsFirstPlaces}
use Rattle.carte_note.specs.Lists.{is_of_key, finished_of}
use Rattle.carte_note.proofs.list.FinishedList.find.Goals as goal

pub returns-in-Some : goal.returns-in-Some
returns-in-Some c =
    c.first.ensures is_of_key (rw c.as_slice.ensures.value (subst (λ o. IfSome o (λ p. IsFirstPlaces is_of_key c.self.inside.finished.items (get name_eq p))) c.in-Some.is c.self.invariant.1))
    ∙ ap (λ fs. finished_of fs c.args.key.now) (c.as_slice.ensures.value ∙ c.self.view_is)

pub returns-in-None : goal.returns-in-None
returns-in-None c = c.look.ensures ∙ ap (λ fs. finished_of fs c.args.key.now) (c.as_slice-in-None.ensures.value ∙ c.self.view_is)
