use Rattle.std.proofs.Common.{ap, sym, ◌∙◌, subst, IfSome}
use Rattle.std.specs.HashMap.{get}
use Rattle.carte_name.specs.Names.{name_eq}
use Rattle.carte_table.specs.Places.{IsFirstPlaces}
use Rattle.carte_table.proofs.FirstPlaces.{place_added}
use Rattle.carte_table.proofs.Names.{name_eq_sym}
use Rattle.carte_note.specs.Lists.{is_of_key}
use Rattle.carte_note.specs.Right.{key_of}
use Rattle.carte_note.proofs.list.put_place.Goals as goal

pub returns-in_ok-add-in-Some-clause-ok : goal.returns-in_ok-add-in-Some-clause-ok
returns-in_ok-add-in-Some-clause-ok c = λ fs end are.
    place_added name_eq is_of_key fs c.args.finished.now c.in_ok-key-in-Some.key (get name_eq c.in-Some.places) (get name_eq c.add.new.table) c.args.at end
    (λ q. name_eq_sym q (key_of c.args.finished.now) ∙ sym (ap (λ k. name_eq k q) (c.in_ok-key-in-Some.ensures {u = tt} ∙ c.key.ensures)))
    (subst (λ o. IfSome o (λ p. IsFirstPlaces is_of_key fs (get name_eq p))) c.in-Some.is are)
    ((c.in_ok-add-in-Some.ensures {u = tt}).ok)
