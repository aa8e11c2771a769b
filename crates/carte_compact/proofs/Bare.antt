-- Lists with nothing in them.
use Rattle.std.proofs.Common.{◌≡◌, Bool, true, false, ◌&&◌, List, [], length, refl}
use Rattle.std.proofs.lemmas.Bool.{eqb-true}
use Rattle.std.specs.Prelude.{◌==◌}
use Rattle.carte_table.proofs.Onces.{empty_list}

pub both : (b c : Bool) → b && c ≡ true → (b ≡ true) × (c ≡ true)
both true c is = (refl, is)
both false c is = cc

pub no_items : {A : Type 0} (xs : List A) → length xs == 0 ≡ true → xs ≡ []
no_items xs is = empty_list xs (eqb-true (length xs) 0 is)
