use Rattle.std.proofs.Common.{◌∙◌, ap}
use Rattle.std.specs.Str.Parse.{digits_value}
use Rattle.carte_name.specs.Places.{row_of}
use Rattle.carte_name.proofs.place.row.Goals as goal

pub returns : goal.returns
unfolding row_of
returns c = c.number.ensures ∙ ap (digits_value 10) c.behind_letters.ensures
