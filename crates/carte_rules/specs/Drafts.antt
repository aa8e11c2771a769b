-- What the draft of a rule file holds.
use Rattle.carte_book.specs.Drafts as all
use Rattle.carte_rules.specs.Reading.{Content}
use Rattle.carte_rules.specs.declared.draft.Draft.{Draft}

abbrev pub Holds : Draft → Content → Type 0
Holds d m = all.Holds d.keys m
