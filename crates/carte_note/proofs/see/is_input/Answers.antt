use Rattle.std.proofs.Common.{◌≡◌, Option, Some, None, is_some, refl, sym, ◌∙◌}
use Rattle.carte_book.specs.Book.{Item, input, rule, book_view, content}
use Rattle.carte_book.specs.Inputs.{is_input}
use Rattle.carte_sound.specs.Marks.{digest_in}
use Rattle.carte_note.proofs.see.is_input.Goals as goal

input_has_digest : (o : Option Item) → is_some (digest_in o) ≡ is_input o
input_has_digest None = refl
input_has_digest (Some (input v)) = refl
input_has_digest (Some (rule e)) = refl

pub returns : goal.returns
returns c = c.is_input.ensures ∙ sym (input_has_digest (content (book_view c.args.book.now) c.args.name.now))
