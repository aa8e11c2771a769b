-- The parts of the trace that a book makes true of a rule.
use Rattle.std.proofs.Common.{◌≡◌, ℕ, List, refl}
use Rattle.carte_book.specs.Book.{Book, clean}
use Rattle.carte_record.specs.declared.way.Way.{Way}
use Rattle.carte_record.specs.declared.way.Way.TheVariants.{Verifying, Constructive, Deep}
use Rattle.carte_record.specs.Ways.{key_by, links_by, result_by}
use Rattle.carte_sound.specs.True.{digest_or, links_to, linked, trace_of}

pub trace_key : (w : Way) (b : Book) (k : List ℕ) → key_by w (trace_of w b k) ≡ k
trace_key Verifying b k = refl
trace_key Constructive b k = refl
trace_key Deep b k = refl

pub trace_links : (w : Way) (b : Book) (k : List ℕ) → links_by w (trace_of w b k) ≡ links_to (clean b) (linked w b k)
trace_links Verifying b k = refl
trace_links Constructive b k = refl
trace_links Deep b k = refl

pub trace_result : (w : Way) (b : Book) (k : List ℕ) → result_by w (trace_of w b k) ≡ digest_or (clean b k)
trace_result Verifying b k = refl
trace_result Constructive b k = refl
trace_result Deep b k = refl
