-- What is read as its parts.
use Rattle.std.proofs.Common.{ℕ, List}
use Rattle.carte_codec.specs.declared.unread.Unread.{Unread}
use Rattle.carte_codec.specs.declared.unread.Unread.TheVariants.{NotThere, NoMemory}
use Rattle.carte_codec.specs.Spellings.{OneSpelling, FailsToRead}

-- where the parts aren't there, the whole isn't
pub as_fails : {S P : Type 0} {spelled : P → List ℕ} {fits : P → Type 0} (to : S → P) (one : OneSpelling spelled fits) (fits_whole : S → Type 0) → ((x : S) → fits_whole x → fits (to x)) → (bytes : List ℕ) (unread : Unread) → FailsToRead spelled fits bytes unread → FailsToRead (λ x. spelled (to x)) fits_whole bytes unread
as_fails to one fits_whole parts bytes NoMemory none = tt
as_fails to one fits_whole parts bytes NotThere none = λ v rest fit same. none (to v) rest (parts v fit) same
