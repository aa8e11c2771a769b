-- The length of an open file, by what is known of it.
use Rattle.std.specs.Prelude.{◌≡◌, ◌⊎◌, ℕ, Option, Some, None}
use Rattle.std.specs.Fs.{IsFile, file_type, metadata_len}
use Rattle.std.specs.declared.fs.attrs.Metadata.{Metadata}

-- `Describes about`: what is known of a file may be answered so, or that there was an error.
-- It is a regular file of this length
abbrev pub IsLength : (Option Metadata → Type 0) → ℕ → Type 0
IsLength Describes n = (about : Metadata) × Describes (Some about) × IsFile (file_type about) × (n ≡ metadata_len about)

-- there was an error, or it is no regular file
abbrev pub IsNoLength : (Option Metadata → Type 0) → Type 0
IsNoLength Describes = Describes None ⊎ ((about : Metadata) × Describes (Some about) × ¬ IsFile (file_type about))
