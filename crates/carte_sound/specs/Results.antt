-- That a key's result is kept, and is the present one.
use Rattle.std.specs.Prelude.{ℕ, ◌≡◌, List, Some}
use Rattle.carte_value.specs.declared.digest.Digest.{Digest}
use Rattle.carte_value.specs.declared.value.Value.{Value}
use Rattle.carte_value.specs.Spelling.{digest_of}
use Rattle.carte_book.specs.Book.{Book, clean}
use Rattle.carte_record.specs.declared.entry.Entry.{Entry}
use Rattle.carte_record.specs.Kept.{SomeKept}

-- this is the digest of the key's clean value, and the store has the value
pub record HasResult (K : SomeKept) (b : Book) (k : List ℕ) (d : Digest) : Type 0 where
  pub value : Value
  pub clean : clean b k ≡ Some value
  pub digest : d ≡ digest_of value
  pub stored : K.stored d ≡ Some value

-- the key has an entry with such a digest
pub record IsKeptNow (K : SomeKept) (b : Book) (k : List ℕ) : Type 0 where
  pub entry : Entry
  pub kept : K.entries k ≡ Some entry
  pub result : HasResult K b k entry.result
