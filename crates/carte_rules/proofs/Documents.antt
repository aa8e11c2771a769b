-- Bytes, their documents and the answers of readers.
use Rattle.std.proofs.Common.{◌≡◌, ℕ, ◌≤◌, true, false, cond, nat_lt, List, length, Some, None, Result, Ok, Err, refl, ap, sym, subst, arith}
use Rattle.std.specs.Str.{IsUtf8, is_utf8}
use Rattle.std.proofs.lemmas.Str.{is_utf8-from_IsUtf8, IsUtf8-from_is_utf8}
use Rattle.std.proofs.lemmas.Bool.Decides.{nat_tests}
use Rattle.toml.specs.Data.{Members}
use Rattle.toml.specs.Parse.{parse_document}
use Rattle.carte_book.specs.declared.book.Book.{Book as CodeBook}
use Rattle.carte_book.specs.declared.fault.BookFault.{BookFault}
use Rattle.carte_book.specs.declared.fault.BookFault.TheVariants.{Limit, NotToml, BadTable, BadName, BadValue, Formula, Twice, NotUtf8, NoMemory}
use Rattle.carte_rules.specs.Tables.{Tables, no_tables, tables_into, document, tables_in, tables_of}
use Rattle.carte_rules.specs.Reading.{Then, InTables, BookOf, IsRead}
use Rattle.carte_rules.specs.Steps.{Answers}

not_below : (n m : ℕ) → n ≤ m → nat_lt m n ≡ false
not_below n m h = grind (arith, nat_tests)

told : (bytes : List ℕ) (ms : Members) → length bytes ≤ 16777216 → IsUtf8 bytes → parse_document bytes ≡ Some ms → tables_of bytes ≡ tables_into ms no_tables
told bytes ms short text is = rw (not_below (length bytes) 16777216 short, is_utf8-from_IsUtf8 bytes text, is) refl

untold : (bytes : List ℕ) → length bytes ≤ 16777216 → (IsUtf8 bytes → parse_document bytes ≡ None) → tables_of bytes ≡ Err NotToml
untold bytes short none = rw (not_below (length bytes) 16777216 short) (ap tables_in no_document)
  where
    no_document : document bytes ≡ None
    no_document = elim (is_utf8 bytes) as (λ b. is_utf8 bytes ≡ b → cond b (parse_document bytes) None ≡ None) [
      | true ↦ λ is. none (IsUtf8-from_is_utf8 bytes is)
      | false ↦ λ is. refl
    ] refl

as_read : (bytes : List ℕ) (r : Result CodeBook BookFault) → length bytes ≤ 16777216 → Answers (BookOf bytes) r → IsRead bytes r
as_read bytes (Ok b) short h = h
as_read bytes (Err (Limit w n)) short h = h tt
as_read bytes (Err NotToml) short h = h tt
as_read bytes (Err (BadTable k)) short h = h tt
as_read bytes (Err (BadName k)) short h = h tt
as_read bytes (Err (BadValue k)) short h = h tt
as_read bytes (Err (Formula k fault)) short h = h tt
as_read bytes (Err (Twice k)) short h = h tt
as_read bytes (Err (NotUtf8 k)) short h = h tt
as_read bytes (Err NoMemory) short h = short

-- what is answered of the document is answered of the bytes
pub read_so : (bytes : List ℕ) (ms : Members) (r : Result CodeBook BookFault) → length bytes ≤ 16777216 → IsUtf8 bytes → parse_document bytes ≡ Some ms → Answers (Then (tables_into ms no_tables) InTables) r → IsRead bytes r
read_so bytes ms r short text is h = as_read bytes r short (subst (λ (t : Result Tables BookFault). Answers (Then t InTables) r) (sym (told bytes ms short text is)) h)

pub no_toml : (bytes : List ℕ) → length bytes ≤ 16777216 → (IsUtf8 bytes → parse_document bytes ≡ None) → IsRead bytes (Err NotToml)
no_toml bytes short none = subst (λ (t : Result Tables BookFault). Then t InTables (Err NotToml)) (sym (untold bytes short none)) refl
