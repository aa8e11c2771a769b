-- A book that was read, and a run over it.
use Rattle.std.proofs.Common.{◌≡◌, ℕ, ◌≤◌, List, ◌++◌, length, Result, Ok, Err, refl, sym, ◌∙◌, subst, inl, arith, append-nil}
use Rattle.carte_name.specs.declared.kind.Kind.{Kind}
use Rattle.carte_book.specs.Book.{Book, book_view}
use Rattle.carte_book.specs.declared.book.Book.{Book as CodeBook}
use Rattle.carte_book.specs.declared.fault.BookFault.{BookFault}
use Rattle.carte_book.specs.declared.fault.BookFault.TheVariants.{NoMemory as BookNoMemory}
use Rattle.carte_words.specs.declared.words.Words.{Words as Asked}
use Rattle.carte_report.specs.declared.status.Status.{Status}
use Rattle.carte_report.specs.declared.status.Status.TheVariants.{Done, BookRefused, Usage, BuildRefused, ReadFault, WriteFault, DiskFault, BadState, StateFull, NoMemory, ScriptTooLong}
use Rattle.carte_top.specs.Around.{OverSource, OverDisk, OverSink, IsUnvisited, IsUntouched}
use Rattle.carte_top.specs.Chosen.{BookOfKind}
use Rattle.carte_top.specs.Found.{Holds, Refuses, WasRead}
use Rattle.carte_top.specs.Running.{Builds, LoadsBook, Parses, ReadsEnough, RefusesBytes}

refuses : (kind : Kind) (s : OverSource) (bytes : List ℕ) (fault : BookFault) → WasRead s bytes → RefusesBytes kind bytes fault → Refuses kind s fault
refuses kind s bytes BookNoMemory was not = absurd not
refuses kind s bytes fault was not = (bytes, inl was, not)

reads_all : (s : OverSource) (bytes : List ℕ) → WasRead s bytes → length bytes ≤ 16777216 → ReadsEnough s
reads_all s bytes was short = record {
  bytes = bytes;
  has = omega arith;
  first = λ told. let all = was told in subst (λ rest. s.old.left ≡ bytes ++ rest) (sym all.1) (all.0 ∙ sym (append-nil bytes));
}

pub loads_book : (kind : Kind) (s : OverSource) (bytes : List ℕ) (result : Result CodeBook Status) → Parses kind bytes result → WasRead s bytes → length bytes ≤ 16777216 → s.new.faults ≡ s.old.faults
    → LoadsBook kind s result
loads_book kind s bytes (Ok b) parses was short same = record { loads = (bytes, was, book_view b, parses, refl); read = reads_all s bytes was short; source = same }
loads_book kind s bytes (Err (BookRefused fault)) parses was short same = record { loads = refuses kind s bytes fault was parses; read = reads_all s bytes was short; source = same }
loads_book kind s bytes (Err NoMemory) parses was short same = record { loads = tt; read = reads_all s bytes was short; source = same }
loads_book kind s bytes (Err Done) parses was short same = absurd parses
loads_book kind s bytes (Err (Usage fault)) parses was short same = absurd parses
loads_book kind s bytes (Err (BuildRefused reason)) parses was short same = absurd parses
loads_book kind s bytes (Err ReadFault) parses was short same = absurd parses
loads_book kind s bytes (Err WriteFault) parses was short same = absurd parses
loads_book kind s bytes (Err DiskFault) parses was short same = absurd parses
loads_book kind s bytes (Err (BadState offset)) parses was short same = absurd parses
loads_book kind s bytes (Err (StateFull needed most)) parses was short same = absurd parses
loads_book kind s bytes (Err ScriptTooLong) parses was short same = absurd parses

-- what was read is this book
module _ (kind : Kind) (s : OverSource) (b : Book) (holds : Holds kind s (λ c. c ≡ b)) where
  pub holds_so : (P : Book → Type 0) → P b → Holds kind s P
  holds_so P there = (holds.0, holds.1, b, subst (λ (c : Book). BookOfKind kind holds.0 (Ok c)) holds.4 holds.3, there)

-- where there is no book
pub no_book : (limit : ℕ) (w : Asked) (s : OverSource) (d : OverDisk) (k : OverSink) (status : Status) → LoadsBook w.kind s (Err status) → IsUnvisited d → IsUntouched k → Builds limit w s d k status
no_book limit w s d k (BookRefused fault) load unvisited untouched = record { did = (load.loads, unvisited, untouched); read = load.read; visits = inl unvisited; source = load.source; disk = unvisited.faults; sink = untouched.2 }
no_book limit w s d k ReadFault load unvisited untouched = record { did = (unvisited, untouched); read = load.read; visits = inl unvisited; source = load.source; disk = unvisited.faults; sink = untouched.2 }
no_book limit w s d k NoMemory load unvisited untouched = record { did = (untouched, inl (λ told. unvisited.story)); read = load.read; visits = inl unvisited; source = load.source; disk = unvisited.faults; sink = untouched.2 }
no_book limit w s d k Done load unvisited untouched = absurd load.loads
no_book limit w s d k (Usage fault) load unvisited untouched = absurd load.loads
no_book limit w s d k (BuildRefused reason) load unvisited untouched = absurd load.loads
no_book limit w s d k WriteFault load unvisited untouched = absurd load.loads
no_book limit w s d k DiskFault load unvisited untouched = absurd load.loads
no_book limit w s d k (BadState offset) load unvisited untouched = absurd load.loads
no_book limit w s d k (StateFull needed most) load unvisited untouched = absurd load.loads
no_book limit w s d k ScriptTooLong load unvisited untouched = absurd load.loads
