-- The state stays sound over a history of runs.
use Rattle.std.proofs.Common.{◌≡◌, ℕ, List, [], ◌∷◌, ◌++◌, Ok, Err, refl, sym, ◌∙◌, ap, subst, inl, inr, append_assoc, append-nil}
use Rattle.std.proofs.lemmas.List.{append_cancel_right}
use Rattle.carte_io.specs.Disk.{EachMoment, Leaves, LeavesOnly, Moment, Story, moments}
use Rattle.carte_value.specs.Lists.{Has}
use Rattle.carte_book.specs.Book.{Book}
use Rattle.carte_record.specs.Kept.{nothing_kept}
use Rattle.carte_sound.specs.Base.{HasDistinctDigests}
use Rattle.carte_sound.proofs.Begins.{front_distinct}
use Rattle.carte_sound.proofs.Histories.{nothing_sound}
use Rattle.carte_session.specs.Lines.{lines_of}
use Rattle.carte_shell.specs.Books.{AreBooks as AreBooksAt, Edits, IsBookAt, LooksAt}
use Rattle.carte_name.specs.declared.kind.Kind.{Kind}
use Rattle.carte_value.specs.declared.value.Value.{Value}
use Rattle.carte_words.specs.declared.line.Line.{Line}
use Rattle.carte_words.specs.declared.line.Line.TheVariants as line
use Rattle.carte_words.specs.declared.words.Command.{Command}
use Rattle.carte_words.specs.declared.words.Command.TheVariants as command
use Rattle.carte_words.specs.declared.words.Words.{Words as Asked}
use Rattle.carte_words.proofs.Meanings.{meant_once}
use Rattle.carte_top.specs.Around.{OverSource}
use Rattle.carte_top.specs.Chosen.{BookOfKind}
use Rattle.carte_top.specs.Found.{Holds}
use Rattle.carte_top.specs.Sound.{AreFirst, AreRead, AreReadFor, KeepsSound, StaysSound}
use Rattle.carte_top.specs.Histories.{AreBooks, AreBooksFor, AreRuns, HasBehind, IsLeft, IsRunFrom, Run, WholeHistories, around_of}
use Rattle.carte_top.proofs.Unique.{one_generated, one_meant, one_of_kind}
use Rattle.carte_engine.specs.Versions.{IsSoundAny}
use Rattle.carte_engine.proofs.Raising.{sound_behind}
use Rattle.carte_state.specs.Versions.{Fresh, InTwo}

at_moment : (Q : Moment → Type 0) (ms : List Moment) (m : Moment) → EachMoment Q ms → Has ms m → Q m
at_moment Q [] m each here = absurd here
at_moment Q (n ∷ ms) m each (inl same) = subst Q (sym same) each.0
at_moment Q (n ∷ ms) m each (inr later) = at_moment Q ms m each.1 later

-- what each moment's images have, a file that is left has
left_has : (old new : Story) (P : List ℕ → Type 0) (file : List ℕ) → LeavesOnly old new P → IsLeft old new file → P file
left_has old new P file all left =
    let same : left.later ≡ all.later = append_cancel_right left.later all.later (moments old) (sym left.goes_on ∙ all.goes_on) in
    at_moment (Leaves P) (old.now ∷ all.later) left.moment (all.first, all.each) (subst (λ ms. Has (old.now ∷ ms) left.moment) same left.passed) file left.image

-- ---- books at lines

-- a line looks at one list of books, and leaves one
one_edit : (b : Book) (k : List ℕ) (v : Value) (c d : Book) → Edits b k v c → Edits b k v d → c ≡ d
one_edit b k v c d (inl one) (inl other) = one.1 ∙ sym other.1
one_edit b k v c d (inl one) (inr other) = absurd (other.0 one.0)
one_edit b k v c d (inr one) (inl other) = absurd (one.0 other.0)
one_edit b k v c d (inr one) (inr other) = one.1 ∙ sym other.1

one_look : (b : Book) (l : Line) (I J : List Book) (c d : Book) → LooksAt b l I c → LooksAt b l J d → (I ≡ J) × (c ≡ d)
one_look b (line.Set k v) I J c d one other = (one.0 ∙ sym other.0, one_edit b k v c d one.1 other.1)
one_look b (line.Build targets) I J c d one other = (one.0 ∙ sym other.0, one.1 ∙ sym other.1)
one_look b (line.Explain targets) I J c d one other = (one.0 ∙ sym other.0, one.1 ∙ sym other.1)
one_look b line.Clean I J c d one other = (one.0 ∙ sym other.0, one.1 ∙ sym other.1)
one_look b line.Nothing I J c d one other = (one.0 ∙ sym other.0, one.1 ∙ sym other.1)

one_at : (b : Book) (bytes : List ℕ) (I J : List Book) (c d : Book) → IsBookAt b bytes I c → IsBookAt b bytes J d → (I ≡ J) × (c ≡ d)
one_at b bytes I J c d (inl one) (inl other) = (one.1 ∙ sym other.1, one.2 ∙ sym other.2)
one_at b bytes I J c d (inl one) (inr (l, means, looks)) = absurd (one.0 l means)
one_at b bytes I J c d (inr (l, means, looks)) (inl other) = absurd (other.0 l means)
one_at b bytes I J c d (inr (l, means, looks)) (inr (m, meant, seen)) =
    let same : l ≡ m = meant_once b.kind bytes l m means meant in
    one_look b m I J c d (subst (λ (x : Line). LooksAt b x I c) same looks) seen

-- the books at the first lines begin those at all of them
books_front : (b c d : Book) (lines later : List (List ℕ)) (I J : List Book) → AreBooksAt b lines I c → AreBooksAt b (lines ++ later) J d → (rest : List Book) × (J ≡ I ++ rest)
books_front b c d [] later I J are all = (J, ap (λ (K : List Book). K ++ J) (sym are.0))
books_front b c d (bytes ∷ lines) later I J are all =
    let one = one_at b bytes are.1 all.1 are.0 all.0 are.3 all.3 in
    let more = books_front are.0 c d lines later are.2 all.2 are.5 (subst (λ (x : Book). AreBooksAt x (lines ++ later) all.2 d) (sym one.1) all.5) in
    (more.0, all.4 ∙ ap (λ (K : List Book). K ++ all.2) (sym one.0) ∙ ap (λ (K : List Book). are.1 ++ K) more.1 ∙ sym (append_assoc are.1 are.2 more.0) ∙ ap (λ (K : List Book). K ++ more.0) (sym are.4))

-- ---- a run

-- the books that a run has read begin those of its history
module _ (r : Run) where
  abbrev source_of : OverSource
  source_of = record { tells = Unit {0}; old = r.book; new = r.book_after }

  abbrev script_of : OverSource
  script_of = record { tells = Unit {0}; old = r.script; new = r.script_after }

  module _ (kind : Kind) (P : Book → Type 0) (holds : Holds kind source_of P) where
    is_own : BookOfKind kind r.book.left (Ok holds.2)
    is_own = subst (λ (xs : List ℕ). BookOfKind kind xs (Ok holds.2)) (sym (holds.1 tt).0) holds.3

  behind_one : (kind : Kind) (P : Book → Type 0) (Behind : Book → List Book → Type 0) (J : List Book) (holds : Holds kind source_of P) → HasBehind kind r.book.left Behind J → Behind holds.2 J
  behind_one kind P Behind J holds (inl none) = absurd (none.0 holds.2 (is_own kind P holds))
  behind_one kind P Behind J holds (inr (b, is, behind)) = subst (λ (x : Book). Behind x J) (one_of_kind kind r.book.left b holds.2 is (is_own kind P holds)) behind

  front_for : (to : Command) (w : Asked) (A J : List Book) → AreReadFor to w source_of script_of A → AreBooksFor to w r.book.left r.script.left J → (rest : List Book) × (J ≡ A ++ rest)
  front_for command.Build w A J read books =
      let behind : J ≡ read.2 ∷ [] = behind_one w.kind (λ b. A ≡ b ∷ []) (λ b I. I ≡ b ∷ []) J read books in
      ([], behind ∙ sym read.4 ∙ sym (append-nil A))
  front_for command.Session w A J read books =
      let behind : (c : Book) × AreBooksAt read.2 (lines_of r.script.left) J c = behind_one w.kind (λ b. AreFirst script_of b A) (λ b I. (c : Book) × AreBooksAt b (lines_of r.script.left) I c) J read books in
      let first = read.4 in
      let begin = first.first tt in
      books_front read.2 first.last behind.0 first.lines begin.0 A J first.books (subst (λ (ls : List (List ℕ)). AreBooksAt read.2 ls J behind.0) begin.1 behind.1)
  front_for command.Explain w A J read books = absurd read
  front_for command.Clean w A J read books = absurd read
  front_for command.Generate w A J read books =
      let same : books.0 ≡ read.0 = one_generated w.seed w.count books.0 read.0 books.1 read.1 in
      ([], books.2 ∙ ap (λ (b : Book). b ∷ []) same ∙ sym read.2 ∙ sym (append-nil A))

  pub front_of : (A J : List Book) → AreRead r.words source_of script_of A → AreBooks r J → (rest : List Book) × (J ≡ A ++ rest)
  front_of A J (inl none) books = (J, ap (λ (K : List Book). K ++ J) (sym none))
  front_of A J (inr (w, asked, read)) (inl (fault, refused, none)) = let both : Ok w ≡ Err fault = sym asked ∙ refused in cc
  front_of A J (inr (w, asked, read)) (inr (v, also, books)) =
      let same : v ≡ w = one_meant r.words v w also asked in
      front_for w.command w A J read (subst (λ (x : Asked). AreBooksFor x.command x r.book.left r.script.left J) same books)

module _ (limit : ℕ) (file : List ℕ) (G J : List Book) (r : Run) (keeps : KeepsSound limit G file) (run : IsRunFrom limit file r) (books : AreBooks r J) (distinct : HasDistinctDigests (G ++ J)) where
  keeps_old : KeepsSound limit G r.old.now.reads
  keeps_old = subst (KeepsSound limit G) (sym run.found) keeps

  by_read : (A rest : List Book) → J ≡ A ++ rest → StaysSound limit A (around_of r).state → KeepsSound limit (G ++ J) r.file
  by_read A rest is stays =
      let parted : G ++ J ≡ (G ++ A) ++ rest = ap (λ (X : List Book). G ++ X) is ∙ sym (append_assoc G A rest) in
      let apart : HasDistinctDigests (G ++ A) = front_distinct (G ++ A) rest (subst HasDistinctDigests parted distinct) in
      let there : KeepsSound limit (G ++ A) r.file = left_has r.old r.new (KeepsSound limit (G ++ A)) r.file (stays tt run.settled G keeps_old apart) run.left in
      (there.0, there.1, subst (λ (X : List Book). IsSoundAny there.0 X) (sym parted) (sound_behind there.0 (G ++ A) rest there.2))

  run_sound : KeepsSound limit (G ++ J) r.file
  run_sound =
      let all = run.outcome.sound in
      let front = front_of r all.0 J all.1 books in
      by_read all.0 front.0 front.1 all.2

pub histories : (limit : ℕ) (runs : List Run) (G H : List Book) (file last : List ℕ) → KeepsSound limit G file → AreRuns limit file runs H last → HasDistinctDigests (G ++ H) → KeepsSound limit (G ++ H) last
histories limit [] G H file last keeps are distinct =
    let alone : KeepsSound limit (G ++ []) file = subst (λ (J : List Book). KeepsSound limit J file) (sym (append-nil G)) keeps in
    let here : KeepsSound limit (G ++ H) file = subst (λ (J : List Book). KeepsSound limit (G ++ J) file) (sym are.0) alone in
    subst (KeepsSound limit (G ++ H)) (sym are.1) here
histories limit (r ∷ runs) G H file last keeps (J, rest, is, books, run, more) distinct =
    let parted : G ++ H ≡ (G ++ J) ++ rest = ap (λ (X : List Book). G ++ X) is ∙ sym (append_assoc G J rest) in
    let apart : HasDistinctDigests ((G ++ J) ++ rest) = subst HasDistinctDigests parted distinct in
    let here : KeepsSound limit (G ++ J) r.file = run_sound limit file G J r keeps run books (front_distinct (G ++ J) rest apart) in
    subst (λ (X : List Book). KeepsSound limit X last) (sym parted) (histories limit runs (G ++ J) rest r.file last here more apart)

pub whole_histories : WholeHistories
whole_histories limit runs H last are distinct =
    histories limit runs [] H [] last (InTwo nothing_kept, record { gate = 8; bodies = []; reads = refl; makes = record { phase = Fresh; folded = refl; kept = refl } }, nothing_sound []) are distinct
