-- What is read of words and lines has names of the kind alone, and a generated book a count that it may have.
use Rattle.std.proofs.Common.{◌≡◌, ◌≤◌, ◌&&◌, ℕ, nat_le, arith, if◌then◌else◌, Bool, true, false, IsTrue, List, [], ◌∷◌, Option, Some, None, Result, Ok, Err, IfOk, IfSome, codes, unwrap_or, refl, sym, subst}
use Rattle.carte_name.specs.Kinds.{is_text_of, is_name_of, name_of}
use Rattle.carte_name.specs.declared.NoMemory.{NoMemory}
use Rattle.carte_name.specs.declared.kind.Kind.{Kind}
use Rattle.carte_name.specs.declared.kind.Kind.TheVariants.{Rules, Sheet}
use Rattle.std.proofs.lemmas.Bool.{leb-true}
use Rattle.clap.specs.Words.{Row, Text, first_of, all_of}
use Rattle.std.specs.Str.Parse.{digits_value}
use Rattle.carte_words.specs.declared.choices.Choices.{Choices}
use Rattle.carte_words.specs.declared.targets.Aims.{Aims}
use Rattle.carte_words.specs.declared.fault.WordsFault.{WordsFault}
use Rattle.carte_words.specs.declared.fault.WordsFault.TheVariants.{BadTarget, WorkersNeedSuspending}
use Rattle.carte_words.specs.declared.line.Line.{Line}
use Rattle.carte_words.specs.declared.line.Line.TheVariants.{Set, Build, Explain, Clean, Nothing}
use Rattle.carte_words.specs.declared.words.Command.{Command}
use Rattle.carte_words.specs.declared.words.Command.TheVariants as command
use Rattle.carte_words.specs.declared.words.Words.{Words as Asked}
use Rattle.carte_words.specs.Numbers.{is_numeral, seed_in, count_in}
use Rattle.carte_words.specs.Lines.{in_front, names_of, Follows, Says, IsMeant}
use Rattle.carte_words.specs.Cuts.{words_in, word_of, behind}
use Rattle.carte_words.specs.Words.{◌>>=◌, or_words, put_first, names_in, aimed, some_targets, no_targets, numbered, seed_and_count, aims_for, aims_of, choices_of, words_with, takes, staffed, chosen_of, meaning_of, Gives, IsCounted}
use Rattle.carte_words.specs.Named.{AllNamed, LineNamed}

is_named : (kind : Kind) (t : Text) → IsTrue (is_text_of kind t) → IsTrue (is_name_of kind (name_of kind t))
is_named Rules t h = h
is_named Sheet t h = h

-- ---- lines

names_named : (kind : Kind) (ws ks : List Text) → names_of kind ws ≡ Some ks → AllNamed kind ks
names_named kind [] ks e = let none : [] ≡ ks = cc in subst (AllNamed kind) none tt
names_named kind (w ∷ ws) ks e = go (is_text_of kind w) refl (names_of kind ws) refl e (names_named kind ws)
  where
    go : (t : Bool) → is_text_of kind w ≡ t → (o : Option (List Text)) → names_of kind ws ≡ o → (if t then in_front (name_of kind w) o else None) ≡ Some ks
        → ((js : List Text) → names_of kind ws ≡ Some js → AllNamed kind js) → AllNamed kind ks
    go true is (Some js) at same more = let all : name_of kind w ∷ js ≡ ks = cc in subst (AllNamed kind) all (is_named kind w is, more js at)
    go true is None at same more = cc
    go false is o at same more = cc

follows_named : (kind : Kind) (word rest : Text) (l : Line) → Follows kind word rest l → LineNamed kind l
follows_named kind word rest Nothing f = tt
follows_named kind word rest Clean f = tt
follows_named kind word rest (Build ks) f = names_named kind (words_in rest) ks f.1.1
follows_named kind word rest (Explain ks) f = names_named kind (words_in rest) ks f.1.1
follows_named kind word rest (Set k v) f = subst (λ (j : Text). IsTrue (is_name_of kind j)) (sym f.1.1) (is_named kind _ f.1.0)

says_named : (kind : Kind) (text : Text) (l : Line) → Says kind text l → LineNamed kind l
says_named kind [] l h = subst (LineNamed kind) (sym h) tt
says_named kind (b ∷ bs) l h = follows_named kind (word_of (b ∷ bs)) (behind (b ∷ bs)) l h

pub line_named : (kind : Kind) (text : Text) (r : Result (Option Line) NoMemory) → IsMeant (Says kind text) r → IfOk r (λ o. IfSome o (LineNamed kind))
line_named kind text (Ok (Some l)) h = says_named kind text l h
line_named kind text (Ok None) h = tt
line_named kind text (Err e) h = tt

-- ---- words

bound_ok : {A B : Type 0} (r : Result A WordsFault) (f : A → Result B WordsFault) (b : B) → (r >>= f) ≡ Ok b → (a : A) × (r ≡ Ok a) × (f a ≡ Ok b)
bound_ok (Ok a) f b e = (a, refl, e)
bound_ok (Err fault) f b e = cc

targets_named : (kind : Kind) (ts ks : List Text) → names_in kind ts ≡ Ok ks → AllNamed kind ks
targets_named kind [] ks e = let none : [] ≡ ks = cc in subst (AllNamed kind) none tt
targets_named kind (t ∷ ts) ks e = go (is_text_of kind t) refl (names_in kind ts) refl e (targets_named kind ts)
  where
    go : (b : Bool) → is_text_of kind t ≡ b → (o : Result (List Text) WordsFault) → names_in kind ts ≡ o
        → ((if b then Ok (name_of kind t) else Err (BadTarget t)) >>= (λ k. put_first k o)) ≡ Ok ks
        → ((js : List Text) → names_in kind ts ≡ Ok js → AllNamed kind js) → AllNamed kind ks
    go true is (Ok js) at same more = let all : name_of kind t ∷ js ≡ ks = cc in subst (AllNamed kind) all (is_named kind t is, more js at)
    go true is (Err fault) at same more = cc
    go false is o at same more = cc

module _ (kind : Kind) where
  abbrev Fit : Aims → Type 0
  Fit aims = AllNamed kind aims.targets

  some_named : (ts : List Text) (a : Aims) → some_targets kind ts ≡ Ok a → Fit a
  some_named [] a e = cc
  some_named (t ∷ ts) a e =
      let ks = bound_ok (names_in kind (t ∷ ts)) (λ ks. Ok (aimed ks)) a e in
      let is : aimed ks.0 ≡ a = cc (ks.2) in
      subst Fit is (targets_named kind (t ∷ ts) ks.0 ks.1)

  none_named : (ts : List Text) (a : Aims) → no_targets ts ≡ Ok a → Fit a
  none_named [] a e = let is : aimed [] ≡ a = cc in subst Fit is tt
  none_named (t ∷ ts) a e = cc

  numbered_named : (s n : Option ℕ) (a : Aims) → numbered s n ≡ Ok a → Fit a
  numbered_named (Some s) (Some n) a e = let is : record { targets = []; seed = s; count = n } ≡ a = cc in subst Fit is tt
  numbered_named (Some s) None a e = cc
  numbered_named None n a e = cc

  counting_named : (ts : List Text) (a : Aims) → seed_and_count ts ≡ Ok a → Fit a
  counting_named (s ∷ n ∷ []) a e = numbered_named (seed_in s) (count_in n) a e
  counting_named [] a e = cc
  counting_named (s ∷ []) a e = cc
  counting_named (s ∷ n ∷ t ∷ ts) a e = cc

  aims_named : (to : Command) (ts : List Text) (a : Aims) → aims_for to kind ts ≡ Ok a → Fit a
  aims_named command.Build ts a e = some_named ts a e
  aims_named command.Session ts a e = none_named ts a e
  aims_named command.Explain ts a e = some_named ts a e
  aims_named command.Clean ts a e = none_named ts a e
  aims_named command.Generate ts a e = counting_named ts a e

-- ---- counts

count_within : (t : Text) (n : ℕ) → count_in t ≡ Some n → (2 ≤ n) × (n ≤ 262144)
count_within t n e = go (is_numeral t) (nat_le 2 (digits_value 10 t)) refl (nat_le (digits_value 10 t) 262144) refl e
  where
    go : (b low : Bool) → nat_le 2 (digits_value 10 t) ≡ low → (high : Bool) → nat_le (digits_value 10 t) 262144 ≡ high → (if b && (low && high) then Some (digits_value 10 t) else None) ≡ Some n
        → (2 ≤ n) × (n ≤ 262144)
    go true true least true most e = let is : digits_value 10 t ≡ n = cc in (omega (arith, leb-true _ _ least, is), omega (arith, leb-true _ _ most, is))
    go true true least false most e = cc
    go true false least high most e = cc
    go false low least high most e = cc

numbered_within : (s n : Option ℕ) (a : Aims) → ((m : ℕ) → n ≡ Some m → (2 ≤ m) × (m ≤ 262144)) → numbered s n ≡ Ok a → (2 ≤ a.count) × (a.count ≤ 262144)
numbered_within (Some s) (Some n) a within e =
    let is : record { targets = []; seed = s; count = n } ≡ a = cc in
    subst (λ (x : Aims). (2 ≤ x.count) × (x.count ≤ 262144)) is (within n refl)
numbered_within (Some s) None a within e = cc
numbered_within None n a within e = cc

counting_within : (ts : List Text) (a : Aims) → seed_and_count ts ≡ Ok a → (2 ≤ a.count) × (a.count ≤ 262144)
counting_within (s ∷ n ∷ []) a e = numbered_within (seed_in s) (count_in n) a (count_within n) e
counting_within [] a e = cc
counting_within (s ∷ []) a e = cc
counting_within (s ∷ n ∷ t ∷ ts) a e = cc

aims_within : (to : Command) (kind : Kind) (ts : List Text) (a : Aims) → aims_for to kind ts ≡ Ok a → to ≡ command.Generate → (2 ≤ a.count) × (a.count ≤ 262144)
aims_within command.Build kind ts a e is = cc
aims_within command.Session kind ts a e is = cc
aims_within command.Explain kind ts a e is = cc
aims_within command.Clean kind ts a e is = cc
aims_within command.Generate kind ts a e is = counting_within ts a e

-- ---- all of it

staffed_is : (w v : Asked) → staffed w ≡ Ok v → w ≡ v
staffed_is w v e = go (takes w.scheduler w.workers) e
  where
    go : (b : Bool) → (if b then Ok w else Err WorkersNeedSuspending) ≡ Ok v → w ≡ v
    go true e = cc
    go false e = cc

-- what has P with any aims that a command takes, has P where words mean it
module _ (P : Asked → Type 0) (have : (book state : Text) (c : Choices) (ts : List Text) (a : Aims) → aims_of c ts ≡ Ok a → P (words_with book state c a)) where
  of_chosen : (rows : List Row) (book state : Text) (w : Asked) → chosen_of rows book state ≡ Ok w → P w
  of_chosen rows book state w e =
      let ts = unwrap_or (all_of (codes "target") rows) [] in
      let c = bound_ok (or_words (choices_of rows book)) (λ c. aims_of c ts >>= (λ a. staffed (words_with book state c a))) w e in
      let a = bound_ok (aims_of c.0 ts) (λ a. staffed (words_with book state c.0 a)) w c.2 in
      let is : words_with book state c.0 a.0 ≡ w = staffed_is _ w a.2 in
      subst P is (have book state c.0 ts a.0 a.1)

  of_meaning : (rows : List Row) (w : Asked) → meaning_of rows ≡ Ok w → P w
  of_meaning rows w e =
      let book = bound_ok (or_words (first_of (codes "book") rows)) (λ book. or_words (first_of (codes "state") rows) >>= (λ state. chosen_of rows book state)) w e in
      let state = bound_ok (or_words (first_of (codes "state") rows)) (λ state. chosen_of rows book.0 state) w book.2 in
      of_chosen rows book.0 state.0 w state.2

  of_words : (rows : List Row) (r : Result Asked WordsFault) → Gives (meaning_of rows) r → IfOk r P
  of_words rows (Ok w) h = of_meaning rows w h
  of_words rows (Err fault) h = tt

pub words_named : (rows : List Row) (r : Result Asked WordsFault) → Gives (meaning_of rows) r → IfOk r (λ w. AllNamed w.kind w.targets)
words_named rows r h = of_words (λ w. AllNamed w.kind w.targets) (λ book state c ts a e. aims_named c.kind c.command ts a e) rows r h

pub words_counted : (rows : List Row) (r : Result Asked WordsFault) → Gives (meaning_of rows) r → IfOk r IsCounted
words_counted rows r h = of_words IsCounted (λ book state c ts a e is. aims_within c.command c.kind ts a e is) rows r h
