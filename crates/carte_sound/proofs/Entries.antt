-- The entry of a finished key, and when it is written.
use Rattle.std.proofs.Common.{◌≡◌, ℕ, Bool, true, false, ◌&&◌, cond, List, [], ◌∷◌, Option, Some, None, refl, ap, sym, ◌∙◌}
use Rattle.carte_value.specs.declared.digest.Digest.{Digest}
use Rattle.carte_name.specs.Names.{name_eq}
use Rattle.carte_value.specs.Truths.{Among}
use Rattle.carte_book.specs.Book.{Book}
use Rattle.carte_book.specs.Needs.{IsRule, needs}
use Rattle.carte_record.specs.declared.entry.Entry.{Entry}
use Rattle.carte_record.specs.declared.way.Way.TheVariants.{Verifying, Constructive, Deep}
use Rattle.carte_record.specs.Kept.{SomeKept, is_fresh}
use Rattle.carte_table.specs.Lookups.{digest_eq}
use Rattle.carte_sound.specs.Marks.{IsFresh}
use Rattle.carte_sound.specs.True.{full_entry, shallow_entry}
use Rattle.carte_sound.specs.Held.{How, dirty, tracing}
use Rattle.carte_sound.specs.Left.{fresh_or, entry_left, names_eq, bool_eq, entry_eq, is_kept}
use Rattle.carte_sound.proofs.Tests.{same_name, same_digest}

pub both_true : (a b : Bool) → (a && b) ≡ true → (a ≡ true) × (b ≡ true)
both_true true true is = (refl, refl)
both_true true false is = cc
both_true false b is = cc

same_names : (xs ys : List (List ℕ)) → names_eq xs ys ≡ true → xs ≡ ys
same_names [] [] is = refl
same_names [] (y ∷ ys) is = cc
same_names (x ∷ xs) [] is = cc
same_names (x ∷ xs) (y ∷ ys) is =
    let both = both_true (name_eq x y) (names_eq xs ys) is in
    let here : x ≡ y = same_name x y both.0 in
    let later : xs ≡ ys = same_names xs ys both.1 in
    cc

same_bool : (a b : Bool) → bool_eq a b ≡ true → a ≡ b
same_bool true true is = refl
same_bool true false is = cc
same_bool false true is = cc
same_bool false false is = refl

entry_by : List ℕ → Digest → Digest → List (List ℕ) → Bool → Bool → Entry
entry_by k a d ks s t = record { key = k; task = a; result = d; needs = ks; stale = s; shallow = t }

by_parts : (e f : Entry) → entry_by e.key e.task e.result e.needs e.stale e.shallow ≡ entry_by f.key f.task f.result f.needs f.stale f.shallow → e ≡ f
unfolding entry_by
by_parts e f same = same

-- entries that pass the test are equal
pub same_entry : (e f : Entry) → entry_eq e f ≡ true → e ≡ f
same_entry e f is = by_parts e f parts
  where
    parts : entry_by e.key e.task e.result e.needs e.stale e.shallow ≡ entry_by f.key f.task f.result f.needs f.stale f.shallow
    parts =
        let halves = both_true ((name_eq e.key f.key && digest_eq e.task f.task) && digest_eq e.result f.result) (names_eq e.needs f.needs && (bool_eq e.stale f.stale && bool_eq e.shallow f.shallow)) is in
        let front = both_true (name_eq e.key f.key && digest_eq e.task f.task) (digest_eq e.result f.result) halves.0 in
        let first = both_true (name_eq e.key f.key) (digest_eq e.task f.task) front.0 in
        let back = both_true (names_eq e.needs f.needs) (bool_eq e.stale f.stale && bool_eq e.shallow f.shallow) halves.1 in
        let marks = both_true (bool_eq e.stale f.stale) (bool_eq e.shallow f.shallow) back.1 in
        let k : e.key ≡ f.key = same_name e.key f.key first.0 in
        let a : e.task ≡ f.task = same_digest e.task f.task first.1 in
        let d : e.result ≡ f.result = same_digest e.result f.result front.1 in
        let ks : e.needs ≡ f.needs = same_names e.needs f.needs back.0 in
        let s : e.stale ≡ f.stale = same_bool e.stale f.stale marks.0 in
        let t : e.shallow ≡ f.shallow = same_bool e.shallow f.shallow marks.1 in
        cc

pub kept_is : (o : Option Entry) (f : Entry) → is_kept o f ≡ true → o ≡ Some f
kept_is None f is = cc
kept_is (Some e) f is = ap Some (same_entry e f is)

-- the entry of a finished key is the full one over fresh needs, or the fresh one that is kept, or the shallow one where none is fresh
pub data Leaves (b : Book) (K : SomeKept) (k : List ℕ) : Entry → Type 0 where
  full : ((j : List ℕ) → Among (needs b k) j → IsRule b j → IsFresh K j) → Leaves b K k (full_entry b k)
  old : (e : Entry) → K.entries k ≡ Some e → is_fresh e ≡ true → Leaves b K k e
  shallow : ¬ (IsFresh K k) → Leaves b K k (shallow_entry b k)

-- the rules among the needs of a finished key have fresh entries, but under deep traces
abbrev pub NeedsFresh : How → Book → SomeKept → List ℕ → Type 0
NeedsFresh dirty b K k = (j : List ℕ) → Among (needs b k) j → IsRule b j → IsFresh K j
NeedsFresh (tracing Verifying) b K k = (j : List ℕ) → Among (needs b k) j → IsRule b j → IsFresh K j
NeedsFresh (tracing Constructive) b K k = (j : List ℕ) → Among (needs b k) j → IsRule b j → IsFresh K j
NeedsFresh (tracing Deep) b K k = Unit {0}

pub leaves : (h : How) (b : Book) (K : SomeKept) (k : List ℕ) → NeedsFresh h b K k → Leaves b K k (entry_left h K b k)
leaves dirty b K k fresh = full fresh
leaves (tracing Verifying) b K k fresh = full fresh
leaves (tracing Constructive) b K k fresh = full fresh
leaves (tracing Deep) b K k fresh = on_entry (K.entries k) refl
  where
    choose : (e : Entry) → K.entries k ≡ Some e → (t : Bool) → is_fresh e ≡ t → Leaves b K k (cond t e (shallow_entry b k))
    choose e is true tests = old e is tests
    choose e is false tests = shallow (λ f. let same : f.entry ≡ e = (let s : Some f.entry ≡ Some e = sym f.kept ∙ is in cc) in let t : is_fresh e ≡ true = ap is_fresh (sym same) ∙ f.fresh in cc)

    on_entry : (o : Option Entry) → K.entries k ≡ o → Leaves b K k (fresh_or o (shallow_entry b k))
    on_entry None is = shallow (λ f. let s : None ≡ Some f.entry = sym is ∙ f.kept in cc)
    on_entry (Some e) is = choose e is (is_fresh e) refl
