-- What is learned of a batch.
use Rattle.std.proofs.Common.{◌≡◌, ◌⊎◌, ℕ, suc, ◌+◌, ◌<◌, ◌≤◌, Bool, true, false, cond, List, [], ◌∷◌, ◌++◌, length, Option, Some, None, slice_get, refl, ap, sym, ◌∙◌, subst, inl, inr, arith}
use Rattle.std.specs.Option.{option_or}
use Rattle.carte_value.specs.Firsts.{seen_also}
use Rattle.carte_value.specs.declared.link.Link.{Link}
use Rattle.carte_value.specs.Truths.{Among}
use Rattle.carte_table.specs.Lookups.{digest_in, find_last, is_link_of}
use Rattle.carte_table.proofs.Names.{name_eq_is}
use Rattle.carte_record.specs.declared.batch.Batch.{Batch}
use Rattle.carte_record.specs.declared.entry.Entry.{Entry}
use Rattle.carte_record.specs.Kept.{SomeKept}
use Rattle.carte_record.specs.Lookups.{is_entry_of}
use Rattle.carte_mark.specs.Tables.{AddsFor, HasUsers, Users}
use Rattle.carte_mark.specs.Watching.{Grows, KnowsBatch, KnowsEntries, KnowsEntry, KnowsSeen, NeedsSame}
use Rattle.carte_mark.proofs.Putting.{put_stays, put_there}

pub grows_self : (ks : List (List ℕ)) (d : Users) → Grows ks d ks d
grows_self ks d = record { suspects = λ q among. among; users = λ q k among. among }

pub grows_on : (ks js is : List (List ℕ)) (d e f : Users) → Grows ks d js e → Grows js e is f → Grows ks d is f
grows_on ks js is d e f first second = record {
  suspects = λ q among. second.suspects q (first.suspects q among);
  users = λ q k among. second.users q k (first.users q k among);
}

-- a name was suspected
pub grows_put : (ks js : List (List ℕ)) (d : Users) (k : List ℕ) → js ≡ seen_also ks k → Grows ks d js d
grows_put ks js d k is = subst (λ is. Grows ks d is d) (sym is) (record { suspects = λ q among. put_stays ks (k ∷ []) q among; users = λ q j among. among })

pub there_put : (ks js : List (List ℕ)) (k : List ℕ) → js ≡ seen_also ks k → Among js k
there_put ks js k is = subst (λ is. Among is k) (sym is) (put_there ks (k ∷ []) k (inl refl))

-- the last item that passes stands in the list
record StandsIn {A : Type 0} (p : A → Bool) (xs : List A) (x : A) : Type 0 where
  pub place : ℕ
  pub below : place < length xs
  pub there : slice_get xs place ≡ Some x
  pub passes : p x ≡ true

last_at : {A : Type 0} (p : A → Bool) (xs : List A) (x : A) → find_last p xs ≡ Some x → StandsIn p xs x
last_at p [] x is = cc
last_at {A = A} p (y ∷ ys) x is = on (find_last p ys) refl is (last_at p ys x)
  where
    here : (t : Bool) → p y ≡ t → cond t (Some y) None ≡ Some x → StandsIn p (y ∷ ys) x
    here true passes is = let same : y ≡ x = cc in record { place = 0; below = omega arith; there = is; passes = ap p (sym same) ∙ passes }
    here false passes is = cc

    on : (o : Option A) → find_last p ys ≡ o → option_or o (cond (p y) (Some y) None) ≡ Some x → (find_last p ys ≡ Some x → StandsIn p ys x) → StandsIn p (y ∷ ys) x
    on (Some z) last is rest = let s = rest (last ∙ is) in let inside = s.below in record { place = suc s.place; below = omega arith; there = s.there; passes = s.passes }
    on None last is rest = here (p y) refl is

-- ---- links

-- the names of the links before a place
abbrev pub SeenBefore : List (List ℕ) → List Link → ℕ → Type 0
SeenBefore ks ls end = (i : ℕ) (l : Link) → i < end → slice_get ls i ≡ Some l → Among ks l.name

pub seen_first : (ks : List (List ℕ)) (ls : List Link) → SeenBefore ks ls 0
seen_first ks ls i l below there = absurd (omega arith)

pub seen_more : (ks js : List (List ℕ)) (ls : List Link) (at : ℕ) (l : Link) → slice_get ls at ≡ Some l → js ≡ seen_also ks l.name → SeenBefore ks ls at → SeenBefore js ls (at + 1)
seen_more ks js ls at l here is so i m below there = elim (either below) [
  | inl before ↦ subst (λ is. Among is m.name) (sym is) (put_stays ks (l.name ∷ []) m.name (so i m before there))
  | inr now ↦
      let both : Some l ≡ Some m = sym here ∙ (ap (slice_get ls) (sym now) ∙ there) in
      let same : l ≡ m = cc in
      subst (λ (x : Link). Among js x.name) same (there_put ks js l.name is)
]
  where
    either : i < at + 1 → (i < at) ⊎ (i ≡ at)
    either below = grind arith

pub seen_all : (ks : List (List ℕ)) (ls : List Link) (end : ℕ) → length ls ≤ end → SeenBefore ks ls end → KnowsSeen ks ls
seen_all ks ls end past so k some = on (find_last (is_link_of k) ls) refl
  where
    on : (o : Option Link) → find_last (is_link_of k) ls ≡ o → Among ks k
    on None none = absurd (some (ap digest_in none))
    on (Some l) is =
        let s = last_at (is_link_of k) ls l is in
        let inside = s.below in
        subst (Among ks) (sym (name_eq_is k l.name s.passes)) (so s.place l (omega arith) s.there)

-- ---- entries

pub knows_on : (ks js : List (List ℕ)) (d e : Users) (x : Entry) → Grows ks d js e → KnowsEntry ks d x → KnowsEntry js e x
knows_on ks js d e x grows knows = record { key = grows.suspects x.key knows.key; users = λ q among. grows.users q x.key (knows.users q among) }

-- the entry that is kept has the same needs
pub knows_same : (K : SomeKept) (ks js : List (List ℕ)) (d : Users) (x : Entry) → js ≡ seen_also ks x.key → NeedsSame K x → HasUsers K d → KnowsEntry js d x
knows_same K ks js d x is (old, kept, same) users = record {
  key = there_put ks js x.key is;
  users = λ q among. users q x.key (old, kept, subst (λ ns. Among ns q) (sym same) among);
}

-- its needs were put into the table
pub knows_added : (ks js : List (List ℕ)) (d e : Users) (x : Entry) → js ≡ seen_also ks x.key → AddsFor d e x.key (Among x.needs) → Grows ks d js e × KnowsEntry js e x
knows_added ks js d e x is adds = (
  record { suspects = (grows_put ks js d x.key is).suspects; users = adds.stays },
  record { key = there_put ks js x.key is; users = adds.there },
)

-- the entries before a place
abbrev pub EntriesBefore : List (List ℕ) → Users → List Entry → ℕ → Type 0
EntriesBefore ks d es end = (i : ℕ) (e : Entry) → i < end → slice_get es i ≡ Some e → KnowsEntry ks d e

pub entries_first : (ks : List (List ℕ)) (d : Users) (es : List Entry) → EntriesBefore ks d es 0
entries_first ks d es i e below there = absurd (omega arith)

pub entries_more : (ks js : List (List ℕ)) (d e : Users) (es : List Entry) (at : ℕ) (x : Entry) → slice_get es at ≡ Some x → Grows ks d js e → KnowsEntry js e x → EntriesBefore ks d es at → EntriesBefore js e es (at + 1)
entries_more ks js d e es at x here grows knows so i y below there = elim (either below) [
  | inl before ↦ knows_on ks js d e y grows (so i y before there)
  | inr now ↦
      let both : Some x ≡ Some y = sym here ∙ (ap (slice_get es) (sym now) ∙ there) in
      let same : x ≡ y = cc in
      subst (KnowsEntry js e) same knows
]
  where
    either : i < at + 1 → (i < at) ⊎ (i ≡ at)
    either below = grind arith

pub entries_all : (ks : List (List ℕ)) (d : Users) (es : List Entry) (end : ℕ) → length es ≤ end → EntriesBefore ks d es end → KnowsEntries ks d es
entries_all ks d es end past so k e is =
    let s = last_at (is_entry_of k) es e is in
    let inside = s.below in
    (name_eq_is k e.key s.passes, so s.place e (omega arith) s.there)

-- ---- batches

pub seen_on : (ks js : List (List ℕ)) (d e : Users) (ls : List Link) → Grows ks d js e → KnowsSeen ks ls → KnowsSeen js ls
seen_on ks js d e ls grows knows k some = grows.suspects k (knows k some)

pub batch_on : (ks js : List (List ℕ)) (d e : Users) (B : Batch) → Grows ks d js e → KnowsBatch ks d B → KnowsBatch js e B
batch_on ks js d e B grows knows = record {
  seen = seen_on ks js d e B.seen grows knows.seen;
  entries = λ k x is. let known = knows.entries k x is in (known.0, knows_on ks js d e x grows known.1);
}

pub users_on : (K : SomeKept) (ks js : List (List ℕ)) (d e : Users) → Grows ks d js e → HasUsers K d → HasUsers K e
users_on K ks js d e grows users q k needs = grows.users q k (users q k needs)

-- all of these
abbrev pub KnowsAll : List (List ℕ) → Users → List Batch → Type 0
KnowsAll ks d [] = Unit {0}
KnowsAll ks d (B ∷ Bs) = KnowsBatch ks d B × KnowsAll ks d Bs

all_on : (ks js : List (List ℕ)) (d e : Users) (Bs : List Batch) → Grows ks d js e → KnowsAll ks d Bs → KnowsAll js e Bs
all_on ks js d e [] grows known = tt
all_on ks js d e (B ∷ Bs) grows known = (batch_on ks js d e B grows known.0, all_on ks js d e Bs grows known.1)

all_end : (ks : List (List ℕ)) (d : Users) (Bs : List Batch) (B : Batch) → KnowsAll ks d Bs → KnowsBatch ks d B → KnowsAll ks d (Bs ++ B ∷ [])
all_end ks d [] B known last = (last, tt)
all_end ks d (C ∷ Cs) B known last = (known.0, all_end ks d Cs B known.1 last)

pub all_more : (ks js : List (List ℕ)) (d e : Users) (Bs : List Batch) (B : Batch) → Grows ks d js e → KnowsBatch js e B → KnowsAll ks d Bs → KnowsAll js e (Bs ++ B ∷ [])
all_more ks js d e Bs B grows last known = all_end js e Bs B (all_on ks js d e Bs grows known) last
