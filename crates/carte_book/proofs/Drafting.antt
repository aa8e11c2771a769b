-- Drafts beside what they hold.
use Rattle.std.proofs.Common.{◌≡◌, ℕ, ◌+◌, ◌<◌, ◌≤◌, Bool, true, false, cond, ◌||◌, List, length, Option, Some, None, is_some, Result, Ok, Err, refl, ap, sym, ◌∙◌, arith}
use Rattle.std.specs.Ordering.{eq_by_cmp}
use Rattle.std.specs.FinMap.{get, insert, empty, entries, get-insert, len-empty, len-insert, len-entries}
use Rattle.std.specs.BTreeSet.{BTreeSet, contains, btree_set_len}
use Rattle.std.specs.Cmp.{eq_by_cmp_equiv}
use Rattle.std.proofs.lemmas.Bool.{false≢true}
use Rattle.std.proofs.lemmas.Cmp.{nat_list_cmp_total}
use Rattle.std.proofs.lemmas.List.{nil_from_length}
use Rattle.carte_name.specs.declared.kind.Kind.TheVariants.{Rules, Sheet}
use Rattle.carte_name.specs.Names.{name_cmp}
use Rattle.carte_book.specs.Book.{Item, Book, book_view}
use Rattle.carte_book.specs.Edits.{Adds}
use Rattle.carte_book.specs.Drafts.{Content, kind_of, items_of, Holds, Takes}
use Rattle.carte_book.specs.declared.fault.AddFault.{AddFault}
use Rattle.carte_book.specs.declared.fault.AddFault.TheVariants.{Twice, Limit, NoMemory}
use Rattle.carte_book.specs.declared.draft.Draft.{Draft}

-- how many keys there are with one more
longer : (b : Bool) (m : Content) (k : List ℕ) (x : Item) → is_some (get m k) ≡ b → length (entries (insert m k x)) ≡ cond b (length (entries m)) (length (entries m) + 1)
longer b m k x is =
    sym (len-entries (insert m k x)) ∙ len-insert nat_list_cmp_total m k x
    ∙ ap (λ (n : ℕ). cond (is_some (get m k)) n (n + 1)) (len-entries m)
    ∙ ap (λ (c : Bool). cond c (length (entries m)) (length (entries m) + 1)) is

no_other : (s : BTreeSet (List ℕ)) (q : List ℕ) → btree_set_len s ≡ 0 → contains name_cmp s q ≡ false
no_other s q none = rw (nil_from_length s.keys none) refl

or_false : (a b : Bool) → b ≡ false → a ≡ (a || b)
or_false true b e = refl
or_false false b e = sym e

-- what a draft holds that isn't over is its book
held : (d : Draft) (m : Content) → items_of d ≡ m → btree_set_len d.beyond ≡ 0 → d.is_over ≡ false → length (entries (items_of d)) ≤ 262144 → Holds d m
held d m is none over few = record {
  names = λ rules q. ap (λ (i : Content). is_some (get i q)) (sym is) ∙ or_false (is_some (get (items_of d) q)) (contains name_cmp d.beyond q) (no_other d.beyond q none);
  few = few;
  all = λ z. is;
  alone = λ z. none;
  full = λ z. absurd (false≢true (sym over ∙ z));
  more = λ z. absurd (false≢true (sym over ∙ z));
}

-- nothing is held at first
pub holds_none : (d : Draft) → items_of d ≡ empty → btree_set_len d.beyond ≡ 0 → d.is_over ≡ false → Holds d empty
holds_none d is none over =
    let few : length (entries (items_of d)) ≡ 0 = ap (λ (m : Content). length (entries m)) is ∙ sym (len-entries empty) ∙ len-empty name_cmp Item in
    held d empty is none over (omega (arith, few))

not_over : (d : Draft) (m : Content) → Holds d m → length (entries (items_of d)) < 262144 → d.is_over ≡ false
not_over d m h room = go d.is_over refl
  where
    go : (b : Bool) → d.is_over ≡ b → d.is_over ≡ false
    go false e = e
    go true e = let full : 262144 ≤ length (entries (items_of d)) = h.full e in absurd (omega (arith, full, room))

-- one more that the book takes
holds_more : (d e : Draft) (m : Content) (k : List ℕ) (x : Item) → Holds d m → get m k ≡ None → length (entries (items_of d)) < 262144 → items_of e ≡ insert (items_of d) k x → e.beyond ≡ d.beyond → e.is_over ≡ d.is_over → Holds e (insert m k x)
holds_more d e m k x h new room put beside same =
    let over : d.is_over ≡ false = not_over d m h room in
    let is : items_of d ≡ m = h.all over in
    let now : items_of e ≡ insert m k x = put ∙ ap (λ (i : Content). insert i k x) is in
    let grown : length (entries (insert m k x)) ≡ length (entries m) + 1 = longer false m k x (ap is_some new) in
    let long : length (entries (items_of d)) ≡ length (entries m) = ap (λ (i : Content). length (entries i)) is in
    let long_now : length (entries (items_of e)) ≡ length (entries (insert m k x)) = ap (λ (i : Content). length (entries i)) now in
    held e (insert m k x) now (ap btree_set_len beside ∙ h.alone over) (same ∙ over) (omega (arith, grown, long, long_now, room))

-- one more that the book is asked to take
pub takes : (d e : Draft) (m : Content) (k : List ℕ) (x : Item) (r : Result (Unit {0}) AddFault) → Holds d m → length (entries (items_of d)) < 262144 → Adds (book_view d.book) (book_view e.book) k x r → e.beyond ≡ d.beyond → e.is_over ≡ d.is_over → Takes k x m e r
takes d e m k x (Ok u) h room a beside same =
    let new : get m k ≡ None = ap (λ (i : Content). get i k) (sym (h.all (not_over d m h room))) ∙ a.0 in
    (new, holds_more d e m k x h new room (ap (λ (b : Book). b.items) a.2) beside same)
takes d e m k x (Err Twice) h room a beside same = ap (λ (i : Content). is_some (get i k)) (sym (h.all (not_over d m h room))) ∙ a.0
takes d e m k x (Err Limit) h room a beside same = let full : 262144 ≤ length (entries (items_of d)) = a.1 in absurd (omega (arith, full, room))
takes d e m k x (Err NoMemory) h room a beside same = ap (λ (i : Content). get i k) (sym (h.all (not_over d m h room))) ∙ a.0

full_before : (d : Draft) (m : Content) → Holds d m → 262144 ≤ length (entries (items_of d)) → 262144 ≤ length (entries m)
full_before d m h full = go d.is_over refl
  where
    go : (b : Bool) → d.is_over ≡ b → 262144 ≤ length (entries m)
    go false e = let is : length (entries (items_of d)) ≡ length (entries m) = ap (λ (i : Content). length (entries i)) (h.all e) in omega (arith, is, full)
    go true e = let over : 262144 < length (entries m) = h.more e in omega (arith, over)

-- one more for which it has no room
holds_over : (d e : Draft) (m : Content) (k : List ℕ) (x : Item) → Holds d m → get m k ≡ None → 262144 ≤ length (entries (items_of d)) → items_of e ≡ items_of d → e.is_over ≡ true
    → (kind_of e ≡ Rules → (q : List ℕ) → is_some (get (insert m k x) q) ≡ (is_some (get (items_of e) q) || contains name_cmp e.beyond q)) → Holds e (insert m k x)
holds_over d e m k x h new full same over names =
    let grown : length (entries (insert m k x)) ≡ length (entries m) + 1 = longer false m k x (ap is_some new) in
    let before : 262144 ≤ length (entries m) = full_before d m h full in
    let long : length (entries (items_of e)) ≡ length (entries (items_of d)) = ap (λ (i : Content). length (entries i)) same in
    let few : length (entries (items_of d)) ≤ 262144 = h.few in
    record {
      names = names;
      few = omega (arith, long, few);
      all = λ z. absurd (false≢true (sym z ∙ over));
      alone = λ z. absurd (false≢true (sym z ∙ over));
      full = λ z. omega (arith, long, full);
      more = λ z. omega (arith, grown, before);
    }

-- in a sheet it is noted
pub holds_noted : (d e : Draft) (m : Content) (k : List ℕ) (x : Item) → Holds d m → get m k ≡ None → 262144 ≤ length (entries (items_of d)) → kind_of e ≡ Sheet → items_of e ≡ items_of d → e.is_over ≡ true → Holds e (insert m k x)
holds_noted d e m k x h new full sheet same over = holds_over d e m k x h new full same over (λ rules q. absurd (let apart : Rules ≡ Sheet = sym rules ∙ sheet in cc))

-- where nothing is, nothing is
pub nothing : (o : Option Item) → is_some o ≡ false → o ≡ None
nothing None e = refl
nothing (Some x) e = absurd (false≢true (sym e))

named : (t a b c : Bool) (x : Item) (o : Option Item) → is_some o ≡ (a || b) → c ≡ cond t true b → is_some (cond t (Some x) o) ≡ (a || c)
named true true b c x o h e = refl
named true false b c x o h e = sym e
named false true b c x o h e = h
named false false b c x o h e = h ∙ sym e

-- and in a rule file its name is kept
pub holds_name : (d e : Draft) (m : Content) (k : List ℕ) (x : Item) → Holds d m → get m k ≡ None → 262144 ≤ length (entries (items_of d)) → kind_of d ≡ Rules → items_of e ≡ items_of d → e.is_over ≡ true → ((q : List ℕ) → contains name_cmp e.beyond q ≡ cond (eq_by_cmp name_cmp k q) true (contains name_cmp d.beyond q)) → Holds e (insert m k x)
holds_name d e m k x h new full rules same over has =
    holds_over d e m k x h new full same over (λ is q.
    ap is_some (get-insert nat_list_cmp_total m k x q)
    ∙ named (eq_by_cmp name_cmp q k) (is_some (get (items_of d) q)) (contains name_cmp d.beyond q) (contains name_cmp e.beyond q) x (get m q) (h.names rules q) (has q ∙ ap (λ (t : Bool). cond t true (contains name_cmp d.beyond q)) ((eq_by_cmp_equiv nat_list_cmp_total).symm k q))
    ∙ ap (λ (i : Content). is_some (get i q) || contains name_cmp e.beyond q) (sym same))

-- what is asked to take one more keeps its kind
pub kind_stays : (old new : Book) (k : List ℕ) (x : Item) (r : Result (Unit {0}) AddFault) → Adds old new k x r → new.kind ≡ old.kind
kind_stays old new k x (Ok u) a = ap (λ (b : Book). b.kind) a.2
kind_stays old new k x (Err Twice) a = ap (λ (b : Book). b.kind) a.1
kind_stays old new k x (Err Limit) a = ap (λ (b : Book). b.kind) a.2
kind_stays old new k x (Err NoMemory) a = ap (λ (b : Book). b.kind) a.2
