-- What is known between two builds.
use Rattle.std.proofs.Common.{◌≡◌, ◌⊎◌, ℕ, Bool, true, false, cond, List, [], ◌∷◌, Option, Some, None, option_map, refl, ap, sym, ◌∙◌, subst, inl, inr}
use Rattle.std.specs.Prelude.{◌↔◌}
use Rattle.std.specs.Cmp.Lexicographic.{bytes_decides, pointwise}
use Rattle.std.proofs.lemmas.Slice.Eq.{slice_eq-Decides}
use Rattle.std.specs.Option.{option_or}
use Rattle.carte_value.specs.Firsts.{seen_also}
use Rattle.carte_name.specs.Names.{name_eq}
use Rattle.carte_value.specs.declared.digest.Digest.{Digest}
use Rattle.carte_value.specs.Truths.{Among, IsListOf}
use Rattle.carte_book.specs.Book.{Book, content}
use Rattle.carte_book.specs.Task.{task_in, task_now}
use Rattle.carte_table.specs.Lookups.{link_in}
use Rattle.carte_table.proofs.Names.{name_eq_is, name_eq_self}
use Rattle.carte_record.specs.declared.batch.Batch.{Batch}
use Rattle.carte_record.specs.declared.entry.Entry.{Entry}
use Rattle.carte_record.specs.declared.kept.Kept.{Kept}
use Rattle.carte_record.specs.declared.start.Start.{Start}
use Rattle.carte_record.specs.declared.start.Start.TheVariants.{GoOn, Cleared}
use Rattle.carte_record.specs.Folds.{applied, apply, is_among, started, without}
use Rattle.carte_record.specs.Kept.{SomeKept, kept_view, staled}
use Rattle.carte_record.specs.Lookups.{entry_in}
use Rattle.carte_sound.specs.Begun.{IsGone}
use Rattle.carte_sound.specs.Marks as marks
use Rattle.carte_sound.specs.Marks.{IsChanged, IsMarked, digest_in}
use Rattle.carte_mark.specs.Bases.{IsBegun}
use Rattle.carte_mark.specs.declared.base.Begun.{Begun}
use Rattle.carte_mark.specs.Marking.{ArePicked}
use Rattle.carte_mark.specs.Passes.{AreReached}
use Rattle.carte_mark.specs.Puts.{put_all}
use Rattle.carte_mark.specs.Reached.{AreChanged, has_changed, is_other}
use Rattle.carte_mark.specs.Tables.{AreUsers, HasUsers, NeedsIn, Users}
use Rattle.carte_mark.specs.Watching.{KnowsBatch, SameBut, WatchesBy}
use Rattle.carte_mark.proofs.Beginning.{is_begun}
use Rattle.carte_mark.proofs.Changing as seen_names
use Rattle.carte_mark.proofs.Learning.{KnowsAll}
use Rattle.carte_mark.proofs.OtherTasks as task_names
use Rattle.carte_mark.proofs.Putting.{any_among, among_any, put_only, put_stays, put_there}

-- what a pass makes
pub watches_first : (K : Kept) (b : Book) (ks : List (List ℕ)) (d : Users) → AreChanged (kept_view K) b ks → AreUsers K.entries d → WatchesBy (kept_view K) b ks d
watches_first K b ks d changed users = ((λ q c. among_any ks q (changed.each q c)), (λ q k needs. among_any (d q) k (users.each q k needs)))

pub users_of : (K : SomeKept) (b : Book) (ks : List (List ℕ)) (d : Users) → WatchesBy K b ks d → HasUsers K d
users_of K b ks d so q k needs = any_among (d q) k (so.1 q k needs)

-- ---- what has changed of the suspected names

pub told : (K : SomeKept) (b : Book) (k : List ℕ) (t : Bool) → t ≡ has_changed (K.seen k) (marks.present b k) → t ≡ true → (true ≡ true) ↔ IsChanged K b k
told K b k t is yes_told = (
  (λ same. let c = seen_names.told K b k (K.seen k) refl (sym is ∙ yes_told) in marks.IsChanged.seen c.digest c.seen c.differs),
  (λ c. refl),
)

pub other_told : (K : SomeKept) (b : Book) (k : List ℕ) (t o : Bool) → t ≡ has_changed (K.seen k) (marks.present b k) → t ≡ false → o ≡ is_other (K.entries k) (task_now b k) → (o ≡ true) ↔ IsChanged K b k
other_told K b k t o is not_seen other = (
  (λ same. let c = task_names.told K b k (K.entries k) refl (sym other ∙ same) in marks.IsChanged.task c.entry c.kept c.differs),
  back,
)
  where
    on : (x : Bool) → o ≡ x → (x ≡ false → o ≡ true) → o ≡ true
    on true same f = same
    on false same f = f refl

    back : IsChanged K b k → o ≡ true
    back (marks.IsChanged.seen d at differs) = absurd (seen_names.untold K b k (K.seen k) refl (sym is ∙ not_seen) (record { digest = d; seen = at; differs = differs }))
    back (marks.IsChanged.task e at differs) = on o refl (λ no. absurd (task_names.untold K b k (K.entries k) refl (sym other ∙ no) (record { entry = e; kept = at; differs = differs })))

pub are_changed : (K : SomeKept) (b : Book) (ks ns : List (List ℕ)) (d : Users) → ArePicked (IsChanged K b) ks ns → WatchesBy K b ks d → AreChanged K b ns
are_changed K b ks ns d picked so = record {
  only = λ q among. ((picked q).0 among).1;
  each = λ q c. (picked q).1 (any_among ks q (so.0 q c), c);
}

-- as a set
pub changed_put : (K : SomeKept) (b : Book) (ns js : List (List ℕ)) → js ≡ put_all [] ns → AreChanged K b ns → AreChanged K b js
changed_put K b ns js is changed = subst (AreChanged K b) (sym is) (record {
  only = λ q among. elim (put_only [] ns q among) [
    | inl nowhere ↦ absurd nowhere
    | inr there ↦ changed.only q there
  ];
  each = λ q c. put_there [] ns q (changed.each q c);
})

-- the suspects that are left
pub watches_left : (K : SomeKept) (b : Book) (ks js : List (List ℕ)) (d : Users) → AreChanged K b js → WatchesBy K b ks d → WatchesBy K b js d
watches_left K b ks js d changed so = ((λ q c. among_any js q (changed.each q c)), so.1)

-- ---- an input is set

pub watches_set : (K : SomeKept) (b c : Book) (n : List ℕ) (ks js : List (List ℕ)) (d : Users) → SameBut n b c → js ≡ seen_also ks n → WatchesBy K b ks d → WatchesBy K c js d
watches_set K b c n ks js d same is so = ((λ q changed. among_any js q (subst (λ is. Among is q) (sym is) (suspected q (name_eq q n) refl changed))), so.1)
  where
    still : (q : List ℕ) → ¬ (q ≡ n) → IsChanged K c q → IsChanged K b q
    still q other (marks.IsChanged.seen e at differs) = marks.IsChanged.seen e at (λ was. differs (ap digest_in (same.rest q other) ∙ was))
    still q other (marks.IsChanged.task e at differs) = marks.IsChanged.task e at (λ was. differs (ap (λ kind. task_in kind (content c q)) same.kind ∙ (ap (task_in b.kind) (same.rest q other) ∙ was)))

    suspected : (q : List ℕ) (t : Bool) → name_eq q n ≡ t → IsChanged K c q → Among (put_all ks (n ∷ [])) q
    suspected q true named changed = put_there ks (n ∷ []) q (inl (name_eq_is q n named))
    suspected q false other changed =
        let apart : ¬ (q ≡ n) = λ e. let f : false ≡ true = sym other ∙ (ap (λ j. name_eq q j) (sym e) ∙ name_eq_self q) in cc in
        put_stays ks (n ∷ []) q (any_among ks q (so.0 q (still q apart changed)))

-- ---- a batch is put

module _ (K : SomeKept) (b : Book) (B : Batch) (ks : List (List ℕ)) (d : Users) (so : WatchesBy K b ks d) (knows : KnowsBatch ks d B) where
  left_seen : (s : Start) (t : Bool) (q : List ℕ) (x : Digest) → cond t None ((started s K).seen q) ≡ Some x → K.seen q ≡ Some x
  left_seen s true q x at = cc
  left_seen GoOn false q x at = at
  left_seen Cleared false q x at = cc

  left_entry : (s : Start) (t : Bool) (q : List ℕ) (x : Entry) → cond t None ((started s K).entries q) ≡ Some x → K.entries q ≡ Some x
  left_entry s true q x at = cc
  left_entry GoOn false q x at = at
  left_entry Cleared false q x at = cc

  abbrev left : List ℕ → Option Entry
  left q = (without B.gone (started B.start K)).entries q

  -- an entry behind it is one of the batch or was kept, but for its mark
  found : (q : List ℕ) (o : Option Entry) (e : Entry) → entry_in B.entries q ≡ o → option_map (staled (is_among B.stale q)) (option_or o (left q)) ≡ Some e
      → ((x : Entry) × (entry_in B.entries q ≡ Some x) × (x.needs ≡ e.needs)) ⊎ ((x : Entry) × (K.entries q ≡ Some x) × (x.needs ≡ e.needs) × (x.task ≡ e.task))
  found q (Some x) e is at = (let same : staled (is_among B.stale q) x ≡ e = cc in inl (x, is, ap (λ (y : Entry). y.needs) same))
  found q None e is at = old (left q) refl at
    where
      old : (p : Option Entry) → left q ≡ p → option_map (staled (is_among B.stale q)) p ≡ Some e
          → ((x : Entry) × (entry_in B.entries q ≡ Some x) × (x.needs ≡ e.needs)) ⊎ ((x : Entry) × (K.entries q ≡ Some x) × (x.needs ≡ e.needs) × (x.task ≡ e.task))
      old None was at = cc
      old (Some x) was at =
          let same : staled (is_among B.stale q) x ≡ e = cc in
          inr (x, left_entry B.start (is_among B.gone q) q x was, ap (λ (y : Entry). y.needs) same, ap (λ (y : Entry). y.task) same)

  suspected : (q : List ℕ) → IsChanged (apply B K) b q → Among ks q
  suspected q (marks.IsChanged.seen x at differs) = on (link_in B.seen q) refl at
    where
      on : (o : Option Digest) → link_in B.seen q ≡ o → option_or o ((without B.gone (started B.start K)).seen q) ≡ Some x → Among ks q
      on (Some y) is now = knows.seen q (λ none. let both : Some y ≡ None = sym is ∙ none in cc)
      on None is now = any_among ks q (so.0 q (marks.IsChanged.seen x (left_seen B.start (is_among B.gone q) q x now) differs))
  suspected q (marks.IsChanged.task e at differs) = elim (found q (entry_in B.entries q) e refl at) [
    | inl own ↦ (let known = knows.entries q own.0 own.1 in subst (Among ks) (sym known.0) known.1.key)
    | inr old ↦ any_among ks q (so.0 q (marks.IsChanged.task old.0 old.1 (λ now. differs (now ∙ ap Some old.3))))
  ]

  has_user : (q k : List ℕ) → NeedsIn (apply B K) k q → Among (d q) k
  has_user q k (e, at, needed) = elim (found k (entry_in B.entries k) e refl at) [
    | inl own ↦
        let known = knows.entries k own.0 own.1 in
        subst (Among (d q)) (sym known.0) (known.1.users q (subst (λ ns. Among ns q) (sym own.2) needed))
    | inr old ↦ any_among (d q) k (so.1 q k (old.0, old.1, subst (λ ns. Among ns q) (sym old.2) needed))
  ]

  pub watches_behind : WatchesBy (apply B K) b ks d
  watches_behind = ((λ q c. among_any ks q (suspected q c)), (λ q k needs. among_any (d q) k (has_user q k needs)))

pub watches_all : (K : SomeKept) (b : Book) (Bs : List Batch) (ks : List (List ℕ)) (d : Users) → WatchesBy K b ks d → KnowsAll ks d Bs → WatchesBy (applied K Bs) b ks d
watches_all K b [] ks d so known = so
watches_all K b (B ∷ Bs) ks d so known = watches_all (apply B K) b Bs ks d (watches_behind K b B ks d so known.0) known.1

-- more is suspected, and in the table
pub watches_on : (K : SomeKept) (b : Book) (ks js : List (List ℕ)) (d e : Users) → ((q : List ℕ) → Among ks q → Among js q) → ((q k : List ℕ) → Among (d q) k → Among (e q) k) → WatchesBy K b ks d → WatchesBy K b js e
watches_on K b ks js d e suspects users so = (
  (λ q c. among_any js q (suspects q (any_among ks q (so.0 q c)))),
  (λ q k needs. among_any (e q) k (users q k (any_among (d q) k (so.1 q k needs)))),
)

-- ---- needs that are the same

pub same_needs : (old now xs ys : List (List ℕ)) (t : Bool) → xs ≡ old → ys ≡ now → t ≡ pointwise name_eq xs ys → t ≡ true → old ≡ now
same_needs old now xs ys t one two test is = sym one ∙ ((slice_eq-Decides bytes_decides xs ys t test).0 is ∙ two)

-- ---- what a build begins with

pub begun_by : (K : Kept) (b : Book) (ns names : List (List ℕ)) (rs : List (List ℕ)) (d : Users) (x : Begun)
    → names ≡ put_all [] ns → (AreChanged (kept_view K) b names → IsListOf (IsGone (kept_view K) b) x.gone) → (HasUsers (kept_view K) d → AreReached K names rs)
    → ((c : Book) (before : List (List ℕ)) → AreChanged (kept_view K) c before → AreReached K before rs → IsListOf (IsMarked (kept_view K) c) x.marks)
    → AreChanged (kept_view K) b ns → HasUsers (kept_view K) d → IsBegun (kept_view K) b x
begun_by K b ns names rs d x is gone reached found changed users =
    is_begun (kept_view K) b names x (changed_put (kept_view K) b ns names is changed) gone (λ c are. found c names are (reached users))
