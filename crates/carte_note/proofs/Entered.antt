-- The entries of a batch with that of one more finished key.
use Rattle.std.proofs.Common.{◌≡◌, ℕ, Bool, true, false, ◌&&◌, cond, List, [], ◌∷◌, ◌++◌, Option, Some, None, refl, ap, sym, ◌∙◌, map, subst, inl, inr}
use Rattle.std.specs.Option.{option_or}
use Rattle.carte_name.specs.Names.{name_eq}
use Rattle.carte_value.specs.Truths.{NoneTwice}
use Rattle.carte_record.specs.declared.entry.Entry.{Entry}
use Rattle.carte_record.specs.Kept.{put_at}
use Rattle.carte_table.specs.Lookups.{digest_eq}
use Rattle.carte_record.specs.Lookups.{entry_in}
use Rattle.carte_table.proofs.Names.{name_eq_self}
use Rattle.carte_sound.specs.Left.{entry_eq, names_eq, bool_eq}
use Rattle.carte_sound.proofs.Tests.{eq_or_apart, digest_self}
use Rattle.carte_note.proofs.Ends.{entry_end, once_end}

-- just those that differ
pub record EntriesIn (kept now : List ℕ → Option Entry) (es : List Entry) : Type 0 where
  pub entries : (q : List ℕ) → now q ≡ option_or (entry_in es q) (kept q)
  pub differ : (q : List ℕ) (e : Entry) → entry_in es q ≡ Some e → ¬ (kept q ≡ Some e)
  pub once : NoneTwice (map (λ e. e.key) es)

pub entries_alike : (kept now new : List ℕ → Option Entry) (es : List Entry) → ((q : List ℕ) → new q ≡ now q) → EntriesIn kept now es → EntriesIn kept new es
entries_alike kept now new es same s = record { entries = λ q. same q ∙ s.entries q; differ = s.differ; once = s.once }

-- what stands there may be put there
pub put_same : (now : List ℕ → Option Entry) (k : List ℕ) (e : Entry) → now k ≡ Some e → (q : List ℕ) → put_at now k e q ≡ now q
put_same now k e is q = elim (eq_or_apart q k) [
  | inl same ↦ subst (λ j. put_at now k e j ≡ now j) (sym same) (ap (λ t. cond t (Some e) (now k)) (name_eq_self k) ∙ sym is)
  | inr apart ↦ ap (λ t. cond t (Some e) (now q)) apart
]

-- an entry is the same as itself
names_self : (ks : List (List ℕ)) → names_eq ks ks ≡ true
names_self [] = refl
names_self (k ∷ ks) = rw (name_eq_self k, names_self ks) refl

bool_self : (t : Bool) → bool_eq t t ≡ true
bool_self true = refl
bool_self false = refl

pub entry_self : (e : Entry) → entry_eq e e ≡ true
entry_self e = all (name_eq e.key e.key) (digest_eq e.task e.task) (digest_eq e.result e.result) (names_eq e.needs e.needs) (bool_eq e.stale e.stale) (bool_eq e.shallow e.shallow) (name_eq_self e.key) (digest_self e.task) (digest_self e.result) (names_self e.needs) (bool_self e.stale) (bool_self e.shallow)
  where
    all : (a t b c d f : Bool) → a ≡ true → t ≡ true → b ≡ true → c ≡ true → d ≡ true → f ≡ true → (((a && t) && b) && (c && (d && f))) ≡ true
    all a t b c d f is_a is_t is_b is_c is_d is_f = rw (is_a, is_t, is_b, is_c, is_d, is_f) refl

-- one that isn't kept, of a key that had what is kept
pub entered : (kept now : List ℕ → Option Entry) (es : List Entry) (k : List ℕ) (e : Entry) → EntriesIn kept now es → now k ≡ kept k → e.key ≡ k → ¬ (kept k ≡ Some e) → EntriesIn kept (put_at now k e) (es ++ e ∷ [])
entered kept now es k e s same key new = record { entries = entries; differ = differ; once = once_end (λ (x : Entry). x.key) es e s.once (subst (λ j. entry_in es j ≡ None) (sym key) (lacks (entry_in es k) refl)) }
  where
    lacks : (o : Option Entry) → entry_in es k ≡ o → entry_in es k ≡ None
    lacks None is = is
    lacks (Some x) is = absurd (s.differ k x is (sym same ∙ (s.entries k ∙ ap (λ o. option_or o (kept k)) is)))

    at_end : (q : List ℕ) → entry_in (es ++ e ∷ []) q ≡ cond (name_eq q k) (Some e) (entry_in es q)
    at_end q = entry_end es e q ∙ ap (λ j. cond (name_eq q j) (Some e) (entry_in es q)) key

    put : (t : Bool) (q : List ℕ) → cond t (Some e) (now q) ≡ option_or (cond t (Some e) (entry_in es q)) (kept q)
    put true q = refl
    put false q = s.entries q

    entries : (q : List ℕ) → put_at now k e q ≡ option_or (entry_in (es ++ e ∷ []) q) (kept q)
    entries q = put (name_eq q k) q ∙ sym (ap (λ o. option_or o (kept q)) (at_end q))

    differ : (q : List ℕ) (x : Entry) → entry_in (es ++ e ∷ []) q ≡ Some x → ¬ (kept q ≡ Some x)
    differ q x is there = elim (eq_or_apart q k) [
      | inl here ↦
          let at : Some e ≡ Some x = sym (at_end q ∙ ap (λ t. cond t (Some e) (entry_in es q)) (ap (λ j. name_eq j k) here ∙ name_eq_self k)) ∙ is in
          new (ap kept (sym here) ∙ (there ∙ sym at))
      | inr apart ↦ s.differ q x (sym (at_end q ∙ ap (λ t. cond t (Some e) (entry_in es q)) apart) ∙ is) there
    ]
