-- What the first item that passes a test says of those before it, and so of links and of traces.
use Rattle.std.proofs.Common.{◌≡◌, ℕ, Bool, true, false, ◌&&◌, cond, List, [], ◌∷◌, ◌++◌, Option, Some, None, refl, ap, sym, ◌∙◌, subst, inl, inr}
use Rattle.std.specs.Prelude.{find}
use Rattle.carte_value.specs.declared.digest.Digest.{Digest}
use Rattle.carte_value.specs.declared.link.Link.{Link}
use Rattle.carte_value.specs.Lists.{Has}
use Rattle.carte_sound.specs.Held.{AreLinks}
use Rattle.carte_explain.specs.Found.{is_apart}
use Rattle.carte_explain.proofs.Digests.{alike}

-- parted at the first one that passes
pub record PartedAt {A : Type 0} (p : A → Bool) (xs : List A) (x : A) : Type 0 where
  pub before : List A
  pub behind : List A
  pub is : xs ≡ before ++ x ∷ behind
  pub fails : (y : A) → Has before y → p y ≡ false
  pub passes : p x ≡ true

pub parted_at : {A : Type 0} (p : A → Bool) (xs : List A) (x : A) → find p xs ≡ Some x → PartedAt p xs x
parted_at p [] x is = cc
parted_at {A = A} p (y ∷ ys) x is = on (p y) refl is (parted_at p ys x)
  where
    on : (t : Bool) → p y ≡ t → cond t (Some y) (find p ys) ≡ Some x → (find p ys ≡ Some x → PartedAt p ys x) → PartedAt p (y ∷ ys) x
    on true passes is rest =
        let e : y ≡ x = cc in
        record { before = []; behind = ys; is = ap (λ z. z ∷ ys) e; fails = λ z nowhere. absurd nowhere; passes = subst (λ z. p z ≡ true) e passes }
    on false fails is rest =
        let r = rest is in
        record { before = y ∷ r.before; behind = r.behind; is = ap (λ zs. y ∷ zs) r.is; fails = λ z has. first_fails r.before r.fails z has; passes = r.passes }
      where
        first_fails : (zs : List A) → ((z : A) → Has zs z → p z ≡ false) → (z : A) → Has (y ∷ zs) z → p z ≡ false
        first_fails zs all z (inl same) = ap p same ∙ fails
        first_fails zs all z (inr later) = all z later

-- what is found is there, and where nothing is found nothing passes
has_middle : {A : Type 0} (before behind : List A) (x : A) → Has (before ++ x ∷ behind) x
has_middle [] behind x = inl refl
has_middle (y ∷ before) behind x = inr (has_middle before behind x)

pub find_has : {A : Type 0} (p : A → Bool) (xs : List A) (x : A) → find p xs ≡ Some x → Has xs x × (p x ≡ true)
find_has p xs x is =
    let at = parted_at p xs x is in
    (subst (λ ys. Has ys x) (sym at.is) (has_middle at.before at.behind x), at.passes)

pub find_none : {A : Type 0} (p : A → Bool) (xs : List A) (x : A) → find p xs ≡ None → Has xs x → p x ≡ false
find_none p [] x none has = absurd has
find_none {A = A} p (y ∷ ys) x none has = on (p y) refl none (λ less later. find_none p ys x less later)
  where
    on : (t : Bool) → p y ≡ t → cond t (Some y) (find p ys) ≡ None → (find p ys ≡ None → Has ys x → p x ≡ false) → p x ≡ false
    on true passes none rest = cc
    on false fails none rest = elim has [
      | inl same ↦ ap p same ∙ fails
      | inr later ↦ rest none later
    ]

pub both : (a c : Bool) → (a && c) ≡ true → (a ≡ true) × (c ≡ true)
both true c is = (refl, is)
both false c is = cc

-- ---- links

-- where none of them differs
pub are_links : (now : List ℕ → Option Digest) (ls : List Link) → ((l : Link) → Has ls l → is_apart now l ≡ false) → AreLinks now ls
are_links now [] none = tt
are_links now (l ∷ ls) none = (alike (now l.name) l.digest (none l (inl refl)), are_links now ls (λ m later. none m (inr later)))

-- where each of them is right
pub are_more : (f g : List ℕ → Option Digest) (ls : List Link) → ((j : List ℕ) (d : Digest) → f j ≡ Some d → g j ≡ Some d) → AreLinks f ls → AreLinks g ls
are_more f g [] more are = tt
are_more f g (l ∷ ls) more are = (more l.name l.digest are.0, are_more f g ls more are.1)

-- a link in the middle
pub are_middle : (now : List ℕ → Option Digest) (before behind : List Link) (l : Link) → AreLinks now (before ++ l ∷ behind) → now l.name ≡ Some l.digest
are_middle now [] behind l are = are.0
are_middle now (x ∷ before) behind l are = are_middle now before behind l are.1
