-- Each rule that is reached from fresh targets is fresh, and so kept with its clean value.
use Rattle.std.proofs.Common.{◌≡◌, ℕ, List, [], ◌∷◌, Option, Some, None, refl, ap, sym, ◌∙◌, inl, inr, subst}
use Rattle.carte_value.specs.Truths.{Among}
use Rattle.carte_tree.specs.Meaning.{fetched}
use Rattle.carte_book.specs.Book.{Item, input, rule, Book, content, clean}
use Rattle.carte_book.specs.Needs.{IsRule, needs, needs_of, Reaches, target, need}
use Rattle.carte_book.specs.Reason.{IsClean, AllClean}
use Rattle.carte_record.specs.Kept.{SomeKept}
use Rattle.carte_sound.specs.Marks.{IsFresh}
use Rattle.carte_sound.specs.Base.{AllNow, IsBase}
use Rattle.carte_sound.specs.Results.{IsKeptNow}
use Rattle.carte_sound.proofs.Held.{need_has_value, fresh_result}

-- only rules have needs
pub needing_rule : (b : Book) (j k : List ℕ) → Among (needs b j) k → IsRule b j
needing_rule b j k among = on_item (content b j) refl
  where
    on_item : (o : Option Item) → content b j ≡ o → IsRule b j
    on_item None is = absurd (subst (λ ks. Among ks k) (ap (λ o. needs_of o (λ f. fetched b.kind (clean b) f)) is) among)
    on_item (Some (input v)) is = absurd (subst (λ ks. Among ks k) (ap (λ o. needs_of o (λ f. fetched b.kind (clean b) f)) is) among)
    on_item (Some (rule f)) is = (f, is)

-- what clean targets reach is clean
pub reached_clean : (b : Book) (targets : List (List ℕ)) → AllClean b targets → (k : List ℕ) → Reaches b targets k → IsClean b k
reached_clean b targets all k (target among) = one targets all among
  where
    one : (ts : List (List ℕ)) → AllClean b ts → Among ts k → IsClean b k
    one [] all among = absurd among
    one (t ∷ ts) all (inl same) = (all.0.0, ap (clean b) same ∙ all.0.1)
    one (t ∷ ts) all (inr later) = one ts all.1 later
reached_clean b targets all k (need {j = j} reached among) =
    let has = reached_clean b targets all j reached in
    let f = needing_rule b j k among in
    need_has_value b j f.0 has.0 f.1 has.1 k among

pub reached_fresh : (K : SomeKept) (b : Book) (targets : List (List ℕ)) → AllNow K b → ((k : List ℕ) → Among targets k → IsRule b k → IsFresh K k) → (k : List ℕ) → Reaches b targets k → IsRule b k → IsFresh K k
reached_fresh K b targets now fresh k (target among) is_rule = fresh k among is_rule
reached_fresh K b targets now fresh k (need {j = j} reached among) is_rule =
    let f = reached_fresh K b targets now fresh j reached (needing_rule b j k among) in
    let n = now j f.entry f.kept f.fresh in
    n.rules k (subst (λ ks. Among ks k) (sym n.needs) among) is_rule

pub fresh_kept : (K : SomeKept) (b : Book) (H : List Book) → IsBase K b H → (k : List ℕ) → IsFresh K k → IsKeptNow K b k
fresh_kept K b H base k f = record { entry = f.entry; kept = f.kept; result = fresh_result K b H base k f }

pub reached_kept : (K : SomeKept) (b : Book) (H : List Book) (targets : List (List ℕ)) → IsBase K b H → ((k : List ℕ) → Among targets k → IsRule b k → IsFresh K k) → (k : List ℕ) → Reaches b targets k → IsRule b k → IsKeptNow K b k
reached_kept K b H targets base fresh k reached is_rule = fresh_kept K b H base k (reached_fresh K b targets base.now fresh k reached is_rule)
