-- Comparisons of links with what a truth has.
use Rattle.std.proofs.Common.{◌≡◌, ℕ, ◌+◌, Bool, true, false, List, [], ◌∷◌, Option, Some, None, option_map, Ok, refl, ap, sym, ◌∙◌, subst, inl, inr}
use Rattle.carte_value.specs.declared.value.Value.{Value}
use Rattle.carte_value.specs.declared.digest.Digest.{Digest}
use Rattle.carte_value.specs.declared.link.Link.{Link}
use Rattle.carte_value.specs.Truths.{Truth, Among}
use Rattle.carte_value.specs.Asks.{run, asked, asked_on, answered}
use Rattle.carte_value.specs.Spelling.{digest_of}
use Rattle.carte_task.specs.Compared.{same_digest}
use Rattle.carte_task.specs.Checks.{compared, compares}
use Rattle.carte_sound.specs.True.{digest_or, links_to}
use Rattle.carte_sound.specs.Held.{AreLinks}
use Rattle.carte_sound.proofs.Tests.{same_digest as digests_same, digest_self}
use Rattle.carte_rebuild.proofs.Parting.{Parted, part_here, part_more}

-- the digests of a truth's values
abbrev pub digests_in : Truth → List ℕ → Option Digest
digests_in t k = option_map digest_of (t k)

same_on : (t : Truth) (l : Link) (ls : List Link) (at : ℕ) (v : Value) (s : Bool) → t l.name ≡ Some v → same_digest l.digest (digest_of v) ≡ s → (run t (compares (at + 1) ls) ≡ Ok None → AreLinks (digests_in t) ls) → run t (compared s at (compares (at + 1) ls)) ≡ Ok None → (digests_in t l.name ≡ Some l.digest) × AreLinks (digests_in t) ls
same_on t l ls at v true here is rec e = (ap (option_map digest_of) here ∙ ap Some (sym (digests_same l.digest (digest_of v) is)), rec e)
same_on t l ls at v false here is rec e = cc

-- links that compare as the same are so
pub same_links_are : (t : Truth) (at : ℕ) (ls : List Link) → run t (compares at ls) ≡ Ok None → AreLinks (digests_in t) ls
same_links_are t at [] is = tt
same_links_are t at (l ∷ ls) is =
    elim (t l.name) as (λ o. t l.name ≡ o → answered {A = Option ℕ} o l.name (λ v. run t (compared (same_digest l.digest (digest_of v)) at (compares (at + 1) ls))) ≡ Ok None → (digests_in t l.name ≡ Some l.digest) × AreLinks (digests_in t) ls) [
      | None ↦ λ none e. cc
      | Some v ↦ λ here e. same_on t l ls at v (same_digest l.digest (digest_of v)) here refl (λ rest. same_links_are t (at + 1) ls rest) e
    ] refl is

digest_had : (o : Option Value) (d : Digest) → option_map digest_of o ≡ Some d → (v : Value) × (o ≡ Some v) × (digest_of v ≡ d)
digest_had None d is = cc
digest_had (Some v) d is = (v, refl, (let e : digest_of v ≡ d = cc in e))

-- and links that are so compare as the same
pub are_links_same : (t : Truth) (at : ℕ) (ls : List Link) → AreLinks (digests_in t) ls → run t (compares at ls) ≡ Ok None
are_links_same t at [] are = refl
are_links_same t at (l ∷ ls) are =
    let had = digest_had (t l.name) l.digest are.0 in
    let same : same_digest l.digest (digest_of had.0) ≡ true = subst (λ d. same_digest l.digest d ≡ true) (sym had.2) (digest_self l.digest) in
    ap (λ o. answered {A = Option ℕ} o l.name (λ v. run t (compared (same_digest l.digest (digest_of v)) at (compares (at + 1) ls)))) had.1
    ∙ ap (λ s. run t (compared s at (compares (at + 1) ls))) same
    ∙ are_links_same t (at + 1) ls are.1

-- a name has a value with the digest of what another truth has
abbrev pub HasDigestOf : Truth → Truth → List ℕ → Type 0
HasDigestOf p t i = (v : Value) × (p i ≡ Some v) × (digest_or (t i) ≡ digest_of v)

-- a link is asked for behind links that are the same
pub compares_parted : (p t : Truth) (ks : List (List ℕ)) (at : ℕ) (j : List ℕ) → Among (asked p (compares at (links_to t ks))) j → Parted ks j (HasDigestOf p t)
compares_parted p t [] at j none = absurd none
compares_parted p t (k ∷ ks) at j (inl same) = part_here k ks j (HasDigestOf p t) same
compares_parted p t (k ∷ ks) at j (inr later) =
    elim (p k) as (λ o. p k ≡ o → Among (asked_on o (λ v. asked p (compared (same_digest (digest_or (t k)) (digest_of v)) at (compares (at + 1) (links_to t ks))))) j → Parted (k ∷ ks) j (HasDigestOf p t)) [
      | None ↦ λ none h. absurd h
      | Some v ↦ λ here h. on v (same_digest (digest_or (t k)) (digest_of v)) here refl (λ rest. compares_parted p t ks (at + 1) j rest) h
    ] refl later
  where
    on : (v : Value) (s : Bool) → p k ≡ Some v → same_digest (digest_or (t k)) (digest_of v) ≡ s → (Among (asked p (compares (at + 1) (links_to t ks))) j → Parted ks j (HasDigestOf p t)) → Among (asked p (compared s at (compares (at + 1) (links_to t ks)))) j → Parted (k ∷ ks) j (HasDigestOf p t)
    on v true here is rec h = part_more k ks j (HasDigestOf p t) (HasDigestOf p t) (v, here, digests_same (digest_or (t k)) (digest_of v) is) (λ i x. x) (rec h)
    on v false here is rec h = absurd h
