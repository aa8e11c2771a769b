-- The first link of a trace that differs names a need of the key.
use Rattle.std.proofs.Common.{◌≡◌, ℕ, List, [], ◌∷◌, ◌++◌, Option, Some, refl, ap, sym, ◌∙◌, subst, inl, inr}
use Rattle.carte_value.specs.declared.digest.Digest.{Digest}
use Rattle.carte_value.specs.declared.link.Link.{Link}
use Rattle.carte_value.specs.declared.value.Value.{Value}
use Rattle.carte_value.specs.Spelling.{digest_of}
use Rattle.carte_value.specs.Truths.{Truth, Among}
use Rattle.carte_value.specs.Asks.{asked, firsts}
use Rattle.carte_value.proofs.Firsts.{firsts_among}
use Rattle.carte_value.proofs.Members.{among_left, among_right}
use Rattle.carte_tree.specs.Tree.{Tree}
use Rattle.carte_tree.specs.Meaning.{asks, fetched}
use Rattle.carte_book.specs.Book.{Book, rule, content, clean}
use Rattle.carte_book.specs.Needs.{needs}
use Rattle.carte_record.specs.declared.way.Way.{Way}
use Rattle.carte_record.specs.Kept.{SomeKept}
use Rattle.carte_record.specs.Ways.{TraceBy, links_by}
use Rattle.carte_sound.specs.True.{digest_or, links_to}
use Rattle.carte_sound.specs.Sound.{IsTraceOfSome}
use Rattle.carte_sound.specs.Base.{IsBase}
use Rattle.carte_sound.specs.Held.{AreLinks, clean_digest, IsTasked}
use Rattle.carte_sound.proofs.Held.{needs_rule, need_has_value, same_rule, digest_value}
use Rattle.carte_sound.proofs.Traces.{trace_links}
use Rattle.carte_rebuild.proofs.Parting.{Parted, firsts_parted, AsksToo, asks_too}
use Rattle.carte_rebuild.proofs.TracedChecks.{OfNeeds, links_needs}

-- names whose links are parted at a link
pub record NamesParted (t : Truth) (ks : List (List ℕ)) (before : List Link) (l : Link) : Type 0 where
  pub front : List (List ℕ)
  pub back : List (List ℕ)
  pub is : ks ≡ front ++ l.name ∷ back
  pub links : before ≡ links_to t front

pub names_parted : (t : Truth) (ks : List (List ℕ)) (before behind : List Link) (l : Link) → links_to t ks ≡ before ++ l ∷ behind → NamesParted t ks before l
names_parted t [] [] behind l is = cc
names_parted t [] (x ∷ before) behind l is = cc
names_parted t (k ∷ ks) [] behind l is =
    let e : record { name = k; digest = digest_or (t k) } ≡ l = cc in
    record { front = []; back = ks; is = ap (λ j. j ∷ ks) (ap (λ (x : Link). x.name) e); links = refl }
names_parted t (k ∷ ks) (x ∷ before) behind l is =
    let e : record { name = k; digest = digest_or (t k) } ≡ x = cc in
    let more : links_to t ks ≡ before ++ l ∷ behind = cc in
    let r = names_parted t ks before behind l more in
    record { front = k ∷ r.front; back = r.back; is = ap (λ js. k ∷ js) r.is; links = ap (λ y. y ∷ before) (sym e) ∙ ap (λ ys. record { name = k; digest = digest_or (t k) } ∷ ys) r.links }

link_of : (now : List ℕ → Option Digest) (t : Truth) (ks : List (List ℕ)) → AreLinks now (links_to t ks) → (i : List ℕ) → Among ks i → now i ≡ Some (digest_or (t i))
link_of now t [] are i among = absurd among
link_of now t (k ∷ ks) are i (inl same) = subst (λ j. now j ≡ Some (digest_or (t j))) (sym same) are.0
link_of now t (k ∷ ks) are i (inr later) = link_of now t ks are.1 i later

module _ (w : Way) (of : OfNeeds w) (K : SomeKept) (b : Book) (H : List Book) (base : IsBase K b H) (k : List ℕ) where
  pub asks_first : (t : TraceBy w) → IsTraceOfSome K H w k t → IsTasked w b k t → (before behind : List Link) (l : Link) → links_by w t ≡ before ++ l ∷ behind → AreLinks (clean_digest b) before → Among (needs b k) l.name
  asks_first t s task before behind l is are =
      subst (λ ks. Among ks j) (sym (needs_rule b k f rule_b)) (firsts_among (asked (clean b) (asks b.kind f)) j (subst (λ ks. Among ks j) (sym too.is) (among_right whole.before (j ∷ too.behind) j (inl refl))))
    where
      j : List ℕ
      j = l.name

      c : Book
      c = s.book

      f : Tree
      f = s.trace.formula

      same : (c.kind ≡ b.kind) × (content b k ≡ Some (rule f))
      same = same_rule K b H base w of.looks k t s task

      rule_b : content b k ≡ Some (rule f)
      rule_b = same.1

      names : needs c k ≡ firsts (asked (clean c) (asks b.kind f))
      names = needs_rule c k f s.trace.is_rule ∙ ap (λ q. fetched q (clean c) f) same.0

      links : links_by w t ≡ links_to (clean c) (needs c k)
      links = ap (links_by w) s.trace.trace ∙ trace_links w c k ∙ ap (links_to (clean c)) (links_needs w of c k)

      split : NamesParted (clean c) (needs c k) before l
      split = names_parted (clean c) (needs c k) before behind l (sym links ∙ is)

      whole : Parted (asked (clean c) (asks b.kind f)) j (Among split.front)
      whole = firsts_parted (asked (clean c) (asks b.kind f)) split.front split.back j (sym names ∙ split.is)

      agrees : (i : List ℕ) → Among split.front i → (v : Value) × (clean c i ≡ Some v) × (clean b i ≡ Some v)
      agrees i here =
          let had = need_has_value c k f s.trace.value s.trace.is_rule s.trace.clean i (subst (λ ks. Among ks i) (sym split.is) (among_left split.front (j ∷ split.back) i here)) in
          let now : clean_digest b i ≡ Some (digest_or (clean c i)) = link_of (clean_digest b) (clean c) split.front (subst (AreLinks (clean_digest b)) split.links are) i here in
          let has = digest_value b i (digest_or (clean c i)) now in
          let same : digest_of had.0 ≡ digest_of has.0 = ap digest_or (sym had.1) ∙ sym has.2 in
          let equal : had.0 ≡ has.0 = base.distinct.values c b i i had.0 has.0 s.stood base.present had.1 has.1 same in
          (has.0, had.1 ∙ ap Some equal, has.1)

      too : AsksToo (clean b) (asks b.kind f) whole.before j
      too = asks_too (clean c) (clean b) (asks b.kind f) whole.before whole.behind j whole.is (λ i here. agrees i (whole.all i here))
