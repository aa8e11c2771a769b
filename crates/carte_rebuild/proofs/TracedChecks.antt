-- Checks of traces of needs: what holds of one that is the same, and where one may stop.
use Rattle.std.proofs.Common.{◌≡◌, ◌⊎◌, ℕ, List, [], ◌∷◌, ◌++◌, Option, Some, None, Ok, Err, true, false, refl, ap, sym, ◌∙◌, subst, inl, inr}
use Rattle.carte_value.specs.declared.value.Value.{Value}
use Rattle.carte_value.specs.Spelling.{digest_of}
use Rattle.carte_value.specs.Truths.{Truth, Extends, Among, HasValue}
use Rattle.carte_value.specs.Asks.{run, asked, firsts}
use Rattle.carte_value.proofs.Asks.{extends_self, stop_asked}
use Rattle.carte_value.proofs.Firsts.{among_firsts, firsts_among}
use Rattle.carte_value.proofs.Members.{among_append, among_left, among_right}
use Rattle.carte_tree.specs.Tree.{Tree}
use Rattle.carte_tree.specs.Meaning.{asks, fetched}
use Rattle.carte_book.specs.Book.{Book, rule, content, clean}
use Rattle.carte_book.specs.Needs.{needs}
use Rattle.carte_task.specs.Checking.{Checking}
use Rattle.carte_task.specs.Checks.{compares, rest_from}
use Rattle.carte_record.specs.declared.way.Way.{Way}
use Rattle.carte_record.specs.declared.way.Way.TheVariants.{Verifying, Constructive, Deep}
use Rattle.carte_record.specs.Kept.{SomeKept}
use Rattle.carte_record.specs.Ways.{TraceBy, links_by, result_by}
use Rattle.carte_sound.specs.True.{digest_or, links_to, linked}
use Rattle.carte_sound.specs.Sound.{IsTraceOfSome}
use Rattle.carte_sound.specs.Base.{IsBase}
use Rattle.carte_sound.specs.Held.{tracing, AreLinks, digest_now, IsTasked, IsHeldBy, looks_into_held}
use Rattle.carte_sound.specs.Results.{HasResult}
use Rattle.carte_sound.proofs.Held.{needs_rule, need_has_value, needs_linked, same_rule, verifying_held, constructive_held}
use Rattle.carte_sound.proofs.Traces.{trace_links}
use Rattle.carte_note.specs.Right.{reused_links}
use Rattle.carte_rebuild.specs.Traced.{IsCheckOf}
use Rattle.carte_rebuild.specs.Goes.{may_ask}
use Rattle.carte_rebuild.proofs.Parting.{Parted, firsts_parted, AsksToo, asks_too}
use Rattle.carte_rebuild.proofs.Comparing.{digests_in, same_links_are, HasDigestOf, compares_parted}

-- the two kinds of traces that link the needs of a key
pub record OfNeeds (w : Way) : Type 0 where
  pub looks : looks_into_held (tracing w) ≡ true

pub of_verifying : OfNeeds Verifying
of_verifying = record { looks = refl }

pub of_constructive : OfNeeds Constructive
of_constructive = record { looks = refl }

pub links_needs : (w : Way) → OfNeeds w → (b : Book) (k : List ℕ) → linked w b k ≡ needs b k
links_needs w of b k = needs_linked w of.looks b k

pub reused_needs : (w : Way) → OfNeeds w → (b : Book) (k : List ℕ) → reused_links (tracing w) b k ≡ links_to (clean b) (needs b k)
reused_needs Verifying of b k = refl
reused_needs Constructive of b k = refl
reused_needs Deep of b k = (let never : false ≡ true = of.looks in cc)

pub asks_needs : (w : Way) → OfNeeds w → (b : Book) (k : List ℕ) → may_ask (tracing w) b k ≡ needs b k
asks_needs Verifying of b k = refl
asks_needs Constructive of b k = refl
asks_needs Deep of b k = (let never : false ≡ true = of.looks in cc)

pub links_now : (w : Way) → OfNeeds w → (b : Book) (t : TraceBy w) → AreLinks (digests_in (clean b)) (links_by w t) → AreLinks (digest_now w b) (links_by w t)
links_now Verifying of b t are = are
links_now Constructive of b t are = are
links_now Deep of b t are = (let never : false ≡ true = of.looks in cc)

pub links_then : (w : Way) → OfNeeds w → (b : Book) (t : TraceBy w) → AreLinks (digest_now w b) (links_by w t) → AreLinks (digests_in (clean b)) (links_by w t)
links_then Verifying of b t are = are
links_then Constructive of b t are = are
links_then Deep of b t are = (let never : false ≡ true = of.looks in cc)

pub held_needs : (w : Way) → OfNeeds w → (K : SomeKept) (b : Book) (H : List Book) → IsBase K b H → (k : List ℕ) (t : TraceBy w) → IsHeldBy w K b k t → HasResult K b k (result_by w t) × (links_by w t ≡ links_to (clean b) (needs b k))
held_needs Verifying of K b H base k t held = verifying_held K b H base k t held
held_needs Constructive of K b H base k t held = constructive_held K b H base k t held
held_needs Deep of K b H base k t held = (let never : false ≡ true = of.looks in cc)

-- the links of a list of names have these names
pub linked_names : (p t : Truth) (ks : List (List ℕ)) → AreLinks (digests_in p) (links_to t ks) → (j : List ℕ) → Among ks j → HasValue p j
linked_names p t [] are j among = absurd among
linked_names p t (k ∷ ks) are j (inl same) = had (p k) refl are.0
  where
    had : (o : Option Value) → p k ≡ o → digests_in p k ≡ Some (digest_or (t k)) → HasValue p j
    had None is e = (let n : digests_in p k ≡ None = ap (λ x. elim x [ None ↦ None | Some v ↦ Some (digest_of v) ]) is in cc)
    had (Some v) is e = (v, ap p same ∙ is)
linked_names p t (k ∷ ks) are j (inr later) = linked_names p t ks are.1 j later

-- where a check of a trace looks over a part of the clean values, up to a name
pub record LooksAt (b : Book) (p : Truth) (k j : List ℕ) : Type 0 where
  pub formula : Tree
  pub is_rule : content b k ≡ Some (rule formula)
  pub before : List (List ℕ)
  pub behind : List (List ℕ)
  pub is : asked (clean b) (asks b.kind formula) ≡ before ++ j ∷ behind
  pub stops : clean b j ≡ None → behind ≡ []
  pub known : (i : List ℕ) → Among before i → HasValue p i

module _ (w : Way) (of : OfNeeds w) (K : SomeKept) (b : Book) (H : List Book) (base : IsBase K b H) (k : List ℕ) (p : Truth) (part : Extends p (clean b)) where
  trace_looks : (t : TraceBy w) (s : IsTraceOfSome K H w k t) → IsTasked w b k t → (j : List ℕ) → Among (asked p (compares 0 (links_by w t))) j → LooksAt b p k j
  trace_looks t s task j among = record {
    formula = f;
    is_rule = same.1;
    before = whole.before;
    behind = too.behind;
    is = too.is;
    stops = too.stops;
    known = λ i here. let g = agrees i (whole.all i here) in (g.0, g.3);
  }
    where
      c : Book
      c = s.book

      f : Tree
      f = s.trace.formula

      same : (c.kind ≡ b.kind) × (content b k ≡ Some (rule f))
      same = same_rule K b H base w of.looks k t s task

      names : needs c k ≡ firsts (asked (clean c) (asks b.kind f))
      names = needs_rule c k f s.trace.is_rule ∙ ap (λ q. fetched q (clean c) f) same.0

      links : links_by w t ≡ links_to (clean c) (needs c k)
      links = ap (links_by w) s.trace.trace ∙ trace_links w c k ∙ ap (links_to (clean c)) (links_needs w of c k)

      split : Parted (needs c k) j (HasDigestOf p (clean c))
      split = compares_parted p (clean c) (needs c k) 0 j (subst (λ ls. Among (asked p (compares 0 ls)) j) links among)

      whole : Parted (asked (clean c) (asks b.kind f)) j (Among split.before)
      whole = firsts_parted (asked (clean c) (asks b.kind f)) split.before split.behind j (sym names ∙ split.is)

      agrees : (i : List ℕ) → Among split.before i → (v : Value) × (clean c i ≡ Some v) × (clean b i ≡ Some v) × (p i ≡ Some v)
      agrees i here =
          let has = split.all i here in
          let had = need_has_value c k f s.trace.value s.trace.is_rule s.trace.clean i (subst (λ ks. Among ks i) (sym split.is) (among_left split.before (j ∷ split.behind) i here)) in
          let now : clean b i ≡ Some has.0 = part i has.0 has.1 in
          let same : digest_of had.0 ≡ digest_of has.0 = ap digest_or (sym had.1) ∙ has.2 in
          let equal : had.0 ≡ has.0 = base.distinct.values c b i i had.0 has.0 s.stood base.present had.1 now same in
          (has.0, had.1 ∙ ap Some equal, now, has.1)

      too : AsksToo (clean b) (asks b.kind f) whole.before j
      too = asks_too (clean c) (clean b) (asks b.kind f) whole.before whole.behind j whole.is (λ i here. let g = agrees i (whole.all i here) in (g.0, g.1, g.2))

  check_looks : (c : Checking) → IsCheckOf w K b k c → (j : List ℕ) → Among (asked p (rest_from c)) j → LooksAt b p k j
  check_looks c x j among = trace_looks x.trace (base.sound.traces w k x.trace x.kept) x.task j (subst (λ d. Among (asked p (rest_from d)) j) x.is among)

  looked_needs : (j : List ℕ) (l : LooksAt b p k j) → needs b k ≡ firsts (asked (clean b) (asks b.kind l.formula))
  looked_needs j l = needs_rule b k l.formula l.is_rule

  -- it asks for needs alone
  pub check_asks : (c : Checking) → IsCheckOf w K b k c → (j : List ℕ) → Among (asked p (rest_from c)) j → Among (needs b k) j
  check_asks c x j among =
      let l = check_looks c x j among in
      subst (λ ks. Among ks j) (sym (looked_needs j l)) (firsts_among (asked (clean b) (asks b.kind l.formula)) j (subst (λ ks. Among ks j) (sym l.is) (among_right l.before (j ∷ l.behind) j (inl refl))))

  -- where it stops at a name without a clean value, all other needs are there
  pub check_stops : (c : Checking) → IsCheckOf w K b k c → (n : List ℕ) → run p (rest_from c) ≡ Err n → clean b n ≡ None → (j : List ℕ) → Among (needs b k) j → (j ≡ n) ⊎ HasValue p j
  check_stops c x n stops none j among =
      let l = check_looks c x n (stop_asked p p (rest_from c) n (extends_self p) stops) in
      let all : Among (l.before ++ n ∷ []) j = subst (λ ks. Among ks j) (l.is ∙ ap (λ ks. l.before ++ n ∷ ks) (l.stops none)) (among_firsts (asked (clean b) (asks b.kind l.formula)) j (subst (λ ks. Among ks j) (looked_needs n l) among)) in
      elim (among_append l.before (n ∷ []) j all) [
        | inl before ↦ inr (l.known j before)
        | inr last ↦ elim last [
          | inl same ↦ inl same
          | inr never ↦ absurd never
        ]
      ]

  -- what a check that holds says: its trace holds the key
  pub check_holds : (c : Checking) → (x : IsCheckOf w K b k c) → run p (rest_from c) ≡ Ok None → AreLinks (digests_in p) (links_by w x.trace)
  check_holds c x holds = same_links_are p 0 (links_by w x.trace) (subst (λ d. run p (rest_from d) ≡ Ok None) x.is holds)
