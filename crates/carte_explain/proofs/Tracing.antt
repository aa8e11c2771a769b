-- Why a key ran, from its traces.
use Rattle.std.proofs.Common.{◌≡◌, ℕ, Bool, true, false, cond, List, [], ◌∷◌, ◌++◌, Option, Some, None, refl, ap, sym, ◌∙◌, subst}
use Rattle.std.specs.Prelude.{find, is_some, unwrap_or}
use Rattle.carte_value.specs.declared.digest.Digest.{Digest}
use Rattle.carte_value.specs.declared.link.Link.{Link}
use Rattle.carte_value.specs.declared.value.Value.TheVariants.{Empty}
use Rattle.carte_value.specs.Lists.{Has}
use Rattle.carte_value.specs.Spelling.{digest_of}
use Rattle.carte_book.specs.Book.{Book}
use Rattle.carte_book.specs.Needs.{IsRule}
use Rattle.carte_note.specs.declared.finished.Finished.{Finished}
use Rattle.carte_record.specs.declared.kept.Kept.{Kept}
use Rattle.carte_record.specs.declared.way.Way.{Way}
use Rattle.carte_record.specs.Kept.{SomeKept, kept_traces, traces_in}
use Rattle.carte_record.specs.Ways.{TraceBy, links_by}
use Rattle.carte_table.specs.Lookups.{find_last}
use Rattle.carte_sound.specs.Held.{AreLinks, digest_now, tracing, IsTasked, IsHeld}
use Rattle.carte_explain.specs.Found.{apart_why, digest_found, is_apart, newest_why, untold_why}
use Rattle.carte_explain.specs.Why.{IsCause, IsFirstDifference, IsNew, NoneMatches}
use Rattle.carte_explain.proofs.Digests.{unlike}
use Rattle.carte_explain.proofs.Heads.{newest_found, passes_of}
use Rattle.carte_explain.proofs.Parts.{PartedAt, are_links, are_middle, are_more, find_has, find_none, parted_at}

-- what the work tells of the names in those of the key's traces that are of the present tasks
pub record Tells (w : Way) (M : SomeKept) (b : Book) (fs : List Finished) (k : List ℕ) : Type 0 where
  pub more : (j : List ℕ) (d : Digest) → digest_found w b fs j ≡ Some d → digest_now w b j ≡ Some d
  pub here : (t : TraceBy w) → Has (M.traces w k) t → IsTasked w b k t → (before behind : List Link) (l : Link) → links_by w t ≡ before ++ l ∷ behind → AreLinks (digest_now w b) before
      → (digest_found w b fs l.name ≡ digest_now w b l.name) × IsNew w (digest_now w b l.name) (unwrap_or (digest_found w b fs l.name) (digest_of Empty))

-- a test of traces that says whether they are of the present tasks
pub record TestsTasks (w : Way) (b : Book) (k : List ℕ) (p : TraceBy w → Bool) : Type 0 where
  pub tells : (t : TraceBy w) → p t ≡ true → IsTasked w b k t
  pub told : (t : TraceBy w) → IsTasked w b k t → p t ≡ true

-- one that all pass
abbrev pub PassesAll : {A : Type 0} → (A → Bool) → Type 0
PassesAll {A = A} q = (t : A) → q t ≡ true

nothing_there : {A : Type 0} (q : A → Bool) (ts : List A) → PassesAll q → find q ts ≡ None → ts ≡ []
nothing_there q [] all none = refl
nothing_there q (t ∷ ts) all none = (let found : find q (t ∷ ts) ≡ Some t = ap (λ c. cond c (Some t) (find q ts)) (all t) in cc)

module _ (w : Way) (M : SomeKept) (b : Book) (fs : List Finished) (k : List ℕ) (tells : Tells w M b fs k) where
  -- the links before the first that differs are right
  same_before : (ls : List Link) (l : Link) (at : PartedAt (is_apart (digest_found w b fs)) ls l) → AreLinks (digest_now w b) at.before
  same_before ls l at = are_more (digest_found w b fs) (digest_now w b) at.before tells.more (are_links (digest_found w b fs) at.before at.fails)

  differing : (t : TraceBy w) → Has (M.traces w k) t → IsTasked w b k t → (l : Link) → find (is_apart (digest_found w b fs)) (links_by w t) ≡ Some l → IsFirstDifference w b (links_by w t) l.name l.digest (unwrap_or (digest_found w b fs l.name) (digest_of Empty))
  differing t kept is_task l is =
      let at = parted_at (is_apart (digest_found w b fs)) (links_by w t) l is in
      let same = same_before (links_by w t) l at in
      let now = tells.here t kept is_task at.before at.behind l at.is same in
      record {
        before = at.before;
        link = l;
        behind = at.behind;
        parted = at.is;
        name_is = refl;
        old_is = refl;
        same = same;
        differs = λ equal. unlike (digest_found w b fs l.name) l.digest at.passes (now.0 ∙ equal);
        now = now.1;
      }

  pub links_match : (t : TraceBy w) → find (is_apart (digest_found w b fs)) (links_by w t) ≡ None → AreLinks (digest_now w b) (links_by w t)
  links_match t none = are_more (digest_found w b fs) (digest_now w b) (links_by w t) tells.more (are_links (digest_found w b fs) (links_by w t) (λ l has. find_none (is_apart (digest_found w b fs)) (links_by w t) l none has))

  pub match_found : (t : TraceBy w) → Has (M.traces w k) t → IsTasked w b k t → AreLinks (digest_now w b) (links_by w t) → find (is_apart (digest_found w b fs)) (links_by w t) ≡ None
  match_found t kept is_task are = on (find (is_apart (digest_found w b fs)) (links_by w t)) refl
    where
      on : (o : Option Link) → find (is_apart (digest_found w b fs)) (links_by w t) ≡ o → o ≡ None
      on None is = refl
      on (Some l) is =
          let at = parted_at (is_apart (digest_found w b fs)) (links_by w t) l is in
          let now = tells.here t kept is_task at.before at.behind l at.is (same_before (links_by w t) l at) in
          absurd (unlike (digest_found w b fs l.name) l.digest at.passes (now.0 ∙ are_middle (digest_now w b) at.before at.behind l (subst (AreLinks (digest_now w b)) at.is are)))

  module _ (S : SomeKept) (K : Kept) (traces : M.traces w k ≡ traces_in w k (kept_traces w K) []) (is_rule : IsRule b k) (unheld : ¬ (IsHeld (tracing w) M b k)) (p q : TraceBy w → Bool) (tests : TestsTasks w b k p) (all : PassesAll q) where
    -- the newest one that passes a test, of those that are kept of the key
    found : (r : TraceBy w → Bool) → find_last (passes_of w r k) (kept_traces w K) ≡ find r (M.traces w k)
    found r = newest_found w r k (kept_traces w K) ∙ ap (find r) (sym traces)

    untold : find p (M.traces w k) ≡ None → (any : Option (TraceBy w)) → find q (M.traces w k) ≡ any → IsCause (tracing w) S M b k (untold_why (is_some any))
    untold others None is = (is_rule, unheld, nothing_there q (M.traces w k) all is)
    untold others (Some s) is = (
      is_rule,
      unheld,
      record {
        trace = s;
        kept = (find_has q (M.traces w k) s is).0;
        others = λ t kept is_task.
            let passes = tests.told t is_task in
            let fails = find_none p (M.traces w k) t others kept in
            let n : true ≡ false = sym passes ∙ fails in
            cc;
      },
    )

    pub from_newest : ((t : TraceBy w) → Has (M.traces w k) t → IsTasked w b k t → ¬ (AreLinks (digest_now w b) (links_by w t))) → NoneMatches w M b k
        → IsCause (tracing w) S M b k (newest_why (links_by w) (digest_found w b fs) (find_last (passes_of w q k) (kept_traces w K)) (find_last (passes_of w p k) (kept_traces w K)))
    from_newest never none = on (find_last (passes_of w p k) (kept_traces w K)) (sym (found p))
      where
        on : (o : Option (TraceBy w)) → find p (M.traces w k) ≡ o → IsCause (tracing w) S M b k (newest_why (links_by w) (digest_found w b fs) (find_last (passes_of w q k) (kept_traces w K)) o)
        on None others = untold others (find_last (passes_of w q k) (kept_traces w K)) (sym (found q))
        on (Some t) is = by (find (is_apart (digest_found w b fs)) (links_by w t)) refl
          where
            has : Has (M.traces w k) t × (p t ≡ true)
            has = find_has p (M.traces w k) t is

            at : PartedAt p (M.traces w k) t
            at = parted_at p (M.traces w k) t is

            is_task : IsTasked w b k t
            is_task = tests.tells t has.1

            others : (r : TraceBy w) → Has at.before r → ¬ (IsTasked w b k r)
            others r before too =
                let passes = tests.told r too in
                let n : true ≡ false = sym passes ∙ at.fails r before in
                cc

            by : (o : Option Link) → find (is_apart (digest_found w b fs)) (links_by w t) ≡ o → IsCause (tracing w) S M b k (apart_why (digest_found w b fs) o)
            by None is = absurd (never t has.0 is_task (links_match t is))
            by (Some l) is = (is_rule, unheld, record { newer = at.before; newest = t; older = at.behind; traces = at.is; others = others; task = is_task; first = differing t has.0 is_task l is; none = none })
