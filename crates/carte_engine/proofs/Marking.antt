-- What a build works over: what is kept, marked where it stands, or a marked copy without what is dropped.
use Rattle.std.proofs.Common.{◌≡◌, ℕ, Bool, true, false, cond, List, [], Option, Some, None, option_map, Result, Ok, Err, refl, ap, sym, ◌∙◌, subst}
use Rattle.std.specs.Prelude.{IfOk}
use Rattle.std.proofs.Math.Path.{fun_ext}
use Rattle.carte_value.specs.Truths.{Among}
use Rattle.carte_book.specs.Book.{Book}
use Rattle.carte_record.specs.declared.entry.Entry.{Entry}
use Rattle.carte_record.specs.declared.kept.Kept.{Kept}
use Rattle.carte_record.specs.Folds.{is_among, with_marks, without}
use Rattle.carte_record.specs.Kept.{SomeKept, kept_view, staled}
use Rattle.carte_record.specs.Lookups.{first_entry}
use Rattle.carte_record.specs.Marked.{CanBeMarked, lists_marked}
use Rattle.carte_sound.specs.Begun.{begin}
use Rattle.carte_mark.specs.declared.base.Begun.{Begun}
use Rattle.carte_mark.specs.Bases.{BeginsWith, IsBegun, beginning_of}
use Rattle.carte_state.specs.States.{Stand, any_in, kept_in}
use Rattle.carte_engine.specs.Working.{IsMarkedIn, StandsApart, StandsOn}
use Rattle.carte_engine.specs.Versions.{kept_for, kept_or}
use Rattle.carte_engine.specs.declared.basis.Basis.{Basis}
use Rattle.carte_engine.proofs.Sorting.{rising_once}

can_be_marked : (K : Kept) (b : Book) (x : Begun) → IsBegun (kept_view K) b x → CanBeMarked K x.marks
can_be_marked K b x begun = record { once = rising_once x.marks begun.marks.rising; unmarked = unmarked }
  where
    unmarked : (k : List ℕ) (e : Entry) → Among x.marks k → first_entry K.entries k ≡ Some e → e.stale ≡ false
    unmarked k e among found =
        let m = begun.marks.only k among in
        let both : Some m.entry ≡ Some e = sym m.kept ∙ found in
        let is : m.entry ≡ e = cc in
        subst (λ (y : Entry). y.stale ≡ false) is m.unmarked

-- where no name is dropped the marks alone make it
begin_marked : (K : SomeKept) (x : Begun) → x.gone ≡ [] → with_marks K x.marks ≡ begin K (beginning_of x)
begin_marked K x none = ap (λ ks. without ks (with_marks K x.marks)) (sym none)

-- names are dropped before marks are put, or behind it
begin_apart : (K : SomeKept) (x : Begun) → with_marks (without x.gone K) x.marks ≡ begin K (beginning_of x)
begin_apart K x = ap (λ (f : List ℕ → Option Entry). record (without x.gone K) { entries = f }) (fun_ext (λ k. on (is_among x.gone k) (is_among x.marks k) (K.entries k)))
  where
    on : (gone marked : Bool) (o : Option Entry) → option_map (staled marked) (cond gone None o) ≡ cond gone None (option_map (staled marked) o)
    on true marked o = refl
    on false marked o = refl

-- what is worked over where it is apart
pub apart_made : (K : SomeKept) (b : Book) (x : Begun) (made : Kept) → IsBegun K b x → kept_view made ≡ with_marks (without x.gone K) x.marks → StandsApart K b (record { begun = x; apart = Some made })
apart_made K b x made begun is = record { made = made; apart = refl; begins = record { begun = begun; base = is ∙ begin_apart K x } }

stands_apart : (b : Book) (s : Stand) (K : SomeKept) (g : Basis) → K ≡ kept_for (any_in s) b → StandsApart K b g → StandsOn b s s g
stands_apart b s K g is a = record {
  begins = subst (BeginsWith (kept_for (any_in s) b) b g.begun) (ap (kept_or (kept_in s)) (sym a.apart)) (subst (λ L. BeginsWith L b g.begun (kept_view a.made)) is a.begins);
  marked = subst (λ (o : Option Kept). IsMarkedIn o g.begun.marks s s) (sym a.apart) refl;
}

pub if_apart : {E : Type 0} (b : Book) (s : Stand) (K : SomeKept) (r : Result Basis E) → K ≡ kept_for (any_in s) b → IfOk r (StandsApart K b) → IfOk r (StandsOn b s s)
if_apart b s K (Ok g) is apart = stands_apart b s K g is apart
if_apart b s K (Err e) is apart = tt

-- and where it is what is kept, marked where it stands
pub stands_here : (b : Book) (s t : Stand) (x : Begun) → kept_in s ≡ kept_for (any_in s) b → IsBegun (kept_in s) b x → x.gone ≡ [] → kept_in t ≡ with_marks (kept_in s) x.marks
    → t ≡ record s { kept = lists_marked s.kept x.marks } → StandsOn b s t (record { begun = x; apart = None })
stands_here b s t x is begun none view lists = record {
  begins = record { begun = subst (λ L. IsBegun L b x) is begun; base = view ∙ (begin_marked (kept_in s) x none ∙ ap (λ L. begin L (beginning_of x)) is) };
  marked = (can_be_marked s.kept b x begun, lists);
}
