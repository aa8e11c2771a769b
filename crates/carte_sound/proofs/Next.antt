-- What the next build holds.
use Rattle.std.proofs.Common.{◌≡◌, ◌⊎◌, ℕ, false, List, [], Some, ap, sym, ◌∙◌, inl, inr, subst}
use Rattle.carte_value.specs.Spelling.{digest_of}
use Rattle.carte_value.specs.Truths.{Among, NoneTwice}
use Rattle.carte_book.specs.Book.{Book}
use Rattle.carte_book.specs.Needs.{IsRule}
use Rattle.carte_record.specs.declared.entry.Entry.{Entry}
use Rattle.carte_record.specs.Ways.{TraceBy}
use Rattle.carte_record.specs.declared.way.Way.{Way}
use Rattle.carte_record.specs.declared.way.Way.TheVariants.{Verifying, Constructive, Deep}
use Rattle.carte_record.specs.Folds.{is_among}
use Rattle.carte_record.specs.Kept.{SomeKept, staled}
use Rattle.carte_value.specs.Lists.{Has}
use Rattle.carte_sound.specs.Marks as marks
use Rattle.carte_sound.specs.Marks.{IsFresh, digest_in, IsChanged, Comes, IsMarked}
use Rattle.carte_sound.specs.Begun as dropped
use Rattle.carte_sound.specs.Begun.{IsGone, Beginning, IsBeginning, begin}
use Rattle.carte_sound.specs.Sound.{IsSeen, IsRuled, IsSound}
use Rattle.carte_sound.specs.Base.{IsBase}
use Rattle.carte_sound.specs.Held.{How, dirty, tracing, IsTrusted, IsHeld}
use Rattle.carte_sound.specs.Left.{Finishes, keys_of, add_all, left}
use Rattle.carte_sound.specs.Finished.{AreFinished}
use Rattle.carte_sound.proofs.Tests.{not_among}
use Rattle.carte_sound.proofs.Begun.{entry_there, trace_there}
use Rattle.carte_sound.proofs.NowFresh.{now_ruled, now_names}
use Rattle.carte_sound.proofs.LeftSound.{left_base}
use Rattle.carte_sound.proofs.Again.{first_holding, holdings}
use Rattle.carte_sound.proofs.Finishing.{among_finished}

begun_trusted : (w : Way) (K : SomeKept) (x : Beginning) (k : List ℕ) (t : TraceBy w) → is_among x.gone k ≡ false → IsTrusted w K k t → IsTrusted w (begin K x) k t
begun_trusted Verifying K x k t stays trusted = (staled (is_among x.marks k) trusted.0, entry_there K x k trusted.0 stays trusted.1, trusted.2)
begun_trusted Constructive K x k t stays trusted = tt
begun_trusted Deep K x k t stays trusted = tt

-- marks take away no trace, and of a key that isn't dropped nothing does
pub begun_held : (w : Way) (K : SomeKept) (b : Book) (x : Beginning) (k : List ℕ) → is_among x.gone k ≡ false → IsHeld (tracing w) K b k → IsHeld (tracing w) (begin K x) b k
begun_held w K b x k stays held = (held.0, record { kept = trace_there K x w k held.0 stays held.1.kept; task = held.1.task; links = held.1.links; trusted = begun_trusted w K x k held.0 stays held.1.trusted })

-- of a rule that has an entry nothing is dropped
rule_stays : (K : SomeKept) (H : List Book) (b : Book) (x : Beginning) → IsSound K H → IsBeginning K b x → (k : List ℕ) (e : Entry) → K.entries k ≡ Some e → IsRule b k → is_among x.gone k ≡ false
rule_stays K H b x sound begins k e at is_rule = not_among x.gone k (λ among. gone (begins.gone.only k among))
  where
    gone : IsGone K b k → ⊥
    gone (dropped.IsGone.seen d seen none) = sound.apart k d e seen at
    gone (dropped.IsGone.entry f kept none) = none is_rule

-- so a trace of a rule is there in the next build
pub trace_stays : (w : Way) (K : SomeKept) (H : List Book) (b : Book) (x : Beginning) → IsSound K H → IsBeginning K b x → (k : List ℕ) (t : TraceBy w) → IsRule b k → Has (K.traces w k) t → Has ((begin K x).traces w k) t
trace_stays w K H b x sound begins k t is_rule has =
    let s = sound.traces w k t has in
    trace_there K x w k t (rule_stays K H b x sound begins k s.entry s.kept is_rule) has

-- and holds it there, where it held it before
pub next_held : (w : Way) (K : SomeKept) (H : List Book) (b : Book) (x : Beginning) → IsSound K H → IsBeginning K b x → (k : List ℕ) → IsRule b k → IsHeld (tracing w) K b k → IsHeld (tracing w) (begin K x) b k
next_held w K H b x sound begins k is_rule held =
    let s = sound.traces w k held.0 held.1.kept in
    begun_held w K b x k (rule_stays K H b x sound begins k s.entry s.kept is_rule) held

-- what is kept is of rules and inputs of the book that it is true of, so none of it is dropped
module _ (K : SomeKept) (b : Book) (H : List Book) (base : IsBase K b H) where
  none_gone : (k : List ℕ) → IsGone K b k → ⊥
  none_gone k (dropped.IsGone.seen d at none) = none (base.inputs k d at)
  none_gone k (dropped.IsGone.entry e at none) = none (base.keys k e at)

  pub none_dropped : (x : Beginning) → IsBeginning K b x → (k : List ℕ) → is_among x.gone k ≡ false
  none_dropped x begins k = not_among x.gone k (λ among. none_gone k (begins.gone.only k among))

  not_changed : (i : List ℕ) → IsSeen K b i ⊎ IsRuled K b i → IsChanged K b i → ⊥
  not_changed i (inl s) (marks.IsChanged.seen d at differs) =
      let same : digest_of s.value ≡ d = (let both : Some (digest_of s.value) ≡ Some d = sym s.seen ∙ at in cc) in
      differs (ap digest_in s.is_input ∙ ap Some same)
  not_changed i (inl s) (marks.IsChanged.task e at differs) = base.sound.apart i (digest_of s.value) e s.seen at
  not_changed i (inr r) (marks.IsChanged.seen d at differs) = base.sound.apart i d r.entry at r.kept
  not_changed i (inr r) (marks.IsChanged.task e at differs) =
      let same : r.entry ≡ e = (let both : Some r.entry ≡ Some e = sym r.kept ∙ at in cc) in
      differs (r.task ∙ ap (λ (y : Entry). Some y.task) same)

  comes_to : (k : List ℕ) → IsFresh K k → (i : List ℕ) → Comes K k i → IsSeen K b i ⊎ IsRuled K b i
  comes_to k f i (inl same) = inr (subst (IsRuled K b) (sym same) (now_ruled K b base.now k f))
  comes_to k f i (inr leads) = now_names K b base.now base.keys k f.entry f.kept f.fresh i leads

  -- no fresh key comes to a changed name of the book that it is true of
  pub fresh_unmarked : (k : List ℕ) → IsFresh K k → IsMarked K b k → ⊥
  fresh_unmarked k f m = not_changed m.name (comes_to k f m.name m.leads) m.changed

-- what a build finished is held in the next one of the same book
module _ (b : Book) (H : List Book) (M : SomeKept) (begun : IsBase M b H) where
  chained_held : (h : How) (L : SomeKept) (chain : List (List ℕ)) (k : List ℕ) → IsHeld h L b k → IsHeld h (record L { chain = chain }) b k
  chained_held dirty L chain k held = record { entry = held.entry; kept = held.kept; fresh = held.fresh }
  chained_held (tracing Verifying) L chain k held = (held.0, record { kept = held.1.kept; task = held.1.task; links = held.1.links; trusted = held.1.trusted })
  chained_held (tracing Constructive) L chain k held = (held.0, record { kept = held.1.kept; task = held.1.task; links = held.1.links; trusted = tt })
  chained_held (tracing Deep) L chain k held = (held.0, record { kept = held.1.kept; task = held.1.task; links = held.1.links; trusted = tt })

  pub left_held : (h : How) (fs : Finishes) (chain : List (List ℕ)) → AreFinished h b M [] fs → (k : List ℕ) → Among (keys_of fs) k → IsHeld h (left h b M fs chain) b k
  left_held h fs chain are k among =
      chained_held h (add_all h b M fs) chain k ((holdings b H M begun h fs M [] (first_holding b H M begun h) are).held k (among_finished fs [] k (inl among)))

  -- a beginning of the same book leaves it held
  still_held : (h : How) (L : SomeKept) → IsBase L b H → (x : Beginning) → IsBeginning L b x → (k : List ℕ) → IsHeld h L b k → IsHeld h (begin L x) b k
  still_held dirty L base x begins k held = record {
    entry = held.entry;
    kept = entry_there L x k held.entry (none_dropped L b H base x begins k) held.kept ∙ ap (λ m. Some (staled m held.entry)) (not_among x.marks k (λ among. fresh_unmarked L b H base k held (begins.marks.only k among)));
    fresh = held.fresh;
  }
  still_held (tracing w) L base x begins k held = begun_held w L b x k (none_dropped L b H base x begins k) held

  pub again_held : (h : How) (fs : Finishes) (chain : List (List ℕ)) → NoneTwice chain → AreFinished h b M [] fs → (x : Beginning) → IsBeginning (left h b M fs chain) b x → (k : List ℕ) → Among (keys_of fs) k → IsHeld h (begin (left h b M fs chain) x) b k
  again_held h fs chain once are x begins k among =
      still_held h (left h b M fs chain) (left_base h b H M begun fs chain once are) x begins k (left_held h fs chain are k among)
