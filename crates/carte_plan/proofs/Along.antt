-- One batch of all keys, and beside it the one that is cut: what keys bring to both.
use Rattle.std.proofs.Common.{◌≡◌, Bool, true, false, not, cond, ◌&&◌, ◌||◌, List, [], ◌∷◌, ◌++◌, None, append-nil, append_assoc, drop, is_some, length, refl, ap, sym, ◌∙◌}
use Rattle.std.proofs.Math.Seq.{drop-append_seam}
use Rattle.carte_value.specs.declared.link.Link.{Link}
use Rattle.carte_value.specs.declared.value.Value.{Value}
use Rattle.carte_book.specs.Book.{Book}
use Rattle.carte_record.specs.declared.batch.Batch.{Batch}
use Rattle.carte_record.specs.declared.kept.Kept.{Kept}
use Rattle.carte_record.specs.declared.way.Way.{Way}
use Rattle.carte_record.specs.declared.way.Way.TheVariants.{Verifying, Constructive, Deep}
use Rattle.carte_record.specs.Folds.{batch_traces}
use Rattle.carte_table.specs.Lookups.{first_link}
use Rattle.carte_value.specs.Lists.{Begins}
use Rattle.carte_sound.specs.Begun.{is_digest}
use Rattle.carte_sound.specs.Cut.{IsCut}
use Rattle.carte_sound.specs.Held.{How}
use Rattle.carte_sound.specs.Left.{is_way}
use Rattle.carte_sound.specs.Marks.{present}
use Rattle.carte_note.specs.declared.finished.Finished.{Finished}
use Rattle.carte_note.specs.Right.{has_run}
use Rattle.carte_note.specs.Writes.{all_seen, entry_noted, links_noted, stays, task_made, trace_noted, traces_noted, values_noted, with_finished, with_seen}
use Rattle.carte_plan.specs.Cuts.{cut_off, with_all}

-- a list that begins with another one
begins_self : {A : Type 0} (xs : List A) → Begins xs xs
begins_self xs = ([], sym (append-nil xs))

begins_more : {A : Type 0} (xs ys zs : List A) → Begins xs ys → Begins ys zs → Begins xs zs
begins_more xs ys zs (us, one) (vs, two) = (us ++ vs, two ∙ (ap (λ ws. ws ++ vs) one ∙ append_assoc xs us vs))

run_begins : {A : Type 0} (r t : Bool) (xs : List A) (z : A) → Begins xs (cond r (cond t xs (xs ++ z ∷ [])) xs)
run_begins true true xs z = begins_self xs
run_begins true false xs z = (z ∷ [], refl)
run_begins false t xs z = begins_self xs

value_begins : (kept : List Value) (f : Finished) (vs : List Value) → Begins vs (values_noted kept f vs)
value_begins kept f vs = run_begins (has_run f.made) _ vs _

seen_begins : (b : Book) (kept ms ls : List Link) → Begins ls (all_seen b kept ms ls)
seen_begins b kept [] ls = begins_self ls
seen_begins b kept (m ∷ ms) ls = begins_more ls (with_seen b kept m ls) (all_seen b kept ms (with_seen b kept m ls)) (on (is_some (present b m.name) && not (is_some (first_link ls m.name) || is_digest (first_link kept m.name) m.digest))) (seen_begins b kept ms (with_seen b kept m ls))
  where
    on : (t : Bool) → Begins ls (cond t (ls ++ m ∷ []) ls)
    on true = (m ∷ [], refl)
    on false = begins_self ls

pub begins_rest : {A : Type 0} (xs ys : List A) → Begins xs ys → ys ≡ xs ++ drop (length xs) ys
begins_rest xs ys (zs, is) = is ∙ sym (ap (λ ws. xs ++ ws) (ap (drop (length xs)) is ∙ drop-append_seam xs zs))

-- one item more, or not, behind two lists
more_behind : {A : Type 0} (t : Bool) (xs ys : List A) (z : A) → cond t ((xs ++ ys) ++ z ∷ []) (xs ++ ys) ≡ xs ++ cond t (ys ++ z ∷ []) ys
more_behind true xs ys z = append_assoc xs ys (z ∷ [])
more_behind false xs ys z = refl

none_behind : {A : Type 0} (t : Bool) (xs ys : List A) (z : A) → cond t (xs ++ ys) ((xs ++ ys) ++ z ∷ []) ≡ xs ++ cond t ys (ys ++ z ∷ [])
none_behind true xs ys z = refl
none_behind false xs ys z = append_assoc xs ys (z ∷ [])

pub traces_with : (w : Way) (h : How) (b : Book) (K : Kept) (f : Finished) (B : Batch) → batch_traces w (with_finished h b K f B) ≡ traces_noted h w b f (batch_traces w B)
traces_with Verifying h b K f B = refl
traces_with Constructive h b K f B = refl
traces_with Deep h b K f B = refl

-- from W and R on: the one has what it had, and behind it what the other has; of values and links both have the same
pub record IsAlong (W R W' R' : Batch) : Type 0 where
  pub values : W'.values ≡ R'.values
  pub seen : W'.seen ≡ R'.seen
  pub values_begin : Begins R.values R'.values
  pub seen_begin : Begins R.seen R'.seen
  pub entries : W'.entries ≡ W.entries ++ R'.entries
  pub traces : (w : Way) → batch_traces w W' ≡ batch_traces w W ++ batch_traces w R'
  pub chain : W'.chain ≡ W.chain
  pub starts : R'.start ≡ R.start
  pub gone : R'.gone ≡ R.gone
  pub stale : R'.stale ≡ R.stale
  pub unchained : R'.chain ≡ R.chain

-- the one that is cut has nothing yet but values and links
pub record IsBare (W R : Batch) : Type 0 where
  pub values : W.values ≡ R.values
  pub seen : W.seen ≡ R.seen
  pub entries : R.entries ≡ []
  pub traces : (w : Way) → batch_traces w R ≡ []
  pub chain : W.chain ≡ None
  pub unchained : R.chain ≡ None

none_along : (W R : Batch) → IsBare W R → IsAlong W R W R
none_along W R bare = record {
  values = bare.values;
  seen = bare.seen;
  values_begin = begins_self R.values;
  seen_begin = begins_self R.seen;
  entries = sym (ap (λ es. W.entries ++ es) bare.entries ∙ append-nil W.entries);
  traces = λ w. sym (ap (λ ts. batch_traces w W ++ ts) (bare.traces w) ∙ append-nil (batch_traces w W));
  chain = refl;
  starts = refl;
  gone = refl;
  stale = refl;
  unchained = refl;
}

module _ (h : How) (b : Book) (K : Kept) (W R : Batch) where
  one_along : (f : Finished) (V S : Batch) → IsAlong W R V S → IsAlong W R (with_finished h b K f V) (with_finished h b K f S)
  one_along f V S so = record {
    values = ap (values_noted K.values f) so.values;
    seen = ap (λ ls. cond (stays h K (task_made b f) f) ls (all_seen b K.seen (links_noted h f) ls)) so.seen;
    values_begin = begins_more R.values S.values (values_noted K.values f S.values) so.values_begin (value_begins K.values f S.values);
    seen_begin = begins_more R.seen S.seen (cond (stays h K (task_made b f) f) S.seen (all_seen b K.seen (links_noted h f) S.seen)) so.seen_begin (seen_on (stays h K (task_made b f) f));
    entries = ap (λ es. cond (stays h K (task_made b f) f) es (es ++ entry_noted h (task_made b f) f ∷ [])) so.entries ∙ none_behind (stays h K (task_made b f) f) W.entries S.entries (entry_noted h (task_made b f) f);
    traces = λ w. traces_with w h b K f V ∙ (ap (traces_noted h w b f) (so.traces w)
        ∙ (more_behind (has_run f.made && is_way h w) (batch_traces w W) (batch_traces w S) (trace_noted w (task_made b f) f)
        ∙ ap (λ ts. batch_traces w W ++ ts) (sym (traces_with w h b K f S))));
    chain = so.chain;
    starts = so.starts;
    gone = so.gone;
    stale = so.stale;
    unchained = so.unchained;
  }
    where
      seen_on : (t : Bool) → Begins S.seen (cond t S.seen (all_seen b K.seen (links_noted h f) S.seen))
      seen_on true = begins_self S.seen
      seen_on false = seen_begins b K.seen (links_noted h f) S.seen

  all_along : (fs : List Finished) (V S : Batch) → IsAlong W R V S → IsAlong W R (with_all h b K fs V) (with_all h b K fs S)
  all_along [] V S so = so
  all_along (f ∷ fs) V S so = all_along fs (with_finished h b K f V) (with_finished h b K f S) (one_along f V S so)

  pub part_along : (part : List Finished) → IsBare W R → IsAlong W R (with_all h b K part W) (with_all h b K part R)
  part_along part bare = all_along part W R (none_along W R bare)

-- so what is cut off is the rest of the one of all keys
pub along_cut : (W R W' R' : Batch) → IsBare W R → IsAlong W R W' R' → IsCut W' W (cut_off R R')
along_cut W R W' R' bare so = record {
  values = so.values ∙ (begins_rest R.values R'.values so.values_begin ∙ ap (λ vs. vs ++ drop (length R.values) R'.values) (sym bare.values));
  seen = so.seen ∙ (begins_rest R.seen R'.seen so.seen_begin ∙ ap (λ ls. ls ++ drop (length R.seen) R'.seen) (sym bare.seen));
  entries = so.entries;
  traces = λ w. so.traces w ∙ ap (λ ts. batch_traces w W ++ ts) (sym (traces_off w R R'));
  none = bare.chain;
  chain = so.chain ∙ (bare.chain ∙ sym (so.unchained ∙ bare.unchained));
}
  where
    traces_off : (w : Way) (R R' : Batch) → batch_traces w (cut_off R R') ≡ batch_traces w R'
    traces_off Verifying R R' = refl
    traces_off Constructive R R' = refl
    traces_off Deep R R' = refl
