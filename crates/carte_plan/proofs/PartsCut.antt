-- The batches that are cut off bring what the parts of the keys bring.
use Rattle.std.proofs.Common.{◌≡◌, ℕ, Bool, true, false, ◌&&◌, cond, None, List, [], ◌∷◌, ◌++◌, append-nil, append_assoc, map, refl, ap, sym, ◌∙◌, subst}
use Rattle.std.specs.List.{flat_map}
use Rattle.std.proofs.lemmas.List.{append_cancel_left}
use Rattle.carte_value.specs.Truths.{NoneTwice}
use Rattle.carte_value.proofs.Members.{among_left}
use Rattle.carte_book.specs.Book.{Book}
use Rattle.carte_record.specs.declared.batch.Batch.{Batch}
use Rattle.carte_record.specs.declared.kept.Kept.{Kept}
use Rattle.carte_record.specs.declared.start.Start.TheVariants.{GoOn}
use Rattle.carte_record.specs.declared.way.Way.{Way}
use Rattle.carte_record.specs.declared.way.Way.TheVariants.{Verifying, Constructive, Deep}
use Rattle.carte_record.specs.Folds.{batch_traces}
use Rattle.carte_record.specs.Kept.{SomeKept, kept_view}
use Rattle.carte_sound.specs.Begun.{Beginning, no_change}
use Rattle.carte_sound.specs.Carries.{Carries}
use Rattle.carte_sound.specs.Held.{How}
use Rattle.carte_sound.specs.LeadsTo.{marks_left, traces_made}
use Rattle.carte_sound.specs.Left.{Finishes, is_way, left}
use Rattle.carte_sound.specs.Parts.{AreOfParts, IsOfPart, later_chain}
use Rattle.carte_sound.specs.True.{trace_of}
use Rattle.carte_sound.proofs.Assembled.{carries_left}
use Rattle.carte_sound.proofs.Cut.{cut_carries}
use Rattle.carte_note.specs.declared.finished.Finished.{Finished}
use Rattle.carte_note.specs.Notes.{AreUnmarked}
use Rattle.carte_note.specs.Right.{AreRight, finishes_of, key_of, keys_in}
use Rattle.carte_note.specs.Writes.{with_finished}
use Rattle.carte_note.proofs.Noted.{noted, unmarked}
use Rattle.carte_plan.specs.Cuts.{AllUnmarked, cut_off, cuts, rest_of, with_all}
use Rattle.carte_plan.specs.Planned.{AreGiven, NotesAll}
use Rattle.carte_plan.proofs.Along.{IsBare, along_cut, part_along}
use Rattle.carte_plan.proofs.Growing.{one_noted}
use Rattle.carte_plan.proofs.Pieces.{finishes_append}

-- the front of keys that are given
right_before : (h : How) (M : SomeKept) (b : Book) (fs gs : List Finished) → AreRight h M b (fs ++ gs) → AreRight h M b fs
right_before h M b [] gs right = tt
right_before h M b (f ∷ fs) gs right = (right.0, right_before h M b fs gs right.1)

keys_append : (fs gs : List Finished) → keys_in (fs ++ gs) ≡ keys_in fs ++ keys_in gs
keys_append [] gs = refl
keys_append (f ∷ fs) gs = ap (λ ks. key_of f ∷ ks) (keys_append fs gs)

once_before : (js ks : List (List ℕ)) → NoneTwice (js ++ ks) → NoneTwice js
once_before [] ks once = tt
once_before (j ∷ js) ks once = ((λ among. once.0 (among_left js ks j among)), once_before js ks once.1)

given_before : (h : How) (M : SomeKept) (b : Book) (fs gs : List Finished) → AreGiven h M b (fs ++ gs) → AreGiven h M b fs
given_before h M b fs gs given = record { now = given.now; right = right_before h M b fs gs given.right; once = once_before (keys_in fs) (keys_in gs) (subst NoneTwice (keys_append fs gs) given.once) }

-- traces of keys behind others
traces_append : (h : How) (b : Book) (fs gs : Finishes) (w : Way) → traces_made h b (fs ++ gs) w ≡ traces_made h b fs w ++ traces_made h b gs w
traces_append h b [] gs w = refl
traces_append h b (f ∷ fs) gs w = on (f.1 && is_way h w) (traces_append h b fs gs w)
  where
    on : (t : Bool) → traces_made h b (fs ++ gs) w ≡ traces_made h b fs w ++ traces_made h b gs w → cond t (trace_of w b f.0 ∷ traces_made h b (fs ++ gs) w) (traces_made h b (fs ++ gs) w) ≡ cond t (trace_of w b f.0 ∷ traces_made h b fs w) (traces_made h b fs w) ++ traces_made h b gs w
    on true is = ap (λ ts. trace_of w b f.0 ∷ ts) is
    on false is = is

-- no entry that is written is stale
all_unmarked : (h : How) (b : Book) (K : Kept) (fs : List Finished) (B : Batch) → AreUnmarked B.entries → AreUnmarked (with_all h b K fs B).entries
all_unmarked h b K [] B are = are
all_unmarked h b K (f ∷ fs) B are = all_unmarked h b K fs (with_finished h b K f B) (unmarked h b K f B.entries are)

pub cuts_unmarked : (h : How) (b : Book) (K : Kept) (parts : List (List Finished)) (B : Batch) → AreUnmarked B.entries → AllUnmarked (cuts h b K parts B)
cuts_unmarked h b K [] B are = tt
cuts_unmarked h b K (part ∷ parts) B are = (all_unmarked h b K part B are, cuts_unmarked h b K parts (rest_of (with_all h b K part B)) (λ e nowhere. absurd nowhere))

rest_bare : (W R : Batch) → W.values ≡ R.values → W.seen ≡ R.seen → W.chain ≡ None → IsBare W (rest_of R)
rest_bare W R values seen chain = record { values = values; seen = seen; entries = refl; traces = none; chain = chain; unchained = refl }
  where
    none : (w : Way) → batch_traces w (rest_of R) ≡ []
    none Verifying = refl
    none Constructive = refl
    none Deep = refl

same_chain : (chain : List (List ℕ)) (parts : List Finishes) → later_chain chain chain parts ≡ chain
same_chain chain [] = refl
same_chain chain (part ∷ parts) = refl

-- O is what one batch of all keys begins with
module _ (h : How) (b : Book) (K : Kept) (O : Batch) (traceless : (w : Way) → batch_traces w O ≡ []) (entryless : AreUnmarked O.entries) (nothing : Carries b (kept_view K) (kept_view K) O) where
  noted_all : (before fs : List Finished) (W : Batch) → NotesAll h (kept_view K) b before O W → NotesAll h (kept_view K) b (before ++ fs) O (with_all h b K fs W)
  noted_all before [] W so = subst (λ gs. NotesAll h (kept_view K) b gs O W) (sym (append-nil before)) so
  noted_all before (f ∷ fs) W so =
      subst (λ gs. NotesAll h (kept_view K) b gs O (with_all h b K fs (with_finished h b K f W))) (append_assoc before (f ∷ []) fs)
      (noted_all (before ++ f ∷ []) fs (with_finished h b K f W)
      (one_noted h (kept_view K) b before f O W (with_finished h b K f W) so (noted h K b f W) (unmarked h b K f W.entries) refl refl refl))

  module _ (before part : List Finished) (W R : Batch) (given : AreGiven h (kept_view K) b (before ++ part)) (so : NotesAll h (kept_view K) b before O W) (bare : IsBare W R) where
    pub part_carries : Carries b (left h b (kept_view K) (finishes_of before) (kept_view K).chain) (left h b (kept_view K) (finishes_of before ++ finishes_of part) (kept_view K).chain) (cut_off R (with_all h b K part R))
    part_carries =
        let M = kept_view K in
        let all = finishes_of (before ++ part) in
        subst (λ fs. Carries b (left h b M (finishes_of before) M.chain) (left h b M fs M.chain) (cut_off R (with_all h b K part R))) (finishes_append before part)
        (cut_carries b M (left h b M (finishes_of before) M.chain) (left h b M all M.chain) (with_all h b K part W) W (cut_off R (with_all h b K part R))
        (along_cut W R (with_all h b K part W) (with_all h b K part R) bare (part_along h b K W R part bare))
        (carries_left h b M (finishes_of before) W (so.carries (given_before h M b before part given) nothing))
        (carries_left h b M all (with_all h b K part W) ((noted_all before part W so).carries given nothing)))

    pub part_traces : (w : Way) → batch_traces w (cut_off R (with_all h b K part R)) ≡ traces_made h b (finishes_of part) w
    part_traces w =
        let M = kept_view K in
        let old : batch_traces w W ≡ traces_made h b (finishes_of before) w = so.traces (given_before h M b before part given) nothing w ∙ ap (λ ts. ts ++ traces_made h b (finishes_of before) w) (traceless w) in
        let new : batch_traces w (with_all h b K part W) ≡ traces_made h b (finishes_of (before ++ part)) w = (noted_all before part W so).traces given nothing w ∙ ap (λ ts. ts ++ traces_made h b (finishes_of (before ++ part)) w) (traceless w) in
        let cut = (along_cut W R (with_all h b K part W) (with_all h b K part R) bare (part_along h b K W R part bare)).traces w in
        append_cancel_left (batch_traces w W) (batch_traces w (cut_off R (with_all h b K part R))) (traces_made h b (finishes_of part) w)
        (sym cut ∙ (new ∙ (ap (λ fs. traces_made h b fs w) (finishes_append before part) ∙ (traces_append h b (finishes_of before) (finishes_of part) w ∙ ap (λ ts. ts ++ traces_made h b (finishes_of part) w) (sym old)))))

    pub part_cut : (x : Beginning) → R.start ≡ GoOn → R.gone ≡ x.gone → R.stale ≡ marks_left (finishes_of part) x → AreUnmarked R.entries → IsOfPart h b (kept_view K) (finishes_of before) (finishes_of part) (kept_view K).chain x (cut_off R (with_all h b K part R))
    part_cut x starts gone stale are = record {
      starts = (part_along h b K W R part bare).starts ∙ starts;
      gone = (part_along h b K W R part bare).gone ∙ gone;
      stale = (part_along h b K W R part bare).stale ∙ stale;
      traces = part_traces;
      unmarked = all_unmarked h b K part R are;
      carries = part_carries;
    }

    pub rest_begins : IsBare (with_all h b K part W) (rest_of (with_all h b K part R))
    rest_begins = let so = part_along h b K W R part bare in rest_bare (with_all h b K part W) (with_all h b K part R) so.values so.seen (so.chain ∙ bare.chain)

  later_cut : (parts : List (List Finished)) (before : List Finished) (W R : Batch) → AreGiven h (kept_view K) b (before ++ flat_map (λ p. p) parts) → NotesAll h (kept_view K) b before O W → IsBare W R → R.start ≡ GoOn → R.gone ≡ [] → R.stale ≡ []
      → AreOfParts h b (kept_view K) (kept_view K).chain (finishes_of before) no_change (map finishes_of parts) (cuts h b K parts R)
  later_cut [] before W R given so bare starts gone stale = tt
  later_cut (part ∷ parts) before W R given so bare starts gone stale =
      let M = kept_view K in
      let all : AreGiven h M b ((before ++ part) ++ flat_map (λ p. p) parts) = subst (AreGiven h M b) (sym (append_assoc before part (flat_map (λ p. p) parts))) given in
      let now = given_before h M b (before ++ part) (flat_map (λ p. p) parts) all in (
        subst (λ ks. IsOfPart h b M (finishes_of before) (finishes_of part) ks no_change (cut_off R (with_all h b K part R))) (sym (same_chain M.chain (map finishes_of parts)))
            (part_cut before part W R now so bare no_change starts gone stale (subst AreUnmarked (sym bare.entries) (λ e nowhere. absurd nowhere))),
        subst (λ fs. AreOfParts h b M M.chain fs no_change (map finishes_of parts) (cuts h b K parts (rest_of (with_all h b K part R)))) (finishes_append before part)
            (later_cut parts (before ++ part) (with_all h b K part W) (rest_of (with_all h b K part R)) all (noted_all before part W so) (rest_begins before part W R now so bare) refl refl refl),
      )

  -- all of them, from the first on, whose marks are those that its part leaves
  pub parts_cut : (part : List Finished) (parts : List (List Finished)) (x : Beginning) → AreGiven h (kept_view K) b (part ++ flat_map (λ p. p) parts) → NotesAll h (kept_view K) b [] O O → IsBare O O → O.start ≡ GoOn → O.gone ≡ x.gone → O.stale ≡ marks_left (finishes_of part) x
      → AreOfParts h b (kept_view K) (kept_view K).chain [] x (map finishes_of (part ∷ parts)) (cuts h b K (part ∷ parts) O)
  parts_cut part parts x given so bare starts gone stale =
      let M = kept_view K in
      let now = given_before h M b part (flat_map (λ p. p) parts) given in (
        subst (λ ks. IsOfPart h b M [] (finishes_of part) ks x (cut_off O (with_all h b K part O))) (sym (same_chain M.chain (map finishes_of parts)))
            (part_cut [] part O O now so bare x starts gone stale entryless),
        later_cut parts part (with_all h b K part O) (rest_of (with_all h b K part O)) given (noted_all [] part O so) (rest_begins [] part O O now so bare) refl refl refl,
      )
