-- Columns of batches: what is kept after all batches is, list by list, what is kept after those of the columns.
use Rattle.std.proofs.Common.{◌≡◌, ℕ, true, List, [], ◌∷◌, ◌++◌, Option, Some, None, Result, Ok, Err, Vec, refl, sym, ◌∙◌, ap, subst, append_assoc, append-nil}
use Rattle.std.proofs.lemmas.Bool.{and_parts}
use Rattle.std.specs.Prelude.{if◌then◌else◌, option_map, unwrap_or}
use Rattle.std.specs.Option.{option_or}
use Rattle.std.specs.List.{list_all}
use Rattle.carte_name.specs.declared.NoMemory.{NoMemory}
use Rattle.carte_journal.specs.Frames.{BodyAt}
use Rattle.carte_value.specs.declared.digest.Digest.{Digest}
use Rattle.carte_value.specs.declared.link.Link.{Link}
use Rattle.carte_table.specs.Lookups.{first_value, link_in}
use Rattle.carte_record.specs.Folds.{applied, apply, is_among, started}
use Rattle.carte_record.specs.Kept.{SomeKept, kept_view, nothing_kept, staled, traces_in}
use Rattle.carte_record.specs.Lookups.{entry_in}
use Rattle.carte_record.specs.declared.batch.Batch.{Batch}
use Rattle.carte_record.specs.declared.entry.Entry.{Entry}
use Rattle.carte_record.specs.declared.kept.Kept.{Kept}
use Rattle.carte_record.specs.declared.start.Start.{Start}
use Rattle.carte_record.specs.declared.start.Start.TheVariants.{GoOn, Cleared}
use Rattle.carte_record.specs.declared.trace.Trace.{Trace}
use Rattle.carte_record.specs.declared.way.Way.{Way}
use Rattle.carte_record.specs.declared.way.Way.TheVariants.{Verifying, Constructive, Deep}
use Rattle.carte_record.specs.Ways.{TraceBy}
use Rattle.carte_state.specs.Columns.{AreColumns, HasEntriesOf, HasOthersOf, HasVerifyingOf, all_four, are_four, four_in, fours_at, fours_in, fours_of, is_any_four, is_four}
use Rattle.carte_state.specs.Folding.{IsFolded}
use Rattle.carte_state.specs.Parts.{AllPairs, AreFound, ReadsPart, bodies_in}
use Rattle.carte_state.specs.Versions.{Fours, Fresh, IsBatchOf, Phase}
use Rattle.carte_state.specs.declared.any.AnyBatch.{AnyBatch}
use Rattle.carte_state.specs.declared.any.AnyBatch.TheVariants.{One, Three, Four}
use Rattle.carte_state.specs.declared.columns.Columns.{Columns}
use Rattle.carte_state.specs.declared.parts.Found.{Found}
use Rattle.carte_state.specs.declared.parts.Part.{Part}
use Rattle.carte_state.proofs.Folds.{folded_both}
use Rattle.carte_state.proofs.Reading.{AreParts, pairs_end}
use Rattle.carte_state.proofs.Runs.{applied-append}

-- ---- one list of what is kept

-- what a batch begins with has the same of a list, where what was kept had
begins_with : {X : Type 0} (list : SomeKept → X) (s : Start) (K L : SomeKept) → list K ≡ list L → list (started s K) ≡ list (started s L)
begins_with list GoOn K L same = same
begins_with list Cleared K L same = refl

-- the same where two batches begin alike
module _ {X : Type 0} (list : SomeKept → X) (B C : Batch) (K L : SomeKept) (start : C.start ≡ B.start) (same : list L ≡ list K) where
  begun : list (started C.start L) ≡ list (started B.start K)
  begun = ap (λ s. list (started s L)) start ∙ begins_with list B.start L K same

-- what becomes of a list, by what the batch drops and brings
abbrev entries_by : List (List ℕ) → List (List ℕ) → List Entry → (List ℕ → Option Entry) → List ℕ → Option Entry
entries_by gone stale es f = λ k. option_map (staled (is_among stale k)) (option_or (entry_in es k) (if is_among gone k then None else f k))

abbrev seen_by : List (List ℕ) → List Link → (List ℕ → Option Digest) → List ℕ → Option Digest
seen_by gone ls f = λ k. option_or (link_in ls k) (if is_among gone k then None else f k)

abbrev traces_by : (w : Way) → List (List ℕ) → List (TraceBy w) → (List ℕ → List (TraceBy w)) → List ℕ → List (TraceBy w)
traces_by w gone ts f = λ k. traces_in w k ts (if is_among gone k then [] else f k)

-- each list is the same behind a batch and behind that of its column
module _ (B C : Batch) (K L : SomeKept) where
  entries_go : HasEntriesOf B C → L.entries ≡ K.entries → (apply C L).entries ≡ (apply B K).entries
  entries_go has same i = entries_by (has.gone i) (has.stale i) (has.entries i) (begun (λ M. M.entries) B C K L has.start same i)

  verifying_go : HasVerifyingOf B C → L.traces Verifying ≡ K.traces Verifying → (apply C L).traces Verifying ≡ (apply B K).traces Verifying
  verifying_go has same i = traces_by Verifying (has.gone i) (has.verifying i) (begun (λ M. M.traces Verifying) B C K L has.start same i)

  constructive_go : HasOthersOf B C → L.traces Constructive ≡ K.traces Constructive → (apply C L).traces Constructive ≡ (apply B K).traces Constructive
  constructive_go has same i = traces_by Constructive (has.gone i) (has.constructive i) (begun (λ M. M.traces Constructive) B C K L has.start same i)

  deep_go : HasOthersOf B C → L.traces Deep ≡ K.traces Deep → (apply C L).traces Deep ≡ (apply B K).traces Deep
  deep_go has same i = traces_by Deep (has.gone i) (has.deep i) (begun (λ M. M.traces Deep) B C K L has.start same i)

  seen_go : HasOthersOf B C → L.seen ≡ K.seen → (apply C L).seen ≡ (apply B K).seen
  seen_go has same i = seen_by (has.gone i) (has.seen i) (begun (λ M. M.seen) B C K L has.start same i)

  chain_go : HasOthersOf B C → L.chain ≡ K.chain → (apply C L).chain ≡ (apply B K).chain
  chain_go has same i = unwrap_or (has.chain i) (begun (λ M. M.chain) B C K L has.start same i)

  stored_go : HasOthersOf B C → L.stored ≡ K.stored → (apply C L).stored ≡ (apply B K).stored
  stored_go has same i = λ d. option_or (begun (λ M. M.stored) B C K L has.start same i d) (first_value (has.values i) d)

-- ---- all batches

-- a list that is the same behind each batch is so behind all
module _ {X : Type 0} (list : SomeKept → X) (R : Batch → Batch → Type 0)
    (go : (B C : Batch) (K L : SomeKept) → R B C → list L ≡ list K → list (apply C L) ≡ list (apply B K)) where
  all_go : (Bs Cs : List Batch) (K L : SomeKept) → AllPairs R Bs Cs → list L ≡ list K → list (applied L Cs) ≡ list (applied K Bs)
  all_go [] [] K L are same = same
  all_go [] (C ∷ Cs) K L never same = absurd never
  all_go (B ∷ Bs) [] K L never same = absurd never
  all_go (B ∷ Bs) (C ∷ Cs) K L are same = all_go Bs Cs (apply B K) (apply C L) are.1 (go B C K L are.0 same)

-- the lists of three that were made of columns are what all batches make
module _ (Bs : List Batch) (c : Columns) (are : AreColumns Bs c) (E V O : Kept)
    (es : kept_view E ≡ applied nothing_kept c.entries.items)
    (vs : kept_view V ≡ applied nothing_kept c.verifying.items)
    (os : kept_view O ≡ applied nothing_kept c.others.items) where
  made_of : {X : Type 0} (list : SomeKept → X) (R : Batch → Batch → Type 0)
      → ((B C : Batch) (K L : SomeKept) → R B C → list L ≡ list K → list (apply C L) ≡ list (apply B K))
      → (Cs : List Batch) → AllPairs R Bs Cs → (K : SomeKept) → K ≡ applied nothing_kept Cs → list K ≡ list (applied nothing_kept Bs)
  made_of list R go Cs pairs K is = ap list is ∙ all_go list R go Bs Cs nothing_kept nothing_kept pairs refl

  traces_are : (w : Way) → (kept_view (record O { entries = E.entries; verifying = V.verifying })).traces w ≡ (applied nothing_kept Bs).traces w
  traces_are Verifying = made_of (λ M. M.traces Verifying) HasVerifyingOf verifying_go c.verifying.items are.verifying (kept_view V) vs
  traces_are Constructive = made_of (λ M. M.traces Constructive) HasOthersOf constructive_go c.others.items are.others (kept_view O) os
  traces_are Deep = made_of (λ M. M.traces Deep) HasOthersOf deep_go c.others.items are.others (kept_view O) os

  lists_are : kept_view (record O { entries = E.entries; verifying = V.verifying }) ≡ applied nothing_kept Bs
  lists_are i = record {
    seen = made_of (λ M. M.seen) HasOthersOf seen_go c.others.items are.others (kept_view O) os i;
    entries = made_of (λ M. M.entries) HasEntriesOf entries_go c.entries.items are.entries (kept_view E) es i;
    traces = λ w. traces_are w i;
    chain = made_of (λ M. M.chain) HasOthersOf chain_go c.others.items are.others (kept_view O) os i;
    stored = made_of (λ M. M.stored) HasOthersOf stored_go c.others.items are.others (kept_view O) os i;
  }

  pub beside_is : (K : Kept) → K ≡ record O { entries = E.entries; verifying = V.verifying } → kept_view K ≡ applied nothing_kept Bs
  beside_is K is = ap kept_view is ∙ lists_are

-- ---- columns that grow

-- what is left of a batch out of which two columns were taken
pub others_left : (B M O : Batch) (es : List Entry) (ks : List (List ℕ)) (vs : List Trace) → M ≡ record B { entries = es; stale = ks } → O ≡ record M { verifying = vs } → HasOthersOf B O
others_left B M O es ks vs m o = record {
  start = ap (λ (C : Batch). C.start) o ∙ ap (λ (C : Batch). C.start) m;
  gone = ap (λ (C : Batch). C.gone) o ∙ ap (λ (C : Batch). C.gone) m;
  values = ap (λ (C : Batch). C.values) o ∙ ap (λ (C : Batch). C.values) m;
  seen = ap (λ (C : Batch). C.seen) o ∙ ap (λ (C : Batch). C.seen) m;
  constructive = ap (λ (C : Batch). C.constructive) o ∙ ap (λ (C : Batch). C.constructive) m;
  deep = ap (λ (C : Batch). C.deep) o ∙ ap (λ (C : Batch). C.deep) m;
  chain = ap (λ (C : Batch). C.chain) o ∙ ap (λ (C : Batch). C.chain) m;
}

-- a batch more, and one in each column
pub columns_end : (Bs : List Batch) (B E V O : Batch) (old new : Columns) → AreColumns Bs old → HasEntriesOf B E → HasVerifyingOf B V → HasOthersOf B O
    → new.entries.items ≡ old.entries.items ++ E ∷ [] → new.verifying.items ≡ old.verifying.items ++ V ∷ [] → new.others.items ≡ old.others.items ++ O ∷ []
    → AreColumns (Bs ++ B ∷ []) new
columns_end Bs B E V O old new are e v o es vs os = record {
  entries = subst (AllPairs HasEntriesOf (Bs ++ B ∷ [])) (sym es) (pairs_end HasEntriesOf Bs old.entries.items B E are.entries e);
  verifying = subst (AllPairs HasVerifyingOf (Bs ++ B ∷ [])) (sym vs) (pairs_end HasVerifyingOf Bs old.verifying.items B V are.verifying v);
  others = subst (AllPairs HasOthersOf (Bs ++ B ∷ [])) (sym os) (pairs_end HasOthersOf Bs old.others.items B O are.others o);
}

-- those of a body more
fours_in-end : (fs : List Found) (f : Found) → fours_in (fs ++ f ∷ []) ≡ fours_in fs ++ four_in f.batch
fours_in-end [] f = append-nil (four_in f.batch)
fours_in-end (g ∷ fs) f = ap (λ l. four_in g.batch ++ l) (fours_in-end fs f) ∙ sym (append_assoc (four_in g.batch) (fours_in fs) (four_in f.batch))

-- with none more
pub found_none : (c : Columns) (Bs : List Batch) → AreColumns Bs c → AreColumns (Bs ++ []) c
found_none c Bs are = subst (λ Cs. AreColumns Cs c) (sym (append-nil Bs)) are

-- with those of a body more
module _ (old mid new : Columns) (fs : List Found) (f : Found) (before : (Bs : List Batch) → AreColumns Bs old → AreColumns (Bs ++ fours_in fs) mid)
    (here : (Bs : List Batch) → AreColumns Bs mid → AreColumns (Bs ++ four_in f.batch) new) where
  pub found_end : (Bs : List Batch) → AreColumns Bs old → AreColumns (Bs ++ fours_in (fs ++ f ∷ [])) new
  found_end Bs are =
      subst (λ Cs. AreColumns Cs new) (append_assoc Bs (fours_in fs) (four_in f.batch) ∙ ap (λ l. Bs ++ l) (sym (fours_in-end fs f)))
      (here (Bs ++ fours_in fs) (before Bs are))

-- with those of a part more
module _ {Z : Type 0} where
  fours_of-end : (rs : List (Result (Vec Found Z) NoMemory)) (r : Result (Vec Found Z) NoMemory) → fours_of (rs ++ r ∷ []) ≡ fours_of rs ++ fours_at r
  fours_of-end [] r = append-nil (fours_at r)
  fours_of-end (q ∷ rs) r = ap (λ l. fours_at q ++ l) (fours_of-end rs r) ∙ sym (append_assoc (fours_at q) (fours_of rs) (fours_at r))

  pub part_end : (old new : Columns) (rs : List (Result (Vec Found Z) NoMemory)) (r : Result (Vec Found Z) NoMemory) → AreColumns (fours_of rs) old
      → ((Bs : List Batch) → AreColumns Bs old → AreColumns (Bs ++ fours_at r) new) → AreColumns (fours_of (rs ++ r ∷ [])) new
  part_end old new rs r are here = subst (λ Cs. AreColumns Cs new) (sym (fours_of-end rs r)) (here (fours_of rs) are)

-- ---- bodies that are all of kind 4

-- the first of kind 4 finds the same where nothing was made as where what was made is nothing
as_first : (bodies : List BodyAt) (q : Phase) → ¬ (bodies ≡ []) → IsFolded (Fours nothing_kept) bodies q → IsFolded Fresh bodies q
as_first [] q some folded = absurd (some refl)
as_first (body ∷ bodies) q some (One B, is, takes, rest) = absurd takes
as_first (body ∷ bodies) q some (Three B, is, takes, rest) = absurd takes
as_first (body ∷ bodies) q some (Four B, is, takes, rest) = (Four B, is, tt, rest)

-- behind what batches of that kind made
behind_one : (K : SomeKept) (body : BodyAt) (o : Option AnyBatch) → is_any_four o ≡ true → IsBatchOf body.1 o → IsFolded (Fours K) (body ∷ []) (Fours (applied K (four_in o)))
behind_one K body None four is = cc
behind_one K body (Some (One B)) four is = cc
behind_one K body (Some (Three B)) four is = cc
behind_one K body (Some (Four B)) four is = (Four B, is, tt, refl)

-- the same of many bodies
behind_founds : (K : SomeKept) (bodies : List BodyAt) (founds : List Found) → list_all is_four founds ≡ true → AreFound bodies founds
    → IsFolded (Fours K) bodies (Fours (applied K (fours_in founds)))
behind_founds K [] [] four are = refl
behind_founds K [] (f ∷ fs) four never = absurd never
behind_founds K (b ∷ bs) [] four never = absurd never
behind_founds K (b ∷ bs) (f ∷ fs) four are =
    let each = and_parts (is_four f) (list_all is_four fs) four in
    let L = applied K (four_in f.batch) in
    folded_both (Fours K) (Fours L) (Fours (applied K (four_in f.batch ++ fours_in fs))) (b ∷ []) bs (behind_one K b f.batch each.0 are.0.1)
    (subst (λ M. IsFolded (Fours L) bs (Fours M)) (sym (applied-append K (four_in f.batch) (fours_in fs))) (behind_founds L bs fs each.1 are.1))

-- and of those in parts
module _ {Z : Type 0} where
  behind_part : (K : SomeKept) (p : Part) (r : Result (Vec Found Z) NoMemory) → all_four r ≡ true → ReadsPart {Z = Z} p r
      → IsFolded (Fours K) p.bodies.items (Fours (applied K (fours_at r)))
  behind_part K p (Ok founds) four are = behind_founds K p.bodies.items founds.items four are
  behind_part K p (Err e) four is = cc

  behind_parts : (K : SomeKept) (ps : List Part) (rs : List (Result (Vec Found Z) NoMemory)) → are_four rs ≡ true → AreParts {Z = Z} ps rs
      → IsFolded (Fours K) (bodies_in ps) (Fours (applied K (fours_of rs)))
  behind_parts K [] [] four are = refl
  behind_parts K [] (r ∷ rs) four never = absurd never
  behind_parts K (p ∷ ps) [] four never = absurd never
  behind_parts K (p ∷ ps) (r ∷ rs) four are =
      let each = and_parts (all_four r) (are_four rs) four in
      let L = applied K (fours_at r) in
      folded_both (Fours K) (Fours L) (Fours (applied K (fours_at r ++ fours_of rs))) p.bodies.items (bodies_in ps) (behind_part K p r each.0 are.0)
      (subst (λ M. IsFolded (Fours L) (bodies_in ps) (Fours M)) (sym (applied-append K (fours_at r) (fours_of rs))) (behind_parts L ps rs each.1 are.1))

  -- what bodies of that kind alone make of nothing
  pub all_behind : (ps : List Part) (rs : List (Result (Vec Found Z) NoMemory)) → are_four rs ≡ true → ¬ (bodies_in ps ≡ []) → AreParts {Z = Z} ps rs
      → IsFolded Fresh (bodies_in ps) (Fours (applied nothing_kept (fours_of rs)))
  all_behind ps rs four some are = as_first (bodies_in ps) (Fours (applied nothing_kept (fours_of rs))) some (behind_parts nothing_kept ps rs four are)
