-- From the batches of a build in parts to what they lead to.
use Rattle.std.proofs.Common.{◌≡◌, ℕ, take, List, [], ◌∷◌, ◌++◌, map, append-nil, refl, ap, sym, ◌∙◌, subst}
use Rattle.std.specs.List.{flat_map}
use Rattle.std.proofs.Math.Seq.{take-append_seam}
use Rattle.carte_book.specs.Book.{Book}
use Rattle.carte_mark.specs.declared.base.Begun.{Begun}
use Rattle.carte_mark.specs.Bases.{BeginsWith, beginning_of}
use Rattle.carte_record.specs.declared.batch.Batch.{Batch}
use Rattle.carte_record.specs.declared.kept.Kept.{Kept}
use Rattle.carte_record.specs.Kept.{SomeKept, kept_view}
use Rattle.carte_table.proofs.Fronts.{take_whole}
use Rattle.carte_sound.specs.Begun.{Beginning, IsBeginning, begin, no_change}
use Rattle.carte_sound.specs.Held.{How}
use Rattle.carte_sound.specs.LeadsTo.{chain_behind, chain_stays, marks_left}
use Rattle.carte_sound.specs.Left.{Finishes, keys_of, left}
use Rattle.carte_sound.specs.Parts.{AreOfParts, AreParts, BringsParts, IsOfPart, full_part}
use Rattle.carte_note.specs.declared.finished.Finished.{Finished}
use Rattle.carte_note.specs.Notes.{AreUnmarked}
use Rattle.carte_note.specs.Right.{finishes_of}
use Rattle.carte_plan.specs.Cuts.{AllUnmarked, AreCuts, PlansParts, PlansPartsChained, cuts}
use Rattle.carte_plan.specs.Planned.{AreGiven, IsBuilt, PutsChain, opening}
use Rattle.carte_plan.proofs.Chained.{puts_carries, puts_gone, puts_stale, puts_start, puts_unmarked, puts_ways}
use Rattle.carte_plan.proofs.Growing.{none_noted}
use Rattle.carte_plan.proofs.Leading.{given_by, open_none, opening_carries}
use Rattle.carte_plan.proofs.PartsCut.{cuts_unmarked, parts_cut}
use Rattle.carte_plan.proofs.Pieces.{finishes_parts}

-- the first part is the front of the keys
first_part : (fs part : List Finished) (parts : List (List Finished)) → AreParts fs (part ∷ parts) → take full_part fs ≡ part
first_part fs part [] are =
    let same : part ≡ fs = sym (append-nil part) ∙ are.whole in
    subst (λ gs. take full_part gs ≡ part) same (take_whole full_part part are.sized)
first_part fs part (next ∷ parts) are =
    let rest = flat_map (λ p. p) (next ∷ parts) in
    subst (λ gs. take full_part gs ≡ part) are.whole (subst (λ n. take n (part ++ rest) ≡ part) are.sized.0 (take-append_seam part rest))

-- what is cut off a batch that has the dropped names and the marks alone
opened_cut : (h : How) (b : Book) (K : Kept) (x : Beginning) (fs : List Finished) (parts : List (List Finished)) → AreParts fs parts → AreGiven h (kept_view K) b fs
    → AreOfParts h b (kept_view K) (kept_view K).chain [] x (map finishes_of parts) (cuts h b K parts (opening x.gone (marks_left (finishes_of (take full_part fs)) x)))
opened_cut h b K x fs [] are given = absurd are.sized
opened_cut h b K x fs (part ∷ parts) are given =
    let stale = marks_left (finishes_of (take full_part fs)) x in
    let O = opening x.gone stale in
    parts_cut h b K O (open_none x.gone stale) (λ e nowhere. absurd nowhere) (opening_carries b (kept_view K) x.gone stale) part parts x
    (subst (AreGiven h (kept_view K) b) (sym are.whole) given) (none_noted h (kept_view K) b O)
    (record { values = refl; seen = refl; entries = refl; traces = open_none x.gone stale; chain = refl; unchained = refl })
    refl refl (ap (λ gs. marks_left (finishes_of gs) x) (first_part fs part parts are))

pub all_parts_planned : (h : How) (K : SomeKept) (lists : Kept) (b : Book) (x : Begun) (fs : List Finished) (old : Batch) (Bs : List Batch) → BeginsWith K b x (kept_view lists)
    → old ≡ opening x.gone (marks_left (finishes_of (take full_part fs)) (beginning_of x)) → AreCuts h b lists fs old Bs → PlansParts h K b (beginning_of x) fs Bs
all_parts_planned h K lists b x fs old Bs begins is are = record {
  parts = map finishes_of are.parts;
  are_parts = finishes_parts fs are.parts are.are_parts;
  batches = λ given.
      let y = beginning_of x in
      let cut = opened_cut h b lists y fs are.parts are.are_parts (subst (λ L. AreGiven h L b fs) (sym begins.base) given) in
      subst (λ L. AreOfParts h b L L.chain [] y (map finishes_of are.parts) Bs) begins.base
      (subst (AreOfParts h b (kept_view lists) (kept_view lists).chain [] y (map finishes_of are.parts)) (sym (are.batches ∙ ap (cuts h b lists are.parts) is)) cut);
}

-- no entry of them is stale
pub all_cuts_unmarked : (h : How) (b : Book) (K : Kept) (fs : List Finished) (gs ms : List (List ℕ)) (old : Batch) (Bs : List Batch) → old ≡ opening gs ms → AreCuts h b K fs old Bs → AllUnmarked Bs
all_cuts_unmarked h b K fs gs ms old Bs is are = subst AllUnmarked (sym are.batches) (cuts_unmarked h b K are.parts old (subst (λ (B : Batch). AreUnmarked B.entries) (sym is) (λ e nowhere. absurd nowhere)))

-- what they lead to
pub parts_lead : (h : How) (done : SomeKept → List ℕ → Type 0) (K : SomeKept) (b : Book) (x : Beginning) (fs : List Finished) (Bs : List Batch) → IsBeginning K b x → PlansParts h K b x fs Bs → IsBuilt h K b x (done (begin K x)) fs → BringsParts h done chain_stays K b Bs
parts_lead h done K b x fs Bs begins plan built = record {
  begun = x;
  begins = begins;
  finished = finishes_of fs;
  order = built.order;
  parts = plan.parts;
  are_parts = plan.are_parts;
  batches = plan.batches (given_by h done K b x fs built);
}

-- the chain is put into the last of them
chained_part : (h : How) (b : Book) (M : SomeKept) (before part : Finishes) (chain : List (List ℕ)) (x : Beginning) (B C : Batch) → PutsChain M.chain chain B C → IsOfPart h b M before part M.chain x B → IsOfPart h b M before part chain x C
chained_part h b M before part chain x B C puts p = record {
  starts = puts_start M.chain chain B C puts ∙ p.starts;
  gone = puts_gone M.chain chain B C puts ∙ p.gone;
  stale = puts_stale M.chain chain B C puts ∙ p.stale;
  traces = λ w. puts_ways M.chain chain B C puts w ∙ p.traces w;
  unmarked = puts_unmarked M.chain chain B C puts p.unmarked;
  carries = puts_carries b (left h b M before M.chain) (left h b M (before ++ part) M.chain) chain B C puts p.carries;
}

module _ (h : How) (b : Book) (M : SomeKept) (chain : List (List ℕ)) (last new : Batch) (puts : PutsChain M.chain chain last new) where
  none_of : (before : Finishes) (x : Beginning) (full : List Batch) → AreOfParts h b M M.chain before x [] (full ++ last ∷ []) → ⊥
  none_of before x [] are = are
  none_of before x (B ∷ full) are = are

  last_chained : (full : List Batch) (parts : List Finishes) (before : Finishes) (x : Beginning) → AreOfParts h b M M.chain before x parts (full ++ last ∷ []) → AreOfParts h b M chain before x parts (full ++ new ∷ [])
  last_chained full [] before x are = absurd (none_of before x full are)
  last_chained [] (part ∷ []) before x are = (chained_part h b M before part chain x last new puts are.0, tt)
  last_chained [] (part ∷ next ∷ parts) before x are = absurd are.1
  last_chained (B ∷ full) (part ∷ []) before x are = absurd (none_of (before ++ part) no_change full are.1)
  last_chained (B ∷ full) (part ∷ next ∷ parts) before x are = (are.0, last_chained full (next ∷ parts) (before ++ part) no_change are.1)

pub last_unmarked : (old chain : List (List ℕ)) (full : List Batch) (last new : Batch) → PutsChain old chain last new → AllUnmarked (full ++ last ∷ []) → AllUnmarked (full ++ new ∷ [])
last_unmarked old chain [] last new puts are = (puts_unmarked old chain last new puts are.0, tt)
last_unmarked old chain (B ∷ full) last new puts are = (are.0, last_unmarked old chain full last new puts are.1)

pub parts_chained : (h : How) (done : SomeKept → List ℕ → Type 0) (K : SomeKept) (b : Book) (x : Beginning) (fs : List Finished) (chain : List (List ℕ)) (Cs : List Batch) → IsBeginning K b x → PlansPartsChained h K b x fs chain Cs → IsBuilt h K b x (done (begin K x)) fs
    → chain ≡ chain_behind (keys_of (finishes_of fs)) (begin K x).chain → BringsParts h done chain_behind K b Cs
parts_chained h done K b x fs chain Cs begins (Bs, plan, puts) built is =
    let M = begin K x in
    let old = subst (AreOfParts h b M M.chain [] x plan.parts) puts.before (plan.batches (given_by h done K b x fs built)) in
    let new = last_chained h b M chain puts.last puts.chained puts.puts puts.full plan.parts [] x old in
    record {
      begun = x;
      begins = begins;
      finished = finishes_of fs;
      order = built.order;
      parts = plan.parts;
      are_parts = plan.are_parts;
      batches = subst (λ ks. AreOfParts h b M ks [] x plan.parts Cs) is (subst (AreOfParts h b M chain [] x plan.parts) (sym puts.behind) new);
    }
