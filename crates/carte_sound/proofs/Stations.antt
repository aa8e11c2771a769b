-- What is kept once some batches of a build were applied.
use Rattle.std.proofs.Common.{◌≡◌, ℕ, Bool, List, [], ◌∷◌, ◌++◌, Option, append-nil, append_assoc, refl, ap, sym, ◌∙◌, subst}
use Rattle.std.proofs.Math.Path.{fun_ext}
use Rattle.std.specs.List.{flat_map}
use Rattle.carte_book.specs.Book.{Book}
use Rattle.carte_record.specs.declared.batch.Batch.{Batch}
use Rattle.carte_record.specs.declared.entry.Entry.{Entry}
use Rattle.carte_record.specs.declared.start.Start.TheVariants.{GoOn}
use Rattle.carte_record.specs.declared.way.Way.TheVariants.{Verifying, Constructive, Deep}
use Rattle.carte_record.specs.Folds.{applied, apply}
use Rattle.carte_record.specs.Kept.{SomeKept}
use Rattle.carte_sound.specs.Begun.{Beginning, begin, no_change}
use Rattle.carte_sound.specs.Carries.{Carries}
use Rattle.carte_sound.specs.Held.{How, dirty, tracing}
use Rattle.carte_sound.specs.Left.{Finishes, add, add_all, left}
use Rattle.carte_sound.specs.Parts.{AreOfParts, IsOfPart, later_chain}
use Rattle.carte_sound.proofs.Applied.{difference_applied}
use Rattle.carte_sound.proofs.Emptied.{unmarked}
use Rattle.carte_sound.proofs.Rebased.{with_chain}

-- finished keys know no chain
chained_add : (h : How) (b : Book) (K : SomeKept) (chain : List (List ℕ)) (k : List ℕ) (ran : Bool) → add h b (with_chain K chain) k ran ≡ with_chain (add h b K k ran) chain
chained_add dirty b K chain k ran = refl
chained_add (tracing Verifying) b K chain k ran = refl
chained_add (tracing Constructive) b K chain k ran = refl
chained_add (tracing Deep) b K chain k ran = refl

chained_adds : (h : How) (b : Book) (K : SomeKept) (chain : List (List ℕ)) (fs : Finishes) → add_all h b (with_chain K chain) fs ≡ with_chain (add_all h b K fs) chain
chained_adds h b K chain [] = refl
chained_adds h b K chain (f ∷ fs) = ap (λ L. add_all h b L fs) (chained_add h b K chain f.0 f.1) ∙ chained_adds h b (add h b K f.0 f.1) chain fs

pub adds_append : (h : How) (b : Book) (K : SomeKept) (fs gs : Finishes) → add_all h b K (fs ++ gs) ≡ add_all h b (add_all h b K fs) gs
adds_append h b K [] gs = refl
adds_append h b K (f ∷ fs) gs = adds_append h b (add h b K f.0 f.1) fs gs

-- what all the keys leave, from a station on
pub left_goes_on : (h : How) (b : Book) (M : SomeKept) (fs gs : Finishes) (chain between : List (List ℕ)) → left h b M (fs ++ gs) chain ≡ left h b (left h b M fs between) gs chain
left_goes_on h b M fs gs chain between =
    ap (λ X. with_chain X chain) (adds_append h b M fs gs)
    ∙ sym (ap (λ X. with_chain X chain) (chained_adds h b (add_all h b M fs) between gs))

-- where nothing is marked and nothing dropped a build begins with what is kept
begin_again : (L : SomeKept) → begin L no_change ≡ L
begin_again L = ap (λ (f : List ℕ → Option Entry). record L { entries = f }) (fun_ext (λ k. unmarked (L.entries k)))

-- a batch that goes on from a station, and marks and drops nothing
pub later_applied : (h : How) (b : Book) (L : SomeKept) (gs : Finishes) (chain : List (List ℕ)) (B : Batch) → B.start ≡ GoOn → B.gone ≡ [] → B.stale ≡ [] → Carries b L (left h b L gs chain) B → apply B L ≡ left h b L gs chain
later_applied h b L gs chain B start gone stale carries =
    let same = begin_again L in
    subst (λ X. apply B L ≡ left h b X gs chain) same
    (difference_applied h b L no_change gs chain B start gone stale (subst (λ X. Carries b X (left h b X gs chain) B) (sym same) carries))

-- the batch of the first part, and that of a later one
pub first_applied : (h : How) (b : Book) (K : SomeKept) (x : Beginning) (part : Finishes) (chain : List (List ℕ)) (B : Batch) → IsOfPart h b (begin K x) [] part chain x B → apply B K ≡ left h b (begin K x) part chain
first_applied h b K x part chain B p = difference_applied h b K x part chain B p.starts p.gone p.stale p.carries

pub part_applied : (h : How) (b : Book) (M : SomeKept) (before part : Finishes) (chain : List (List ℕ)) (B : Batch) → IsOfPart h b M before part chain no_change B → apply B (left h b M before M.chain) ≡ left h b M (before ++ part) chain
part_applied h b M before part chain B p =
    let L = left h b M before M.chain in
    let goes = left_goes_on h b M before part chain M.chain in
    later_applied h b L part chain B p.starts p.gone p.stale (subst (λ N. Carries b L N B) goes p.carries) ∙ sym goes

-- behind some batches of these parts, the keys of some parts are left
pub record IsBehind (h : How) (b : Book) (M : SomeKept) (chain : List (List ℕ)) (before : Finishes) (parts : List Finishes) (L : SomeKept) : Type 0 where
  pub done : List Finishes
  pub after : List Finishes
  pub all : done ++ after ≡ parts
  pub station : L ≡ left h b M (before ++ flat_map (λ part. part) done) (later_chain M.chain chain after)

module _ (h : How) (b : Book) (M : SomeKept) (chain : List (List ℕ)) where
  step : (before part : Finishes) (parts : List Finishes) (B : Batch) (L : SomeKept) → L ≡ left h b M before M.chain → IsOfPart h b M before part (later_chain M.chain chain parts) no_change B → apply B L ≡ left h b M (before ++ part) (later_chain M.chain chain parts)
  step before part parts B L is p = ap (apply B) is ∙ part_applied h b M before part (later_chain M.chain chain parts) B p

  pub some_applied : (parts : List Finishes) (some rest : List Batch) (before : Finishes) (L : SomeKept) → L ≡ left h b M before (later_chain M.chain chain parts) → AreOfParts h b M chain before no_change parts (some ++ rest) → IsBehind h b M chain before parts (applied L some)
  some_applied parts [] rest before L is are = record { done = []; after = parts; all = refl; station = is ∙ ap (λ fs. left h b M fs (later_chain M.chain chain parts)) (sym (append-nil before)) }
  some_applied [] (B ∷ some) rest before L is are = absurd are
  some_applied (part ∷ parts) (B ∷ some) rest before L is are =
      let x = some_applied parts some rest (before ++ part) (apply B L) (step before part parts B L is are.0) are.1 in
      record {
        done = part ∷ x.done;
        after = x.after;
        all = ap (λ ps. part ∷ ps) x.all;
        station = x.station ∙ ap (λ fs. left h b M fs (later_chain M.chain chain x.after)) (append_assoc before part (flat_map (λ p. p) x.done));
      }

  pub all_applied : (parts : List Finishes) (Bs : List Batch) (before : Finishes) (L : SomeKept) → L ≡ left h b M before (later_chain M.chain chain parts) → AreOfParts h b M chain before no_change parts Bs → applied L Bs ≡ left h b M (before ++ flat_map (λ p. p) parts) chain
  all_applied [] [] before L is are = is ∙ ap (λ fs. left h b M fs chain) (sym (append-nil before))
  all_applied [] (B ∷ Bs) before L is are = absurd are
  all_applied (part ∷ parts) [] before L is are = absurd are
  all_applied (part ∷ parts) (B ∷ Bs) before L is are =
      all_applied parts Bs (before ++ part) (apply B L) (step before part parts B L is are.0) are.1
      ∙ ap (λ fs. left h b M fs chain) (append_assoc before part (flat_map (λ p. p) parts))
