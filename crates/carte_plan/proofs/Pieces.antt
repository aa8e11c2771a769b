-- A list in parts of one size, as it is cut from its front on.
use Rattle.std.proofs.Common.{Err, OnOk, Ok, Result, ◌≡◌, ◌⊎◌, ℕ, ◌<◌, ◌≤◌, List, [], ◌∷◌, ◌++◌, append-nil, append_assoc, arith, drop, suc, length, length-drop, map, refl, ap, sym, ◌∙◌, subst, take, inl, inr}
use Rattle.std.specs.List.{flat_map}
use Rattle.std.specs.Prelude.{IfOk}
use Rattle.std.proofs.lemmas.List.{take-append-drop}
use Rattle.std.proofs.lemmas.List.Concat.{flat_map-append}
use Rattle.carte_book.specs.Book.{Book}
use Rattle.carte_record.specs.declared.batch.Batch.{Batch}
use Rattle.carte_record.specs.declared.kept.Kept.{Kept}
use Rattle.carte_sound.specs.Held.{How}
use Rattle.carte_sound.specs.Parts.{AreParts, AreSized, full_part}
use Rattle.carte_note.specs.declared.finished.Finished.{Finished}
use Rattle.carte_note.specs.Right.{finishes_of, key_of, has_run}
use Rattle.carte_note.specs.Writes.{with_finished}
use Rattle.carte_plan.specs.Cuts.{AreCuts, cut_off, cuts, rest_of, with_all}

-- what a batch is behind the parts that were cut off
pub behind : How → Book → Kept → List (List Finished) → Batch → Batch
behind h b K [] B = B
behind h b K (part ∷ parts) B = behind h b K parts (rest_of (with_all h b K part B))

pub AllFull : List (List Finished) → Type 0
AllFull [] = Unit {0}
AllFull (part ∷ parts) = (length part ≡ full_part) × AllFull parts

-- some parts are cut off, and these keys are left
pub record IsCutting (h : How) (b : Book) (K : Kept) (all rest : List Finished) (old batch : Batch) (full : List Batch) : Type 0 where
  pub parts : List (List Finished)
  pub sizes : AllFull parts
  pub whole : flat_map (λ part. part) parts ++ rest ≡ all
  pub more : (parts ≡ []) ⊎ (0 < length rest)
  pub cut : full ≡ cuts h b K parts old
  pub left : batch ≡ behind h b K parts old

module _ (h : How) (b : Book) (K : Kept) where
  cuts_end : (parts : List (List Finished)) (part : List Finished) (B : Batch) → cuts h b K (parts ++ part ∷ []) B ≡ cuts h b K parts B ++ cut_off (behind h b K parts B) (with_all h b K part (behind h b K parts B)) ∷ []
  unfolding behind
  cuts_end [] part B = refl
  cuts_end (p ∷ ps) part B = ap (λ Bs. cut_off B (with_all h b K p B) ∷ Bs) (cuts_end ps part (rest_of (with_all h b K p B)))

  behind_end : (parts : List (List Finished)) (part : List Finished) (B : Batch) → behind h b K (parts ++ part ∷ []) B ≡ rest_of (with_all h b K part (behind h b K parts B))
  unfolding behind
  behind_end [] part B = refl
  behind_end (p ∷ ps) part B = behind_end ps part (rest_of (with_all h b K p B))

full_end : (parts : List (List Finished)) (part : List Finished) → AllFull parts → length part ≡ full_part → AllFull (parts ++ part ∷ [])
unfolding AllFull
full_end [] part all is = (is, tt)
full_end (p ∷ ps) part all is = (all.0, full_end ps part all.1 is)

flat_end : (parts : List (List Finished)) (part : List Finished) → flat_map (λ p. p) (parts ++ part ∷ []) ≡ flat_map (λ p. p) parts ++ part
flat_end parts part = flat_map-append (λ p. p) parts (part ∷ []) ∙ ap (λ xs. flat_map (λ p. p) parts ++ xs) (append-nil part)

sized_end : (parts : List (List Finished)) (rest : List Finished) → AllFull parts → (parts ≡ []) ⊎ (0 < length rest) → length rest ≤ full_part → AreSized (parts ++ rest ∷ [])
unfolding AllFull
sized_end [] rest all more few = few
sized_end (p ∷ []) rest all (inl none) few = cc
sized_end (p ∷ []) rest all (inr some) few = (all.0, some, few)
sized_end (p ∷ q ∷ ps) rest all (inl none) few = cc
sized_end (p ∷ q ∷ ps) rest all (inr some) few =
    let size : length q ≡ 256 = all.1.0 in
    let positive : 0 < length q = omega (arith, size) in
    (all.0, positive, sized_end (q ∷ ps) rest all.1 (inr some) few)

module _ (h : How) (b : Book) (K : Kept) (all : List Finished) (old : Batch) where
  pub cutting_starts : IsCutting h b K all all old old []
  unfolding behind AllFull
  cutting_starts = record { parts = []; sizes = tt; whole = refl; more = inl refl; cut = refl; left = refl }

  pub cutting_goes : (rest part more : List Finished) (batch next new : Batch) (full : List Batch) → IsCutting h b K all rest old batch full → full_part < length rest → part ≡ take full_part rest → more ≡ drop full_part rest → length part ≡ full_part
      → next ≡ cut_off batch (with_all h b K part batch) → new ≡ rest_of (with_all h b K part batch) → IsCutting h b K all more old new (full ++ next ∷ [])
  cutting_goes rest part more batch next new full so long front back size is goes =
      let positive : 0 < length (drop full_part rest) = omega (arith, long, length-drop full_part rest) in
      record {
        parts = so.parts ++ part ∷ [];
        sizes = full_end so.parts part so.sizes size;
        whole = ap (λ xs. xs ++ more) (flat_end so.parts part)
            ∙ (append_assoc (flat_map (λ p. p) so.parts) part more
            ∙ (ap (λ xs. flat_map (λ p. p) so.parts ++ xs) (ap (λ xs. xs ++ more) front ∙ (ap (λ xs. take full_part rest ++ xs) back ∙ take-append-drop full_part rest)) ∙ so.whole));
        more = inr (subst (λ xs. 0 < length xs) (sym back) positive);
        cut = ap (λ Bs. Bs ++ next ∷ []) so.cut ∙ (ap (λ C. cuts h b K so.parts old ++ C ∷ []) (is ∙ ap (λ C. cut_off C (with_all h b K part C)) so.left) ∙ sym (cuts_end h b K so.parts part old));
        left = goes ∙ (ap (λ C. rest_of (with_all h b K part C)) so.left ∙ sym (behind_end h b K so.parts part old));
      }

  pub cutting_ends : (rest : List Finished) (batch last : Batch) (full : List Batch) → IsCutting h b K all rest old batch full → length rest ≤ full_part → last ≡ cut_off batch (with_all h b K rest batch) → AreCuts h b K all old (full ++ last ∷ [])
  cutting_ends rest batch last full so few is = record {
    parts = so.parts ++ rest ∷ [];
    are_parts = record { whole = flat_end so.parts rest ∙ so.whole; sized = sized_end so.parts rest so.sizes so.more few };
    batches = ap (λ Bs. Bs ++ last ∷ []) so.cut ∙ (ap (λ C. cuts h b K so.parts old ++ C ∷ []) (is ∙ ap (λ C. cut_off C (with_all h b K rest C)) so.left) ∙ sym (cuts_end h b K so.parts rest old));
  }

-- one key more
pub all_end : (h : How) (b : Book) (K : Kept) (fs : List Finished) (f : Finished) (B : Batch) → with_all h b K (fs ++ f ∷ []) B ≡ with_finished h b K f (with_all h b K fs B)
all_end h b K [] f B = refl
all_end h b K (g ∷ gs) f B = all_end h b K gs f (with_finished h b K g B)

-- what was there before a part, counted
pub cut_same : (old B C : Batch) (v s : ℕ) → v ≡ length old.values → s ≡ length old.seen → B ≡ C → record B { values = drop v B.values; seen = drop s B.seen } ≡ cut_off old C
cut_same old B C v s values seen same =
    ap (λ n. record B { values = drop n B.values; seen = drop s B.seen }) values
    ∙ (ap (λ n. record B { values = drop (length old.values) B.values; seen = drop n B.seen }) seen ∙ ap (cut_off old) same)

-- what holds of an answer that is Ok
pub if_ok : {A E : Type 0} {P Q : A → Type 0} (r : Result A E) → ((x : A) → P x → Q x) → IfOk r P → IfOk r Q
if_ok (Ok x) f p = f x p
if_ok (Err e) f p = p

pub on_ok : {A E : Type 0} {P Q : Type 0} (r : Result A E) → (P → Q) → OnOk r P → OnOk r Q
on_ok (Ok x) f p = f p
on_ok (Err e) f p = p

-- the same of keys alone
pub finishes_append : (fs gs : List Finished) → finishes_of (fs ++ gs) ≡ finishes_of fs ++ finishes_of gs
finishes_append [] gs = refl
finishes_append (f ∷ fs) gs = ap (λ xs. (key_of f, has_run f.made) ∷ xs) (finishes_append fs gs)

finishes_length : (fs : List Finished) → length (finishes_of fs) ≡ length fs
finishes_length [] = refl
finishes_length (f ∷ fs) = ap suc (finishes_length fs)

finishes_flat : (parts : List (List Finished)) → flat_map (λ p. p) (map finishes_of parts) ≡ finishes_of (flat_map (λ p. p) parts)
finishes_flat [] = refl
finishes_flat (p ∷ ps) = ap (λ xs. finishes_of p ++ xs) (finishes_flat ps) ∙ sym (finishes_append p (flat_map (λ q. q) ps))

finishes_sized : (parts : List (List Finished)) → AreSized parts → AreSized (map finishes_of parts)
finishes_sized [] sized = sized
finishes_sized (p ∷ []) sized = subst (λ n. n ≤ full_part) (sym (finishes_length p)) sized
finishes_sized (p ∷ q ∷ ps) sized = (finishes_length p ∙ sized.0, subst (λ n. 0 < n) (sym (finishes_length q)) sized.1, finishes_sized (q ∷ ps) sized.2)

pub finishes_parts : (fs : List Finished) (parts : List (List Finished)) → AreParts fs parts → AreParts (finishes_of fs) (map finishes_of parts)
finishes_parts fs parts are = record { whole = finishes_flat parts ∙ ap finishes_of are.whole; sized = finishes_sized parts are.sized }
