-- The trails of the names met.
use Rattle.std.proofs.Common.{◌≡◌, ℕ, zero, suc, ◌+◌, ◌<◌, List, [], ◌∷◌, ◌++◌, length, slice_get, get_or, Option, Some, refl, ap, sym, ◌∙◌, arith, append_assoc}
use Rattle.std.proofs.Math.ListN.{get_or-append}
use Rattle.std.proofs.Math.Seq.{get_or-append_seam}
use Rattle.std.proofs.lemmas.List.{length-append, append-nil}
use Rattle.carte_search.specs.declared.search.Met.{Met}
use Rattle.carte_search.specs.Search.{Trail, place, trails_onto, trails, met_from, LinksBack}
use Rattle.carte_search.proofs.Places.{each_before}

-- the trail of one more name
abbrev pub trail_of : List Trail → Met → Trail
trail_of ts m = m.name ∷ get_or ts (place m.from) []

length_one : (ts : List Trail) (t : Trail) → length (ts ++ t ∷ []) ≡ length ts + 1
length_one ts t = length-append ts (t ∷ []) ∙ omega arith

pub length_onto : (ts : List Trail) (ms : List Met) → length (trails_onto ts ms) ≡ length ts + length ms
length_onto ts [] = omega arith
length_onto ts (m ∷ ms) = omega (arith, length_onto (ts ++ trail_of ts m ∷ []) ms, length_one ts (trail_of ts m))

-- those of before stay
kept : (ts : List Trail) (ms : List Met) (i : ℕ) → i < length ts → get_or (trails_onto ts ms) i [] ≡ get_or ts i []
kept ts [] i below = refl
kept ts (m ∷ ms) i below = kept (ts ++ trail_of ts m ∷ []) ms i (omega (arith, length_one ts (trail_of ts m))) ∙ get_or-append ts (trail_of ts m ∷ []) [] i below

-- a start's trail goes on from the one without names
pub root_trail : (met : List Met) → get_or (trails met) 0 [] ≡ []
root_trail met = kept ([] ∷ []) met 0 (omega arith)

onto_at : (ts : List Trail) (ms : List Met) (i n : ℕ) (m : Met) → slice_get ms i ≡ Some m → n ≡ length ts + i → place m.from < n → get_or (trails_onto ts ms) n [] ≡ trail_of (trails_onto ts ms) m
onto_at ts [] i n m at is back = cc
onto_at ts (l ∷ ms) zero n m at is back =
    let same : l ≡ m = cc in
    let within : n ≡ length ts = omega arith in
    let more = length_one ts (trail_of ts l) in
    let here : get_or (trails_onto ts (l ∷ ms)) n [] ≡ trail_of ts l = kept (ts ++ trail_of ts l ∷ []) ms n (omega arith) ∙ ap (λ j. get_or (ts ++ trail_of ts l ∷ []) j []) within ∙ get_or-append_seam ts (trail_of ts l) [] [] in
    let link : get_or (trails_onto ts (l ∷ ms)) (place m.from) [] ≡ get_or ts (place m.from) [] = kept (ts ++ trail_of ts l ∷ []) ms (place m.from) (omega arith) ∙ get_or-append ts (trail_of ts l ∷ []) [] (place m.from) (omega arith) in
    here ∙ ap (λ k. trail_of ts k) same ∙ ap (λ (t : Trail). m.name ∷ t) (sym link)
onto_at ts (l ∷ ms) (suc i) n m at is back = onto_at (ts ++ trail_of ts l ∷ []) ms i n m at (omega (arith, length_one ts (trail_of ts l))) back

-- the trail of a name goes on from that of the name that it comes from
pub trail_at : (met : List Met) (i : ℕ) (m : Met) → LinksBack met → slice_get met i ≡ Some m → get_or (trails met) (i + 1) [] ≡ trail_of (trails met) m
trail_at met i m links at = onto_at ([] ∷ []) met i (i + 1) m at (omega arith) (omega (arith, links i m at))

onto_both : (ts : List Trail) (ms ns : List Met) → trails_onto ts (ms ++ ns) ≡ trails_onto (trails_onto ts ms) ns
onto_both ts [] ns = refl
onto_both ts (m ∷ ms) ns = onto_both (ts ++ trail_of ts m ∷ []) ms ns

onto_from : (ts : List Trail) (from : Option ℕ) (p : Trail) (ks : List (List ℕ)) → place from < length ts → get_or ts (place from) [] ≡ p → trails_onto ts (met_from from ks) ≡ ts ++ each_before p ks
onto_from ts from p [] within is = sym (append-nil ts)
onto_from ts from p (k ∷ ks) within is =
    ap (λ (t : Trail). trails_onto (ts ++ (k ∷ t) ∷ []) (met_from from ks)) is
    ∙ onto_from (ts ++ (k ∷ p) ∷ []) from p ks (omega (arith, length_one ts (k ∷ p))) (get_or-append ts ((k ∷ p) ∷ []) [] (place from) within ∙ is)
    ∙ append_assoc ts ((k ∷ p) ∷ []) (each_before p ks)

pub trails_more : (met : List Met) (from : Option ℕ) (p : Trail) (ks : List (List ℕ)) → place from < length (trails met) → get_or (trails met) (place from) [] ≡ p → trails (met ++ met_from from ks) ≡ trails met ++ each_before p ks
trails_more met from p ks within is = onto_both ([] ∷ []) met (met_from from ks) ∙ onto_from (trails met) from p ks within is
