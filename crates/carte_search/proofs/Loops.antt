-- The loop over the names met.
use Rattle.std.proofs.Common.{◌≡◌, ℕ, zero, suc, ◌+◌, ◌≤◌, List, [], ◌∷◌, ◌++◌, length, slice_get, get_or, Option, Some, None, refl, ap, sym, ◌∙◌, subst, inl, inr, arith, append_assoc}
use Rattle.std.proofs.lemmas.List.{append-nil}
use Rattle.std.proofs.lemmas.Option.{slice_get_within, slice_get-get_or, slice_get_read}
use Rattle.carte_search.specs.Paths.{IsFirstPath, NoPath}
use Rattle.carte_search.specs.declared.search.Met.{Met}
use Rattle.carte_search.specs.Search.{Graph, HasNodes, Unvisited, Trail, Picks, Meets, place, trails, met_from, LinksBack, unwound}
use Rattle.carte_search.proofs.Places.{in_either, each_before}
use Rattle.carte_search.proofs.Searching.{IsSearch, at_first, step}
use Rattle.carte_search.proofs.FirstPaths.{no_path, first_path}
use Rattle.carte_search.proofs.Linked.{length_onto, trail_of, root_trail, trail_at, trails_more}

-- what holds before the name at a place is looked up
pub record IsSearching (G : Graph) (unvisited : Unvisited) (met : List Met) (at : ℕ) : Type 0 where
  pub links : LinksBack met
  pub search : IsSearch G unvisited (trails met) (at + 1)

length_trails : (met : List Met) → length (trails met) ≡ length met + 1
length_trails met = omega (arith, length_onto ([] ∷ []) met)

from_at : (from : Option ℕ) (ks : List (List ℕ)) (i : ℕ) (m : Met) → slice_get (met_from from ks) i ≡ Some m → m.from ≡ from
from_at from [] i m at = cc
from_at from (k ∷ ks) zero m at = cc
from_at from (k ∷ ks) (suc i) m at = from_at from ks i m at

links_more : (met : List Met) (from : Option ℕ) (ks : List (List ℕ)) → LinksBack met → place from ≤ length met → LinksBack (met ++ met_from from ks)
links_more met from ks links back i m at = elim (in_either met (met_from from ks) i m at) [
  | inl old ↦ links i m old
  | inr later ↦ let same : m.from ≡ from = from_at from ks later.by m later.there in rw same (omega (arith, later.is))
]

module _ (G : Graph) (unvisited : Unvisited) (met : List Met) (at : ℕ) (m : Met) (s : IsSearching G unvisited met at) (here : slice_get met at ≡ Some m) where
  trail_here : get_or (trails met) (at + 1) [] ≡ trail_of (trails met) m
  trail_here = trail_at met at m s.links here

  found_here : slice_get (trails met) (at + 1) ≡ Some (trail_of (trails met) m)
  found_here = slice_get-get_or (trails met) (at + 1) [] (omega (arith, length_trails met, slice_get_within met at m here)) ∙ ap Some trail_here

  pub goes_on : (unvisited' : Unvisited) (met' : List Met) (ks : List (List ℕ)) → ¬ (G.is_goal m.name) → ks ≡ G.nexts m.name → Meets unvisited unvisited' met met' ks (Some at) → IsSearching G unvisited' met' (at + 1)
  goes_on unvisited' met' ks open_on are g = record {
    links = subst LinksBack (sym g.behind) (links_more met (Some at) g.next.keys s.links (omega (arith, slice_get_within met at m here)));
    search = subst (λ (n : ℕ). IsSearch G unvisited' (trails met') n) count (subst (λ (ts : List Trail). IsSearch G unvisited' ts (suc (at + 1))) (sym longer) stepped);
  }
    where
      count : suc (at + 1) ≡ at + 1 + 1
      count = omega arith

      longer : trails met' ≡ trails met ++ each_before (trail_of (trails met) m) g.next.keys
      longer = ap trails g.behind ∙ trails_more met (Some at) (trail_of (trails met) m) g.next.keys (omega (arith, length_trails met, slice_get_within met at m here)) trail_here

      stepped : IsSearch G unvisited' (trails met ++ each_before (trail_of (trails met) m) g.next.keys) (suc (at + 1))
      stepped = step G unvisited unvisited' g.next (trails met) (at + 1) (trail_of (trails met) m) s.search found_here open_on (subst (λ (names : List (List ℕ)). Picks unvisited unvisited' g.next names) are g.picks) g.ordered

  pub found_first : HasNodes G.nexts G.is_goal G.nodes → (path : List (List ℕ)) → G.is_goal m.name → path ≡ unwound (get_or (trails met) (at + 1) []) [] → IsFirstPath G.nexts G.is_goal G.starts path
  found_first has path goal is = subst (λ (p : List (List ℕ)). IsFirstPath G.nexts G.is_goal G.starts p) (sym (is ∙ ap (λ t. unwound t []) trail_here))
      (first_path G has unvisited (trails met) (at + 1) s.search (omega arith) m.name (get_or (trails met) (place m.from) []) found_here goal)

pub starts : (G : Graph) (unvisited unvisited' : Unvisited) (met met' : List Met) → unvisited ≡ G.nodes → met ≡ [] → Meets unvisited unvisited' met met' G.starts None → IsSearching G unvisited' met' 0
starts G unvisited unvisited' met met' nodes none g = record {
  links = subst LinksBack (sym behind) (links_more [] None g.next.keys no_links (omega arith));
  search = subst (λ (ts : List Trail). IsSearch G unvisited' ts 1) (sym longer) (step G unvisited unvisited' g.next ([] ∷ []) 0 [] (subst (λ (u : Unvisited). IsSearch G u ([] ∷ []) 0) (sym nodes) (at_first G)) refl tt g.picks g.ordered);
}
  where
    behind : met' ≡ met_from None g.next.keys
    behind = g.behind ∙ ap (λ ms. ms ++ met_from None g.next.keys) none

    no_links : LinksBack []
    no_links i m at = cc

    longer : trails met' ≡ ([] ∷ []) ++ each_before [] g.next.keys
    longer = ap trails behind ∙ trails_more [] None [] g.next.keys (omega arith) refl

pub none_left : (G : Graph) → HasNodes G.nexts G.is_goal G.nodes → (unvisited : Unvisited) (met : List Met) (at : ℕ) → IsSearching G unvisited met at → length met ≤ at → NoPath G.nexts G.is_goal G.starts
none_left G has unvisited met at s past = no_path G has unvisited (trails met) (at + 1) s.search (omega arith) (omega (arith, length_trails met))

-- one step back
pub step_back : (met : List Met) (next : Option ℕ) (at : ℕ) (m : Met) (k : List ℕ) (names names' : List (List ℕ)) (all : Trail) → LinksBack met → next ≡ Some at → m ≡ get_or met at m → k ≡ m.name → names' ≡ names ++ k ∷ [] → place next ≤ length met → names ++ get_or (trails met) (place next) [] ≡ all → (place m.from ≤ length met) × (names' ++ get_or (trails met) (place m.from) [] ≡ all)
step_back met next at m k names names' all links is read name grown within so =
    let below : at + 1 ≤ length met = rw is at within in
    let here = slice_get_read met (length met) at m refl (omega arith) read in (
      omega (arith, links at m here),
      rw (grown, name) (append_assoc names (m.name ∷ []) (get_or (trails met) (place m.from) []) ∙ ap (λ t. names ++ t) (sym (trail_at met at m links here)) ∙ (rw is at so)),
    )

-- at a start
pub all_back : (met : List Met) (next : Option ℕ) (names : List (List ℕ)) (all : Trail) → next ≡ None → names ++ get_or (trails met) (place next) [] ≡ all → names ≡ all
all_back met next names all is so = sym (append-nil names) ∙ ap (λ t. names ++ t) (sym (root_trail met)) ∙ rw is at so

unwound_last : (p : Trail) (k : List ℕ) (ks : List (List ℕ)) → unwound (p ++ k ∷ []) ks ≡ k ∷ unwound p ks
unwound_last [] k ks = refl
unwound_last (j ∷ p) k ks = unwound_last p k (j ∷ ks)

-- the oldest name moves from the trail to the path
pub one_reversed : (path path' : List (List ℕ)) (p p' : Trail) (k : List ℕ) (all : List (List ℕ)) → path' ≡ path ++ k ∷ [] → p ≡ p' ++ k ∷ [] → path ++ unwound p [] ≡ all → path' ++ unwound p' [] ≡ all
one_reversed path path' p p' k all grown shrunk so =
    rw grown (append_assoc path (k ∷ []) (unwound p' []) ∙ ap (λ ks. path ++ ks) (sym (unwound_last p' k [])) ∙ ap (λ q. path ++ unwound q []) (sym shrunk) ∙ so)
