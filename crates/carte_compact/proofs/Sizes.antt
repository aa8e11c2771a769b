-- How long the live information is: it has one length, since names in order and what is found of them are one list.
use Rattle.std.proofs.Common.{◌≡◌, ◌≤◌, ℕ, ◌+◌, true, false, List, [], ◌∷◌, ◌++◌, Option, Some, None, Ok, length, map, reverse, refl, ap, sym, ◌∙◌, subst, inl, inr, ◌⊎◌, arith, length-append}
use Rattle.std.specs.declared.cmp.Ordering.TheVariants.{Less, Greater}
use Rattle.std.specs.List.{AllByRecursion, flat_map, sum_by}
use Rattle.std.specs.List.Sorted.{IsPermutation, IsStrictlySortedBy}
use Rattle.std.specs.Option.{ok_or}
use Rattle.std.specs.Ordering.{ordering_reverse}
use Rattle.std.specs.Prelude.{IfOk, IfSome}
use Rattle.std.proofs.lemmas.Cmp.{nat_list_cmp_total}
use Rattle.std.proofs.lemmas.List.Concat.{flat_map-append, length-flat_map}
use Rattle.std.proofs.lemmas.List.Sorted.{IsPermutation-refl, IsPermutation-reverse, sum_by-IsPermutation}
use Rattle.carte_name.specs.Names.{name_cmp}
use Rattle.carte_value.specs.Spelling.{spelling}
use Rattle.carte_value.specs.Truths.{Among, IsListOf}
use Rattle.carte_value.specs.declared.value.Value.{Value}
use Rattle.carte_codec.specs.Parts.{spelled_count, spelled_link, spelled_list, spelled_option}
use Rattle.carte_record.specs.declared.batch.Batch.{Batch}
use Rattle.carte_record.specs.declared.kept.Kept.{Kept}
use Rattle.carte_record.specs.Empty.{is_bare}
use Rattle.carte_record.specs.Bodies.{spelled_back, spelled_deep, spelled_entry, spelled_front, spelled_names, spelled_start, spelled_trace}
use Rattle.carte_compact.specs.Lengths.{back_size, front_size, region_length}
use Rattle.carte_compact.specs.Live.{IsAllOf, IsLive, found_at, keys_of, names_of, put}
use Rattle.carte_compact.proofs.Found.{found_more}

-- ---- names in order are one list

abbrev Below : List ℕ → List (List ℕ) → Type 0
Below k ks = AllByRecursion (λ j. name_cmp k j ≡ Less) ks

under : (k : List ℕ) (ks : List (List ℕ)) (q : List ℕ) → Below k ks → Among ks q → name_cmp k q ≡ Less
under k [] q below nowhere = absurd nowhere
under k (j ∷ js) q below (inl same) = subst (λ i. name_cmp k i ≡ Less) (sym same) below.0
under k (j ∷ js) q below (inr later) = under k js q below.1 later

not_both : (k j : List ℕ) → name_cmp k j ≡ Less → ¬ (name_cmp j k ≡ Less)
not_both k j less other = let clash : Less ≡ Greater = sym less ∙ nat_list_cmp_total.antisymm k j ∙ ap ordering_reverse other in cc

heads : (k j : List ℕ) (ks js : List (List ℕ)) → Below k ks → Below j js → (k ≡ j) ⊎ Among js k → (j ≡ k) ⊎ Among ks j → k ≡ j
heads k j ks js below below' (inl same) back = same
heads k j ks js below below' (inr later) (inl same) = sym same
heads k j ks js below below' (inr later) (inr later') = absurd (not_both k j (under k ks j below later') (under j js k below' later))

behind : (k q : List ℕ) (ks js : List (List ℕ)) → Below k ks → Among ks q → (q ≡ k) ⊎ Among js q → Among js q
behind k q ks js below there (inl same) = absurd (let less : name_cmp k k ≡ Less = subst (λ i. name_cmp k i ≡ Less) same (under k ks q below there) in not_both k k less less)
behind k q ks js below there (inr later) = later

same_names : (ks js : List (List ℕ)) → IsStrictlySortedBy name_cmp ks → IsStrictlySortedBy name_cmp js
    → ((q : List ℕ) → Among ks q → Among js q) → ((q : List ℕ) → Among js q → Among ks q) → ks ≡ js
unfolding IsStrictlySortedBy
same_names [] [] rising rising' into back = refl
same_names [] (j ∷ js) rising rising' into back = absurd (back j (inl refl))
same_names (k ∷ ks) [] rising rising' into back = absurd (into k (inl refl))
same_names (k ∷ ks) (j ∷ js) rising rising' into back =
    let same : k ≡ j = heads k j ks js rising.0 rising'.0 (into k (inl refl)) (back j (inl refl)) in
    let rest : ks ≡ js = same_names ks js rising.1 rising'.1
    (λ q there. behind k q ks js rising.0 there (subst (λ i. (q ≡ i) ⊎ Among js q) (sym same) (into q (inr there))))
    (λ q there. behind j q js ks rising'.0 there (subst (λ i. (q ≡ i) ⊎ Among ks q) same (back q (inr there))))
    in ap (λ i. i ∷ ks) same ∙ ap (λ is. j ∷ is) rest

pub one_list : (P : List ℕ → Type 0) (ks js : List (List ℕ)) → IsListOf P ks → IsListOf P js → ks ≡ js
one_list P ks js listed listed' = same_names ks js listed.rising listed'.rising (λ q there. listed'.each q (listed.only q there)) (λ q there. listed.each q (listed'.only q there))

-- ---- values in another order take as many bytes

values_long : (all vs ws : List Value) → IsPermutation all vs → IsPermutation all ws → length (spelled_list spelling vs) ≡ length (spelled_list spelling ws)
values_long all vs ws first second =
    let flat : (us : List Value) → IsPermutation all us → length (flat_map spelling us) ≡ sum_by (λ u. length (spelling u)) all =
    λ us moved. length-flat_map spelling us ∙ sum_by-IsPermutation (λ u. length (spelling u)) all us moved
    in length-append (spelled_count (length vs)) (flat_map spelling vs) ∙ ap (λ n. 4 + n) (flat vs first ∙ sym (flat ws second)) ∙ sym (length-append (spelled_count (length ws)) (flat_map spelling ws))

-- ---- how it is added up

-- what is found of one name more
pub found_longer : {A : Type 0} (spelled : A → List ℕ) (f : List ℕ → Option A) (ns : List (List ℕ)) (n : List ℕ)
    → length (flat_map spelled (found_at f (ns ++ n ∷ []))) ≡ length (flat_map spelled (found_at f ns)) + length (flat_map spelled (put (f n) []))
found_longer spelled f ns n =
    ap (λ xs. length (flat_map spelled xs)) (found_more f ns n) ∙ ap length (flat_map-append spelled (found_at f ns) (put (f n) [])) ∙ length-append (flat_map spelled (found_at f ns)) (flat_map spelled (put (f n) []))

-- the last ones from the last on are as long
pub last_long : {A : Type 0} (spelled : A → List ℕ) (rs ts : List A) → rs ≡ reverse ts → length (spelled_list spelled rs) ≡ length (spelled_list spelled ts)
last_long spelled rs ts is =
    length-append (spelled_count (length rs)) (flat_map spelled rs)
    ∙ ap (λ n. 4 + n) (length-flat_map spelled rs ∙ ap (sum_by (λ t. length (spelled t))) is ∙ sum_by-IsPermutation (λ t. length (spelled t)) ts (reverse ts) (IsPermutation-reverse ts) ∙ sym (length-flat_map spelled ts))
    ∙ sym (length-append (spelled_count (length ts)) (flat_map spelled ts))

back_long : (K : Kept) (names keys : List (List ℕ)) (B : Batch) → IsAllOf K names keys B → back_size K ≡ length (spelled_back B)
back_long K names keys B all =
    let vs = length-append (spelled_list spelled_trace B.verifying) (spelled_list spelled_trace B.constructive ++ (spelled_list spelled_deep B.deep ++ spelled_option spelled_names B.chain)) in
    let cs = length-append (spelled_list spelled_trace B.constructive) (spelled_list spelled_deep B.deep ++ spelled_option spelled_names B.chain) in
    let ds = length-append (spelled_list spelled_deep B.deep) (spelled_option spelled_names B.chain) in
    rw (← all.verifying, ← all.constructive, ← all.deep, ← all.chain) (omega (arith, vs, cs, ds))

front_long : (K : Kept) (names keys : List (List ℕ)) (B : Batch) → IsAllOf K names keys B → front_size K names keys ≡ length (spelled_front B)
front_long K names keys B all =
    let back = spelled_list spelled_entry B.entries ++ spelled_names B.stale in
    let rest = spelled_names B.gone ++ (spelled_list spelled_link B.seen ++ back) in
    let start = length-append (spelled_start B.start) (spelled_list spelling B.values ++ rest) in
    let goes : length (spelled_start B.start) ≡ 1 = ap (λ s. length (spelled_start s)) all.start in
    let values = length-append (spelled_list spelling B.values) rest in
    let gone = length-append (spelled_names B.gone) (spelled_list spelled_link B.seen ++ back) in
    let seen = length-append (spelled_list spelled_link B.seen) back in
    let listed = length-append (spelled_list spelled_entry B.entries) (spelled_names B.stale) in
    let links = length-append (spelled_count (length B.seen)) (flat_map spelled_link B.seen) in
    let entries = length-append (spelled_count (length B.entries)) (flat_map spelled_entry B.entries) in
    let same = values_long K.values B.values K.values all.values.same (IsPermutation-refl K.values) in
    let none : length (spelled_names B.gone) ≡ 4 = ap (λ ks. length (spelled_names ks)) all.gone in
    rw (← all.seen, ← all.entries, ← all.stale, ← same) (omega (arith, start, goes, values, gone, seen, listed, links, entries, none))

-- what is spelled of items that stand elsewhere
pub refs_long : {A R : Type 0} (spelled : A → List ℕ) (now : R → A) (rs : List R) → length (spelled_list (λ r. spelled (now r)) rs) ≡ length (spelled_list spelled (map now rs))
refs_long spelled now rs =
    length-append (spelled_count (length rs)) (flat_map (λ r. spelled (now r)) rs) ∙ ap (λ xs. 4 + length xs) (flat rs) ∙ sym (length-append (spelled_count (length (map now rs))) (flat_map spelled (map now rs)))
  where
    flat : (us : List _) → flat_map (λ r. spelled (now r)) us ≡ flat_map spelled (map now us)
    flat [] = refl
    flat (u ∷ us) = ap (λ xs. spelled (now u) ++ xs) (flat us)

-- a number that is there
pub if_there : {E : Type 0} (o : Option ℕ) (e : E) (P Q : ℕ → Type 0) → ((n : ℕ) → P n → Q n) → IfSome o P → IfOk (ok_or o e) Q
if_there (Some n) e P Q f is = f n is
if_there None e P Q f is = tt

pub in_all : (K : Kept) (names keys : List (List ℕ)) (front back n : ℕ) → is_bare K ≡ false → IsListOf (Among (names_of K.seen)) names → IsListOf (Among (keys_of K.entries)) keys
    → front ≡ front_size K names keys → back ≡ back_size K → n ≡ front + back + 7 → (Bs : List Batch) → IsLive K Bs → n ≡ region_length Bs
in_all K names keys front back n some seen listed front_is back_is adds Bs (inl (bare, none)) = let clash : true ≡ false = sym bare ∙ some in cc
in_all K names keys front back n some seen listed front_is back_is adds Bs (inr (some', live)) =
    let same_names = one_list (Among (names_of K.seen)) names live.names seen live.seen in
    let same_keys = one_list (Among (keys_of K.entries)) keys live.keys listed live.listed in
    let front_so = front_is ∙ ap (λ ns. front_size K ns keys) same_names ∙ ap (front_size K live.names) same_keys ∙ front_long K live.names live.keys live.first live.all in
    let back_so = back_is ∙ back_long K live.names live.keys live.first live.all in
    let long = length-append (spelled_front live.first) (spelled_back live.first) in
    let all : n ≡ region_length (live.first ∷ []) = omega (arith, adds, front_so, back_so, long) in
    all ∙ sym (ap region_length live.batches)

pub from_ok : {E : Type 0} (o : Option ℕ) (e : E) (P : ℕ → Type 0) (n : ℕ) → IfSome o P → ok_or o e ≡ Ok n → P n
from_ok (Some m) e P n is so = let same : m ≡ n = cc in subst P same is
from_ok None e P n is so = cc

-- ---- and at least

pub at_least : (K : Kept) (Bs : List Batch) (n : ℕ) → is_bare K ≡ false
    → ((names keys : List (List ℕ)) → IsListOf (Among (names_of K.seen)) names → IsListOf (Among (keys_of K.entries)) keys → n ≤ front_size K names keys + back_size K + 7)
    → IsLive K Bs → n ≤ region_length Bs
at_least K Bs n some within (inl (bare, none)) = absurd (let clash : true ≡ false = sym bare ∙ some in cc)
at_least K Bs n some within (inr (some', live)) =
    let bound = within live.names live.keys live.seen live.listed in
    let first = length-append (spelled_front live.first) (spelled_back live.first) in
    let fits : n ≤ region_length (live.first ∷ []) =
    omega (arith, bound, first, front_long K live.names live.keys live.first live.all, back_long K live.names live.keys live.first live.all) in
    subst (λ Cs. n ≤ region_length Cs) (sym live.batches) fits

pub if_known : (o : Option ℕ) (P Q : ℕ → Type 0) → ((n : ℕ) → P n → Q n) → IfSome o P → IfSome o Q
if_known (Some n) P Q f is = f n is
if_known None P Q f is = tt
