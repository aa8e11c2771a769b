-- Builds of one kept information begin with the same.
use Rattle.std.proofs.Common.{◌≡◌, ℕ, Bool, true, false, cond, List, [], None, option_map, refl, ap, sym, ◌∙◌}
use Rattle.std.proofs.Math.Path.{fun_ext}
use Rattle.carte_value.specs.Truths.{Among, IsListOf}
use Rattle.carte_book.specs.Book.{Book}
use Rattle.carte_record.specs.Folds.{is_among}
use Rattle.carte_record.specs.Kept.{SomeKept, staled}
use Rattle.carte_sound.specs.Begun.{Beginning, IsBeginning, begin}
use Rattle.carte_sound.proofs.Tests.{among_tested, tested_among}

-- lists with the same names test alike
pub tests_alike : (ms ns : List (List ℕ)) (k : List ℕ) → (Among ms k → Among ns k) → (Among ns k → Among ms k) → is_among ms k ≡ is_among ns k
tests_alike ms ns k into back = on (is_among ms k) refl (is_among ns k) refl
  where
    on : (s : Bool) → is_among ms k ≡ s → (t : Bool) → is_among ns k ≡ t → s ≡ t
    on true one true other = refl
    on false one false other = refl
    on true one false other = let e : false ≡ true = sym other ∙ among_tested ns k (into (tested_among ms k one)) in cc
    on false one true other = let e : false ≡ true = sym one ∙ among_tested ms k (back (tested_among ns k other)) in cc

-- two lists of what has one property test alike
lists_alike : (P : List ℕ → Type 0) (ms ns : List (List ℕ)) → IsListOf P ms → IsListOf P ns → (k : List ℕ) → is_among ms k ≡ is_among ns k
lists_alike P ms ns one other k = tests_alike ms ns k (λ among. other.each k (one.only k among)) (λ among. one.each k (other.only k among))

abbrev begun_by : SomeKept → (List ℕ → Bool) → (List ℕ → Bool) → SomeKept
begun_by K g m = record {
  seen = λ k. cond (g k) None (K.seen k);
  entries = λ k. cond (g k) None (option_map (staled (m k)) (K.entries k));
  traces = λ w k. cond (g k) [] (K.traces w k);
  chain = K.chain;
  stored = K.stored;
}

-- so builds begin with the same
pub begins_alike : (K : SomeKept) (b : Book) (x y : Beginning) → IsBeginning K b x → IsBeginning K b y → begin K x ≡ begin K y
begins_alike K b x y one other =
    ap (λ g. begun_by K g (is_among x.marks)) (fun_ext (lists_alike _ x.gone y.gone one.gone other.gone))
    ∙ ap (begun_by K (is_among y.gone)) (fun_ext (lists_alike _ x.marks y.marks one.marks other.marks))
