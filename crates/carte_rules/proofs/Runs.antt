-- How far a test holds, where it holds of the bytes at the front.
use Rattle.std.proofs.Common.{◌≡◌, ℕ, Bool, true, false, eqb, cond, ◌+◌, ◌<◌, ◌≤◌, List, length, take, drop, length-drop, drop-drop, length-take-le, take-append-drop, refl, sym, ap, ◌∙◌, subst, arith}
use Rattle.std.specs.List.{prefix_len}
use Rattle.std.proofs.lemmas.Bool.{eq-eqb, ne_eqb}
use Rattle.std.proofs.lemmas.List.Sums.{prefix_len-le-length}
use Rattle.std.proofs.lemmas.List.Folds.{prefix_len-append}
use Rattle.toml_parser.specs.Lexical.{is_ws, skip_ws}

in_two : (p : ℕ → Bool) (xs : List ℕ) (n : ℕ) → n ≤ length xs → prefix_len p xs ≡ cond (eqb (prefix_len p (take n xs)) n) (n + prefix_len p (drop n xs)) (prefix_len p (take n xs))
in_two p xs n within =
    let long : length (take n xs) ≡ n = length-take-le n xs within in
    ap (prefix_len p) (sym (take-append-drop n xs))
    ∙ prefix_len-append p (take n xs) (drop n xs)
    ∙ ap (λ k. cond (eqb (prefix_len p (take n xs)) k) (k + prefix_len p (drop n xs)) (prefix_len p (take n xs))) long

-- a run that ends among the next bytes
pub run_ends : (p : ℕ → Bool) (xs : List ℕ) (start run n m : ℕ) → start + n ≤ length xs → run ≡ prefix_len p (take n (drop start xs)) → run < n → start + prefix_len p (drop start xs) ≡ m → start + run ≡ m
run_ends p xs start run n m within is few before =
    let two = in_two p (drop start xs) n (omega (arith, length-drop start xs)) in
    let ends : eqb (prefix_len p (take n (drop start xs))) n ≡ false = ne_eqb _ n (λ e. omega arith) in
    let all : prefix_len p (drop start xs) ≡ prefix_len p (take n (drop start xs)) = rw ends at two in
    omega arith

-- one that goes on behind them
pub run_goes_on : (p : ℕ → Bool) (xs : List ℕ) (start run n m : ℕ) → start + n ≤ length xs → run ≡ prefix_len p (take n (drop start xs)) → n ≤ run → start + prefix_len p (drop start xs) ≡ m → (start + run) + prefix_len p (drop (start + run) xs) ≡ m
run_goes_on p xs start run n m within is many before =
    let two = in_two p (drop start xs) n (omega (arith, length-drop start xs)) in
    let most : run ≤ n = omega (arith, prefix_len-le-length p (take n (drop start xs)), length-take-le n (drop start xs) (omega (arith, length-drop start xs))) in
    let whole : run ≡ n = omega arith in
    let on : eqb (prefix_len p (take n (drop start xs))) n ≡ true = eq-eqb _ n (omega arith) in
    let all : prefix_len p (drop start xs) ≡ n + prefix_len p (drop n (drop start xs)) = rw on at two in
    let rest : prefix_len p (drop start xs) ≡ n + prefix_len p (drop (start + n) xs) = subst (λ (ys : List ℕ). prefix_len p (drop start xs) ≡ n + prefix_len p ys) (drop-drop n start xs) all in
    rw whole (omega arith)

pub skipped : (text : List ℕ) → skip_ws text ≡ drop (prefix_len is_ws text) text
unfolding skip_ws
skipped text = refl
