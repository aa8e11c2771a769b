-- The instructions of a formula ask for what the formula asks for.
use Rattle.std.proofs.Common.{◌≡◌, ℕ, ◌+◌, Bool, true, false, List, [], ◌∷◌, ◌++◌, Result, Ok, Err, length, drop, refl, ap, sym, ◌∙◌, append_assoc, append-nil, length-append, arith}
use Rattle.std.proofs.Math.Seq.{drop-append-add}
use Rattle.carte_name.specs.declared.kind.Kind.{Kind}
use Rattle.carte_value.specs.declared.value.Value.{Value}
use Rattle.carte_value.specs.Asks.{Asks, done, and_then}
use Rattle.carte_tree.specs.Tree.{Tree, number, text, ref, neg, chain, call, Steps, no_step, step, Args, no_arg, arg, Arg, one, cells}
use Rattle.carte_tree.specs.declared.expr.Func.{Func}
use Rattle.carte_tree.specs.declared.expr.Func.TheVariants as f
use Rattle.carte_tree.specs.Applied.{condition, negated, applied}
use Rattle.carte_tree.specs.Functions.{called}
use Rattle.carte_value.specs.Areas.{cells_of}
use Rattle.carte_tree.specs.Found.{name_in, names_in}
use Rattle.carte_tree.specs.Texts.{joined}
use Rattle.carte_tree.specs.Meaning.{asks, asks_steps, asks_args, asks_arg, asks_all, branched, looked_up, gathered}
use Rattle.carte_task.specs.declared.code.Instr.{Instr}
use Rattle.carte_task.specs.declared.code.Instr.TheVariants as i
use Rattle.carte_task.specs.Code.{newest, below, put, first_of, top, tested, indirected, gathering, exec}
use Rattle.carte_task.specs.Coding.{count_arg, count, choice, code_of, code_of_steps, code_of_args, code_of_arg}
use Rattle.carte_task.proofs.Binding.{and_then_assoc, and_then_done, and_then_same, and_then_where, Always, always_then, always_any}
use Rattle.carte_task.proofs.Stack.{newest_on, below_on, put_on, pushed_all, all_counted}
use Rattle.carte_task.proofs.Driving.{exec_skip}

-- 1. one instruction on top of what waits

top_on : (vs : List Value) (v : Value) → top (vs ++ v ∷ []) ≡ v
top_on vs v = ap first_of (newest_on vs (v ∷ []) 1 refl)

negate_on : (kind : Kind) (cs : List Instr) (vs : List Value) (v : Value) → exec kind 0 (i.Negate ∷ cs) (vs ++ v ∷ []) ≡ exec kind 0 cs (vs ++ negated (v ∷ []) ∷ [])
negate_on kind cs vs v = ap (λ us. exec kind 0 cs (put 1 (vs ++ v ∷ []) (negated us))) (newest_on vs (v ∷ []) 1 refl) ∙ ap (exec kind 0 cs) (put_on vs (v ∷ []) 1 (negated (v ∷ [])) refl)

call_on : (kind : Kind) (func : Func) (n : ℕ) (cs : List Instr) (vs us : List Value) → length us ≡ n → exec kind 0 (i.Call func n ∷ cs) (vs ++ us) ≡ exec kind 0 cs (vs ++ called func us ∷ [])
call_on kind func n cs vs us is = ap (λ ws. exec kind 0 cs (put n (vs ++ us) (called func ws))) (newest_on vs us n is) ∙ ap (exec kind 0 cs) (put_on vs us n (called func us) is)

-- both operands wait, one behind the other
apply_on : (kind : Kind) (op : _) (cs : List Instr) (vs : List Value) (v w : Value) → exec kind 0 (i.Apply op ∷ cs) ((vs ++ v ∷ []) ++ w ∷ []) ≡ exec kind 0 cs (vs ++ applied op (v ∷ (w ∷ [])) ∷ [])
apply_on kind op cs vs v w = ap (exec kind 0 (i.Apply op ∷ cs)) (append_assoc vs (v ∷ []) (w ∷ [])) ∙ ap (λ ws. exec kind 0 cs (put 2 (vs ++ (v ∷ (w ∷ []))) (applied op ws))) (newest_on vs (v ∷ (w ∷ [])) 2 refl) ∙ ap (exec kind 0 cs) (put_on vs (v ∷ (w ∷ [])) 2 (applied op (v ∷ (w ∷ []))) refl)

indirect_on : (kind : Kind) (cs : List Instr) (vs : List Value) (v : Value) → exec kind 0 (i.Indirect ∷ cs) (vs ++ v ∷ []) ≡ and_then (looked_up (name_in kind v)) (λ w. exec kind 0 cs (vs ++ w ∷ []))
indirect_on kind cs vs v = ap (λ u. indirected (name_in kind u) (below 1 (vs ++ v ∷ [])) (λ n ws. exec kind n cs ws)) (top_on vs v) ∙ ap (λ us. indirected (name_in kind v) us (λ n ws. exec kind n cs ws)) (below_on vs (v ∷ []) 1 refl) ∙ cases (name_in kind v)
  where
    cases : (r : Result (List ℕ) Value) → indirected r vs (λ n ws. exec kind n cs ws) ≡ and_then (looked_up r) (λ w. exec kind 0 cs (vs ++ w ∷ []))
    cases (Ok k) = refl
    cases (Err w) = refl

gather_on : (kind : Kind) (cs : List Instr) (vs : List Value) (v : Value) → exec kind 0 (i.Gather ∷ cs) (vs ++ v ∷ []) ≡ and_then (gathered (names_in kind v)) (λ w. exec kind 0 cs (vs ++ w ∷ []))
gather_on kind cs vs v = ap (λ u. gathering (names_in kind u) (below 1 (vs ++ v ∷ [])) (λ n ws. exec kind n cs ws)) (top_on vs v) ∙ ap (λ us. gathering (names_in kind v) us (λ n ws. exec kind n cs ws)) (below_on vs (v ∷ []) 1 refl) ∙ cases (names_in kind v)
  where
    joins : (ks : List (List ℕ)) (us : List Value) → length us ≡ length ks → exec kind 0 cs (put (length ks) (vs ++ us) (joined (newest (length ks) (vs ++ us)))) ≡ exec kind 0 cs (vs ++ joined us ∷ [])
    joins ks us is = ap (λ ws. exec kind 0 cs (put (length ks) (vs ++ us) (joined ws))) (newest_on vs us (length ks) is) ∙ ap (exec kind 0 cs) (put_on vs us (length ks) (joined us) is)

    cases : (r : Result (List (List ℕ)) Value) → gathering r vs (λ n ws. exec kind n cs ws) ≡ and_then (gathered r) (λ w. exec kind 0 cs (vs ++ w ∷ []))
    cases (Ok ks) =
        pushed_all ks vs (λ ws. exec kind 0 cs (put (length ks) ws (joined (newest (length ks) ws))))
        ∙ and_then_where (λ (us : List Value). length us ≡ length ks) (asks_all ks) (λ us. exec kind 0 cs (put (length ks) (vs ++ us) (joined (newest (length ks) (vs ++ us))))) (λ us. exec kind 0 cs (vs ++ joined us ∷ [])) (all_counted ks) (joins ks)
        ∙ sym (and_then_assoc (asks_all ks) (λ us. done (joined us)) (λ w. exec kind 0 cs (vs ++ w ∷ [])))
    cases (Err w) = refl

-- 2. branches

-- behind instructions and n more
over : (kind : Kind) (xs cs : List Instr) (n : ℕ) (vs : List Value) → exec kind (length xs + n) (xs ++ cs) vs ≡ exec kind 0 (drop n cs) vs
over kind xs cs n vs = exec_skip kind (length xs + n) (xs ++ cs) vs ∙ ap (λ ds. exec kind 0 ds vs) (drop-append-add xs cs n)

past : (kind : Kind) (xs cs : List Instr) (vs : List Value) → exec kind (length xs) (xs ++ cs) vs ≡ exec kind 0 cs vs
past kind xs cs vs = ap (λ n. exec kind n (xs ++ cs) vs) (let e : length xs ≡ length xs + 0 = omega arith in e) ∙ over kind xs cs 0 vs

both_past : (kind : Kind) (j : Instr) (xs ys cs : List Instr) (vs : List Value) → exec kind (length xs + (1 + length ys)) (xs ++ (j ∷ (ys ++ cs))) vs ≡ exec kind 0 cs vs
both_past kind j xs ys cs vs = over kind xs (j ∷ (ys ++ cs)) (1 + length ys) vs ∙ sym (exec_skip kind (1 + length ys) (j ∷ (ys ++ cs)) vs) ∙ ap (λ n. exec kind n (j ∷ (ys ++ cs)) vs) (let e : 1 + length ys ≡ length (j ∷ []) + length ys = refl in e) ∙ over kind (j ∷ []) (ys ++ cs) (length ys) vs ∙ sym (exec_skip kind (length ys) (ys ++ cs) vs) ∙ past kind ys cs vs

exec_choice : (kind : Kind) (c a b : Asks Value) (code_c code_a code_b cs : List Instr) (vs : List Value) → ((ds : List Instr) (ws : List Value) → exec kind 0 (code_c ++ ds) ws ≡ and_then c (λ v. exec kind 0 ds (ws ++ v ∷ []))) → ((ds : List Instr) (ws : List Value) → exec kind 0 (code_a ++ ds) ws ≡ and_then a (λ v. exec kind 0 ds (ws ++ v ∷ []))) → ((ds : List Instr) (ws : List Value) → exec kind 0 (code_b ++ ds) ws ≡ and_then b (λ v. exec kind 0 ds (ws ++ v ∷ []))) → exec kind 0 (choice code_c code_a code_b ++ cs) vs ≡ and_then (and_then c (λ v. branched (condition v) a b)) (λ v. exec kind 0 cs (vs ++ v ∷ []))
exec_choice kind c a b code_c code_a code_b cs vs tests takes others =
    ap (λ ds. exec kind 0 ds vs) (append_assoc code_c _ cs ∙ ap (λ ds. code_c ++ (i.Test (length code_a + 1) (length code_a + (1 + length code_b)) ∷ ds)) (append_assoc code_a (i.Jump (length code_b) ∷ code_b) cs))
    ∙ tests (i.Test (length code_a + 1) (length code_a + (1 + length code_b)) ∷ (code_a ++ (i.Jump (length code_b) ∷ (code_b ++ cs)))) vs
    ∙ and_then_same c _ (λ v. and_then (branched (condition v) a b) (λ w. exec kind 0 cs (vs ++ w ∷ []))) (λ v. ap (λ u. tested (condition u) (length code_a + 1) (length code_a + (1 + length code_b)) (below 1 (vs ++ v ∷ [])) (λ n ws. exec kind n (code_a ++ (i.Jump (length code_b) ∷ (code_b ++ cs))) ws)) (top_on vs v) ∙ ap (λ us. tested (condition v) (length code_a + 1) (length code_a + (1 + length code_b)) us (λ n ws. exec kind n (code_a ++ (i.Jump (length code_b) ∷ (code_b ++ cs))) ws)) (below_on vs (v ∷ []) 1 refl) ∙ cases (condition v))
    ∙ sym (and_then_assoc c (λ v. branched (condition v) a b) (λ v. exec kind 0 cs (vs ++ v ∷ [])))
  where
    cases : (r : Result Bool Value) → tested r (length code_a + 1) (length code_a + (1 + length code_b)) vs (λ n ws. exec kind n (code_a ++ (i.Jump (length code_b) ∷ (code_b ++ cs))) ws) ≡ and_then (branched r a b) (λ w. exec kind 0 cs (vs ++ w ∷ []))
    cases (Ok true) = takes (i.Jump (length code_b) ∷ (code_b ++ cs)) vs ∙ and_then_same a (λ v. exec kind 0 (i.Jump (length code_b) ∷ (code_b ++ cs)) (vs ++ v ∷ [])) (λ v. exec kind 0 cs (vs ++ v ∷ [])) (λ v. past kind code_b cs (vs ++ v ∷ []))
    cases (Ok false) = over kind code_a (i.Jump (length code_b) ∷ (code_b ++ cs)) 1 vs ∙ others cs vs
    cases (Err v) = both_past kind (i.Jump (length code_b)) code_a code_b cs (vs ++ v ∷ [])

-- 3. formulas

args_counted : (kind : Kind) (xs : Args) → Always (λ (us : List Value). length us ≡ count xs) (asks_args kind xs)
args_counted kind no_arg = refl
args_counted kind (arg x xs) = always_then (λ (us : List Value). length us ≡ count_arg x) (λ (us : List Value). length us ≡ count (arg x xs)) (asks_arg kind x) (λ us. and_then (asks_args kind xs) (λ vs. done (us ++ vs))) (counted x) (λ us is. always_then (λ (vs : List Value). length vs ≡ count xs) (λ (vs : List Value). length vs ≡ count (arg x xs)) (asks_args kind xs) (λ vs. done (us ++ vs)) (args_counted kind xs) (λ vs same. omega (arith, length-append us vs)))
  where
    counted : (y : Arg) → Always (λ (us : List Value). length us ≡ count_arg y) (asks_arg kind y)
    counted (one e) = always_then (λ v. Unit {0}) (λ (us : List Value). length us ≡ 1) (asks kind e) (λ v. done (v ∷ [])) (always_any (asks kind e)) (λ v any. refl)
    counted (cells a) = all_counted (cells_of a)

exec_call : (kind : Kind) (func : Func) (xs : Args) (cs : List Instr) (vs : List Value) → ((ds : List Instr) (ws : List Value) → exec kind 0 (code_of_args xs ++ ds) ws ≡ and_then (asks_args kind xs) (λ us. exec kind 0 ds (ws ++ us))) → exec kind 0 ((code_of_args xs ++ i.Call func (count xs) ∷ []) ++ cs) vs ≡ and_then (and_then (asks_args kind xs) (λ us. done (called func us))) (λ v. exec kind 0 cs (vs ++ v ∷ []))
exec_call kind func xs cs vs on =
    ap (λ ds. exec kind 0 ds vs) (append_assoc (code_of_args xs) (i.Call func (count xs) ∷ []) cs)
    ∙ on (i.Call func (count xs) ∷ cs) vs
    ∙ and_then_where (λ (us : List Value). length us ≡ count xs) (asks_args kind xs) (λ us. exec kind 0 (i.Call func (count xs) ∷ cs) (vs ++ us)) (λ us. exec kind 0 cs (vs ++ called func us ∷ [])) (args_counted kind xs) (λ us is. call_on kind func (count xs) cs vs us is)
    ∙ sym (and_then_assoc (asks_args kind xs) (λ us. done (called func us)) (λ v. exec kind 0 cs (vs ++ v ∷ [])))

-- an operand, and then one more instruction
exec_then : (kind : Kind) (m : Asks Value) (code : List Instr) (j : Instr) (g : Value → Asks Value) (cs : List Instr) (vs : List Value) → ((ds : List Instr) (ws : List Value) → exec kind 0 (code ++ ds) ws ≡ and_then m (λ v. exec kind 0 ds (ws ++ v ∷ []))) → ((v : Value) → exec kind 0 (j ∷ cs) (vs ++ v ∷ []) ≡ and_then (g v) (λ w. exec kind 0 cs (vs ++ w ∷ []))) → exec kind 0 ((code ++ j ∷ []) ++ cs) vs ≡ and_then (and_then m g) (λ w. exec kind 0 cs (vs ++ w ∷ []))
exec_then kind m code j g cs vs on last =
    ap (λ ds. exec kind 0 ds vs) (append_assoc code (j ∷ []) cs)
    ∙ on (j ∷ cs) vs
    ∙ and_then_same m (λ v. exec kind 0 (j ∷ cs) (vs ++ v ∷ [])) (λ v. and_then (g v) (λ w. exec kind 0 cs (vs ++ w ∷ []))) last
    ∙ sym (and_then_assoc m g (λ w. exec kind 0 cs (vs ++ w ∷ [])))

mutual
  pub exec_code : (kind : Kind) (e : Tree) (cs : List Instr) (vs : List Value) → exec kind 0 (code_of e ++ cs) vs ≡ and_then (asks kind e) (λ v. exec kind 0 cs (vs ++ v ∷ []))
  exec_code kind (number n) cs vs = refl
  exec_code kind (text t) cs vs = refl
  exec_code kind (ref k) cs vs = refl
  exec_code kind (neg e) cs vs = exec_then kind (asks kind e) (code_of e) i.Negate (λ v. done (negated (v ∷ []))) cs vs (exec_code kind e) (λ v. negate_on kind cs vs v)
  exec_code kind (chain level e ss) cs vs =
      ap (λ ds. exec kind 0 ds vs) (append_assoc (code_of e) (code_of_steps ss) cs)
      ∙ exec_code kind e (code_of_steps ss ++ cs) vs
      ∙ and_then_same (asks kind e) (λ v. exec kind 0 (code_of_steps ss ++ cs) (vs ++ v ∷ [])) (λ v. and_then (asks_steps kind v ss) (λ w. exec kind 0 cs (vs ++ w ∷ []))) (λ v. exec_steps kind ss cs vs v)
      ∙ sym (and_then_assoc (asks kind e) (λ v. asks_steps kind v ss) (λ w. exec kind 0 cs (vs ++ w ∷ [])))
  exec_code kind (call f.If (arg (one c) (arg (one a) (arg (one b) no_arg)))) cs vs = exec_choice kind (asks kind c) (asks kind a) (asks kind b) (code_of c) (code_of a) (code_of b) cs vs (exec_code kind c) (exec_code kind a) (exec_code kind b)
  exec_code kind (call f.Indirect (arg (one e) no_arg)) cs vs = exec_then kind (asks kind e) (code_of e) i.Indirect (λ v. looked_up (name_in kind v)) cs vs (exec_code kind e) (λ v. indirect_on kind cs vs v)
  exec_code kind (call f.Gather (arg (one e) no_arg)) cs vs = exec_then kind (asks kind e) (code_of e) i.Gather (λ v. gathered (names_in kind v)) cs vs (exec_code kind e) (λ v. gather_on kind cs vs v)
  exec_code kind (call func xs) cs vs = exec_call kind func xs cs vs (exec_args kind xs)

  exec_steps : (kind : Kind) (ss : Steps) (cs : List Instr) (vs : List Value) (v : Value) → exec kind 0 (code_of_steps ss ++ cs) (vs ++ v ∷ []) ≡ and_then (asks_steps kind v ss) (λ w. exec kind 0 cs (vs ++ w ∷ []))
  exec_steps kind no_step cs vs v = refl
  exec_steps kind (step op e ss) cs vs v =
      ap (λ ds. exec kind 0 ds (vs ++ v ∷ [])) (append_assoc (code_of e) (i.Apply op ∷ code_of_steps ss) cs)
      ∙ exec_code kind e (i.Apply op ∷ (code_of_steps ss ++ cs)) (vs ++ v ∷ [])
      ∙ and_then_same (asks kind e) (λ w. exec kind 0 (i.Apply op ∷ (code_of_steps ss ++ cs)) ((vs ++ v ∷ []) ++ w ∷ [])) (λ w. and_then (asks_steps kind (applied op (v ∷ (w ∷ []))) ss) (λ u. exec kind 0 cs (vs ++ u ∷ []))) (λ w. apply_on kind op (code_of_steps ss ++ cs) vs v w ∙ exec_steps kind ss cs vs (applied op (v ∷ (w ∷ []))))
      ∙ sym (and_then_assoc (asks kind e) (λ w. asks_steps kind (applied op (v ∷ (w ∷ []))) ss) (λ u. exec kind 0 cs (vs ++ u ∷ [])))

  exec_args : (kind : Kind) (xs : Args) (cs : List Instr) (vs : List Value) → exec kind 0 (code_of_args xs ++ cs) vs ≡ and_then (asks_args kind xs) (λ us. exec kind 0 cs (vs ++ us))
  exec_args kind no_arg cs vs = ap (exec kind 0 cs) (sym (append-nil vs))
  exec_args kind (arg x xs) cs vs =
      ap (λ ds. exec kind 0 ds vs) (append_assoc (code_of_arg x) (code_of_args xs) cs)
      ∙ exec_arg kind x (code_of_args xs ++ cs) vs
      ∙ and_then_same (asks_arg kind x) (λ us. exec kind 0 (code_of_args xs ++ cs) (vs ++ us)) (λ us. and_then (and_then (asks_args kind xs) (λ ws. done (us ++ ws))) (λ ws. exec kind 0 cs (vs ++ ws))) (λ us. exec_args kind xs cs (vs ++ us) ∙ and_then_same (asks_args kind xs) (λ ws. exec kind 0 cs ((vs ++ us) ++ ws)) (λ ws. exec kind 0 cs (vs ++ (us ++ ws))) (λ ws. ap (exec kind 0 cs) (append_assoc vs us ws)) ∙ sym (and_then_assoc (asks_args kind xs) (λ ws. done (us ++ ws)) (λ ws. exec kind 0 cs (vs ++ ws))))
      ∙ sym (and_then_assoc (asks_arg kind x) (λ us. and_then (asks_args kind xs) (λ ws. done (us ++ ws))) (λ ws. exec kind 0 cs (vs ++ ws)))

  exec_arg : (kind : Kind) (x : Arg) (cs : List Instr) (vs : List Value) → exec kind 0 (code_of_arg x ++ cs) vs ≡ and_then (asks_arg kind x) (λ us. exec kind 0 cs (vs ++ us))
  exec_arg kind (one e) cs vs = exec_code kind e cs vs ∙ sym (and_then_assoc (asks kind e) (λ v. done (v ∷ [])) (λ us. exec kind 0 cs (vs ++ us)))
  exec_arg kind (cells a) cs vs = pushed_all (cells_of a) vs (exec kind 0 cs)

-- a formula's instructions are the formula
pub coded : (kind : Kind) (e : Tree) → exec kind 0 (code_of e) [] ≡ asks kind e
coded kind e = ap (λ cs. exec kind 0 cs []) (sym (append-nil (code_of e))) ∙ exec_code kind e [] [] ∙ and_then_same (asks kind e) (λ v. exec kind 0 [] ([] ++ v ∷ [])) (λ v. done v) (λ v. ap done (top_on [] v)) ∙ and_then_done (asks kind e)
