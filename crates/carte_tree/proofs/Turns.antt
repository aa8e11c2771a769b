-- A static formula asks for what it mentions, in order.
use Rattle.std.proofs.Common.{◌≡◌, ℕ, Bool, true, false, ◌&&◌, List, [], ◌∷◌, ◌++◌, Ok, Err, Result, refl}
use Rattle.carte_name.specs.declared.kind.Kind.{Kind}
use Rattle.carte_value.specs.declared.value.Value.{Value}
use Rattle.carte_value.specs.Asks.{Asks, done, ask, and_then}
use Rattle.carte_tree.specs.Tree.{Tree, number, text, ref, neg, chain, call, Steps, no_step, step, Args, no_arg, arg, Arg, one, cells}
use Rattle.carte_tree.specs.declared.expr.Func.TheVariants as f
use Rattle.carte_tree.specs.Applied.{condition, negated, applied}
use Rattle.carte_tree.specs.Functions.{called}
use Rattle.carte_value.specs.Areas.{cells_of}
use Rattle.carte_tree.specs.Meaning.{asks, asks_steps, asks_args, asks_arg, asks_all, branched}
use Rattle.carte_tree.specs.InTurn.{AsksInTurn}
use Rattle.carte_tree.specs.Formula.{mentions, steps_mentions, args_mentions, arg_mentions, is_free, steps_free, args_free, arg_free, rule_of, args_allowed, is_static_tree, steps_static, args_static, arg_static}

-- one computation behind another
pub turn_then : {A B : Type 0} (ks js : List (List ℕ)) (m : Asks A) (go : A → Asks B) → AsksInTurn ks m → ((a : A) → AsksInTurn js (go a)) → AsksInTurn (ks ++ js) (and_then m go)
turn_then [] js (done a) go first then = then a
turn_then [] js (ask j on) go first then = absurd first
turn_then (k ∷ ks) js (done a) go first then = absurd first
turn_then (k ∷ ks) js (ask j on) go first then = (first.0, λ v. turn_then ks js (on v) go (first.1 v) then)

-- a last step that asks for nothing
turn_done : {A B : Type 0} (ks : List (List ℕ)) (m : Asks A) (go : A → B) → AsksInTurn ks m → AsksInTurn ks (and_then m (λ a. done (go a)))
turn_done [] (done a) go first = tt
turn_done [] (ask j on) go first = absurd first
turn_done (k ∷ ks) (done a) go first = absurd first
turn_done (k ∷ ks) (ask j on) go first = (first.0, λ v. turn_done ks (on v) go (first.1 v))

pub all_in_turn : (ks : List (List ℕ)) → AsksInTurn ks (asks_all ks)
all_in_turn [] = tt
all_in_turn (k ∷ ks) = (refl, λ v. turn_done ks (asks_all ks) (λ vs. v ∷ vs) (all_in_turn ks))

left : (a b : Bool) → (a && b) ≡ true → a ≡ true
left true b h = refl
left false b h = cc

right : (a b : Bool) → (a && b) ≡ true → b ≡ true
right true b h = h
right false b h = cc

-- what is free mentions nothing
mutual
  free_silent : (e : Tree) → is_free e ≡ true → mentions e ≡ []
  free_silent (number n) h = refl
  free_silent (text t) h = refl
  free_silent (ref k) h = cc
  free_silent (neg e) h = free_silent e h
  free_silent (chain level e ss) h = rw (free_silent e (left (is_free e) (steps_free ss) h)) (steps_silent ss (right (is_free e) (steps_free ss) h))
  free_silent (call func xs) h = args_silent xs h

  steps_silent : (ss : Steps) → steps_free ss ≡ true → steps_mentions ss ≡ []
  steps_silent no_step h = refl
  steps_silent (step op e ss) h = rw (free_silent e (left (is_free e) (steps_free ss) h)) (steps_silent ss (right (is_free e) (steps_free ss) h))

  args_silent : (xs : Args) → args_free xs ≡ true → args_mentions xs ≡ []
  args_silent no_arg h = refl
  args_silent (arg x xs) h = rw (arg_silent x (left (arg_free x) (args_free xs) h)) (args_silent xs (right (arg_free x) (args_free xs) h))

  arg_silent : (x : Arg) → arg_free x ≡ true → arg_mentions x ≡ []
  arg_silent (one e) h = free_silent e h
  arg_silent (cells a) h = cc

branch_in_turn : (r : Result Bool Value) (a b : Asks Value) → AsksInTurn [] a → AsksInTurn [] b → AsksInTurn [] (branched r a b)
branch_in_turn (Ok true) a b first second = first
branch_in_turn (Ok false) a b first second = second
branch_in_turn (Err v) a b first second = tt

-- the condition, and then one of two branches that mention nothing
if_in_turn : (kind : Kind) (c a b : Tree) → is_free a ≡ true → is_free b ≡ true → AsksInTurn (mentions c) (asks kind c) → AsksInTurn (mentions a) (asks kind a) → AsksInTurn (mentions b) (asks kind b) →
    AsksInTurn (mentions c ++ (mentions a ++ (mentions b ++ []))) (and_then (asks kind c) (λ v. branched (condition v) (asks kind a) (asks kind b)))
if_in_turn kind c a b no_a no_b tested first second =
    let na : mentions a ≡ [] = free_silent a no_a in
    let nb : mentions b ≡ [] = free_silent b no_b in
    rw (na, nb) (turn_then (mentions c) [] (asks kind c) (λ v. branched (condition v) (asks kind a) (asks kind b)) tested
    (λ v. branch_in_turn (condition v) (asks kind a) (asks kind b) (rw na at first) (rw nb at second)))

mutual
  pub static_in_turn : (kind : Kind) (e : Tree) → is_static_tree e ≡ true → AsksInTurn (mentions e) (asks kind e)
  static_in_turn kind (number n) h = tt
  static_in_turn kind (text t) h = tt
  static_in_turn kind (ref k) h = (refl, λ v. tt)
  static_in_turn kind (neg e) h = turn_done (mentions e) (asks kind e) (λ v. negated (v ∷ [])) (static_in_turn kind e h)
  static_in_turn kind (chain level e ss) h =
      turn_then (mentions e) (steps_mentions ss) (asks kind e) (λ v. asks_steps kind v ss) (static_in_turn kind e (left (is_static_tree e) (steps_static ss) h))
      (λ v. steps_in_turn kind v ss (right (is_static_tree e) (steps_static ss) h))
  static_in_turn kind (call f.If (arg (one c) (arg (one a) (arg (one b) no_arg)))) h =
      let free = left (is_free a && (is_free b && true)) (is_static_tree c && (is_static_tree a && (is_static_tree b && true))) h in
      let fixed = right (is_free a && (is_free b && true)) (is_static_tree c && (is_static_tree a && (is_static_tree b && true))) h in
      let branches = right (is_static_tree c) (is_static_tree a && (is_static_tree b && true)) fixed in
      if_in_turn kind c a b (left (is_free a) (is_free b && true) free) (left (is_free b) true (right (is_free a) (is_free b && true) free))
      (static_in_turn kind c (left (is_static_tree c) (is_static_tree a && (is_static_tree b && true)) fixed))
      (static_in_turn kind a (left (is_static_tree a) (is_static_tree b && true) branches))
      (static_in_turn kind b (left (is_static_tree b) true (right (is_static_tree a) (is_static_tree b && true) branches)))
  static_in_turn kind (call f.Indirect xs) h = cc
  static_in_turn kind (call f.Gather xs) h = cc
  static_in_turn kind (call func xs) h = turn_done (args_mentions xs) (asks_args kind xs) (λ vs. called func vs) (args_in_turn kind xs (right (args_allowed (rule_of func) xs) (args_static xs) h))

  pub steps_in_turn : (kind : Kind) (v : Value) (ss : Steps) → steps_static ss ≡ true → AsksInTurn (steps_mentions ss) (asks_steps kind v ss)
  steps_in_turn kind v no_step h = tt
  steps_in_turn kind v (step op e ss) h =
      turn_then (mentions e) (steps_mentions ss) (asks kind e) (λ w. asks_steps kind (applied op (v ∷ w ∷ [])) ss) (static_in_turn kind e (left (is_static_tree e) (steps_static ss) h))
      (λ w. steps_in_turn kind (applied op (v ∷ w ∷ [])) ss (right (is_static_tree e) (steps_static ss) h))

  pub args_in_turn : (kind : Kind) (xs : Args) → args_static xs ≡ true → AsksInTurn (args_mentions xs) (asks_args kind xs)
  args_in_turn kind no_arg h = tt
  args_in_turn kind (arg x xs) h =
      turn_then (arg_mentions x) (args_mentions xs) (asks_arg kind x) (λ us. and_then (asks_args kind xs) (λ vs. done (us ++ vs))) (arg_in_turn kind x (left (arg_static x) (args_static xs) h))
      (λ us. turn_done (args_mentions xs) (asks_args kind xs) (λ vs. us ++ vs) (args_in_turn kind xs (right (arg_static x) (args_static xs) h)))

  pub arg_in_turn : (kind : Kind) (x : Arg) → arg_static x ≡ true → AsksInTurn (arg_mentions x) (asks_arg kind x)
  arg_in_turn kind (one e) h = turn_done (mentions e) (asks kind e) (λ v. v ∷ []) (static_in_turn kind e h)
  arg_in_turn kind (cells a) h = all_in_turn (cells_of a)
