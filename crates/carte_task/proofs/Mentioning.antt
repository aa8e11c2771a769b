-- The names in a formula's instructions are those in the formula.
use Rattle.std.proofs.Common.{◌≡◌, ℕ, true, List, [], ◌∷◌, ◌++◌, refl, ap, sym, ◌∙◌, subst, append_assoc, append-nil}
use Rattle.carte_name.specs.declared.kind.Kind.{Kind}
use Rattle.carte_value.specs.Areas.{cells_of}
use Rattle.carte_tree.specs.Tree.{Tree, number, text, ref, neg, chain, call, Steps, no_step, step, Args, no_arg, arg, Arg, one, cells}
use Rattle.carte_tree.specs.declared.expr.Func.TheVariants as f
use Rattle.carte_tree.specs.Formula.{is_static_tree, refs_of, mentions, steps_mentions, args_mentions, arg_mentions}
use Rattle.carte_task.specs.declared.code.Instr.{Instr}
use Rattle.carte_task.specs.declared.code.Instr.TheVariants as i
use Rattle.carte_task.specs.declared.task.Routine.{Routine}
use Rattle.carte_task.specs.declared.task.Task.{Task}
use Rattle.carte_value.specs.Asks.{firsts, asked}
use Rattle.carte_value.specs.Once.{once}
use Rattle.carte_tree.specs.InTurn.{KnowsAll}
use Rattle.carte_tree.specs.Meaning.{asks}
use Rattle.carte_tree.specs.Laws.{StaticRuns}
use Rattle.carte_task.specs.Code.{exec}
use Rattle.carte_task.specs.Coding.{count, choice, code_of, code_of_steps, code_of_args, code_of_arg}
use Rattle.carte_task.specs.Mentions.{mentioned_by, mentions_in, AsksOnly}
use Rattle.carte_task.specs.Tasks.{IsRoutineOf, IsTaskOf, routine_asks}
use Rattle.carte_task.proofs.Coding.{coded}

pub mentions_on : (xs ys : List Instr) → mentions_in (xs ++ ys) ≡ mentions_in xs ++ mentions_in ys
mentions_on [] ys = refl
mentions_on (x ∷ xs) ys = ap (λ ks. mentioned_by x ++ ks) (mentions_on xs ys) ∙ sym (append_assoc (mentioned_by x) (mentions_in xs) (mentions_in ys))

-- an instruction without names at the end
last_silent : (xs : List Instr) (j : Instr) (ks : List (List ℕ)) → mentioned_by j ≡ [] → mentions_in xs ≡ ks → mentions_in (xs ++ j ∷ []) ≡ ks
last_silent xs j ks silent is = mentions_on xs (j ∷ []) ∙ ap (λ js. mentions_in xs ++ (js ++ [])) silent ∙ append-nil (mentions_in xs) ∙ is

choice_coded : (c a b : List Instr) (ks is js : List (List ℕ)) → mentions_in c ≡ ks → mentions_in a ≡ is → mentions_in b ≡ js → mentions_in (choice c a b) ≡ ks ++ (is ++ (js ++ []))
choice_coded c a b ks is js first second third =
    mentions_on c _ ∙ ap (λ ms. mentions_in c ++ ms) (mentions_on a _ ∙ ap (λ ms. mentions_in a ++ ms) (sym (append-nil (mentions_in b))))
    ∙ ap (λ ms. ms ++ (mentions_in a ++ (mentions_in b ++ []))) first ∙ ap (λ ms. ks ++ (ms ++ (mentions_in b ++ []))) second ∙ ap (λ ms. ks ++ (is ++ (ms ++ []))) third

mutual
  mentions_coded : (e : Tree) → mentions_in (code_of e) ≡ mentions e
  mentions_coded (number n) = refl
  mentions_coded (text t) = refl
  mentions_coded (ref k) = refl
  mentions_coded (neg e) = last_silent (code_of e) i.Negate (mentions e) refl (mentions_coded e)
  mentions_coded (chain level e ss) = mentions_on (code_of e) (code_of_steps ss) ∙ ap (λ ks. ks ++ mentions_in (code_of_steps ss)) (mentions_coded e) ∙ ap (λ ks. mentions e ++ ks) (steps_coded ss)
  mentions_coded (call f.If (arg (one c) (arg (one a) (arg (one b) no_arg)))) = choice_coded (code_of c) (code_of a) (code_of b) (mentions c) (mentions a) (mentions b) (mentions_coded c) (mentions_coded a) (mentions_coded b)
  mentions_coded (call f.Indirect (arg (one e) no_arg)) = last_silent (code_of e) i.Indirect (mentions e) refl (mentions_coded e) ∙ sym (append-nil (mentions e))
  mentions_coded (call f.Gather (arg (one e) no_arg)) = last_silent (code_of e) i.Gather (mentions e) refl (mentions_coded e) ∙ sym (append-nil (mentions e))
  mentions_coded (call func xs) = last_silent (code_of_args xs) (i.Call func (count xs)) (args_mentions xs) refl (args_coded xs)

  steps_coded : (ss : Steps) → mentions_in (code_of_steps ss) ≡ steps_mentions ss
  steps_coded no_step = refl
  steps_coded (step op e ss) = mentions_on (code_of e) (i.Apply op ∷ code_of_steps ss) ∙ ap (λ ks. ks ++ mentions_in (code_of_steps ss)) (mentions_coded e) ∙ ap (λ ks. mentions e ++ ks) (steps_coded ss)

  args_coded : (xs : Args) → mentions_in (code_of_args xs) ≡ args_mentions xs
  args_coded no_arg = refl
  args_coded (arg x xs) = mentions_on (code_of_arg x) (code_of_args xs) ∙ ap (λ ks. ks ++ mentions_in (code_of_args xs)) (arg_coded x) ∙ ap (λ ks. arg_mentions x ++ ks) (args_coded xs)

  arg_coded : (x : Arg) → mentions_in (code_of_arg x) ≡ arg_mentions x
  arg_coded (one e) = mentions_coded e
  arg_coded (cells a) = append-nil (cells_of a)

-- the formula's code asks for what the formula asks for
pub routine_computes : (kind : Kind) (k : List ℕ) (e : Tree) (r : Routine) → IsRoutineOf kind k e r → routine_asks r ≡ asks kind e
routine_computes kind k e r of = ap (λ q. exec q 0 r.code.items []) of.kind_is ∙ (ap (λ cs. exec kind 0 cs []) of.code ∙ coded kind e)

-- a task of a formula, with the formula's instructions
pub task_made : (kind : Kind) (k : List ℕ) (e : Tree) (t : Task) → IsRoutineOf kind k e t.routine → t.fixed ≡ is_static_tree e → IsTaskOf kind k e t
task_made kind k e t of fixed = record {
  key = of.key;
  computes = routine_computes kind k e t.routine of;
  mentioned = ap mentions_in of.code ∙ mentions_coded e;
  fixed = fixed;
}

-- a static formula's code asks only for what it mentions
pub made_only : (kind : Kind) (e : Tree) (code : List Instr) → StaticRuns → code ≡ code_of e → is_static_tree e ≡ true → AsksOnly (firsts (mentions_in code)) (exec kind 0 code [])
made_only kind e code law is fixed t u a knows =
    let same : exec kind 0 code [] ≡ asks kind e = ap (λ cs. exec kind 0 cs []) is ∙ coded kind e in
    let names : firsts (mentions_in code) ≡ refs_of e = ap firsts (ap mentions_in is ∙ mentions_coded e) in
    ap (λ m. asked u (once a m)) same ∙ law.quiet kind t u a e fixed (subst (KnowsAll a t) names knows)

pub kept_only : (kind : Kind) (code copy : List Instr) (refs : List (List ℕ)) → copy ≡ code → refs ≡ firsts (mentions_in copy) → AsksOnly (firsts (mentions_in code)) (exec kind 0 code []) → AsksOnly refs (exec kind 0 copy [])
kept_only kind code copy refs same are only = rw (are, same) only
