-- Deep traces hold just where the rules and the inputs beneath their key are the present ones.
use Rattle.std.proofs.Common.{◌≡◌, ℕ, ◌+◌, List, [], ◌∷◌, length, Some, refl, ap, sym, ◌∙◌, inl, inr, subst}
use Rattle.carte_value.specs.declared.digest.Digest.{Digest}
use Rattle.carte_value.specs.declared.link.Link.{Link}
use Rattle.carte_value.specs.Lists.{Has}
use Rattle.carte_value.specs.Truths.{Among}
use Rattle.carte_value.proofs.Firsts.{among_firsts, firsts_among}
use Rattle.carte_tree.specs.Tree.{Tree}
use Rattle.carte_book.specs.Book.{rule, Book, content, rules_of, clean}
use Rattle.carte_book.specs.Needs.{IsRule}
use Rattle.carte_book.specs.Task.{task_now}
use Rattle.carte_book.proofs.Tasks.{one_task}
use Rattle.carte_record.specs.declared.deep_trace.DeepTrace.{DeepTrace}
use Rattle.carte_record.specs.declared.way.Way.TheVariants.{Deep}
use Rattle.carte_sound.specs.Base.{HasDistinctDigests}
use Rattle.carte_sound.specs.Beneath.{beneath_item, rules_item, beneath_in, rules_beneath_in, beneath, rules_beneath}
use Rattle.carte_sound.specs.Held.{AreLinks}
use Rattle.carte_sound.specs.Marks.{present}
use Rattle.carte_sound.specs.True.{digest_or, or_none, links_to, tasks_of, deep_trace, IsTraceOf}
use Rattle.carte_sound.proofs.Beneath.{rule_itself, beneath_input, beneath_rule, AgreeBeneath, beneath_value}
use Rattle.carte_sound.proofs.Minimal.{inputs_hold, tasks_hold}
use Rattle.carte_sound.proofs.Tasks.{own_task, same_task}
use Rattle.carte_sound.proofs.Walks.{walk_whole, present_agrees, inputs_same}

-- rules whose tasks are so now are the same rules, in books of one kind
tasks_agree : (H : List Book) → HasDistinctDigests H → (c b : Book) → Has H c → Has H b → (ks : List (List ℕ)) → AreLinks (task_now b) (tasks_of c ks) → (i : List ℕ) (f : Tree) → Among ks i → content c i ≡ Some (rule f) → (c.kind ≡ b.kind) × (content b i ≡ Some (rule f))
tasks_agree H distinct c b in_c in_b [] are i f among is = absurd among
tasks_agree H distinct c b in_c in_b (k ∷ ks) are i f (inl same) is =
    let at : content c k ≡ Some (rule f) = ap (content c) (sym same) ∙ is in
    let now = same_task H distinct c b in_c in_b k f at (are.0 ∙ ap Some (own_task c k f at)) in
    (now.0, ap (content b) same ∙ now.1)
tasks_agree H distinct c b in_c in_b (k ∷ ks) are i f (inr later) is = tasks_agree H distinct c b in_c in_b ks are.1 i f later is

-- rules that are the same in both books have the same tasks
tasks_same : (c b : Book) → c.kind ≡ b.kind → (ks : List (List ℕ)) → ((i : List ℕ) → Among ks i → IsRule c i × (content b i ≡ content c i)) → tasks_of c ks ≡ tasks_of b ks
tasks_same c b kind [] same = refl
tasks_same c b kind (k ∷ ks) same =
    let here = same k (inl refl) in
    let task : task_now c k ≡ task_now b k = one_task c b k k here.0.0 kind here.0.1 (here.1 ∙ here.0.1) in
    ap (λ o. record { name = k; digest = or_none o } ∷ tasks_of c ks) task ∙ ap (λ ts. record { name = k; digest = or_none (task_now b k) } ∷ ts) (tasks_same c b kind ks (λ i among. same i (inr among)))

abbrev trace_by : List ℕ → List Link → List Link → Digest → DeepTrace
trace_by k ts ls d = record { key = k; tasks = ts; links = ls; result = d }

same_trace : (k : List ℕ) (ts us : List Link) (ls ms : List Link) (d e : Digest) → ts ≡ us → ls ≡ ms → d ≡ e → trace_by k ts ls d ≡ trace_by k us ms e
same_trace k ts us ls ms d e tasks links result = ap (λ xs. trace_by k xs ls d) tasks ∙ ap (λ xs. trace_by k us xs d) links ∙ ap (trace_by k us ms) result

-- a trace of one book whose tasks and links are so in another
module _ (H : List Book) (distinct : HasDistinctDigests H) (c b : Book) (in_c : Has H c) (in_b : Has H b) (k : List ℕ) (t : DeepTrace) (of : IsTraceOf Deep c k t) (tasks : AreLinks (task_now b) t.tasks) (links : AreLinks (present b) t.links) where
  abbrev n : ℕ
  n = length (rules_of c) + 1

  tasks_then : AreLinks (task_now b) (tasks_of c (rules_beneath c k))
  tasks_then = subst (λ (x : DeepTrace). AreLinks (task_now b) x.tasks) of.trace tasks

  links_then : AreLinks (present b) (links_to (clean c) (beneath c k))
  links_then = subst (λ (x : DeepTrace). AreLinks (present b) x.links) of.trace links

  rules_agree : (i : List ℕ) → Among (rules_beneath_in n c k) i → content b i ≡ content c i
  rules_agree i among =
      let f = beneath_rule n c k i among in
      (tasks_agree H distinct c b in_c in_b (rules_beneath c k) tasks_then i f.0 (firsts_among (rules_beneath_in n c k) i among) f.1).1 ∙ sym f.1

  inputs_agree : (i : List ℕ) → Among (beneath_in n c k) i → content b i ≡ content c i
  inputs_agree i among =
      let x = beneath_input n c k i among in
      present_agrees H distinct c b in_c in_b (beneath c k) links_then i (firsts_among (beneath_in n c k) i among) x.0 x.1 ∙ sym x.1

  kind_agrees : c.kind ≡ b.kind
  kind_agrees = (tasks_agree H distinct c b in_c in_b (rules_beneath c k) tasks_then k of.formula (firsts_among (rules_beneath_in n c k) k (rule_itself n c k of.formula of.is_rule)) of.is_rule).0

  -- the other book agrees with it beneath the key
  pub deep_agree : AgreeBeneath c b n k
  deep_agree = record { kind = kind_agrees; rules = rules_agree; inputs = inputs_agree }

  -- the key has the same value there
  pub deep_value : clean b k ≡ Some of.value
  deep_value = beneath_value c b n k of.value of.clean deep_agree

  -- and the trace is that of the other book
  pub deep_same : t ≡ deep_trace b k
  deep_same =
      of.trace ∙ same_trace k (tasks_of c (rules_beneath c k)) (tasks_of b (rules_beneath b k)) (links_to (clean c) (beneath c k)) (links_to (clean b) (beneath b k)) (digest_or (clean c k)) (digest_or (clean b k))
      (tasks_same c b kind_agrees (rules_beneath c k) (λ i among. let there = among_firsts (rules_beneath_in n c k) i among in (beneath_rule n c k i there, rules_agree i there)) ∙ ap (tasks_of b) (sym (walk_whole rules_item c b k of.value of.clean deep_agree)))
      (inputs_same c b n k inputs_agree ∙ ap (links_to (clean b)) (sym (walk_whole beneath_item c b k of.value of.clean deep_agree)))
      (ap digest_or (of.clean ∙ sym deep_value))

-- and a trace holds where the rules beneath have their tasks and the inputs there their values
pub deep_unchanged : (b c : Book) (k : List ℕ) (t : DeepTrace) → IsTraceOf Deep c k t → ((i : List ℕ) → Among (rules_beneath c k) i → task_now b i ≡ task_now c i) → ((i : List ℕ) → Among (beneath c k) i → content b i ≡ content c i) → AreLinks (task_now b) t.tasks × AreLinks (present b) t.links
deep_unchanged b c k t of tasks inputs =
    let n = length (rules_of c) + 1 in (
      subst (λ (x : DeepTrace). AreLinks (task_now b) x.tasks) (sym of.trace) (tasks_hold b c (rules_beneath c k) (λ i among. beneath_rule n c k i (among_firsts (rules_beneath_in n c k) i among)) tasks),
      subst (λ (x : DeepTrace). AreLinks (present b) x.links) (sym of.trace) (inputs_hold b c (beneath c k) (λ i among. beneath_input n c k i (among_firsts (beneath_in n c k) i among)) inputs),
    )
