-- Made keys that are finished, with what lies beneath them.
use Rattle.std.proofs.Common.{◌≡◌, ℕ, suc, ◌+◌, Bool, true, false, cond, List, [], ◌∷◌, ◌++◌, length, append-nil, Option, Some, None, refl, ap, sym, ◌∙◌, subst, inl, inr, arith}
use Rattle.carte_value.specs.declared.digest.Digest.{Digest}
use Rattle.carte_value.specs.declared.link.Link.{Link}
use Rattle.carte_value.specs.declared.value.Value.{Value}
use Rattle.carte_value.specs.Truths.{Among, HasValue}
use Rattle.carte_value.specs.Asks.{firsts}
use Rattle.carte_value.proofs.Firsts.{among_firsts}
use Rattle.carte_book.specs.Book.{Item, input, rule, Book, content, val, rules_of, clean}
use Rattle.carte_book.specs.Needs.{IsRule, needs}
use Rattle.carte_book.specs.Task.{task_in, task_now}
use Rattle.carte_book.proofs.Clean.{clean_input, clean_nothing}
use Rattle.carte_effect.specs.declared.outcome.Made.{Made}
use Rattle.carte_effect.specs.declared.outcome.Made.TheVariants.{Ran, Reused}
use Rattle.carte_record.specs.declared.way.Way.TheVariants.{Verifying, Constructive, Deep}
use Rattle.carte_record.specs.Kept.{SomeKept}
use Rattle.carte_sound.specs.Beneath.{gathered, walk, beneath_item, rules_item, beneath_in, rules_beneath_in, beneath, rules_beneath}
use Rattle.carte_sound.specs.Held.{How, dirty, tracing, gathers}
use Rattle.carte_sound.specs.Marks.{digest_in}
use Rattle.carte_sound.specs.True.{digest_or, or_none, linked_by, links_to, tasks_of}
use Rattle.carte_sound.proofs.Beneath.{gathered_same, no_needs, beneath_of_input, rules_of_input, round_known, beneath_input, beneath_rule, walk_stays}
use Rattle.carte_sound.proofs.Minimal.{needs_known}
use Rattle.carte_sound.proofs.Reached.{needing_rule}
use Rattle.carte_sound.proofs.Tasks.{own_task}
use Rattle.carte_note.specs.declared.finished.Finished.{Finished}
use Rattle.carte_note.specs.Lists.{finished_of}
use Rattle.carte_note.specs.Right.{IsRightMade, IsRightFinished, has_run, reused_links}
use Rattle.carte_rebuild.specs.declared.gather.Role.{Role}
use Rattle.carte_rebuild.specs.declared.gather.Role.TheVariants.{Rules, Inputs}
use Rattle.carte_rebuild.specs.Finishes.{HaveFinished, FinishesRight}
use Rattle.carte_rebuild.specs.Gathering.{put_links, links_in, role_links, finished_links, itself, brought, brought_by, own_digest, own_links, beneath_ran, is_of, picked, beneath_made}
use Rattle.carte_rebuild.proofs.Gathered.{firsts_behind, put_both, put_firsts, links_join}

-- 1. what is beneath, of either role

abbrev rounds_of : Book → ℕ
rounds_of b = length (rules_of b)

one_more : (b : Book) → rounds_of b + 1 ≡ suc (rounds_of b)
one_more b = omega arith

abbrev met : Role → Option Item → List ℕ → List (List ℕ) → List (List ℕ)
met Rules = rules_item
met Inputs = beneath_item

abbrev pub under : Role → Book → List ℕ → List (List ℕ)
under r b k = firsts (walk (met r) (rounds_of b + 1) b k)

-- the digests that it is linked with
abbrev pub digest_by : Role → Book → List ℕ → Digest
digest_by Rules b = λ k. or_none (task_now b k)
digest_by Inputs b = λ k. digest_or (clean b k)

-- of an input itself, among inputs
under_input : (r : Role) (b : Book) (k : List ℕ) (v : Value) → content b k ≡ Some (input v) → linked_by (digest_by r b) (under r b k) ≡ itself r (record { name = k; digest = digest_or (clean b k) })
under_input Rules b k v is = ap (λ ks. tasks_of b (firsts ks)) (rules_of_input (rounds_of b + 1) b k v is)
under_input Inputs b k v is = ap (λ ks. links_to (clean b) (firsts ks)) (beneath_of_input (rounds_of b + 1) b k v is)

-- of a key with a clean value itself, where it counts, and what is beneath its needs
module _ (r : Role) (b : Book) (k : List ℕ) (v : Value) (has : clean b k ≡ Some v) where
  found : val b (suc (rounds_of b)) k ≡ Some v
  found = ap (λ n. val b n k) (sym (one_more b)) ∙ has

  same : (j : List ℕ) → Among (needs b k) j → walk (met r) (rounds_of b + 1) b j ≡ walk (met r) (rounds_of b) b j
  same j among =
      let f = needing_rule b k j among in
      let w = round_known b (rounds_of b) k f.0 v f.1 found j among in
      ap (λ n. walk (met r) n b j) (one_more b) ∙ walk_stays (met r) b (rounds_of b) j w.0 w.1

  split : (s : Role) (o : Option Item) → content b k ≡ o → (f : List ℕ → List (List ℕ)) → met s o k [] ++ gathered f (needs b k) ≡ met s o k (gathered f (needs b k))
  split s None is f = (let never : None ≡ Some v = sym (clean_nothing b k is) ∙ has in cc)
  split Rules (Some (input x)) is f = ap (gathered f) (no_needs b k x is)
  split Inputs (Some (input x)) is f = ap (λ ks. k ∷ gathered f ks) (no_needs b k x is)
  split Rules (Some (rule e)) is f = refl
  split Inputs (Some (rule e)) is f = refl

  pub under_needs : firsts (met r (content b k) k [] ++ gathered (under r b) (needs b k)) ≡ under r b k
  under_needs =
      firsts_behind (λ j. walk (met r) (rounds_of b + 1) b j) (met r (content b k) k []) (needs b k)
      ∙ ap (λ ks. firsts (met r (content b k) k [] ++ ks)) (gathered_same (λ j. walk (met r) (rounds_of b + 1) b j) (λ j. walk (met r) (rounds_of b) b j) (needs b k) same)
      ∙ ap firsts (split r (content b k) refl (λ j. walk (met r) (rounds_of b) b j))
      ∙ ap (λ n. firsts (walk (met r) n b k)) (sym (one_more b))

-- what stands beneath has the role
under_inputs : (b : Book) (k i : List ℕ) → Among (beneath b k) i → (x : Value) × (content b i ≡ Some (input x))
under_inputs b k i among = beneath_input (rounds_of b + 1) b k i (among_firsts (beneath_in (rounds_of b + 1) b k) i among)

under_rules : (b : Book) (k i : List ℕ) → Among (rules_beneath b k) i → IsRule b i
under_rules b k i among = beneath_rule (rounds_of b + 1) b k i (among_firsts (rules_beneath_in (rounds_of b + 1) b k) i among)

-- 2. what links bring

-- the finished key of a rule, with what is beneath the rule
abbrev pub AreFound : Role → Book → List Finished → List (List ℕ) → Type 0
AreFound r b before ks = (j : List ℕ) → Among ks j → IsRule b j → (f : Finished) × (finished_of before j ≡ Some f) × (role_links r f ≡ linked_by (digest_by r b) (under r b j))

pub brings_beneath : (r : Role) (b : Book) (before : List Finished) (ks : List (List ℕ)) → ((j : List ℕ) → Among ks j → HasValue (clean b) j) → AreFound r b before ks
    → brought_by r b before (links_to (clean b) ks) ≡ linked_by (digest_by r b) (gathered (under r b) ks)
brings_beneath r b before [] have found = refl
brings_beneath r b before (k ∷ ks) have found =
    ap (λ ls. ls ++ brought_by r b before (links_to (clean b) ks)) (on (content b k) refl)
    ∙ ap (λ ls. linked_by (digest_by r b) (under r b k) ++ ls) (brings_beneath r b before ks (λ j among. have j (inr among)) (λ j among is_rule. found j (inr among) is_rule))
    ∙ sym (links_join (digest_by r b) (under r b k) (gathered (under r b) ks))
  where
    on : (o : Option Item) → content b k ≡ o → brought r (content b k) (finished_of before k) (record { name = k; digest = digest_or (clean b k) }) ≡ linked_by (digest_by r b) (under r b k)
    on None is = (let none = clean_nothing b k is in let some = have k (inl refl) in let never : None ≡ Some some.0 = sym none ∙ some.1 in cc)
    on (Some (input v)) is = ap (λ o. brought r o (finished_of before k) (record { name = k; digest = digest_or (clean b k) })) is ∙ sym (under_input r b k v is)
    on (Some (rule e)) is = (let f = found k (inl refl) (e, is) in ap (λ o. brought r o (finished_of before k) (record { name = k; digest = digest_or (clean b k) })) is ∙ ap (finished_links r) f.1 ∙ f.2)

-- the key itself
own_beneath : (r : Role) (b : Book) (k : List ℕ) → own_links (own_digest r b k) k ≡ linked_by (digest_by r b) (met r (content b k) k [])
own_beneath Rules b k = on (content b k) refl
  where
    on : (o : Option Item) → content b k ≡ o → own_links (task_in b.kind o) k ≡ tasks_of b (rules_item o k [])
    on None is = refl
    on (Some (input v)) is = refl
    on (Some (rule e)) is = ap (λ d. record { name = k; digest = d } ∷ []) (sym (own_task b k e is))
own_beneath Inputs b k = on (content b k) refl
  where
    on : (o : Option Item) → content b k ≡ o → own_links (digest_in o) k ≡ links_to (clean b) (beneath_item o k [])
    on None is = refl
    on (Some (input v)) is = ap (λ d. record { name = k; digest = d } ∷ []) (sym (ap digest_or (clean_input b k v is)))
    on (Some (rule e)) is = refl

-- 3. what is picked from links

picked_join : (r : Role) (b : Book) (ls ms : List Link) → picked r b (ls ++ ms) ≡ picked r b ls ++ picked r b ms
picked_join r b [] ms = refl
picked_join r b (l ∷ ls) ms = on (is_of r (content b l.name)) (picked_join r b ls ms)
  where
    on : (t : Bool) → picked r b (ls ++ ms) ≡ picked r b ls ++ picked r b ms → cond t (l ∷ []) [] ++ picked r b (ls ++ ms) ≡ (cond t (l ∷ []) [] ++ picked r b ls) ++ picked r b ms
    on true later = ap (λ xs. l ∷ xs) later
    on false later = later

picked_all : (r : Role) (b : Book) (g : List ℕ → Digest) (ks : List (List ℕ)) → ((j : List ℕ) → Among ks j → is_of r (content b j) ≡ true) → picked r b (linked_by g ks) ≡ linked_by g ks
picked_all r b g [] each = refl
picked_all r b g (k ∷ ks) each =
    ap (λ t. cond t (record { name = k; digest = g k } ∷ []) [] ++ picked r b (linked_by g ks)) (each k (inl refl))
    ∙ ap (λ ls. record { name = k; digest = g k } ∷ ls) (picked_all r b g ks (λ j among. each j (inr among)))

picked_none : (r : Role) (b : Book) (g : List ℕ → Digest) (ks : List (List ℕ)) → ((j : List ℕ) → Among ks j → is_of r (content b j) ≡ false) → picked r b (linked_by g ks) ≡ []
picked_none r b g [] each = refl
picked_none r b g (k ∷ ks) each =
    ap (λ t. cond t (record { name = k; digest = g k } ∷ []) [] ++ picked r b (linked_by g ks)) (each k (inl refl))
    ∙ picked_none r b g ks (λ j among. each j (inr among))

-- from the links of a held key, what is beneath it
held_beneath : (r : Role) (b : Book) (k : List ℕ) (links : List Link) → links ≡ tasks_of b (rules_beneath b k) ++ links_to (clean b) (beneath b k) → picked r b links ≡ linked_by (digest_by r b) (under r b k)
held_beneath Rules b k links are =
    ap (picked Rules b) are
    ∙ picked_join Rules b (tasks_of b (rules_beneath b k)) (links_to (clean b) (beneath b k))
    ∙ ap (λ ls. ls ++ picked Rules b (links_to (clean b) (beneath b k))) (picked_all Rules b (digest_by Rules b) (rules_beneath b k) (λ j among. ap (is_of Rules) (under_rules b k j among).1))
    ∙ ap (λ ls. tasks_of b (rules_beneath b k) ++ ls) (picked_none Rules b (digest_by Inputs b) (beneath b k) (λ j among. ap (is_of Rules) (under_inputs b k j among).1))
    ∙ append-nil (tasks_of b (rules_beneath b k))
held_beneath Inputs b k links are =
    ap (picked Inputs b) are
    ∙ picked_join Inputs b (tasks_of b (rules_beneath b k)) (links_to (clean b) (beneath b k))
    ∙ ap (λ ls. ls ++ picked Inputs b (links_to (clean b) (beneath b k))) (picked_none Inputs b (digest_by Rules b) (rules_beneath b k) (λ j among. ap (is_of Inputs) (under_rules b k j among).1))
    ∙ picked_all Inputs b (digest_by Inputs b) (beneath b k) (λ j among. ap (is_of Inputs) (under_inputs b k j among).1)

-- 4. what is finished

-- what is gathered of a key that is finished rightly
finished_right : (r : Role) (h : How) (K : SomeKept) (b : Book) (j : List ℕ) (f : Finished) → gathers h ≡ true → IsRightFinished h K b j f → role_links r f ≡ linked_by (digest_by r b) (under r b j)
finished_right Rules h K b j f wanted right = right.tasks ∙ ap (λ t. cond t (tasks_of b (rules_beneath b j)) []) wanted
finished_right Inputs h K b j f wanted right = right.beneath ∙ ap (λ t. cond t (links_to (clean b) (beneath b j)) []) wanted

ran_beneath : (r : Role) (h : How) (b : Book) (before : List Finished) (K : SomeKept) (k : List ℕ) (v : Value) (links : List Link) → clean b k ≡ Some v → links ≡ links_to (clean b) (needs b k) → gathers h ≡ true → HaveFinished h K b before k
    → beneath_ran r b before k links ≡ linked_by (digest_by r b) (under r b k)
ran_beneath r h b before K k v links has are wanted finished =
    ap (λ ls. links_in (put_links (put_links [] (own_links (own_digest r b k) k)) (brought_by r b before ls))) are
    ∙ ap (λ ls. links_in (put_links (put_links [] (own_links (own_digest r b k) k)) ls)) (brings_beneath r b before (needs b k) (needs_known b k v has) found_all)
    ∙ ap (λ ls. links_in (put_links (put_links [] ls) (linked_by (digest_by r b) (gathered (under r b) (needs b k))))) (own_beneath r b k)
    ∙ ap links_in (sym (put_both [] (linked_by (digest_by r b) (met r (content b k) k [])) (linked_by (digest_by r b) (gathered (under r b) (needs b k)))))
    ∙ ap (λ ls. links_in (put_links [] ls)) (sym (links_join (digest_by r b) (met r (content b k) k []) (gathered (under r b) (needs b k))))
    ∙ put_firsts (digest_by r b) (met r (content b k) k [] ++ gathered (under r b) (needs b k))
    ∙ ap (linked_by (digest_by r b)) (under_needs r b k v has)
  where
    found_all : AreFound r b before (needs b k)
    found_all j among is = let f = finished j among is in (f.0, f.1, finished_right r h K b j f.0 wanted f.2)

-- who gathers has links of what is beneath a held key
held_links : (h : How) (b : Book) (k : List ℕ) → gathers h ≡ true → reused_links h b k ≡ tasks_of b (rules_beneath b k) ++ links_to (clean b) (beneath b k)
held_links dirty b k wanted = cc
held_links (tracing Verifying) b k wanted = cc
held_links (tracing Constructive) b k wanted = cc
held_links (tracing Deep) b k wanted = refl

made_beneath : (r : Role) (h : How) (b : Book) (before : List Finished) (K : SomeKept) (k : List ℕ) (m : Made) → gathers h ≡ true → IsRightMade h K b k m → (has_run m ≡ true → HaveFinished h K b before k) → beneath_made r b before m ≡ linked_by (digest_by r b) (under r b k)
made_beneath r h b before K k (Ran o) wanted right finished = ap (λ j. beneath_ran r b before j o.links) right.key ∙ ran_beneath r h b before K k o.value o.links right.value right.came.1 wanted (finished refl)
made_beneath r h b before K k (Reused o) wanted right finished = held_beneath r b k o.links (right.came.1 ∙ held_links h b k wanted)

pub finishes_right : (h : How) (b : Book) (before : List Finished) (m : Made) (f : Finished) (wanted : Bool) → f.made ≡ m → wanted ≡ gathers h → f.tasks ≡ cond wanted (beneath_made Rules b before m) [] → f.beneath ≡ cond wanted (beneath_made Inputs b before m) [] → FinishesRight h b before m f
finishes_right h b before m f wanted same told tasks_so inputs_so K k right finished = record {
  made = subst (IsRightMade h K b k) (sym same) right;
  tasks = tasks_so ∙ ap (λ w. cond w (beneath_made Rules b before m) []) told ∙ on Rules (gathers h) refl;
  beneath = inputs_so ∙ ap (λ w. cond w (beneath_made Inputs b before m) []) told ∙ on Inputs (gathers h) refl;
}
  where
    on : (r : Role) (g : Bool) → gathers h ≡ g → cond g (beneath_made r b before m) [] ≡ cond g (linked_by (digest_by r b) (under r b k)) []
    on r false none = refl
    on r true wanted = made_beneath r h b before K k m wanted right (finished wanted)
