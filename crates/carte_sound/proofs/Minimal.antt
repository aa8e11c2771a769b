-- Links and tasks hold where what they name is what it was.
use Rattle.std.proofs.Common.{◌≡◌, ℕ, List, [], ◌∷◌, length, ◌+◌, Some, option_map, refl, ap, sym, ◌∙◌, inl, inr}
use Rattle.carte_value.specs.declared.value.Value.{Value}
use Rattle.carte_value.specs.Spelling.{digest_of}
use Rattle.carte_value.specs.Truths.{Among}
use Rattle.carte_value.proofs.Firsts.{among_firsts}
use Rattle.carte_book.specs.Book.{input, Book, content, rules_of, clean}
use Rattle.carte_book.specs.Needs.{IsRule, needs}
use Rattle.carte_book.specs.Reason.{IsClean}
use Rattle.carte_book.specs.Task.{task_now}
use Rattle.carte_book.proofs.Clean.{clean_input}
use Rattle.carte_book.proofs.Tasks.{task_of_rule}
use Rattle.carte_record.specs.declared.way.Way.{Way}
use Rattle.carte_record.specs.declared.way.Way.TheVariants.{Verifying, Constructive, Deep}
use Rattle.carte_sound.specs.Marks.{digest_in, present}
use Rattle.carte_sound.specs.Beneath.{beneath_in, rules_beneath_in, beneath, rules_beneath}
use Rattle.carte_sound.specs.True.{digest_or, or_none, links_to, linked, tasks_of, trace_of}
use Rattle.carte_sound.specs.Held.{AreLinks, clean_digest, digest_now, IsTasked}
use Rattle.carte_sound.proofs.Held.{need_has_value}
use Rattle.carte_sound.proofs.Beneath.{beneath_input, beneath_rule}
use Rattle.carte_sound.proofs.Reached.{needing_rule}

pub links_hold : (b c : Book) (ks : List (List ℕ)) → ((j : List ℕ) → Among ks j → (w : Value) × (clean c j ≡ Some w)) → ((j : List ℕ) → Among ks j → clean b j ≡ clean c j) → AreLinks (clean_digest b) (links_to (clean c) ks)
links_hold b c [] has same = tt
links_hold b c (k ∷ ks) has same =
    let w = has k (inl refl) in
    (ap (option_map digest_of) (same k (inl refl) ∙ w.1) ∙ ap (λ o. Some (digest_or o)) (sym w.1), links_hold b c ks (λ j among. has j (inr among)) (λ j among. same j (inr among)))

pub inputs_hold : (b c : Book) (ks : List (List ℕ)) → ((i : List ℕ) → Among ks i → (x : Value) × (content c i ≡ Some (input x))) → ((i : List ℕ) → Among ks i → content b i ≡ content c i) → AreLinks (present b) (links_to (clean c) ks)
inputs_hold b c [] has same = tt
inputs_hold b c (k ∷ ks) has same =
    let x = has k (inl refl) in
    (ap digest_in (same k (inl refl) ∙ x.1) ∙ ap (λ o. Some (digest_or o)) (sym (clean_input c k x.0 x.1)), inputs_hold b c ks (λ j among. has j (inr among)) (λ j among. same j (inr among)))

pub tasks_hold : (b c : Book) (ks : List (List ℕ)) → ((i : List ℕ) → Among ks i → IsRule c i) → ((i : List ℕ) → Among ks i → task_now b i ≡ task_now c i) → AreLinks (task_now b) (tasks_of c ks)
tasks_hold b c [] rules same = tt
tasks_hold b c (k ∷ ks) rules same =
    let r = rules k (inl refl) in
    let t = task_of_rule c k r.0 r.1 in
    (same k (inl refl) ∙ t ∙ ap (λ o. Some (or_none o)) (sym t), tasks_hold b c ks (λ i among. rules i (inr among)) (λ i among. same i (inr among)))

-- a need of a key with a clean value has one
pub needs_known : (b : Book) (k : List ℕ) (v : Value) → clean b k ≡ Some v → (j : List ℕ) → Among (needs b k) j → (w : Value) × (clean b j ≡ Some w)
needs_known b k v has j among = let f = needing_rule b k j among in need_has_value b k f.0 v f.1 has j among

-- the present links of a rule with a clean value hold
pub held_links : (w : Way) (b : Book) (k : List ℕ) → IsRule b k → IsClean b k → AreLinks (digest_now w b) (links_to (clean b) (linked w b k))
held_links Verifying b k is_rule has = links_hold b b (needs b k) (need_has_value b k is_rule.0 has.0 is_rule.1 has.1) (λ j among. refl)
held_links Constructive b k is_rule has = links_hold b b (needs b k) (need_has_value b k is_rule.0 has.0 is_rule.1 has.1) (λ j among. refl)
held_links Deep b k is_rule has = inputs_hold b b (beneath b k) (λ i among. beneath_input (length (rules_of b) + 1) b k i (among_firsts (beneath_in (length (rules_of b) + 1) b k) i among)) (λ i among. refl)

-- and a rule has the tasks that its trace names
pub own_tasked : (w : Way) (b : Book) (k : List ℕ) → IsRule b k → IsTasked w b k (trace_of w b k)
own_tasked Verifying b k r = let t = task_of_rule b k r.0 r.1 in t ∙ ap (λ o. Some (or_none o)) (sym t)
own_tasked Constructive b k r = let t = task_of_rule b k r.0 r.1 in t ∙ ap (λ o. Some (or_none o)) (sym t)
own_tasked Deep b k r = tasks_hold b b (rules_beneath b k) (λ i among. beneath_rule (length (rules_of b) + 1) b k i (among_firsts (rules_beneath_in (length (rules_of b) + 1) b k) i among)) (λ i among. refl)
