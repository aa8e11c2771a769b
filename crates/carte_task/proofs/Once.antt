-- Each name of instructions once, as the instructions come one after the other.
use Rattle.std.proofs.Common.{◌≡◌, ℕ, ◌+◌, ◌<◌, length, take, get_or, List, [], ◌∷◌, ◌++◌, ap, sym, ◌∙◌, append-nil}
use Rattle.std.proofs.lemmas.List.{take_more}
use Rattle.carte_value.specs.Asks.{firsts}
use Rattle.carte_value.specs.Firsts.{seen_all}
use Rattle.carte_tree.proofs.Once.{firsts_all}
use Rattle.carte_task.specs.declared.code.Instr.{Instr}
use Rattle.carte_task.specs.Mentions.{mentioned_by, mentions_in}
use Rattle.carte_task.proofs.Mentioning.{mentions_on}

-- the names of the next instruction were seen
pub code_more : (code : List Instr) (at : ℕ) (c : Instr) (now new : List (List ℕ)) → at < length code → c ≡ get_or code at c → now ≡ firsts (mentions_in (take at code)) → new ≡ seen_all now (mentioned_by c) → new ≡ firsts (mentions_in (take (at + 1) code))
code_more code at c now new within is before after =
    after ∙ ap (λ ks. seen_all ks (mentioned_by c)) before ∙ firsts_all (mentions_in (take at code)) (mentioned_by c)
    ∙ ap firsts (ap (λ ks. mentions_in (take at code) ++ ks) (sym (append-nil (mentioned_by c))) ∙ sym (mentions_on (take at code) (c ∷ [])) ∙ ap mentions_in (ap (λ d. take at code ++ d ∷ []) is ∙ sym (take_more code at c within)))
