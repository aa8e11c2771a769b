-- The lines of an explanation.
use Rattle.std.proofs.Common.{◌≡◌, ℕ, ◌+◌, ◌<◌, List, [], ◌∷◌, ◌++◌, map, take, get_or, length, Result, Err, refl, sym, ◌∙◌, ap, subst, inl, inr, append-nil}
use Rattle.std.proofs.lemmas.Grind.{flat_map-append}
use Rattle.std.proofs.lemmas.List.{map-append, take_more}
use Rattle.carte_value.specs.Truths.{Among}
use Rattle.carte_book.specs.Book.{Book}
use Rattle.carte_book.specs.Reason.{AllClean, IsReason}
use Rattle.carte_book.specs.declared.reason.Reason.{Reason}
use Rattle.carte_engine.specs.Versions.{Under, kept_for}
use Rattle.carte_engine.proofs.Raising.{distinct_more, sound_for}
use Rattle.carte_engine.specs.Previews.{IsPreview}
use Rattle.carte_explain.specs.Why.{how_of}
use Rattle.carte_explain.specs.declared.why.RebuilderKind.{RebuilderKind}
use Rattle.carte_explain.specs.declared.why.Why.{Why}
use Rattle.carte_rebuild.specs.declared.work.PlanFault.{PlanFault}
use Rattle.carte_rebuild.specs.declared.work.PlanFault.TheVariants.{Refused, NoMemory}
use Rattle.carte_rebuild.specs.declared.work.Work.{Work}
use Rattle.carte_record.specs.Kept.{SomeKept}
use Rattle.carte_report.specs.Lines.{why_line, why_lines}
use Rattle.carte_sound.specs.Base.{HasDistinctDigests}
use Rattle.carte_sound.specs.Held.{How}
use Rattle.carte_sound.specs.Sound.{IsSound}
use Rattle.carte_state.specs.Versions.{AnyKept}
use Rattle.carte_shell.specs.Explained.{AreWhys, Explained, TellAll, Tells, TellsEach, TellsRefusal}
use Rattle.carte_shell.specs.Replies.{Said}

module _ (r : RebuilderKind) (K : SomeKept) (b : Book) (w : Work) where
  tell_last : (told : List (List ℕ × Why)) (t : List ℕ × Why) → TellAll r K b w told → Tells r K b w t.0 t.1 → TellAll r K b w (told ++ t ∷ [])
  tell_last [] t all one = (one, tt)
  tell_last (u ∷ told) t all one = (all.0, tell_last told t all.1 one)

  tell_one : (keys : List (List ℕ)) (text line : List ℕ) (k : List ℕ) → TellsEach r K b w keys text → (y : Why) × Tells r K b w k y × (line ≡ why_line k y) → TellsEach r K b w (keys ++ k ∷ []) (text ++ line)
  tell_one keys text line k so one = (
    so.0 ++ (k, one.0) ∷ [],
    map-append (λ (t : List ℕ × Why). t.0) so.0 ((k, one.0) ∷ []) ∙ ap (λ ks. ks ++ k ∷ []) so.1,
    ap (λ x. x ++ line) so.2 ∙ ap (λ x. why_lines so.0 ++ x) (one.2 ∙ sym (append-nil (why_line k one.0))) ∙ sym (flat_map-append (λ (t : List ℕ × Why). why_line t.0 t.1) so.0 ((k, one.0) ∷ [])),
    tell_last so.0 (k, one.0) so.3 one.1,
  )

  -- of the keys so far, and of one more
  pub tell_next : (keys : List (List ℕ)) (i : ℕ) (k text new line : List ℕ) → i < length keys → k ≡ get_or keys i k → new ≡ text ++ line
      → TellsEach r K b w (take i keys) text → (y : Why) × Tells r K b w k y × (line ≡ why_line k y) → TellsEach r K b w (take (i + 1) keys) new
  tell_next keys i k text new line below is grown so one =
      subst (λ ks. TellsEach r K b w ks new) (sym (take_more keys i k below ∙ ap (λ j. take i keys ++ j ∷ []) (sym is)))
      (subst (TellsEach r K b w (take i keys ++ k ∷ [])) (sym grown) (tell_one (take i keys) text line k so one))

  pub tell_none : (text : List ℕ) → text ≡ [] → TellsEach r K b w [] text
  tell_none text is = ([], refl, is, tt)

  -- what is told is why
  module _ (H : List Book) (targets : List (List ℕ)) (sound : IsSound K H) (distinct : HasDistinctDigests (H ++ b ∷ [])) (p : IsPreview (how_of r) K b targets w) where
    all_why : (told : List (List ℕ × Why)) → ((k : List ℕ) → Among (map (λ t. t.0) told) k → Among targets k) → TellAll r K b w told → AreWhys (how_of r) K b told
    all_why [] within all = tt
    all_why (t ∷ told) within all = (all.0 H targets p.begun sound distinct p.begins p.work p.clean (within t.0 (inl refl)), all_why told (λ k later. within k (inr later)) all.1)

    are_why : (told : List (List ℕ × Why)) → map (λ t. t.0) told ≡ targets → TellAll r K b w told → AllClean b targets × AreWhys (how_of r) K b told
    are_why told is all = (p.clean, all_why told (λ k there. subst (λ ks. Among ks k) is there) all)

-- a refusal is told, and it is for the reason
pub refused_by : {W : Type 0} (h : How) (A : AnyKept) (b : Book) (targets : List (List ℕ)) (q : Result W PlanFault) (fault : PlanFault) (reply : Said) → q ≡ Err fault
    → Under A b ((reason : Reason) → q ≡ Err (Refused reason) → IsReason b targets reason) → TellsRefusal fault reply → Explained h A b targets reply
refused_by h A b targets q (Refused reason) reply is because told = inr (reason, told, (λ H sound distinct. because H sound distinct reason is))
refused_by h A b targets q NoMemory reply is because told = absurd told

-- what is told over what the build finds, whatever history that is sound for
pub found_why : (r : RebuilderKind) (A : AnyKept) (b : Book) (w : Work) (targets : List (List ℕ)) → Under A b (IsPreview (how_of r) (kept_for A b) b targets w) → (told : List (List ℕ × Why)) → map (λ t. t.0) told ≡ targets
    → TellAll r (kept_for A b) b w told → Under A b (AllClean b targets × AreWhys (how_of r) (kept_for A b) b told)
found_why r A b w targets seen told is all H sound distinct =
    are_why r (kept_for A b) b w (H ++ b ∷ []) targets (sound_for A H b sound distinct) (distinct_more H b distinct) (seen H sound distinct) told is all
