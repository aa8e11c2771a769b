-- What a line is told that asks why.
use Rattle.std.specs.Prelude.{ℕ, ◌≡◌, ◌⊎◌, List, [], ◌∷◌, map, Ok}
use Rattle.carte_book.specs.Book.{Book}
use Rattle.carte_book.specs.Reason.{AllClean, IsReason}
use Rattle.carte_book.specs.declared.reason.Reason.{Reason}
use Rattle.carte_engine.specs.Versions.{Under, kept_for}
use Rattle.carte_explain.specs.Why.{Explains, IsWhy}
use Rattle.carte_explain.specs.declared.why.RebuilderKind.{RebuilderKind}
use Rattle.carte_explain.specs.declared.why.Why.{Why}
use Rattle.carte_record.specs.Kept.{SomeKept}
use Rattle.carte_rebuild.specs.declared.work.PlanFault.{PlanFault}
use Rattle.carte_rebuild.specs.declared.work.PlanFault.TheVariants.{Refused, NoMemory}
use Rattle.carte_rebuild.specs.declared.work.Work.{Work}
use Rattle.carte_report.specs.Lines.{why_lines}
use Rattle.carte_sound.specs.Held.{How}
use Rattle.carte_state.specs.Versions.{AnyKept}
use Rattle.carte_shell.specs.Replies.{Said, plain, refusal}

-- each key with the cause why a build would run it, or would not
abbrev pub AreWhys : How → SomeKept → Book → List (List ℕ × Why) → Type 0
AreWhys h K b [] = Unit {0}
AreWhys h K b (t ∷ told) = IsWhy h K b t.0 t.1 × AreWhys h K b told

-- each target with its cause over what a build would find; or a target has no value, for this reason
abbrev pub Explained : How → AnyKept → Book → List (List ℕ) → Said → Type 0
Explained h A b targets reply =
    ((told : List (List ℕ × Why)) × (map (λ t. t.0) told ≡ targets) × (reply ≡ plain (why_lines told)) × Under A b (AllClean b targets × AreWhys h (kept_for A b) b told))
    ⊎ ((reason : Reason) × (reply ≡ refusal reason) × Under A b (IsReason b targets reason))

-- what `explain` promises of such a cause
abbrev pub Tells : RebuilderKind → SomeKept → Book → Work → List ℕ → Why → Type 0
Tells r K b w k y = Explains {E = Unit {0}} r K b w k (Ok y)

abbrev pub TellAll : RebuilderKind → SomeKept → Book → Work → List (List ℕ × Why) → Type 0
TellAll r K b w [] = Unit {0}
TellAll r K b w (t ∷ told) = Tells r K b w t.0 t.1 × TellAll r K b w told

-- of each key in turn
abbrev pub TellsEach : RebuilderKind → SomeKept → Book → Work → List (List ℕ) → List ℕ → Type 0
TellsEach r K b w keys text = (told : List (List ℕ × Why)) × (map (λ t. t.0) told ≡ keys) × (text ≡ why_lines told) × TellAll r K b w told

-- the reason of a refusal; there is no reply where there was no memory
abbrev pub TellsRefusal : PlanFault → Said → Type 0
TellsRefusal (Refused reason) reply = reply ≡ refusal reason
TellsRefusal NoMemory reply = ⊥
