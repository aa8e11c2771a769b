-- What is known of an answer.
use Rattle.std.proofs.Common.{◌≡◌, Result, Ok, Err, subst}
use Rattle.std.specs.Prelude.{IfOk, MatchResult, OnOk}

pub lifted : {A E : Type 0} (q : Result A E) (P Q : A → Type 0) → IfOk q P → ((x : A) → P x → Q x) → IfOk q Q
lifted (Ok x) P Q holds goes = goes x holds
lifted (Err e) P Q holds goes = tt

pub at_ok : {A E : Type 0} (q : Result A E) (x : A) (P : A → Type 0) → q ≡ Ok x → IfOk q P → P x
at_ok q x P is holds = subst (λ r. IfOk r P) is holds

pub on_ok : {A E : Type 0} (q : Result A E) (x : A) (P : Type 0) → q ≡ Ok x → OnOk q P → P
on_ok q x P is holds = subst (λ r. OnOk r P) is holds

pub at_err : {A E : Type 0} (q : Result A E) (e : E) (P : A → Type 0) (Q : E → Type 0) → q ≡ Err e → MatchResult q P Q → Q e
at_err q e P Q is holds = subst (λ r. MatchResult r P Q) is holds

pub at_done : {A E : Type 0} (q : Result A E) (x : A) (P : A → Type 0) (Q : E → Type 0) → q ≡ Ok x → MatchResult q P Q → P x
at_done q x P Q is holds = subst (λ r. MatchResult r P Q) is holds
