-- One computation behind another.
use Rattle.std.proofs.Common.{◌≡◌, refl, ap}
use Rattle.std.proofs.Math.Path.{fun_ext}
use Rattle.carte_value.specs.declared.value.Value.{Value}
use Rattle.carte_value.specs.Asks.{Asks, done, ask, and_then}

pub and_then_assoc : {A B C : Type 0} (m : Asks A) (f : A → Asks B) (g : B → Asks C) → and_then (and_then m f) g ≡ and_then m (λ a. and_then (f a) g)
and_then_assoc (done a) f g = refl
and_then_assoc (ask k go) f g = ap (ask k) (fun_ext (λ v. and_then_assoc (go v) f g))

pub and_then_done : {A : Type 0} (m : Asks A) → and_then m (λ a. done a) ≡ m
and_then_done (done a) = refl
and_then_done (ask k go) = ap (ask k) (fun_ext (λ v. and_then_done (go v)))

-- the same goes on, whatever is answered
pub and_then_same : {A B : Type 0} (m : Asks A) (f g : A → Asks B) → ((a : A) → f a ≡ g a) → and_then m f ≡ and_then m g
and_then_same m f g same = ap (and_then m) (fun_ext same)

-- whatever is answered, the result has the property
abbrev pub Always : {A : Type 0} → (A → Type 0) → Asks A → Type 0
Always P (done a) = P a
Always P (ask k go) = (v : Value) → Always P (go v)

pub always_then : {A B : Type 0} (P : A → Type 0) (Q : B → Type 0) (m : Asks A) (f : A → Asks B) → Always P m → ((a : A) → P a → Always Q (f a)) → Always Q (and_then m f)
always_then P Q (done a) f holds on = on a holds
always_then P Q (ask k go) f holds on = λ v. always_then P Q (go v) f (holds v) on

pub always_any : {A : Type 0} (m : Asks A) → Always (λ a. Unit {0}) m
always_any (done a) = tt
always_any (ask k go) = λ v. always_any (go v)

-- the same goes on where the result has the property
pub and_then_where : {A B : Type 0} (P : A → Type 0) (m : Asks A) (f g : A → Asks B) → Always P m → ((a : A) → P a → f a ≡ g a) → and_then m f ≡ and_then m g
and_then_where P (done a) f g holds same = same a holds
and_then_where P (ask k go) f g holds same = ap (ask k) (fun_ext (λ v. and_then_where P (go v) f g (holds v) same))
