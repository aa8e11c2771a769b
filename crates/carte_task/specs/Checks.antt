-- Whether links still have the values that they had.
use Rattle.std.specs.Prelude.{ℕ, ◌+◌, ◌≤◌, ◌-◌, Bool, true, false, List, [], ◌∷◌, ◌≡◌, Option, Some, None, Result, Ok, Err, length, drop, take, slice_get}
use Rattle.carte_value.specs.declared.value.Value.{Value}
use Rattle.carte_value.specs.declared.link.Link.{Link}
use Rattle.carte_value.specs.Truths.{Truth}
use Rattle.carte_value.specs.Asks.{Asks, done, ask}
use Rattle.carte_value.specs.Once.{Answers}
use Rattle.carte_value.specs.Spelling.{digest_of}
use Rattle.carte_effect.specs.declared.effect.Halt.{Halt}
use Rattle.carte_effect.specs.declared.effect.Halt.TheVariants.{Stop, NoMemory}
use Rattle.carte_task.specs.declared.check.Verdict.{Verdict}
use Rattle.carte_task.specs.declared.check.Verdict.TheVariants.{Same, Differs}
use Rattle.carte_task.specs.Answered.{Led, StopsAt}
use Rattle.carte_task.specs.Compared.{same_digest}
use Rattle.carte_task.specs.Checking.{Checking}

abbrev pub compared : Bool → ℕ → Asks (Option ℕ) → Asks (Option ℕ)
compared true at on = on
compared false at on = done (Some at)

-- the place of the first link whose value has another digest, from this place on
abbrev pub compares : ℕ → List Link → Asks (Option ℕ)
compares at [] = done None
compares at (l ∷ ls) = ask l.name (λ v. compared (same_digest l.digest (digest_of v)) at (compares (at + 1) ls))

abbrev pub rest_from : Checking → Asks (Option ℕ)
rest_from c = compares c.at (drop c.at c.earlier.links)

abbrev pub found_by : Verdict → Option ℕ
found_by (Same o) = None
found_by (Differs i) = Some i

-- the links were asked for in order, as far as the verdict, or to a link without a value
abbrev pub Checked : {S : Type 0} → Truth → (List ℕ → S → Type 0) → Option Answers → Option Answers → Checking → Checking → Result Verdict (Halt S) → Type 0
Checked t own log0 log c d (Ok v) = (further : Answers) × Led t log0 log (rest_from c) further (done (found_by v))
Checked t own log0 log c d (Err (Stop s)) = (further : Answers) × Led t log0 log (rest_from c) further (rest_from d) × StopsAt t own (rest_from d) s
Checked t own log0 log c d (Err NoMemory) = (further : Answers) × Led t log0 log (rest_from c) further (rest_from d)

-- the name has a value with this digest
abbrev pub IsSame : Truth → Link → Type 0
IsSame t l = (v : Value) × (t l.name ≡ Some v) × (same_digest l.digest (digest_of v) ≡ true)

-- with another digest
abbrev pub IsOther : Truth → Link → Type 0
IsOther t l = (v : Value) × (t l.name ≡ Some v) × (same_digest l.digest (digest_of v) ≡ false)

abbrev pub AllSame : Truth → List Link → Type 0
AllSame t [] = Unit {0}
AllSame t (l ∷ ls) = IsSame t l × AllSame t ls

-- n links have the same digests, and the next has another
abbrev pub FirstOther : Truth → List Link → ℕ → Type 0
FirstOther t ls n = AllSame t (take n ls) × ((l : Link) × (slice_get ls n ≡ Some l) × IsOther t l)

-- all links from the place on have the same digests, and then the earlier end holds; or it is told which is the first that hasn't
abbrev pub Judges : Truth → Checking → Verdict → Type 0
Judges t c (Same o) = (o ≡ c.earlier) × AllSame t (drop c.at c.earlier.links)
Judges t c (Differs i) = (c.at ≤ i) × FirstOther t (drop c.at c.earlier.links) (i - c.at)

-- what holds is the earlier end
abbrev pub Gives : Checking → Verdict → Type 0
Gives c (Same o) = o ≡ c.earlier
Gives c (Differs i) = Unit {0}

-- it keeps the earlier end until it hands it out
abbrev pub KeepsEarlier : {S : Type 0} → Checking → Checking → Result Verdict (Halt S) → Type 0
KeepsEarlier c d (Ok (Same o)) = Unit {0}
KeepsEarlier c d (Ok (Differs i)) = d.earlier ≡ c.earlier
KeepsEarlier c d (Err h) = d.earlier ≡ c.earlier

-- no link is left to be compared, or it stands at the one that differs
abbrev pub Stands : Checking → Verdict → Type 0
Stands d (Same o) = length d.earlier.links ≤ d.at
Stands d (Differs i) = d.at ≡ i
