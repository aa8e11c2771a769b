-- Drives of lists of jobs, one list behind another.
use Rattle.std.proofs.Common.{◌≡◌, ℕ, suc, Bool, List, [], ◌∷◌, ◌++◌, Result, Ok, Err, length, refl, ap, sym, ◌∙◌, subst, append_assoc, append-nil, arith}
use Rattle.std.specs.Prelude.{IfOk}
use Rattle.carte_name.specs.declared.NoMemory.{NoMemory}
use Rattle.carte_value.specs.Once.{Answers}
use Rattle.carte_value.specs.Truths.{Truth}
use Rattle.carte_effect.specs.Jobs.{Step}
use Rattle.carte_effect.specs.Ledger.{Ledger, no_runs, with_later}
use Rattle.carte_effect.specs.Sights.{Sight}
use Rattle.carte_wave.specs.declared.parts.Part.{Part}
use Rattle.carte_wave.specs.declared.wave.Driven.{Driven}
use Rattle.carte_wave.specs.declared.wave.Wave.{Wave}
use Rattle.carte_wave.specs.Drives.{Drove, DroveAll}
use Rattle.carte_wave.specs.Parts.{jobs_in, AllPassed, driven_in, runs_in, DrivesEach}

-- an empty ledger behind another
pub later_nil : (r : Ledger) → with_later r no_runs ≡ r
later_nil r = rw (append-nil r.starts, append-nil r.ends) refl

module _ {J : Type 0} (name : J → List ℕ) (started : J → Bool) (gives : J → Truth → Answers → Step → J → Type 0) (sight : List ℕ → Sight) where
  -- whatever drives of the rest come to, with what was driven it is what all came to
  abbrev pub GoesOn : List J → List J → List (Driven J) → Ledger → Type 0
  GoesOn all rest driven r = (ds : List (Driven J)) (r' : Ledger) → DroveAll name started gives sight rest ds r r' → DroveAll name started gives sight all (driven ++ ds) no_runs r'

  pub goes_one : (all rest before : List J) (p : J) (driven driven' : List (Driven J)) (r m : Ledger) (d : Driven J) → before ≡ p ∷ rest → driven' ≡ driven ++ d ∷ [] → Drove name started gives sight p d r m → GoesOn all before driven r → GoesOn all rest driven' m
  goes_one all rest before p driven driven' r m d parts is drove goes ds r' later =
      let on : DroveAll name started gives sight all (driven ++ (d ∷ ds)) no_runs r' = goes (d ∷ ds) r' (rw parts (m, drove, later)) in
      let same : driven' ++ ds ≡ driven ++ (d ∷ ds) = ap (λ l. l ++ ds) is ∙ append_assoc driven (d ∷ []) ds in
      rw same on

  pub goes_end : (all rest : List J) (driven : List (Driven J)) (r : Ledger) → rest ≡ [] → GoesOn all rest driven r → DroveAll name started gives sight all driven no_runs r
  goes_end all rest driven r none goes = subst (λ l. DroveAll name started gives sight all l no_runs r) (append-nil driven) (goes [] r (rw none refl))

  -- behind an earlier ledger
  drove_behind : (q r r' : Ledger) (p : J) (d : Driven J) → Drove name started gives sight p d r r' → Drove name started gives sight p d (with_later q r) (with_later q r')
  drove_behind q r r' p d drove = record {
    gave = drove.gave;
    named = drove.named;
    counted = record {
      starts = ap (λ l. q.starts ++ l) drove.counted.starts ∙ sym (append_assoc q.starts r.starts _);
      ends = ap (λ l. q.ends ++ l) drove.counted.ends ∙ sym (append_assoc q.ends r.ends _);
      started = drove.counted.started;
    };
  }

  pub behind : (q r r' : Ledger) (ps : List J) (ds : List (Driven J)) → DroveAll name started gives sight ps ds r r' → DroveAll name started gives sight ps ds (with_later q r) (with_later q r')
  behind q r r' [] [] same = ap (with_later q) same
  behind q r r' [] (d ∷ ds) never = never
  behind q r r' (p ∷ ps) [] never = never
  behind q r r' (p ∷ ps) (d ∷ ds) (m, drove, rest) = (with_later q m, drove_behind q r m p d drove, behind q m r' ps ds rest)

  -- one list of jobs behind another
  pub drove_both : (ps qs : List J) (ds es : List (Driven J)) (r m r' : Ledger) → DroveAll name started gives sight ps ds r m → DroveAll name started gives sight qs es m r' → DroveAll name started gives sight (ps ++ qs) (ds ++ es) r r'
  drove_both [] qs [] es r m r' same later = subst (λ l. DroveAll name started gives sight qs es l r') same later
  drove_both [] qs (d ∷ ds) es r m r' never later = absurd never
  drove_both (p ∷ ps) qs [] es r m r' never later = absurd never
  drove_both (p ∷ ps) qs (d ∷ ds) es r m r' (l, drove, rest) later = (l, drove, drove_both ps qs ds es l m r' rest later)

  -- the parts, one behind the other
  pub parts_drove : (ps : List (Part J)) (rs : List (Result (Wave J) NoMemory)) → length rs ≡ length ps → AllPassed rs → DrivesEach name started gives sight ps rs → DroveAll name started gives sight (jobs_in ps) (driven_in rs) no_runs (runs_in rs)
  parts_drove [] [] same passed each = refl
  parts_drove [] (r ∷ rs) same passed each = absurd (omega (arith, same))
  parts_drove (p ∷ ps) [] same passed each = absurd (omega (arith, same))
  parts_drove (p ∷ ps) (Err e ∷ rs) same passed each = absurd passed
  parts_drove (p ∷ ps) (Ok w ∷ rs) same passed each =
      let first : DroveAll name started gives sight p.jobs.items w.driven.items no_runs w.runs = each 0 p (Ok w) (omega arith) in
      let rest = parts_drove ps rs (omega (arith, same)) passed (λ i q r below. each (suc i) q r (omega (arith, below))) in
      let later : DroveAll name started gives sight (jobs_in ps) (driven_in rs) w.runs (with_later w.runs (runs_in rs)) = subst (λ l. DroveAll name started gives sight (jobs_in ps) (driven_in rs) l (with_later w.runs (runs_in rs))) (later_nil w.runs) (behind w.runs no_runs (runs_in rs) (jobs_in ps) (driven_in rs) rest) in
      drove_both p.jobs.items (jobs_in ps) w.driven.items (driven_in rs) no_runs w.runs (with_later w.runs (runs_in rs)) first later

later_later : (q r s : Ledger) → with_later q (with_later r s) ≡ with_later (with_later q r) s
later_later q r s = rw (append_assoc q.starts r.starts s.starts, append_assoc q.ends r.ends s.ends) refl

-- one part more passed
module _ {J : Type 0} where
  pub jobs_end : (ps : List (Part J)) (p : Part J) → jobs_in (ps ++ p ∷ []) ≡ jobs_in ps ++ p.jobs.items
  jobs_end [] p = append-nil p.jobs.items
  jobs_end (q ∷ ps) p = ap (λ l. q.jobs.items ++ l) (jobs_end ps p) ∙ sym (append_assoc q.jobs.items (jobs_in ps) p.jobs.items)

  pub passed_end : (rs : List (Result (Wave J) NoMemory)) (w : Wave J) → AllPassed rs → AllPassed (rs ++ Ok w ∷ [])
  passed_end [] w passed = tt
  passed_end (Ok v ∷ rs) w passed = passed_end rs w passed
  passed_end (Err e ∷ rs) w passed = passed

  pub driven_end : (rs : List (Result (Wave J) NoMemory)) (w : Wave J) → driven_in (rs ++ Ok w ∷ []) ≡ driven_in rs ++ w.driven.items
  driven_end [] w = append-nil w.driven.items
  driven_end (Ok v ∷ rs) w = ap (λ l. v.driven.items ++ l) (driven_end rs w) ∙ sym (append_assoc v.driven.items (driven_in rs) w.driven.items)
  driven_end (Err e ∷ rs) w = driven_end rs w

  pub runs_end : (rs : List (Result (Wave J) NoMemory)) (w : Wave J) → runs_in (rs ++ Ok w ∷ []) ≡ with_later (runs_in rs) w.runs
  runs_end [] w = later_nil w.runs
  runs_end (Ok v ∷ rs) w = ap (with_later v.runs) (runs_end rs w) ∙ later_later v.runs (runs_in rs) w.runs
  runs_end (Err e ∷ rs) w = runs_end rs w

pub no_items : {A : Type 0} (xs : List A) → length xs ≡ 0 → xs ≡ []
no_items [] none = refl
no_items (x ∷ xs) none = absurd (omega (arith, none))

-- so the whole is what all jobs came to
pub parts_gave : {J : Type 0} (name : J → List ℕ) (started : J → Bool) (gives : J → Truth → Answers → Step → J → Type 0) (sight : List ℕ → Sight) (ps : List (Part J)) (rs : List (Result (Wave J) NoMemory)) (jobs : List J) (whole : Result (Wave J) NoMemory) → jobs_in ps ≡ jobs → length rs ≡ length ps → DrivesEach name started gives sight ps rs → IfOk whole (λ w. AllPassed rs) → IfOk whole (λ w. w.driven.items ≡ driven_in rs) → IfOk whole (λ w. w.runs ≡ runs_in rs) → IfOk whole (λ w. DroveAll name started gives sight jobs w.driven.items no_runs w.runs)
parts_gave name started gives sight ps rs jobs (Ok w) is same each passed driven runs = rw (← is, driven, runs) (parts_drove name started gives sight ps rs same passed each)
parts_gave name started gives sight ps rs jobs (Err e) is same each passed driven runs = tt
