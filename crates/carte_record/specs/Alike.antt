-- What the tests of equality tell.
use Rattle.std.proofs.Common.{◌≡◌, Bool, true, false, List, [], ◌∷◌, refl}
use Rattle.std.specs.Prelude.{◌&&◌}
use Rattle.carte_value.specs.declared.digest.Digest.{Digest}
use Rattle.carte_value.specs.declared.link.Link.{Link}
use Rattle.carte_name.specs.Names.{name_eq}
use Rattle.carte_record.specs.declared.trace.Trace.{Trace}
use Rattle.carte_record.specs.declared.deep_trace.DeepTrace.{DeepTrace}
use Rattle.carte_record.specs.declared.way.Way.{Way}
use Rattle.carte_record.specs.declared.way.Way.TheVariants.{Verifying, Constructive, Deep}
use Rattle.carte_table.specs.Lookups.{digest_eq}
use Rattle.carte_record.specs.Lookups.{links_eq, trace_eq, deep_eq}
use Rattle.carte_record.specs.Ways.{TraceBy, eq_by}
use Rattle.carte_table.proofs.Names.{name_eq_is, name_eq_self}

pub digest_eq_is : (c d : Digest) → digest_eq c d ≡ true → c ≡ d
digest_eq_is c d is i = record { 0 = name_eq_is c.0 d.0 is i }

pub digest_eq_self : (d : Digest) → digest_eq d d ≡ true
digest_eq_self d = name_eq_self d.0

both : (b c : Bool) → b && c ≡ true → (b ≡ true) × (c ≡ true)
both true c is = (refl, is)
both false c is = cc

-- traces are equal where the test says so
pub links_eq_is : (ls ms : List Link) → links_eq ls ms ≡ true → ls ≡ ms
links_eq_is [] [] is = refl
links_eq_is [] (m ∷ ms) is = cc
links_eq_is (l ∷ ls) [] is = cc
links_eq_is (l ∷ ls) (m ∷ ms) is =
    let parts = both (name_eq l.name m.name && digest_eq l.digest m.digest) (links_eq ls ms) is in
    let two = both (name_eq l.name m.name) (digest_eq l.digest m.digest) parts.0 in
    ends l m ls ms (name_eq_is l.name m.name two.0) (digest_eq_is l.digest m.digest two.1) (links_eq_is ls ms parts.1)
  where
    ends : (l m : Link) (ls ms : List Link) → l.name ≡ m.name → l.digest ≡ m.digest → ls ≡ ms → l ∷ ls ≡ m ∷ ms
    ends l m ls ms names digests rest i = (record { name = names i; digest = digests i }) ∷ rest i

pub trace_eq_is : (s t : Trace) → trace_eq s t ≡ true → s ≡ t
trace_eq_is s t is =
    let parts = both ((name_eq s.key t.key && digest_eq s.task t.task) && digest_eq s.result t.result) (links_eq s.links t.links) is in
    let two = both (name_eq s.key t.key && digest_eq s.task t.task) (digest_eq s.result t.result) parts.0 in
    let one = both (name_eq s.key t.key) (digest_eq s.task t.task) two.0 in
    join (name_eq_is s.key t.key one.0) (digest_eq_is s.task t.task one.1) (digest_eq_is s.result t.result two.1) (links_eq_is s.links t.links parts.1)
  where
    join : s.key ≡ t.key → s.task ≡ t.task → s.result ≡ t.result → s.links ≡ t.links → s ≡ t
    join keys tasks results links i = record { key = keys i; task = tasks i; links = links i; result = results i }

pub links_eq_self : (ls : List Link) → links_eq ls ls ≡ true
links_eq_self [] = refl
links_eq_self (l ∷ ls) = rw (name_eq_self l.name, digest_eq_self l.digest, links_eq_self ls) refl

pub trace_eq_self : (t : Trace) → trace_eq t t ≡ true
trace_eq_self t = rw (name_eq_self t.key, digest_eq_self t.task, digest_eq_self t.result, links_eq_self t.links) refl

pub deep_eq_is : (s t : DeepTrace) → deep_eq s t ≡ true → s ≡ t
deep_eq_is s t is =
    let parts = both ((name_eq s.key t.key && digest_eq s.result t.result) && links_eq s.tasks t.tasks) (links_eq s.links t.links) is in
    let two = both (name_eq s.key t.key && digest_eq s.result t.result) (links_eq s.tasks t.tasks) parts.0 in
    let one = both (name_eq s.key t.key) (digest_eq s.result t.result) two.0 in
    join (name_eq_is s.key t.key one.0) (links_eq_is s.tasks t.tasks two.1) (digest_eq_is s.result t.result one.1) (links_eq_is s.links t.links parts.1)
  where
    join : s.key ≡ t.key → s.tasks ≡ t.tasks → s.result ≡ t.result → s.links ≡ t.links → s ≡ t
    join keys tasks results links i = record { key = keys i; tasks = tasks i; links = links i; result = results i }

pub deep_eq_self : (t : DeepTrace) → deep_eq t t ≡ true
deep_eq_self t = rw (name_eq_self t.key, digest_eq_self t.result, links_eq_self t.tasks, links_eq_self t.links) refl

-- and so it is for each kind
pub eq_by_is : (w : Way) (s t : TraceBy w) → eq_by w s t ≡ true → s ≡ t
eq_by_is Verifying = trace_eq_is
eq_by_is Constructive = trace_eq_is
eq_by_is Deep = deep_eq_is

pub eq_by_self : (w : Way) (t : TraceBy w) → eq_by w t t ≡ true
eq_by_self Verifying = trace_eq_self
eq_by_self Constructive = trace_eq_self
eq_by_self Deep = deep_eq_self
