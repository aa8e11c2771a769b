-- The names that may stand on a path by the needs of entries.
use Rattle.std.specs.Prelude.{ℕ, ◌≡◌, true, List, map}
use Rattle.std.specs.BTreeSet.{BTreeSet, contains}
use Rattle.carte_value.specs.declared.link.Link.{Link}
use Rattle.carte_name.specs.Names.{name_cmp}
use Rattle.carte_value.specs.Truths.{Among}
use Rattle.carte_record.specs.declared.entry.Entry.{Entry}

abbrev pub keys_in : List Entry → List (List ℕ)
keys_in es = map (λ e. e.key) es

abbrev pub names_in : List Link → List (List ℕ)
names_in ls = map (λ l. l.name) ls

-- these names are put to those that are there
pub record AddsAll (old new : BTreeSet (List ℕ)) (ks : List (List ℕ)) : Type 0 where
  pub stays : (q : List ℕ) → contains name_cmp old q ≡ true → contains name_cmp new q ≡ true
  pub there : (q : List ℕ) → Among ks q → contains name_cmp new q ≡ true

-- each key of an entry is there, and each name that was seen
pub record AreNodes (es : List Entry) (ls : List Link) (nodes : BTreeSet (List ℕ)) : Type 0 where
  pub keys : (q : List ℕ) → Among (keys_in es) q → contains name_cmp nodes q ≡ true
  pub seen : (q : List ℕ) → Among (names_in ls) q → contains name_cmp nodes q ≡ true
