-- What lies beneath made keys, gathered: rules with their tasks, or inputs with their values.
use Rattle.std.specs.Prelude.{ℕ, Bool, true, false, List, [], ◌∷◌, ◌++◌, Option, Some, None, is_some, if◌then◌else◌}
use Rattle.std.specs.Map.{lookup}
use Rattle.carte_value.specs.declared.digest.Digest.{Digest}
use Rattle.carte_value.specs.declared.link.Link.{Link}
use Rattle.carte_name.specs.Names.{name_eq}
use Rattle.carte_book.specs.Book.{Item, input, rule, Book, content}
use Rattle.carte_book.specs.Task.{task_now}
use Rattle.carte_effect.specs.declared.outcome.Made.{Made}
use Rattle.carte_effect.specs.declared.outcome.Made.TheVariants.{Ran, Reused}
use Rattle.carte_sound.specs.Marks.{present}
use Rattle.carte_note.specs.declared.finished.Finished.{Finished}
use Rattle.carte_note.specs.Lists.{finished_of}
use Rattle.carte_rebuild.specs.declared.gather.Role.{Role}
use Rattle.carte_rebuild.specs.declared.gather.Role.TheVariants.{Rules, Inputs}

-- names with digests, each name once
abbrev pub Gathered : Type 0
Gathered = List (List ℕ × Digest)

-- one link more, unless its name is there
abbrev pub put_link : Gathered → Link → Gathered
put_link es l = if is_some (lookup (name_eq l.name) es) then es else es ++ (l.name, l.digest) ∷ []

abbrev pub put_links : Gathered → List Link → Gathered
put_links es [] = es
put_links es (l ∷ ls) = put_links (put_link es l) ls

abbrev pub links_in : Gathered → List Link
links_in [] = []
links_in (e ∷ es) = record { name = e.0; digest = e.1 } ∷ links_in es

-- what was gathered as a key was finished
abbrev pub role_links : Role → Finished → List Link
role_links Rules f = f.tasks
role_links Inputs f = f.beneath

abbrev pub finished_links : Role → Option Finished → List Link
finished_links r None = []
finished_links r (Some f) = role_links r f

-- among inputs it counts itself
abbrev pub itself : Role → Link → List Link
itself Rules l = []
itself Inputs l = l ∷ []

-- what a link brings: of an input itself, and of a rule what lies beneath its finished key
abbrev pub brought : Role → Option Item → Option Finished → Link → List Link
brought r None f l = []
brought r (Some (input v)) f l = itself r l
brought r (Some (rule e)) f l = finished_links r f

abbrev pub brought_by : Role → Book → List Finished → List Link → List Link
brought_by r b before [] = []
brought_by r b before (l ∷ ls) = brought r (content b l.name) (finished_of before l.name) l ++ brought_by r b before ls

-- the digest of a key's task, or of its value where it is an input
abbrev pub own_digest : Role → Book → List ℕ → Option Digest
own_digest Rules b k = task_now b k
own_digest Inputs b k = present b k

abbrev pub own_links : Option Digest → List ℕ → List Link
own_links None k = []
own_links (Some d) k = record { name = k; digest = d } ∷ []

-- beneath a key that ran there is itself, and then what its links bring
abbrev pub beneath_ran : Role → Book → List Finished → List ℕ → List Link → List Link
beneath_ran r b before k ls = links_in (put_links (put_links [] (own_links (own_digest r b k) k)) (brought_by r b before ls))

abbrev pub is_of : Role → Option Item → Bool
is_of r None = false
is_of Rules (Some (input v)) = false
is_of Rules (Some (rule e)) = true
is_of Inputs (Some (input v)) = true
is_of Inputs (Some (rule e)) = false

abbrev pub picks : Role → Option Item → Link → List Link
picks r o l = if is_of r o then l ∷ [] else []

-- the links that are to names of this role
abbrev pub picked : Role → Book → List Link → List Link
picked r b [] = []
picked r b (l ∷ ls) = picks r (content b l.name) l ++ picked r b ls

-- and beneath a held key what its trace names
abbrev pub beneath_made : Role → Book → List Finished → Made → List Link
beneath_made r b before (Ran o) = beneath_ran r b before o.key o.links
beneath_made r b before (Reused o) = picked r b o.links
