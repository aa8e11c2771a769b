-- What a list has of a name or of a digest.
use Rattle.std.specs.Prelude.{ℕ, Bool, List, [], ◌∷◌, Option, Some, None, option_map, find, if◌then◌else◌}
use Rattle.std.specs.Option.{option_or}
use Rattle.carte_value.specs.declared.digest.Digest.{Digest}
use Rattle.carte_value.specs.declared.link.Link.{Link}
use Rattle.carte_value.specs.declared.value.Value.{Value}
use Rattle.carte_name.specs.Names.{name_eq}
use Rattle.carte_value.specs.Spelling.{digest_of}

-- the last item that passes
abbrev pub find_last : {A : Type 0} → (A → Bool) → List A → Option A
find_last p [] = None
find_last p (x ∷ xs) = option_or (find_last p xs) (if p x then Some x else None)

-- the item has this key
abbrev pub has_key : {A : Type 0} → (A → List ℕ) → List ℕ → A → Bool
has_key key k x = name_eq k (key x)

abbrev pub digest_eq : Digest → Digest → Bool
digest_eq c d = name_eq c.0 d.0

abbrev pub is_link_of : List ℕ → Link → Bool
is_link_of k l = name_eq k l.name

abbrev pub is_value_of : Digest → Value → Bool
is_value_of d v = digest_eq d (digest_of v)

abbrev pub digest_in : Option Link → Option Digest
digest_in = option_map (λ l. l.digest)

-- what a list of links has of a name: the digest of the first link, or of the last
abbrev pub first_link : List Link → List ℕ → Option Digest
first_link ls k = digest_in (find (is_link_of k) ls)

abbrev pub link_in : List Link → List ℕ → Option Digest
link_in ls k = digest_in (find_last (is_link_of k) ls)

-- the first value of a digest
abbrev pub first_value : List Value → Digest → Option Value
first_value vs d = find (is_value_of d) vs
