-- The last request of a process.
use Rattle.std.specs.Prelude.{ℕ, ◌≡◌}
use Rattle.carte_io.specs.Disk.{Story}
use Rattle.carte_shell.specs.Scenes.{Scene}

-- there is such a scene behind it with this story of the disk, which has failed so often; nothing of it but the disk is left
abbrev pub Leads : Story → ℕ → (Scene → Type 0) → Type 0
Leads story faults P = (m : Scene) × (m.story ≡ story) × (m.faults ≡ faults) × P m
