-- The contents that a disk in memory has had.
use Rattle.std.specs.Prelude.{ℕ, List, [], ◌∷◌, ◌++◌, Vec}
use Rattle.std.specs.declared.alloc.Global.{Global}
use Rattle.journal_store.specs.Disks.{DiskState, settled_at}

-- their states, the newest first, where the vector has the newest last
abbrev pub had : List (Vec ℕ Global) → List DiskState
had [] = []
had (v ∷ past) = had past ++ settled_at v.items ∷ []
