-- The names of the clients in a log.
use Rattle.std.specs.Prelude.{◌≡◌, ℕ, List, [], ◌∷◌, map}
use Rattle.machine_laws.specs.Runs.{run}
use Rattle.buffer_commands.specs.Settings.{Settings}
use Rattle.buffer_machine.specs.Held.{commands, held}
use Rattle.bouncer_tower.specs.Bodies.{TowerBody, plain}
use Rattle.raft_log.specs.declared.entry.Entry.{Entry}
use Rattle.stable_store.specs.declared.saved.Saved.{Saved}
use Rattle.journal_folder.specs.Counting.{IsMostUpToDate, IsOneOf}

-- the names that clients gave when they attached, in the order in which they first came
abbrev pub names_in : Settings → List (Entry TowerBody) → List (List ℕ)
names_in s log = (held s (commands (plain (run (map (λ e. e.body) log))))).names.ids

-- the names in one of these logs that is as up to date as any other
pub record AreNamesOfSome (s : Settings) (group : List (Saved TowerBody)) (names : List (List ℕ)) : Type 0 where
  pub chosen : Saved TowerBody
  pub one : IsOneOf chosen group
  pub most : IsMostUpToDate chosen group
  pub are : names ≡ names_in s chosen.log

-- none if there is no store
abbrev pub AreNamesOf : Settings → List (Saved TowerBody) → List (List ℕ) → Type 0
AreNamesOf s [] names = names ≡ []
AreNamesOf s (first ∷ others) names = AreNamesOfSome s (first ∷ others) names
