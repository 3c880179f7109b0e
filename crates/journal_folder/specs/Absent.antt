-- A store of which the folders of some nodes cannot be opened.
use Rattle.std.specs.Prelude.{◌≡◌, ℕ, List}
use Rattle.buffer_commands.specs.Settings.{Settings}
use Rattle.store_setup.specs.Changes.{IsOf}
use Rattle.store_setup.specs.Files.{spelling}
use Rattle.store_setup.specs.declared.store_setup.StoreSetup.{StoreSetup}

-- these bytes are the file of a store with this setup and this many nodes
pub record GoesOn (s : Settings) (nodes : ℕ) (bytes : List ℕ) : Type 0 where
  pub store : StoreSetup
  pub same : IsOf store s nodes
  pub file : bytes ≡ spelling store
