-- Where the paths of a configuration lead: they are relative to the folder of the file from which it is read.
use Rattle.std.specs.Prelude.{◌≡◌, ◌-◌, ℕ, List, [], ◌∷◌, Option, Some, None, map, option_map, slice_get, string_bytes}
use Rattle.std.specs.Path.{path_join, path_parent}
use Rattle.bouncer_config.specs.declared.config.Config.{Config}

-- a path relative to a folder: an absolute one stays
abbrev pub placed_in : Option (List ℕ) → List ℕ → List ℕ
placed_in None path = path
placed_in (Some folder) path = path_join folder path

-- a path in this file: it is relative to the folder of the file
abbrev pub placed : List ℕ → List ℕ → List ℕ
placed file path = placed_in (path_parent file) path

-- a folder, if there is one
abbrev pub folder_at : Option (List ℕ) → List ℕ
folder_at None = []
folder_at (Some folder) = folder

-- the folder with the journal of a node, from one for all nodes or one for each
abbrev pub folder_of : List (List ℕ) → ℕ → List ℕ
folder_of [] node = []
folder_of (one ∷ []) node = one
folder_of (one ∷ two ∷ rest) node = folder_at (slice_get (one ∷ two ∷ rest) (node - 1))

-- a configuration whose store and record are relative to the folder of this file, with all else unchanged
pub record IsPlaced (file : List ℕ) (was is : Config) : Type 0 where
  pub store : map string_bytes is.store.items ≡ map (placed file) (map string_bytes was.store.items)
  pub record_file : option_map string_bytes is.record ≡ option_map (placed file) (option_map string_bytes was.record)
  pub setup : is.setup ≡ was.setup
  pub password : is.password ≡ was.password
  pub upstream : is.upstream ≡ was.upstream
  pub upstream_password : is.upstream_password ≡ was.upstream_password
  pub listen : is.listen ≡ was.listen
  pub beat : is.beat_ms ≡ was.beat_ms
  pub timeout : is.timeout_ms ≡ was.timeout_ms
  pub burst : is.flood_burst ≡ was.flood_burst
  pub flood : is.flood_ms ≡ was.flood_ms
  pub log : is.log ≡ was.log
  pub input_end : is.input_end ≡ was.input_end
  pub renew_at : is.renew_at ≡ was.renew_at
  pub channel_keys : is.channel_keys ≡ was.channel_keys
  pub on_connect : is.on_connect ≡ was.on_connect
