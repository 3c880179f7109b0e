-- Which keys of a configuration have other values than the setup of a store.
use Rattle.std.specs.Prelude.{◌≡◌, ℕ, Bool, true, false, not, ◌==◌, ◌&&◌, if◌then◌else◌, List, [], ◌∷◌, filter}
use Rattle.irc_line.specs.Names.{same_bytes}
use Rattle.buffer_commands.specs.Settings.{Settings}
use Rattle.bouncer_config.specs.declared.key.Key.{Key}
use Rattle.bouncer_config.specs.declared.key.Key.TheVariants as key
use Rattle.store_setup.specs.declared.store_setup.StoreSetup.{StoreSetup}

-- the store has this setup and this many nodes
abbrev pub IsOf : StoreSetup → Settings → ℕ → Type 0
IsOf store s nodes = (store.setup ≡ s) × (store.nodes ≡ nodes)

-- the same names in the same order, byte by byte
abbrev pub same_names : List (List ℕ) → List (List ℕ) → Bool
same_names [] [] = true
same_names [] (n ∷ ns) = false
same_names (m ∷ ms) [] = false
same_names (m ∷ ms) (n ∷ ns) = same_bytes m n && same_names ms ns

-- two truth values differ
abbrev pub is_other : Bool → Bool → Bool
is_other a b = if a then not b else b

-- whether the value of a key differs between a store and a configuration of this setup and this many nodes
abbrev pub differs : StoreSetup → Settings → ℕ → Key → Bool
differs store s nodes key.Nick = not (same_bytes store.setup.nick s.nick)
differs store s nodes key.Listen = not (store.nodes == nodes)
differs store s nodes key.Channels = not (same_names store.setup.channels s.channels)
differs store s nodes key.ChanBufferSize = not (store.setup.channel_size == s.channel_size)
differs store s nodes key.QueryBufferSize = not (store.setup.query_size == s.query_size)
differs store s nodes key.MaxQueryBuffers = not (store.setup.most_queries == s.most_queries)
differs store s nodes key.OffsetMinutes = not (store.setup.offset == s.offset)
differs store s nodes key.AutoClearChanBuffer = is_other store.setup.clears_channels s.clears_channels
differs store s nodes key.AutoClearQueryBuffer = is_other store.setup.clears_queries s.clears_queries
differs store s nodes key.MultiClients = is_other store.setup.many_clients s.many_clients
differs store s nodes _ = false

-- the keys that determine what a log leads to, in the order of keys
abbrev pub compared : List Key
compared =
    key.Nick ∷ key.Listen ∷ key.Channels ∷ key.ChanBufferSize ∷ key.QueryBufferSize ∷ key.MaxQueryBuffers
    ∷ key.OffsetMinutes ∷ key.AutoClearChanBuffer ∷ key.AutoClearQueryBuffer ∷ key.MultiClients ∷ []

-- those of them whose values differ
abbrev pub changed_keys : StoreSetup → Settings → ℕ → List Key
changed_keys store s nodes = filter (differs store s nodes) compared
