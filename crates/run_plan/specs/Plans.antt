-- What a plan says: who the bouncer is, where the server and its own nodes are, and what it writes where. It is made
-- from no password.
use Rattle.std.specs.Prelude.{ℕ, suc, Bool, true, false, List, [], ◌∷◌, ◌++◌, Option, Some, None, is_some, map, option_map, string_bytes, codes, decimal}
use Rattle.buffer_commands.specs.Settings.{Settings}
use Rattle.bouncer_config.specs.declared.config.Config.{Config}
use Rattle.bouncer_config.specs.declared.input_end.InputEnd.{InputEnd}
use Rattle.bouncer_config.specs.declared.input_end.InputEnd.TheVariants.{Stops, Ignored}
use Rattle.bouncer_config.specs.Placing.{folder_of}
use Rattle.run_plan.specs.Paths.{journal_path}

-- a line with this name and this content
abbrev pub line : List ℕ → List ℕ → List ℕ
line name content = name ++ codes ": " ++ content ++ codes "\n"

-- the address of this port on this machine
abbrev pub address : ℕ → List ℕ
address port = codes "127.0.0.1:" ++ decimal port

-- further names, each after a comma
abbrev pub further : List (List ℕ) → List ℕ
further [] = []
further (name ∷ names) = codes ", " ++ name ++ further names

-- names in order, or that there are none
abbrev pub all_names : List (List ℕ) → List ℕ
all_names [] = codes "none"
all_names (name ∷ names) = name ++ further names

-- whether the server is sent a password
abbrev pub server_password : Bool → List ℕ
server_password true = codes ", with a password"
server_password false = codes ", without a password"

-- where the server is
abbrev pub server : ℕ → Bool → List ℕ
server port sends_password = address port ++ server_password sends_password

-- where clients reach this node, and where its journal is
abbrev pub node_content : List ℕ → ℕ → ℕ → List ℕ
node_content folder node port = codes "clients at " ++ address port ++ codes ", journal " ++ journal_path folder node

-- a line for each node, from this one on
abbrev pub node_lines : List (List ℕ) → ℕ → List ℕ → List ℕ
node_lines folders node [] = []
node_lines folders node (port ∷ ports) =
    line (codes "node " ++ decimal node) (node_content (folder_of folders node) node port) ++ node_lines folders (suc node) ports

-- where the record is written, if one is
abbrev pub record_path : Option (List ℕ) → List ℕ
record_path (Some path) = path
record_path None = codes "none"

-- how much is kept
abbrev pub sizes : Settings → List ℕ
sizes s =
    decimal s.channel_size ++ codes " lines a channel, " ++ decimal s.query_size ++ codes " lines a query, "
    ++ decimal s.most_queries ++ codes " queries"

-- what the end of standard input does
abbrev pub input_word : InputEnd → List ℕ
input_word Stops = codes "its end stops the bouncer"
input_word Ignored = codes "not read"

-- what a plan contains of a configuration
pub record Planned : Type 0 where
  pub setup : Settings
  -- the server's port, and whether the server is sent a password
  pub upstream : ℕ
  pub sends_password : Bool
  -- the nodes' ports, node 1's first
  pub listen : List ℕ
  -- the folders of the journals, and the file of the record, if there is one
  pub store : List (List ℕ)
  pub record_file : Option (List ℕ)
  pub input_end : InputEnd

-- what a plan contains of this configuration: of the server's password only whether one is sent
abbrev pub planned_of : Config → Planned
planned_of c =
    record {
      setup = c.setup;
      upstream = c.upstream;
      sends_password = is_some c.upstream_password;
      listen = c.listen.items;
      store = map string_bytes c.store.items;
      record_file = option_map string_bytes c.record;
      input_end = c.input_end;
    }

-- the lines of a plan
abbrev pub plan : Planned → List ℕ
plan p =
    line (codes "nick") p.setup.nick
    ++ line (codes "channels") (all_names p.setup.channels)
    ++ line (codes "server") (server p.upstream p.sends_password)
    ++ node_lines p.store 1 p.listen
    ++ line (codes "record") (record_path p.record_file)
    ++ line (codes "buffers") (sizes p.setup)
    ++ line (codes "standard input") (input_word p.input_end)
