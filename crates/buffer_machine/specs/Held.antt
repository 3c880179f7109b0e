-- What the machine holds after a history, part by part.
use Rattle.std.specs.Prelude.{◌≡◌, ℕ, zero, suc, ◌≤◌, ◌<◌, true, if◌then◌else◌, List, [], ◌∷◌, length, map, flat_map, slice_index, Option, Some, None, refl}
use Rattle.std.specs.List.{list_all}
use Rattle.irc_line.specs.Names.{fold_name, is_channel, same_bytes}
use Rattle.std.specs.Coded.{Coded, code_by, coded×, coded_list, coded_ℕ}
use Rattle.irc_line.specs.Keys.{are_rising}
use Rattle.buffer_lines.specs.Stamps.{ring}
use Rattle.buffer_targets.specs.Targets.{ChannelLines, TargetLines, channel, target}
use Rattle.machine_laws.specs.Runs.{History}
use Rattle.wire_bytes.specs.declared.origin.Origin.{Origin}
use Rattle.buffer_commands.specs.Settings.{Settings}
use Rattle.buffer_commands.specs.declared.command.Command.{Command}
use Rattle.buffer_machine.specs.Buffers.{nick, channels, queries, joined, detached, size, kept}
use Rattle.buffer_machine.specs.Crowd.{floor, attached, id_limit, id_of, ids}
use Rattle.buffer_machine.specs.Marks.{seen}

-- the commands of a history, without their places
abbrev pub commands : History Command → List Command
commands history = map (λ x. x.1) history

-- a setup's channels are channels' names in rising order, and at least one query is allowed
pub record IsSound (s : Settings) : Type 0 where
  pub rising : are_rising s.channels ≡ true
  pub channels : list_all is_channel s.channels ≡ true
  pub some_query : 1 ≤ s.most_queries

-- the floors of the nodes below 8
pub record AreFloors (floors : List ℕ) (history : List Command) : Type 0 where
  pub count : length floors ≡ 8
  pub each : (node : ℕ) → node < 8 → slice_index floors node ≡ floor history node

-- the place of a name among these
abbrev pub index_in : List ℕ → List (List ℕ) → ℕ
index_in id [] = 0
index_in id (x ∷ xs) = if same_bytes id x then 0 else suc (index_in id xs)

-- an origin that has a name, with the place of that name among these
abbrev pub holder : List (List ℕ) → Origin → Option (List ℕ) → List (Origin × ℕ)
holder ids o None = []
holder ids o (Some id) = (o, index_in id ids) ∷ []

-- the names that were given, and the attached origins that have one, in the order in which they attached, each with the
-- place of its name
pub record Names : Type 0 where
  pub ids : List (List ℕ)
  pub holders : List (Origin × ℕ)

-- an origin is stored as its three parts
abbrev pub origin_code : Coded Origin
origin_code =
    code_by (ℕ × (ℕ × ℕ)) (coded× coded_ℕ (coded× coded_ℕ coded_ℕ)) (λ o. (o.0, (o.1, o.2))) (λ p. (p.0, p.1.0, p.1.1)) (λ _. refl)

-- names are stored as their two parts
abbrev pub names_code : Coded Names
names_code =
    code_by (List (List ℕ) × List (Origin × ℕ)) (coded× (coded_list (coded_list coded_ℕ)) (coded_list (coded× origin_code coded_ℕ)))
    (λ n. (n.ids, n.holders)) (λ p. record { ids = p.0; holders = p.1 }) (λ _. refl)

-- names of clients, from their two parts
abbrev pub names_of : List (List ℕ) → List (Origin × ℕ) → Names
names_of ids holders = record { ids = ids; holders = holders }

-- the names of clients after a history
abbrev pub names_held : Settings → List Command → Names
names_held s history =
    names_of (ids s history) (flat_map (λ o. holder (ids s history) o (id_of s history o)) (attached s history))

-- the own nick, who is attached and by which names, the channels in the order of their keys, and the queries in the
-- order in which they were made
pub record Held : Type 0 where
  pub nick : List ℕ
  pub clients : List Origin
  pub names : Names
  pub channels : List ChannelLines
  pub queries : List TargetLines

-- what is held, from its five parts
abbrev pub holding : List ℕ → List Origin → Names → List ChannelLines → List TargetLines → Held
holding nick clients names channels queries =
    record { nick = nick; clients = clients; names = names; channels = channels; queries = queries }

-- a number for each of these names, and 0 up to the number of names that there may be
abbrev pub for_each : (List ℕ → ℕ) → ℕ → List (List ℕ) → List ℕ
for_each f zero ids = []
for_each f (suc more) [] = 0 ∷ for_each f more []
for_each f (suc more) (id ∷ ids) = f id ∷ for_each f more ids

-- how many of a target's kept lines each name has seen
abbrev pub seen_held : Settings → List Command → List ℕ → List ℕ
seen_held s history t = for_each (λ id. seen s history id t) id_limit (ids s history)

-- a target with what it keeps
abbrev pub target_held : Settings → List Command → List ℕ → TargetLines
target_held s history t =
    target t (ring (kept s history (fold_name t)) (size s (fold_name t) history)) (seen_held s history (fold_name t))

-- a channel with what it keeps
abbrev pub channel_held : Settings → List Command → List ℕ → ChannelLines
channel_held s history c = channel (target_held s history c) (joined s history (fold_name c)) (detached s history (fold_name c))

-- all of it after a history
abbrev pub held : Settings → List Command → Held
held s history =
    holding (nick s history) (attached s history) (names_held s history) (map (channel_held s history) (channels s history)) (map (target_held s history) (queries s history))
