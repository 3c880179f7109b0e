-- A configuration that a table describes.
use Rattle.std.specs.Prelude.{◌≡◌, IsTrue, Some, None, IfSome, length, map, option_map, string_bytes, true}
use Rattle.toml.specs.Data.{Members}
use Rattle.buffer_commands.specs.Settings.{Settings, settings_of}
use Rattle.buffer_commands.specs.declared.options.Options.{Options}
use Rattle.bouncer_config.specs.KeyTexts.{limits_of}
use Rattle.bouncer_config.specs.Texts.{is_path}
use Rattle.bouncer_config.specs.Found.{value_at, text_at, text_in, number_in, level_in, input_end_in, channels_in, lines_in, pairs_in, paths_at, are_apart, serves, AreOptions}
use Rattle.bouncer_config.specs.Wrong.{Listens, first_unknown}
use Rattle.bouncer_config.specs.declared.key.Key.TheVariants.{Nick, Password, UpstreamPassword, Store, Record, Channels, BeatMs, TimeoutMs, FloodBurst, FloodMs, Log, Input, RenewAt, ChannelKeys, OnConnect}
use Rattle.bouncer_config.specs.declared.config.Config.{Config}

-- a setup has the nick, the channels and the options of the table
pub record IsSetup (table : Members) (setup : Settings) : Type 0 where
  pub options : Options
  pub nick : text_at Nick table ≡ Some setup.nick
  pub channels : channels_in (value_at Channels table) ≡ Some setup.channels
  pub sized : AreOptions table options
  pub is : setup ≡ settings_of setup.nick setup.channels options

-- a configuration is what the table says: each field is the value of its key, or the default, and the table has no name
-- that no key has
pub record IsConfig (table : Members) (c : Config) : Type 0 where
  pub known : first_unknown table ≡ None
  pub setup : IsSetup table c.setup
  pub password : text_at Password table ≡ Some c.password
  pub upstream_password : text_in (value_at UpstreamPassword table) ≡ Some c.upstream_password
  -- the upstream server's address too
  pub listen : Listens table c.upstream c.listen.items
  pub store : paths_at Store table ≡ Some (map string_bytes c.store.items)
  -- each is a path, one for all nodes or one for each
  pub store_count : serves (Some (length c.listen.items)) (length c.store.items) ≡ true
  pub store_apart : are_apart (map string_bytes c.store.items) ≡ true
  pub record_text : text_in (value_at Record table) ≡ Some (option_map string_bytes c.record)
  pub record_path : IfSome c.record (λ path. IsTrue (is_path (string_bytes path)))
  pub beat : number_in (limits_of BeatMs) (value_at BeatMs table) ≡ Some c.beat_ms
  pub timeout : number_in (limits_of TimeoutMs) (value_at TimeoutMs table) ≡ Some c.timeout_ms
  pub burst : number_in (limits_of FloodBurst) (value_at FloodBurst table) ≡ Some c.flood_burst
  pub flood : number_in (limits_of FloodMs) (value_at FloodMs table) ≡ Some c.flood_ms
  pub log : level_in (value_at Log table) ≡ Some c.log
  pub input : input_end_in (value_at Input table) ≡ Some c.input_end
  pub renew_at : number_in (limits_of RenewAt) (value_at RenewAt table) ≡ Some c.renew_at
  pub channel_keys : pairs_in (value_at ChannelKeys table) ≡ Some (map (λ k. (k.channel, k.key)) c.channel_keys.items)
  pub on_connect : lines_in (value_at OnConnect table) ≡ Some c.on_connect.items
