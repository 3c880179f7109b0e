-- The settings of a driver, as the configuration says them.
use Rattle.std.specs.Prelude.{◌≡◌, ℕ, List, map}
use Rattle.bouncer_config.specs.declared.config.Config.{Config}
use Rattle.bouncer_config.specs.declared.channel_keys.ChannelKey.{ChannelKey}
use Rattle.driver.specs.Keys.{KeyOf}
use Rattle.driver.specs.declared.settings.Settings.{Settings}

-- channels and their keys, as the driver has them
abbrev pub known_keys : List KeyOf → List (List ℕ × List ℕ)
known_keys keys = map (λ k. (k.channel, k.key)) keys

-- and as the configuration says them
abbrev pub said_keys : List ChannelKey → List (List ℕ × List ℕ)
said_keys keys = map (λ k. (k.channel, k.key)) keys

-- the configuration's nick, passwords, keys and times, and how many nodes the group has
pub record AreSettingsOf (config : Config) (size : ℕ) (settings : Settings) : Type 0 where
  pub size_is : settings.size ≡ size
  pub nick : settings.nick ≡ config.setup.nick
  pub password : settings.password.items ≡ config.password
  pub upstream_password : settings.upstream_password ≡ config.upstream_password
  pub channel_keys : known_keys settings.channel_keys.items ≡ said_keys config.channel_keys.items
  pub beat_ms : settings.beat_ms ≡ config.beat_ms
  pub timeout_ms : settings.timeout_ms ≡ config.timeout_ms
  pub flood_burst : settings.flood_burst ≡ config.flood_burst
  pub flood_ms : settings.flood_ms ≡ config.flood_ms
