-- The keys of a configuration: their words, and the kinds of their values.
use Rattle.std.specs.Prelude.{ℕ, List, codes}
use Rattle.buffer_commands.specs.Settings.{query_limit, size_limit}
use Rattle.raft_log.specs.Logs.{entry_limit}
use Rattle.bouncer_config.specs.declared.key.Key.{Key}
use Rattle.bouncer_config.specs.declared.key.Key.TheVariants.{Nick, Password, Upstream, UpstreamPassword, Listen, Store, Record, Channels, ChanBufferSize, QueryBufferSize, MaxQueryBuffers, OffsetMinutes, AutoClearChanBuffer, AutoClearQueryBuffer, MultiClients, BeatMs, TimeoutMs, FloodBurst, FloodMs, Log, Input, RenewAt, ChannelKeys, OnConnect}
use Rattle.bouncer_config.specs.declared.key.Kind.{Kind}
use Rattle.bouncer_config.specs.declared.key.Kind.TheVariants.{Text, Texts, Paths, Pairs, Number, Truth}
use Rattle.bouncer_config.specs.declared.key.Limits.{Limits}

-- the word of a key
abbrev pub key_text : Key → List ℕ
key_text Nick = codes "nick"
key_text Password = codes "password"
key_text Upstream = codes "upstream"
key_text UpstreamPassword = codes "upstream_password"
key_text Listen = codes "listen"
key_text Store = codes "store"
key_text Record = codes "record"
key_text Channels = codes "channels"
key_text ChanBufferSize = codes "chan_buffer_size"
key_text QueryBufferSize = codes "query_buffer_size"
key_text MaxQueryBuffers = codes "max_query_buffers"
key_text OffsetMinutes = codes "offset_minutes"
key_text AutoClearChanBuffer = codes "auto_clear_chan_buffer"
key_text AutoClearQueryBuffer = codes "auto_clear_query_buffer"
key_text MultiClients = codes "multi_clients"
key_text BeatMs = codes "beat_ms"
key_text TimeoutMs = codes "timeout_ms"
key_text FloodBurst = codes "flood_burst"
key_text FloodMs = codes "flood_ms"
key_text Log = codes "log"
key_text Input = codes "input"
key_text RenewAt = codes "renew_at"
key_text ChannelKeys = codes "channel_keys"
key_text OnConnect = codes "on_connect"

-- the kind of a key's value
abbrev pub kind_of : Key → Kind
kind_of Nick = Text
kind_of Password = Text
kind_of Upstream = Text
kind_of UpstreamPassword = Text
kind_of Record = Text
kind_of Log = Text
kind_of Input = Text
kind_of Listen = Texts
kind_of Channels = Texts
kind_of OnConnect = Texts
kind_of Store = Paths
kind_of ChannelKeys = Pairs
kind_of AutoClearChanBuffer = Truth
kind_of AutoClearQueryBuffer = Truth
kind_of MultiClients = Truth
kind_of _ = Number

-- the least and the greatest value of a number, and its default
abbrev pub between : ℕ → ℕ → ℕ → Limits
between least most usual = record { least = least; most = most; usual = usual }

-- the limits of each natural number
abbrev pub limits_of : Key → Limits
limits_of ChanBufferSize = between 0 size_limit 50
limits_of QueryBufferSize = between 0 size_limit 50
limits_of MaxQueryBuffers = between 1 query_limit 50
limits_of BeatMs = between 10 10000 100
limits_of TimeoutMs = between 50 60000 1000
limits_of FloodBurst = between 1 100 5
limits_of FloodMs = between 0 60000 2000
limits_of RenewAt = between 0 entry_limit 0
limits_of _ = between 0 0 0
