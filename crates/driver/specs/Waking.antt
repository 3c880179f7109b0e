-- How long nodes were silent: only while their driver ran.
use Rattle.std.specs.Prelude.{ℕ, ◌+◌, ◌-◌, ◌/◌, ◌^◌, min, map}
use Rattle.driver.specs.declared.timer.Timer.{Timer}
use Rattle.driver.specs.declared.node_monitor.NodeMonitor.{NodeMonitor}
use Rattle.driver.specs.declared.driver.Driver.{Driver}
use Rattle.driver.specs.Monitors.{at}

-- how much of the time since the driver last ran does not count as silence: all beyond half a timeout, since the
-- process was stopped then, or had no processor
abbrev pub slept : Timer → ℕ → ℕ → ℕ
slept ran timeout now = (now - ran.since) - timeout / 2

-- a timer that runs this much longer
abbrev pub later : ℕ → Timer → Timer
later ms timer = at (min (timer.since + ms) (2 ^ 64 - 1))

-- a node counts as heard from this much later, and so does the leader that it heard of
abbrev pub waited_longer : ℕ → NodeMonitor → NodeMonitor
waited_longer ms monitor = record monitor {
  following = record monitor.following { last_leader_contact = later ms monitor.following.last_leader_contact };
  presence = record monitor.presence { last_report = later ms monitor.presence.last_report };
}

-- the driver once it runs at this moment
abbrev pub awake : ℕ → Driver → Driver
awake now driver = record driver {
  ran = at now;
  monitors = map (waited_longer (slept driver.ran driver.settings.timeout_ms now)) driver.monitors;
}
