-- What a node has to know of the machine that it hosts: functions of the bodies that came.
use Rattle.std.specs.Prelude.{ℕ, List, map, Option}
use Rattle.irc_line.specs.Lines.{Parts}
use Rattle.wire_bytes.specs.declared.session_id.SessionId.{SessionId}
use Rattle.machine_laws.specs.declared.class.Class.{Class}
use Rattle.machine_laws.specs.declared.class.Source.{Source}
use Rattle.machine_laws.specs.Runs.{History, run}
use Rattle.raft_log.specs.declared.entry.Entry.{Entry}

-- A machine with its setup. A session's id is a term and an attempt.
pub record Machine : Type 1 where
  pub Body : Type 0
  pub Effect : Type 0
  pub Line : Type 0
  pub Target : Type 0
  pub Played : Type 0
  -- the body that a new leader appends first
  pub blank : Body
  -- what a leader appends when its session is opened or shut, a line of it is heard (its place there, its moment), or a
  -- line is claimed
  pub opened : SessionId → Body
  pub shut : SessionId → Body
  pub heard : SessionId → ℕ → ℕ → Line → Body
  pub claim : SessionId → ℕ → Body
  -- who may bring a body
  pub source : Body → Source
  -- what a body does at a place, after the bodies before it
  pub effects : History Body → ℕ → Body → List Effect
  -- the number of the line that is to be claimed next
  pub next_claim : History Body → Option ℕ
  -- what is played of a target
  pub playback : History Body → Target → List Played
  -- where an effect goes
  pub class : Effect → Class Parts

-- the history after the bodies of these entries, at the places from 1 on
abbrev pub history : {B : Type 0} → List (Entry B) → History B
history log = run (map (λ e. e.body) log)
