-- The limits of the driver, by number. Times are in milliseconds.
use Rattle.std.specs.Prelude.{◌≡◌, ◌+◌, ◌≤◌, ◌<◌}
use Rattle.raft_log.specs.Logs.{entry_limit}
use Rattle.client_gate.specs.declared.turn.TheConstants as gate
use Rattle.driver.specs.declared.absent_channels.TheConstants.{MOST_CHANNELS, MOST_REASON}
use Rattle.driver.specs.declared.client.TheConstants as client
use Rattle.driver.specs.declared.client.farewell.TheConstants.{LEAVES_WITHIN}
use Rattle.driver.specs.declared.client.silence.TheConstants.{REGISTERS_WITHIN, SILENCE}
use Rattle.driver.specs.declared.driver.writing.TheConstants.{MOST_AT_ONCE}
use Rattle.driver.specs.declared.guard.TheConstants.{ANSWERED_BEHIND, FIRST, FURTHEST, MINUTE, TURNS_APART}
use Rattle.driver.specs.declared.join_line.TheConstants.{MOST_BYTES}
use Rattle.driver.specs.declared.key_ring.TheConstants.{MOST_KEYS}
use Rattle.driver.specs.declared.level.TheConstants.{FULL, NEARLY_FULL, FILLING}
use Rattle.driver.specs.declared.link.TheConstants.{FIRST_WAIT, LONGEST_WAIT}
use Rattle.driver.specs.declared.link.losing.TheConstants.{GOOD_SESSION}
use Rattle.driver.specs.declared.link.silence.TheConstants.{QUIET, TIME_TO_CLOSE, UNOPENED}
use Rattle.driver.specs.declared.node_monitor.TheConstants as node
use Rattle.driver.specs.declared.node_monitor.clock.TheConstants.{APART}
use Rattle.driver.specs.declared.node_monitor.hanging.TheConstants.{HANGS_AFTER, QUIET_AFTER, SHORT_WAIT, TIMEOUTS}
use Rattle.driver.specs.declared.node_monitor.hearing.TheConstants.{GOOD_RUN}
use Rattle.driver.specs.declared.outgoing.TheConstants.{MOST_QUESTIONS}
use Rattle.wire_bytes.specs.Limits.{node_limit}

-- What a client gets.
pub record LimitsOfClients : Type 0 where
  -- to register; to say something, and again after a PING; for its Leave to be done
  pub registers : REGISTERS_WITHIN ≡ 10000
  pub silence : SILENCE ≡ 120000
  pub leaves : LEAVES_WITHIN ≡ 5000
  -- more is read from it while fewer requests wait; its gate takes 42 more, as many as a piece of 512 bytes may have
  pub waiting : client.MOST_WAITING ≡ 48
  pub room : client.MOST_WAITING + 42 ≤ gate.MOST_WAITING

-- What someone who guesses the password gets.
pub record LimitsOfGuesses : Type 0 where
  -- this many wrong ones a minute only wait for their answer; the others get a turn each, at most this far ahead
  pub first : FIRST ≡ 10
  pub minute : MINUTE ≡ 60000
  pub answered : ANSWERED_BEHIND ≡ 2000
  pub turns : TURNS_APART ≡ 1000
  pub furthest : FURTHEST ≡ 10000
  -- no turn is further ahead than a client may take to register
  pub in_time : FURTHEST ≤ REGISTERS_WITHIN

-- What a node gets.
pub record LimitsOfNodes : Type 0 where
  pub nodes : node.MOST_NODES ≡ node_limit
  -- notes that are not done
  pub waiting : node.MOST_WAITING ≡ 256
  -- how much longer each next node waits for a leader
  pub apart : APART ≡ 50
  -- how long without an answer until it hangs, at least how many timeouts, and how lately others must have answered
  -- then; after how many timeouts it is dead
  pub hangs : HANGS_AFTER ≡ 5000
  pub answers : QUIET_AFTER ≡ 2000
  pub sooner : QUIET_AFTER < HANGS_AFTER
  pub timeouts : TIMEOUTS ≡ 2
  pub dead : node.DEAD ≡ 10
  -- the longest wait before it is started again, also while too few are up, and how long it must be up for the wait to
  -- be the shortest again
  pub longest : node.LONGEST ≡ 60000
  pub short : SHORT_WAIT ≡ 2000
  pub good : GOOD_RUN ≡ 60000

-- What the server gets.
pub record LimitsOfTheServer : Type 0 where
  -- the first and the longest wait before the next try, and how long a session must last for the wait to be the first
  -- one again
  pub first : FIRST_WAIT ≡ 1000
  pub longest : LONGEST_WAIT ≡ 60000
  pub good : GOOD_SESSION ≡ 60000
  -- its silence, and again after a PING; before it gave a session; as long as both, so that it is left after 150
  -- seconds
  pub quiet : QUIET ≡ 75000
  pub unopened : UNOPENED ≡ 150000
  pub alike : QUIET + QUIET ≡ UNOPENED
  -- for it to close a session that is over
  pub closes : TIME_TO_CLOSE ≡ 1000
  -- lines that go at once, bytes of a JOIN, questions that wait, channels and keys that are known, bytes of a reason
  pub at_once : MOST_AT_ONCE ≡ 100
  pub bytes : MOST_BYTES ≡ 510
  pub questions : MOST_QUESTIONS ≡ 1000
  pub channels : MOST_CHANNELS ≡ 256
  pub keys : MOST_KEYS ≡ 256
  pub reason : MOST_REASON ≡ 300

-- The levels of the log at which people get a notice.
pub record LimitsOfTheLog : Type 0 where
  pub filling : FILLING ≡ 800000
  pub nearly : NEARLY_FULL ≡ 950000
  -- the last 1,000 places are reserved for blank entries, sessions that end, and clients that attach
  pub full : FULL + 1000 ≡ entry_limit
  pub entries : entry_limit ≡ 1000000
