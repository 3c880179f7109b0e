-- The limits of the loop and of connections, by number. Times are in milliseconds.
use Rattle.std.specs.Prelude.{◌≡◌, ◌<◌}
use Rattle.bouncer_run.specs.declared.accepting.TheConstants.{TAKEN}
use Rattle.bouncer_run.specs.declared.connection.TheConstants.{LONGEST_END, MOST_UNSENT}
use Rattle.bouncer_run.specs.declared.event_loop.TheConstants.{EVENTS, MOST_MESSAGES}
use Rattle.bouncer_run.specs.declared.leaving.TheConstants.{HELD, MOST_HELD}
use Rattle.bouncer_run.specs.declared.pieces.TheConstants.{PIECE, PIECES}
use Rattle.bouncer_run.specs.declared.program.TheConstants.{TICK}
use Rattle.bouncer_run.specs.declared.ration.TheConstants.{MINUTE, MOST_TOLD}
use Rattle.bouncer_run.specs.declared.sockets.TheConstants.{CLIENTS, MOST_CLIENTS, SERVER, WAKER}
use Rattle.bouncer_run.specs.declared.stopping.TheConstants.{LONGEST_STOP}
use Rattle.bouncer_run.specs.declared.store_watch.TheConstants.{LOOK_EVERY}

-- What a connection is given.
pub record LimitsOfConnections : Type 0 where
  -- how many clients at once, and how many of them are taken before the others are looked at
  pub clients : MOST_CLIENTS ≡ 256
  pub taken : TAKEN ≡ 64
  -- the bytes of a piece, and the pieces that are read before the others are looked at
  pub piece : PIECE ≡ 512
  pub pieces : PIECES ≡ 16
  -- the bytes that wait to be written, and how long a connection that is to be closed may take none
  pub unsent : MOST_UNSENT ≡ 4194304
  pub longest_end : LONGEST_END ≡ 60000
  -- how long closed connections are held, and how many
  pub held : HELD ≡ 1000
  pub most_held : MOST_HELD ≡ 64
  -- no two sockets have one token
  pub waker : WAKER < SERVER
  pub server : SERVER < CLIENTS

-- What the loop is given.
pub record LimitsOfTheLoop : Type 0 where
  -- how often it looks at the clock, and at the paths of the store
  pub tick : TICK ≡ 20
  pub look_every : LOOK_EVERY ≡ 500
  -- how many sockets are reported at once, and how many messages are heard before sockets are
  -- looked at again
  pub events : EVENTS ≡ 256
  pub messages : MOST_MESSAGES ≡ 10000
  -- how often one kind of news is logged in how long
  pub told : MOST_TOLD ≡ 10
  pub minute : MINUTE ≡ 60000
  -- how long clients may stay at the end
  pub stop : LONGEST_STOP ≡ 5000
