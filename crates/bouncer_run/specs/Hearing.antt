-- What is read of a connection, and what goes to the driver.
use Rattle.std.specs.Prelude.{◌≡◌, ◌⊎◌, ◌≤◌, ◌&&◌, ℕ, Bool, true, false, not, nat_eq, codes, List, [], ◌∷◌, length, take, flat_map, Option}
use Rattle.std.specs.List.{starts_with}
use Rattle.std.specs.Io.KnownBytes.{Consumes}
use Rattle.driver.specs.Calls.{Does}
use Rattle.driver.specs.Calls.Call.{Connected, End, Lose, Receive, ReceiveLine, Refuse}
use Rattle.driver.specs.declared.driver.Driver.{Driver}
use Rattle.driver.specs.declared.news.Ending.{Ending}
use Rattle.driver.specs.declared.order.Now.{Now}
use Rattle.driver.specs.Filling.{is_refused}
use Rattle.bouncer_run.specs.declared.connection.Got.{Got}
use Rattle.bouncer_run.specs.declared.connection.Got.TheVariants as got

-- what a read gave left the front of what was to come, and stands at the front of the buffer
abbrev pub HasGiven : Option (List ℕ) → Option (List ℕ) → Got → List ℕ → Type 0
HasGiven before after (got.Bytes count) buffer = (count ≤ length buffer) × Consumes before after (take count buffer)
HasGiven before after got.Nothing buffer = Consumes before after []
HasGiven before after (got.End why) buffer = Consumes before after []
HasGiven before after got.Later buffer = Consumes before after []

-- the bytes of pieces, in order
abbrev pub joined_pieces : List (List ℕ) → List ℕ
joined_pieces = flat_map (λ piece. piece)

-- these pieces are taken in turn
abbrev pub AreTaken : {D : Type 0} → (List ℕ → D → D → Type 0) → List (List ℕ) → D → D → Type 0
AreTaken {D} takes [] old new = new ≡ old
AreTaken {D} takes (piece ∷ pieces) old new = (mid : D) × takes piece old mid × AreTaken takes pieces mid new

-- All that was read was taken, in pieces of any size: each byte once and in order, and no other byte.
pub record HasHeard {D : Type 0} (takes : List ℕ → D → D → Type 0) (before after : Option (List ℕ)) (old new : D) : Type 0 where
  pub pieces : List (List ℕ)
  pub read : Consumes before after (joined_pieces pieces)
  pub taken : AreTaken takes pieces old new

-- bytes begin with PING, which asks for nothing that is kept
abbrev pub is_ping : List ℕ → Bool
is_ping bytes = starts_with nat_eq bytes (codes "PING")

-- What a client sent goes to the driver as this client's. Instead it gets a notice if nothing new is
-- taken from it and its bytes do not begin with PING.
abbrev pub takes_of_client : Now → ℕ → List ℕ → Driver → Driver → Type 0
takes_of_client now number bytes old new =
    (((is_refused old number && not (is_ping bytes)) ≡ false) × Does (Receive bytes now.ms now.at number) old new)
    ⊎ (((is_refused old number && not (is_ping bytes)) ≡ true) × Does (Refuse number) old new)

-- what the server sent goes to the driver as the server's
abbrev pub takes_of_server : Now → List ℕ → Driver → Driver → Type 0
takes_of_server now bytes old new = Does (ReceiveLine now.ms now.at bytes) old new

-- What the driver hears of a client in a turn of its connection: what was read, in pieces, and then
-- that the connection is gone, if it is.
pub record IsServed (now : Now) (number : ℕ) (old new : Driver) : Type 0 where
  pub pieces : List (List ℕ)
  pub mid : Driver
  pub taken : AreTaken (takes_of_client now number) pieces old mid
  pub gone : (new ≡ mid) ⊎ Does (Lose now.ms now.at number) mid new

-- What the driver hears of the server in a turn of its connection: that it is made, if it is, then
-- what was read, in pieces, and then that it is gone, if it is, and why.
pub record IsServerServed (now : Now) (old new : Driver) : Type 0 where
  pub first : Driver
  pub made : (first ≡ old) ⊎ Does (Connected now.ms) old first
  pub pieces : List (List ℕ)
  pub mid : Driver
  pub taken : AreTaken (takes_of_server now) pieces first mid
  pub gone : (new ≡ mid) ⊎ ((why : Ending) × Does (End now.ms why) mid new)
