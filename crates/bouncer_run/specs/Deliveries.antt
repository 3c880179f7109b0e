-- What the driver's orders do to clients.
use Rattle.std.specs.Prelude.{◌≡◌, ◌≤◌, ◌==◌, ◌||◌, ◌++◌, ◌∷◌, [], ℕ, max, Bool, false, if◌then◌else◌, List, length, Option, Some, None}
use Rattle.std.specs.BTreeMap.{get}
use Rattle.std.specs.List.{list_any}
use Rattle.std.specs.Ordering.{nat_cmp}
use Rattle.driver.specs.declared.order.Order.{Order}
use Rattle.driver.specs.declared.order.Order.TheVariants.{Close, Write}
use Rattle.bouncer_run.specs.declared.connection.Phase.{Phase}
use Rattle.bouncer_run.specs.declared.connection.TheConstants.{MOST_UNSENT}
use Rattle.bouncer_run.specs.declared.guest.Guest.{Guest}
use Rattle.bouncer_run.specs.declared.guest.Stage.{Stage}
use Rattle.bouncer_run.specs.declared.sockets.Sockets.{Sockets}
use Rattle.bouncer_run.specs.Connections.{gathered, is_ending, may_wait}

-- the client of this number, while its connection is there
abbrev pub guest_at : Sockets → ℕ → Option Guest
guest_at sockets number = get nat_cmp sockets.clients number

-- all other clients are as they were, and so is what waits for them
abbrev pub AreOthersSame : ℕ → Sockets → Sockets → Type 0
AreOthersSame number old new = (other : ℕ) → (number ≡ other → ⊥) → guest_at new other ≡ guest_at old other

-- the bytes that an order writes to the client of this number
abbrev pub bytes_in : ℕ → Order → List ℕ
bytes_in number (Write other bytes) = if other == number then bytes.items else []
bytes_in number order = []

-- an order closes that client's connection
abbrev pub closes : ℕ → Order → Bool
closes number (Close other) = other == number
closes number order = false

-- the bytes that orders write to that client, in order, up to the first order that closes its
-- connection
abbrev pub bytes_for : ℕ → List Order → List ℕ
bytes_for number [] = []
bytes_for number (order ∷ orders) = if closes number order then [] else bytes_in number order ++ bytes_for number orders

-- a client that came this far, with these bytes waiting for it, and whose connection is to be
-- closed or not
abbrev pub with_waiting : Guest → Stage → List ℕ → Phase → Guest
with_waiting guest stage waiting phase =
    record guest { stage = stage; connection = record guest.connection { unsent = waiting; phase = phase } }

-- These bytes wait after what waited for a client, unless its connection was to be closed; nothing
-- went to its socket. No more waits than the limit, or than waited before. Its connection is to be
-- closed if it was before, or if it is closed now.
pub record IsWritten (bytes : List ℕ) (closed : Bool) (old new : Guest) : Type 0 where
  pub waits : new.connection.unsent ≡ gathered old.connection.phase old.connection.unsent bytes
  pub few : length new.connection.unsent ≤ max MOST_UNSENT (length old.connection.unsent)
  pub ending : is_ending new.connection.phase ≡ (is_ending old.connection.phase || closed)
  pub rest : new ≡ with_waiting old new.stage new.connection.unsent new.connection.phase

-- a client that was there is written these bytes, or too much would wait for it and it is gone; no
-- client is new
abbrev pub HasWritten : List ℕ → Bool → Option Guest → Option Guest → Type 0
HasWritten bytes closed None new = new ≡ None
HasWritten bytes closed (Some old) None = may_wait old.connection.phase old.connection.unsent bytes ≡ false
HasWritten bytes closed (Some old) (Some new) = IsWritten bytes closed old new

-- each client is written what these orders write to it, each byte once and in order, and nothing
-- else; and it is closed if one of them says so
abbrev pub AreDone : List Order → Sockets → Sockets → Type 0
AreDone orders old new =
    (number : ℕ) → HasWritten (bytes_for number orders) (list_any (closes number) orders) (guest_at old number) (guest_at new number)
