-- What a client is answered to words to the bouncer that ask nothing of the buffers.
use Rattle.std.specs.Prelude.{◌≡◌, ℕ, Bool, true, false, codes, List, [], ◌∷◌, Option, Some, None}
use Rattle.std.specs.BTreeMap.{keys}
use Rattle.std.specs.List.{list_any}
use Rattle.client_gate.specs.declared.status_word.StatusWord.{StatusWord}
use Rattle.client_gate.specs.declared.status_word.StatusWord.TheVariants as word
use Rattle.driver.specs.declared.client.Client.{Client}
use Rattle.driver.specs.declared.clients.Clients.{Clients}
use Rattle.driver.specs.declared.driver.Driver.{Driver}
use Rattle.driver.specs.declared.order.Order.{Order}
use Rattle.driver.specs.declared.order.Order.TheVariants.{Write}
use Rattle.driver.specs.Dropping.{DropsSaid, drop_words}
use Rattle.driver.specs.Leading.{IsLeader}
use Rattle.driver.specs.Nicks.{IsWritten, is_reached, nick_in, notice}
use Rattle.driver.specs.Rosters.{client_at}
use Rattle.driver.specs.Standing.{client_text, standing_texts}
use Rattle.driver.specs.Telling.{Ordered, ordered}

-- the words that there are
abbrev pub help_texts : List (List ℕ)
help_texts =
    codes "What you can say to *status, in letters of either case:"
    ∷ codes "ATTACH #channel - show a channel again, and what you missed there"
    ∷ codes "DETACH #channel - show nothing of a channel, and stay in it"
    ∷ codes "PLAYBUFFER name - show what is kept of a channel or a person"
    ∷ codes "CLEARBUFFER name - forget what is kept of one"
    ∷ codes "CLEARALLCHANNELBUFFERS, CLEARALLQUERYBUFFERS, CLEARALLBUFFERS - forget what is kept of all"
    ∷ codes "SETBUFFER name lines - keep this many lines of one, at most 500"
    ∷ codes "DROP WAITING - forget what waits to go to the server"
    ∷ codes "STATUS - the state of the bouncer; CLIENTS - who is attached; HELP - this list" ∷ []

-- the client that was found gets these texts from `*status`, in this order
unfoldable pub AreTold : List (List ℕ) → Option Client → List ℕ → Ordered → Ordered → Type 0
AreTold [] found nick before after = after ≡ before
AreTold (text ∷ texts) found nick before after =
    (behind : Ordered) × IsWritten found (notice nick text) before behind × AreTold texts found nick behind after

-- and about another client that is attached and connected
abbrev pub IsListedIf : Bool → Client → Option Client → List ℕ → Ordered → Ordered → Type 0
IsListedIf false client found nick before after = after ≡ before
IsListedIf true client found nick before after = IsWritten found (notice nick (client_text client.origin client.name)) before after

abbrev pub IsListed : Option Client → Option Client → List ℕ → Ordered → Ordered → Type 0
IsListed None found nick before after = after ≡ before
IsListed (Some client) found nick before after = IsListedIf (is_reached client) client found nick before after

-- about the clients of these numbers, in this order
unfoldable pub ListEach : List ℕ → Clients → Option Client → List ℕ → Ordered → Ordered → Type 0
ListEach [] clients found nick before after = after ≡ before
ListEach (number ∷ numbers) clients found nick before after =
    (behind : Ordered) × IsListed (client_at clients number) found nick before behind × ListEach numbers clients found nick behind after

-- about all clients
abbrev pub AllAreListed : ℕ → Clients → List ℕ → Ordered → Ordered → Type 0
AllAreListed number clients nick before after = ListEach (keys clients.all) clients (client_at clients number) nick before after

-- A client gets the state of the bouncer, and who is attached.
pub record TellsStanding (now number : ℕ) (driver : Driver) (after : Ordered) : Type 0 where
  pub leader : Option ℕ
  pub is_leader : IsLeader driver.monitors leader
  pub stood : Ordered
  pub stands : AreTold (standing_texts leader now driver) (client_at driver.clients number) (nick_in driver) driver.orders stood
  pub lists : AllAreListed number driver.clients (nick_in driver) stood after

-- A word is answered by this, and nothing else changes.
pub record Tells (gives : Ordered → Type 0) (old new : Driver) : Type 0 where
  pub told : gives new.orders
  pub rest : new ≡ record old { orders = new.orders }

-- What waits to go to the server is dropped, and the client that asked learns whether anything did.
pub record Drops (number : ℕ) (old new : Driver) : Type 0 where
  pub drops : DropsSaid old new
  pub told : AreTold (drop_words drops.waits ∷ []) (client_at old.clients number) (nick_in old) old.orders new.orders

-- A word of a client is answered. DROP WAITING drops what waits; any other word changes nothing else.
abbrev pub Answers : StatusWord → ℕ → ℕ → Driver → Driver → Type 0
Answers word.Help now number old new = Tells (AreTold help_texts (client_at old.clients number) (nick_in old) old.orders) old new
Answers word.Unknown now number old new = Tells (AreTold help_texts (client_at old.clients number) (nick_in old) old.orders) old new
Answers word.Status now number old new = Tells (TellsStanding now number old) old new
Answers word.Clients now number old new = Tells (AllAreListed number old.clients (nick_in old) old.orders) old new
Answers word.DropWaiting now number old new = Drops number old new

-- a driver with all that words to the bouncer may change taken from another: orders, and what waits to go to the server
-- if that is dropped
abbrev pub answered_as : Driver → Driver → Driver
answered_as new old = record old { orders = new.orders; dropping = new.dropping; link = record old.link { waiting = new.link.waiting } }

-- words are answered in turn
unfoldable pub AnswersAll : List StatusWord → ℕ → ℕ → Driver → Driver → Type 0
AnswersAll [] now number old new = new ≡ old
AnswersAll (word ∷ words) now number old new =
    (behind : Driver) × Answers word now number old behind × AnswersAll words now number behind new

-- if the client registered
abbrev pub AnswersIf : Bool → List StatusWord → ℕ → ℕ → Driver → Driver → Type 0
AnswersIf false words now number old new = new ≡ old
AnswersIf true words now number old new = AnswersAll words now number old new

-- bytes go to this client
abbrev pub IsWrite : ℕ → Order → Type 0
IsWrite client (Write other bytes) = other ≡ client
IsWrite client order = ⊥

-- each of these orders is such a write
unfoldable pub AreWrites : ℕ → List Order → Type 0
AreWrites client [] = Unit {0}
AreWrites client (order ∷ more) = IsWrite client order × AreWrites client more

-- a word asks to drop what waits to go to the server
abbrev pub is_drop : StatusWord → Bool
is_drop word.DropWaiting = true
is_drop word.Help = false
is_drop word.Unknown = false
is_drop word.Status = false
is_drop word.Clients = false

-- what words change besides orders, depending on whether DROP WAITING is among them: what waits is dropped, or nothing
-- changes
abbrev pub ChangesJust : Bool → Driver → Driver → Type 0
ChangesJust false old new = new ≡ record old { orders = new.orders }
ChangesJust true old new = DropsSaid old new

-- Whatever a client says to the bouncer that asks nothing of the buffers: all that is ordered is written to that
-- client, and nothing else changes, except that DROP WAITING drops what waits.
pub record IsForWhoAsks (client : ℕ) (drops : Bool) (old new : Driver) : Type 0 where
  pub told : List Order
  pub orders : new.orders ≡ ordered old.orders told
  pub own : AreWrites client told
  pub rest : ChangesJust drops old new

abbrev pub AnswersGoToWhoAsks : Type 0
AnswersGoToWhoAsks =
    (words : List StatusWord) (now number : ℕ) (c : Client) (old new : Driver)
    → client_at old.clients number ≡ Some c → AnswersAll words now number old new → IsForWhoAsks c.origin.2 (list_any is_drop words) old new
