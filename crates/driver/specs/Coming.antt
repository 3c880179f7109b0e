-- What a client's bytes do at the driver.
use Rattle.std.specs.Prelude.{◌≡◌, ℕ, List, Some, is_some}
use Rattle.wire_bytes.specs.declared.moment.Moment.{Moment}
use Rattle.client_gate.specs.declared.status_word.StatusWord.{StatusWord}
use Rattle.driver.specs.declared.driver.Driver.{Driver}
use Rattle.driver.specs.Answering.{AnswersIf}
use Rattle.driver.specs.Guarding.{NotesIf, due_at}
use Rattle.driver.specs.Nicks.{IsGreeted, nick_in, warned}
use Rattle.driver.specs.Rosters.{Serves, client_at, is_attached_in, refused_in}
use Rattle.driver.specs.Serving.{ReceivesWords}
use Rattle.driver.specs.Telling.{Ordered}

-- Bytes of a client came, and it takes them. If it registered by them, it learns the nick in force if it was greeted by
-- another, that there is no MOTD, that too few nodes are up if people know that, and that there is no server if there
-- is none. A wrong password is counted. What it said to the bouncer that asks nothing of the buffers is answered.
pub record Comes (bytes : List ℕ) (now : ℕ) (at : Moment) (number : ℕ) (old new : Driver) : Type 0 where
  pub told : Ordered
  pub words : List StatusWord
  pub served :
      Serves
      (λ c. client_at old.clients number ≡ Some c)
      (λ s calls c client. ReceivesWords bytes words now at (due_at old.guard now) s calls c old.orders client told)
      number new.clients
  pub greeted : Ordered
  pub greets : IsGreeted (is_attached_in (client_at old.clients number)) (warned old now) (client_at new.clients number) (nick_in old) told greeted
  pub answered : Ordered
  pub answers :
      AnswersIf (is_attached_in (client_at new.clients number)) words now number (record old { clients = new.clients; orders = greeted })
      (record old { clients = new.clients; orders = answered; dropping = new.dropping; link = new.link })
  pub notes :
      NotesIf (is_some (refused_in (client_at old.clients number))) (refused_in (client_at new.clients number)) now
      old.guard answered new.guard new.orders
