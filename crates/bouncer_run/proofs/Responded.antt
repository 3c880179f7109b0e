-- What the driver hears while its orders are done.
use Rattle.std.proofs.Common.{◌≡◌, ◌∙◌, List, [], Option, Some, None, true, refl, sym, ap, subst}
use Rattle.std.specs.Prelude.{ℕ, is_some}
use Rattle.driver.specs.Calls.{Does}
use Rattle.driver.specs.Calls.Call.{Take}
use Rattle.driver.specs.Nicks.{AllAreWritten, nick_in, notice}
use Rattle.driver.specs.Telling.{Ordered, emptied}
use Rattle.driver.specs.declared.driver.Driver.{Driver}
use Rattle.driver.specs.declared.order.Now.{Now}
use Rattle.driver.specs.declared.order.Order.{Order}
use Rattle.bouncer_run.specs.Responses.{HasNoted, HearsAll, HearsIfNone, NotesIf}
use Rattle.bouncer_run.specs.declared.sockets.Sockets.{Sockets}

-- nothing, while no orders are done
pub none_heard : (now : Now) (orders : List Order) (sockets : Sockets) (driver : Driver) → orders ≡ [] → HearsAll now orders sockets sockets driver driver
none_heard now orders sockets driver none = subst (λ (l : List Order). HearsAll now l sockets sockets driver driver) (sym none) (refl, refl)

-- nothing, if there is one
pub none_is_gone : {A : Type 0} (hears : Driver → Driver → Type 0) (left : Option A) (driver : Driver) → is_some left ≡ true → HearsIfNone hears left driver driver
none_is_gone hears None driver stands = absurd (cc stands)
none_is_gone hears (Some left) driver stands = refl

-- the orders are taken
pub is_taken : (old new : Driver) → new ≡ record old { orders = emptied old.orders } → Does Take old new
is_taken old new left =
    let given = ap (λ (d : Driver). d.orders) left in
    record { given = given; rest = left ∙ ap (λ (o : Ordered). record old { orders = o }) (sym given) }

-- a notice that each client gets
pub is_noted : (text : List ℕ) (old new : Driver)
    → AllAreWritten old.clients (notice (nick_in old) text) old.orders new.orders
    → new ≡ record old { orders = new.orders } → HasNoted old new
is_noted text old new told rest = (text, record { given = told; rest = rest })

-- one, if there is a text
pub some_notes : (found : Option (List ℕ)) (text : List ℕ) (old new : Driver) → Some text ≡ found
    → AllAreWritten old.clients (notice (nick_in old) text) old.orders new.orders
    → new ≡ record old { orders = new.orders } → NotesIf found old new
some_notes found text old new some told rest =
    subst (λ (f : Option (List ℕ)). NotesIf f old new) some (record { given = told; rest = rest })
