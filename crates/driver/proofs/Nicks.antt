-- Lemmas on what is written to clients, one after another.
use Rattle.std.proofs.Common.{◌≡◌, ◌∷◌, ℕ, Bool, true, List, [], Option, Some, refl, subst, sym}
use Rattle.std.specs.Global.{Vec}
use Rattle.driver.specs.declared.client.Client.{Client}
use Rattle.driver.specs.declared.clients.Clients.{Clients}
use Rattle.driver.specs.declared.order.Order.TheVariants.{Write}
use Rattle.driver.specs.Nicks.{AreWritten, IsNamed, IsWritten, IsWrittenIf, is_misnamed, is_reached, renaming}
use Rattle.driver.specs.Rosters.{client_at}
use Rattle.driver.specs.Telling.{Ordered, ordered}

-- one client is written something, and then those after it
pub write_more : (clients : Clients) (text : List ℕ) (number : ℕ) (left more : List ℕ) (old behind new : Ordered) → left ≡ number ∷ more → IsWritten (client_at clients number) text old behind → AreWritten more clients text behind new → AreWritten left clients text old new
unfolding AreWritten
write_more clients text number left more old behind new is writes all =
    subst (λ (left : List ℕ). AreWritten left clients text old new) (sym is) (behind, writes, all)

-- no client is left to write to
pub write_none : (clients : Clients) (text : List ℕ) (left : List ℕ) (last : Ordered) → left ≡ [] → AreWritten left clients text last last
unfolding AreWritten
write_none clients text left last none =
    subst (λ (left : List ℕ). AreWritten left clients text last last) (sym none) refl

-- a client that is reached is written a line with this text
pub one_written : (found : Option Client) (client : Client) (text : List ℕ) (before after : Ordered) (line : Vec ℕ) → found ≡ Some client → is_reached client ≡ true → line.items ≡ text → after ≡ ordered before (Write client.origin.2 line ∷ []) → IsWritten found text before after
one_written found client text before after line is reached same wrote =
    subst (λ (o : Option Client). IsWritten o text before after) (sym is)
    (subst (λ (b : Bool). IsWrittenIf b client.origin.2 text before after) (sym reached) (line, same, wrote))

-- a client that was greeted by another nick is written a line that says so
pub one_named : (client : Client) (nick : List ℕ) (before after : Ordered) (line : Vec ℕ) → is_misnamed client nick ≡ true → line.items ≡ renaming client.nick nick → after ≡ ordered before (Write client.origin.2 line ∷ []) → IsNamed client nick before after
one_named client nick before after line is same wrote =
    subst (λ (b : Bool). IsWrittenIf b client.origin.2 (renaming client.nick nick) before after) (sym is) (line, same, wrote)
