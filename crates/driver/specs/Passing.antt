-- Where effects from a node go.
use Rattle.std.specs.Prelude.{◌≡◌, ℕ, true, false, List, [], ◌∷◌, None, Some}
use Rattle.bouncer_tower.specs.Hosting.{class_of}
use Rattle.client_gate.specs.Gates.{GateEffect}
use Rattle.irc_line.specs.Lines.{Parts}
use Rattle.machine_laws.specs.Origins.{same_origin}
use Rattle.machine_laws.specs.declared.class.Class.{Class}
use Rattle.machine_laws.specs.declared.class.Class.TheVariants.{To, Hand, Rejoin, Nowhere}
use Rattle.wire_bytes.specs.declared.moment.Moment.{Moment}
use Rattle.wire_bytes.specs.declared.origin.Origin.{Origin}
use Rattle.driver.specs.declared.client.Client.{Client}
use Rattle.driver.specs.declared.driver.Driver.{Driver}
use Rattle.driver.specs.declared.link.Stage.{Stage}
use Rattle.driver.specs.Crowds.{Told, told as crowd}
use Rattle.driver.specs.Driving.{told_of}
use Rattle.driver.specs.Evicting.{IsEvicted}
use Rattle.driver.specs.Kicks.{Rejoins}
use Rattle.driver.specs.Learning.{LearnsNick}
use Rattle.driver.specs.Nicks.{nick_in}
use Rattle.driver.specs.Rewording.{reworded}
use Rattle.driver.specs.Rosters.{AreOthersSame, Serves, client_at}
use Rattle.driver.specs.Serving.{Hears}
use Rattle.driver.specs.Telling.{Ordered}
use Rattle.driver.specs.Writing.{link_passed}

-- An effect for the client of this origin is heard by it, if there is one; all others are unchanged, even one of
-- another origin with the same number.
pub record HearsOne (now : ℕ) (at : Moment) (nick : List ℕ) (origin : Origin) (effect : GateEffect) (old new : Told) : Type 0 where
  pub others : AreOthersSame origin.2 old.clients new.clients
  pub nobody : client_at old.clients origin.2 ≡ None → (new.clients ≡ old.clients) × (new.orders ≡ old.orders)
  pub stranger :
      (c : Client) → client_at old.clients origin.2 ≡ Some c → same_origin c.origin origin ≡ false
      → (new.clients ≡ old.clients) × (new.orders ≡ old.orders)
  pub served :
      Serves
      (λ c. (client_at old.clients origin.2 ≡ Some c) × (same_origin c.origin origin ≡ true))
      (λ s calls c client. Hears effect nick now at s calls c old.orders client new.orders)
      origin.2 new.clients

-- An effect is for the client of this origin: if the buffers close it by that, it gets the reason and that is logged;
-- then it hears the effect, reworded if the server ends the session.
pub record ReachesClient (now : ℕ) (at : Moment) (nick : List ℕ) (origin : Origin) (effect : GateEffect) (old new : Told) : Type 0 where
  pub told : Ordered
  pub evicts : IsEvicted (client_at old.clients origin.2) origin effect old.orders told
  pub hears : HearsOne now at nick origin (reworded nick effect) (crowd old.clients told) new

-- An effect that joins a channel anew, in a session of this node, kicks clients from it; one for a client goes to that
-- client, as it hears it, and others go nowhere.
abbrev pub PassesBy : Class Parts → ℕ → Moment → Stage → List ℕ → ℕ → GateEffect → Told → Told → Type 0
PassesBy (To origin) now at stage nick node effect old new = ReachesClient now at nick origin effect old new
PassesBy (Rejoin session line) now at stage nick node effect old new =
    Rejoins stage node line nick old new
PassesBy (Hand session number line) now at stage nick node effect old new = new ≡ old
PassesBy Nowhere now at stage nick node effect old new = new ≡ old

-- An effect passes: the nick that it shows is learnt, and then it goes to whoever it is for; a channel that it joins
-- anew waits to be joined.
pub record Passes (now : ℕ) (at : Moment) (node : ℕ) (effect : GateEffect) (old new : Driver) : Type 0 where
  pub learnt : Driver
  pub learns : LearnsNick effect old learnt
  pub passes : PassesBy (class_of effect) now at learnt.link.stage (nick_in learnt) node effect (told_of learnt) (told_of new)
  pub rest : new ≡ record learnt { clients = new.clients; orders = new.orders; link = link_passed learnt.settings.channel_keys.items (class_of effect) node learnt.link }

-- effects pass in turn
unfoldable pub PassEach : ℕ → Moment → ℕ → List GateEffect → Driver → Driver → Type 0
PassEach now at node [] old new = new ≡ old
PassEach now at node (effect ∷ effects) old new =
    (behind : Driver) × Passes now at node effect old behind × PassEach now at node effects behind new
