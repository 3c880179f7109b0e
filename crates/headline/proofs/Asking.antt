-- Only an event that asks for it brings a mark, or a client's request.
use Rattle.std.proofs.Common.{true, false, List, [], ◌∷◌, inl, inr, ⊎_elim, subst}
use Rattle.buffer_commands.specs.Settings.{Settings}
use Rattle.raft_log.specs.Node.{Node}
use Rattle.request_once.specs.declared.body.Body.TheVariants.{Inner}
use Rattle.bouncer_tower.specs.Bodies.{Claimed, TowerBody}
use Rattle.world_run.specs.World.{Input, Timeout, Beat, Deliver, Ask, Opened, Closed, Heard, Claim, Apply, Look, Event, Does, Restart, StopIn, World, happens, BringsAt, Brings, Brought}
use Rattle.headline.specs.Tower.{tower}
use Rattle.headline.specs.Promises.{AsksIn, Asks, IsAsked}

-- for a kind of bodies that no leader makes
module _ (s : Settings) (P : TowerBody → Type 0) (not_inner : (c : Claimed) → P (Inner c) → ⊥) where
  asks_in : (x : Input (tower s)) (n : Node TowerBody) (b : TowerBody) → P b → BringsAt (tower s) n x b → AsksIn s P x
  asks_in (Timeout i) n b p h = h
  asks_in (Beat i) n b p h = h
  asks_in (Deliver j k) n b p h = h
  asks_in (Ask i asked) n b p h = subst P h p
  asks_in (Opened i) n b p h = absurd (not_inner _ (subst P h.2 p))
  asks_in (Closed i) n b p h = absurd (not_inner _ (subst P h.3 p))
  asks_in (Heard i at line) n b p h = absurd (not_inner _ (subst P h.3 p))
  asks_in (Claim i) n b p h = absurd (not_inner _ (subst P h.5 p))
  asks_in (Apply i) n b p h = h
  asks_in (Look i from target) n b p h = h

  asks : (w : World (tower s)) (e : Event (tower s)) (b : TowerBody) → P b → Brings (tower s) w e b → Asks s P e
  asks w (Does x) b p h = asks_in x h.node b p h.brings
  asks w (Restart i) b p h = h
  asks w (StopIn x false) b p h = h
  asks w (StopIn x true) b p h = asks_in x h.node b p h.brings

  pub was_asked : (es : List (Event (tower s))) (w : World (tower s)) (b : TowerBody) → P b → Brought (tower s) es w b → IsAsked s P es
  was_asked [] w b p h = h
  was_asked (e ∷ es) w b p h = ⊎_elim (λ a. inl (asks w e b p a)) (λ m. inr (was_asked es (happens (tower s) w e) b p m)) h
