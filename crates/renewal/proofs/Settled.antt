-- After settling no channel is joined.
use Rattle.std.proofs.Common.{◌≡◌, ℕ, List, [], ◌∷◌, ◌++◌, refl, ap, ◌∙◌, map, false}
use Rattle.machine_laws.specs.Runs.{History, came_at}
use Rattle.request_once.specs.Fresh as requests
use Rattle.session_fence.specs.Sessions as sessions
use Rattle.upstream_claim.specs.Numbered as lines
use Rattle.buffer_commands.specs.Settings.{Settings}
use Rattle.buffer_commands.specs.declared.command.Command.{Command}
use Rattle.buffer_commands.specs.declared.command.Command.TheVariants as command
use Rattle.buffer_machine.specs.Buffers.{joined}
use Rattle.buffer_machine.specs.Held.{commands}
use Rattle.bouncer_tower.specs.Bodies.{TowerBody, accepted, plain, unclaimed}
use Rattle.bouncer_tower.specs.Hosting.{of_buffers}
use Rattle.renewal.specs.Lists.{settled}

came_last : {C : Type 0} (place : ℕ) (xs : List C) (c : C) (h : History C) → came_at place (xs ++ c ∷ []) h ≡ (place, c) ∷ came_at place xs h
came_last place [] c h = refl
came_last place (x ∷ xs) c h = came_last place xs c ((place, x) ∷ h)

-- a command of the buffers reaches them
plain-more : (place : ℕ) (c : Command) (h : History TowerBody) → plain ((place, of_buffers c) ∷ h) ≡ (place, c) ∷ plain h
unfolding plain unclaimed accepted requests.plain requests.fresh lines.plain sessions.plain sessions.commands
plain-more place c h = refl

parted-down : (s : Settings) (earlier : List Command) (c : List ℕ) → joined s (command.Down ∷ earlier) c ≡ false
unfolding joined
parted-down s earlier c = refl

-- no channel is joined
pub parted : (s : Settings) (floors : List (ℕ × ℕ)) (h : History TowerBody) (c : List ℕ) → joined s (commands (plain (settled floors h))) c ≡ false
parted s floors h c =
    let gone : List TowerBody = map (λ f. of_buffers (command.NodeGone f.0 f.1)) floors in
    let last : settled floors h ≡ (0, of_buffers command.Down) ∷ came_at 0 gone h = came_last 0 gone (of_buffers command.Down) h in
    ap (λ l. joined s (commands (plain l)) c) last
    ∙ (ap (λ l. joined s (commands l) c) (plain-more 0 command.Down (came_at 0 gone h))
    ∙ parted-down s (commands (plain (came_at 0 gone h))) c)
