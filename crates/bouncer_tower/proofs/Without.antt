-- A request that is dropped changes nothing, as if it had not come, and neither does a blank or a
-- mark.
use Rattle.std.proofs.Common.{◌≡◌, ℕ, false, true, ◌∷◌, ◌++◌, ap}
use Rattle.machine_laws.specs.Runs.{History}
use Rattle.wire_bytes.specs.declared.origin.Origin.{Origin}
use Rattle.buffer_commands.specs.Settings.{Settings}
use Rattle.buffer_commands.specs.declared.command.Action.{Action}
use Rattle.buffer_commands.specs.declared.command.Command.TheVariants as command
use Rattle.session_fence.specs.Sessions as sessions
use Rattle.upstream_claim.specs.Numbered as lines
use Rattle.request_once.specs.declared.body.Body.TheVariants.{Asked}
use Rattle.request_once.specs.Fresh as requests
use Rattle.request_once.proofs.Stays.{plain_without, same_commands, same_answers}
use Rattle.bouncer_tower.specs.Bodies.{TowerBody, Claimed, client, accepted, unclaimed, plain, session, outgoing, claimed, answers, sent, sessioned_effects, claimed_effects}

module _ (later earlier : History TowerBody) (place : ℕ) (o : Origin) (n at : ℕ) (a : Action) (e : requests.stays (requests.fresh earlier) (Asked o n at a) ≡ false) where
  pub accepted_same : accepted (later ++ (place, Asked o n at a) ∷ earlier) ≡ accepted (later ++ earlier)
  unfolding accepted
  accepted_same = plain_without client later earlier place o n at a e

  pub plain_same : plain (later ++ (place, Asked o n at a) ∷ earlier) ≡ plain (later ++ earlier)
  unfolding plain unclaimed
  plain_same = ap (λ (h : History Claimed). sessions.plain command.Up command.Down command.Upstream (lines.plain h)) accepted_same

  pub session_same : session (later ++ (place, Asked o n at a) ∷ earlier) ≡ session (later ++ earlier)
  unfolding session unclaimed
  session_same = ap (λ (h : History Claimed). sessions.session (lines.plain h)) accepted_same

  pub outgoing_same : (s : Settings) → outgoing s (later ++ (place, Asked o n at a) ∷ earlier) ≡ outgoing s (later ++ earlier)
  unfolding outgoing
  outgoing_same s = ap (λ (h : History Claimed). lines.outgoing sessions.session (sessions.sent sent) (sessioned_effects s) h) accepted_same

  pub claimed_same : (s : Settings) → claimed s (later ++ (place, Asked o n at a) ∷ earlier) ≡ claimed s (later ++ earlier)
  unfolding claimed
  claimed_same s = ap (λ (h : History Claimed). lines.claimed sessions.session (sessions.sent sent) (sessioned_effects s) h) accepted_same

module _ (later earlier : History TowerBody) (place : ℕ) (x : TowerBody) (e : requests.is_blank_or_mark x ≡ true) where
  pub accepted_idle : accepted (later ++ (place, x) ∷ earlier) ≡ accepted (later ++ earlier)
  unfolding accepted
  accepted_idle = same_commands client later earlier place x e

  pub plain_idle : plain (later ++ (place, x) ∷ earlier) ≡ plain (later ++ earlier)
  unfolding plain unclaimed
  plain_idle = ap (λ (h : History Claimed). sessions.plain command.Up command.Down command.Upstream (lines.plain h)) accepted_idle

  pub session_idle : session (later ++ (place, x) ∷ earlier) ≡ session (later ++ earlier)
  unfolding session unclaimed
  session_idle = ap (λ (h : History Claimed). sessions.session (lines.plain h)) accepted_idle

  pub outgoing_idle : (s : Settings) → outgoing s (later ++ (place, x) ∷ earlier) ≡ outgoing s (later ++ earlier)
  unfolding outgoing
  outgoing_idle s = ap (λ (h : History Claimed). lines.outgoing sessions.session (sessions.sent sent) (sessioned_effects s) h) accepted_idle

  pub claimed_idle : (s : Settings) → claimed s (later ++ (place, x) ∷ earlier) ≡ claimed s (later ++ earlier)
  unfolding claimed
  claimed_idle s = ap (λ (h : History Claimed). lines.claimed sessions.session (sessions.sent sent) (sessioned_effects s) h) accepted_idle

  pub answers_idle : (s : Settings) (at : ℕ) (y : TowerBody) → answers s (later ++ (place, x) ∷ earlier) at y ≡ answers s (later ++ earlier) at y
  answers_idle s at y = same_answers client (claimed_effects s) later earlier place x e at y
