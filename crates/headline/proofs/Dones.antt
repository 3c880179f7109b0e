-- That a request is done is reported at most once, and any other changes nothing.
use Rattle.std.proofs.Common.{◌≡◌, ℕ, suc, ◌+◌, ◌≤◌, Bool, true, false, List, [], ◌∷◌, ◌++◌, refl, sym, subst, arith}
use Rattle.std.specs.Prelude.{if◌then◌else◌}
use Rattle.machine_laws.specs.Runs.{History, all_effects}
use Rattle.wire_bytes.specs.declared.origin.Origin.{Origin}
use Rattle.buffer_commands.specs.Settings.{Settings}
use Rattle.request_once.specs.Fresh.{dones, is_done}
use Rattle.request_once.proofs.Stays.{stays_once}
use Rattle.request_once.proofs.Answered as answered
use Rattle.bouncer_tower.specs.Bodies.{TowerBody, TowerEffect, answers, client, claimed_effects}
use Rattle.bouncer_tower.proofs.Without.{plain_same, session_same, outgoing_same, claimed_same}
use Rattle.world_run.specs.World.{count}
use Rattle.world_run.proofs.Holds as holds
use Rattle.headline.specs.Tower.{tower}
use Rattle.headline.specs.Promises.{OverAll, bodies, DoneOnce, IsUnchanged, OthersChangeNothing, RequestsActOnce}

one_more : (b : Bool) (k l : ℕ) → k ≡ l → (if b then suc k else k) ≡ (if b then l + 1 else l)
one_more true k l e = omega (arith, e)
one_more false k l e = e

pub count_dones : (o : Origin) (n : ℕ) (es : List TowerEffect) → count (is_done o n) es ≡ dones o n es
count_dones o n [] = refl
count_dones o n (e ∷ es) = one_more (is_done o n e) (count (is_done o n) es) (dones o n es) (count_dones o n es)

module _ (s : Settings) where
  pub requests_act_once : OverAll s RequestsActOnce
  requests_act_once size es o n = stays_once (bodies s size es) o n

  pub done_once : OverAll s DoneOnce
  done_once size es o n =
      let few : dones o n (all_effects (answers s) (bodies s size es)) ≤ 1 = answered.done_once client (claimed_effects s) o n (bodies s size es) in
      omega (arith, holds.no_more (tower s) size es (is_done o n), count_dones o n (all_effects (answers s) (bodies s size es)), few)

  pub others_change_nothing : OverAll s OthersChangeNothing
  others_change_nothing size es later earlier place o n at action is drops =
      subst (λ (h : History TowerBody). IsUnchanged s h (later ++ earlier)) (sym is)
      record {
        plain = plain_same later earlier place o n at action drops;
        session = session_same later earlier place o n at action drops;
        outgoing = outgoing_same later earlier place o n at action drops s;
        claimed = claimed_same later earlier place o n at action drops s;
      }
