-- The events by which a leader is had and its log is settled are of no session, and no restarts.
use Rattle.std.proofs.Common.{ℕ, zero, suc, Bool, List, [], ◌∷◌, ◌++◌, replicate, Option, Some, None}
use Rattle.std.proofs.lemmas.Bool.{cond_both}
use Rattle.raft_log.specs.Lists.{item}
use Rattle.raft_node.specs.Machine.{Machine}
use Rattle.world_run.specs.World.{World, Event, Does, Timeout, Apply, run}
use Rattle.progress.specs.Plans.{Plan, term_of, does_lead, ahead, count_sent, unapplied, candidate, peers, and_then, times, for_each, answered, rise, canvass, elect, exchange, elect_behind, take_lead, rounds, catch_up, confirm, settle, apply_all, lead}
use Rattle.progress.proofs.Staying.{IsCalm, AreCalm}

module _ (M : Machine) where
  abbrev Calm : Plan M → Type 0
  Calm p = (w : World M) → AreCalm M (p w)

  calm_append : (es fs : List (Event M)) → AreCalm M es → AreCalm M fs → AreCalm M (es ++ fs)
  calm_append [] fs a b = b
  calm_append (e ∷ es) fs a b = (a.0, calm_append es fs a.1 b)

  calm_replicate : (k : ℕ) (e : Event M) → IsCalm M e → AreCalm M (replicate k e)
  calm_replicate zero e h = tt
  calm_replicate (suc k) e h = (h, calm_replicate k e h)

  calm_then : (p q : Plan M) → Calm p → Calm q → Calm (and_then M p q)
  calm_then p q a b w = calm_append (p w) (q (run M (p w) w)) (a w) (b (run M (p w) w))

  calm_times : (p : Plan M) → Calm p → (k : ℕ) → Calm (times M k p)
  calm_times p h zero w = tt
  calm_times p h (suc k) w = calm_then p (times M k p) h (calm_times p h k) w

  calm_each : (f : ℕ → Plan M) → ((j : ℕ) → Calm (f j)) → (js : List ℕ) → Calm (for_each M f js)
  calm_each f h [] w = tt
  calm_each f h (j ∷ js) w = calm_then (f j) (for_each M f js) (h j) (calm_each f h js) w

  calm_elect : (c : ℕ) (js : List ℕ) → Calm (elect M c js)
  calm_elect c js w =
      calm_then (rise M c) (canvass M c js) (λ v. calm_replicate _ (Does (Timeout c)) tt)
      (λ v. calm_then (λ x. Does (Timeout c) ∷ []) (for_each M (answered M c (count_sent (item v c))) js) (λ x. (tt, tt))
      (calm_each (answered M c (count_sent (item v c))) (λ j x. (tt, (tt, tt))) js) v)
      w

  calm_exchange : (c j : ℕ) → Calm (exchange M c j)
  calm_exchange c j w = (tt, (tt, (tt, tt)))

  calm_behind : (c : ℕ) (js : List ℕ) (o : Option ℕ) → Calm (elect_behind M c js o)
  calm_behind c js None w = tt
  calm_behind c js (Some j) w = calm_then (exchange M c j) (elect M c js) (calm_exchange c j) (calm_elect c js) w

  calm_take : (c : ℕ) (js : List ℕ) → Calm (take_lead M c js)
  calm_take c js w =
      cond_both (does_lead (item w c)) (elect_behind M c js (ahead w (term_of (item w c)) js) w) (elect M c js w) (AreCalm M)
      (λ h. calm_behind c js (ahead w (term_of (item w c)) js) w) (λ h. calm_elect c js w)

  calm_confirm : (c : ℕ) (js : List ℕ) → Calm (confirm M c js)
  calm_confirm c [] w = tt
  calm_confirm c (j ∷ js) w =
      calm_then (exchange M c j) (for_each M (exchange M c) (j ∷ js)) (calm_exchange c j) (calm_each (exchange M c) (calm_exchange c) (j ∷ js)) w

  pub calm_settle : (c : ℕ) (js : List ℕ) → Calm (settle M c js)
  calm_settle c js w =
      calm_then (catch_up M c js) (confirm M c js)
      (λ v. calm_each (λ j. times M (rounds M c v) (exchange M c j)) (λ j. calm_times (exchange M c j) (calm_exchange c j) (rounds M c v)) js v)
      (calm_confirm c js) w

  pub calm_lead : (set : List Bool) → Calm (lead M set)
  calm_lead set w =
      let c : ℕ = candidate set w in
      calm_then (take_lead M c (peers set c)) (settle M c (peers set c)) (calm_take c (peers set c)) (calm_settle c (peers set c)) w

  pub calm_apply : (a : ℕ) → Calm (apply_all M a)
  calm_apply a w = calm_replicate (unapplied (item w a)) (Does (Apply a)) tt
