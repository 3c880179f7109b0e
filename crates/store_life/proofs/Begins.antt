-- Nodes that run make periods of a life.
use Rattle.std.proofs.Common.{◌≡◌, ℕ, zero, suc, ◌<◌, ◌⊎◌, true, List, [], ◌++◌, length, Some, refl, sym, ap, subst, ◌∙◌, arith, append_assoc, append-nil}
use Rattle.buffer_commands.specs.Settings.{Settings}
use Rattle.bouncer_tower.specs.Bodies.{TowerBody}
use Rattle.raft_log.specs.declared.entry.Entry.{Entry}
use Rattle.raft_log.specs.Lists.{item}
use Rattle.raft_log.specs.Logs.{last_term, up_to_date}
use Rattle.raft_log.specs.Node.{Node}
use Rattle.stable_store.specs.declared.saved.Saved.{Saved}
use Rattle.agreement.specs.Laws.{IsAsUpToDateAs, IsIn}
use Rattle.world_run.specs.World.{Event}
use Rattle.world_views.specs.Openings.{OpenedAfter, restarts}
use Rattle.world_views.proofs.Openings.{held_stores, new_stores, world_length}
use Rattle.world_views.proofs.Places.{below, got_back, there}
use Rattle.headline.specs.Tower.{tower}
use Rattle.store_life.specs.Periods.{IsPeriod, WereBegunAnew, WereNew, end_of}
use Rattle.store_life.specs.Running.{AnewRunBegins, HasHistory, IsChosen, NewRunBegins, RunGoesOn, RunIsPeriod, RunningPeriod, period_of, recorded}
use Rattle.store_life.proofs.Opened.{opened, running_of}
use Rattle.store_life.proofs.Running.{nodes_end_as_viewed}

item_below : {A : Type 0} (xs : List A) (i : ℕ) (x : A) → item xs (suc i) ≡ Some x → i < length xs
item_below xs i x e = below xs i x (got_back xs i x e)

module _ (r : RunningPeriod) (h : HasHistory r) (c : IsChosen r) where
  best_at : (i : ℕ) (u : Node TowerBody) → IsIn c.whole (suc i) → item (end_of (period_of r)) (suc i) ≡ Some u → up_to_date (last_term r.chosen) (length r.chosen) (last_term u.log) (length u.log) ≡ true
  best_at i u in_it e =
      let long : length (end_of (period_of r)) ≡ length r.views = world_length (tower r.settings) (length r.views) (r.before ++ (r.earlier ++ recorded r)) in
      let lt : i < length (end_of (period_of r)) = item_below (end_of (period_of r)) i u e in
      let v = there r.views i (omega (arith, long, lt)) in
      let o = c.opened i v.0 in_it v.1 in
      let x = nodes_end_as_viewed r h i v.0 o.0 v.1 o.1 in
      let same : x.0 ≡ u = cc (e, x.1) in
      let logs : u.log ≡ v.0.state.log = ap (λ (n : Node TowerBody). n.log) (sym same) ∙ ap (λ (y : Saved TowerBody). y.log) x.2 in
      subst (λ (l : List (Entry TowerBody)). up_to_date (last_term r.chosen) (length r.chosen) (last_term l) (length l) ≡ true) (sym logs) (c.best i v.0 in_it v.1)

  best_of : IsAsUpToDateAs c.whole (end_of (period_of r)) r.chosen
  best_of zero u in_it e = absurd (cc e)
  best_of (suc i) u in_it e = best_at i u in_it e

  is_period : WereNew (period_of r) ⊎ WereBegunAnew (period_of r) → IsPeriod (period_of r)
  is_period opening =
      let o = c.opened c.place c.view c.is_whole c.there in
      let x = nodes_end_as_viewed r h c.place c.view o.0 c.there o.1 in
      record {
        opened = opening;
        whole = c.whole;
        enough = c.enough;
        node = suc c.place;
        last = x.0;
        there = x.1;
        log_is = ap (λ (y : Saved TowerBody). y.log) x.2 ∙ c.log_is;
        best = best_of;
      }

pub run_is_period : RunIsPeriod
run_is_period r h opening c = is_period r h c opening

module _ (s : Settings) where
  pub new_run_begins : NewRunBegins s
  new_run_begins size next views rule honest new =
      let r = running_of s size next [] views rule honest (new_stores (tower s) views new) in
      (r.0, r.1, λ chosen. record { none_before = refl; none_begun = refl })

  pub anew_run_begins : AnewRunBegins s
  anew_run_begins boots term bodies a size next views rule honest long anew =
      let p = opened s boots term bodies a in
      let before : List (Event (tower s)) = p.0 ++ restarts (tower s) (length boots) in
      let so : OpenedAfter (tower s) (before ++ []) views = subst (λ (x : List (Event (tower s))). OpenedAfter (tower s) x views) (sym (append-nil before)) (p.1.opened views long anew) in
      let r = running_of s size next (before ++ []) views rule honest so in
      (before, r.0, r.1, λ chosen. record { boots = boots; term = term; left_by = p.0; sized = long; anew = a; leaves = p.1.leaves; restarted = refl })

  pub run_goes_on : RunGoesOn s
  run_goes_on before earlier size next views rule honest held =
      let so : OpenedAfter (tower s) (before ++ (earlier ++ restarts (tower s) (length views))) views =
      subst (λ (x : List (Event (tower s))). OpenedAfter (tower s) x views) (append_assoc before earlier (restarts (tower s) (length views))) (held_stores (tower s) (before ++ earlier) views held) in
      running_of s size next (before ++ (earlier ++ restarts (tower s) (length views))) views rule honest so
