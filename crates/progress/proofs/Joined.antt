-- A session joins the channels again, by the machine of the bouncer.
use Rattle.std.proofs.Common.{◌≡◌, ℕ, suc, ◌+◌, true, Bool, List, length, map, Some, sym, ap, subst, ◌∙◌}
use Rattle.wire_bytes.specs.declared.session_id.SessionId.{SessionId}
use Rattle.machine_laws.specs.declared.class.Class.TheVariants.{Rejoin}
use Rattle.raft_log.specs.declared.entry.Entry.{Entry}
use Rattle.raft_log.specs.Lists.{item}
use Rattle.raft_log.specs.Node.{Node, is_leader}
use Rattle.node_steps.specs.Asking.{new_session}
use Rattle.raft_node.specs.Machine.{Machine, history}
use Rattle.raft_node.specs.Steps.{leaving}
use Rattle.buffer_commands.specs.Settings.{Settings}
use Rattle.session_fence.specs.declared.command.FenceCommand.TheVariants.{Opened}
use Rattle.session_fence.specs.Sessions.{is_new, greatest}
use Rattle.bouncer_tower.specs.Bodies.{TowerBody, TowerEffect, unclaimed, answers}
use Rattle.bouncer_tower.specs.Hosting.{of_sessions, class_of}
use Rattle.world_run.specs.World.{World, Event}
use Rattle.progress.specs.Plans.{log_of, candidate, open_session}
use Rattle.progress.specs.Laws.{after, boot_of, brought_about}
use Rattle.progress.specs.Sessions.{ready, with_session, new_live, IsOpened}
use Rattle.progress.specs.Joining.{joining, channels_held, SessionsJoin}
use Rattle.progress.proofs.Handing.{all_new}
use Rattle.progress.proofs.Handed.{bouncer, history_more, under, log_is}
use Rattle.progress.proofs.AllSessions.{ready_leads, sessions_can_open}
use Rattle.progress.proofs.Joining.{word, classes, brings_joins, same_held, all_leave}

module _ (s : Settings) where
  module _ (size : ℕ) (es : List (Event (bouncer s))) (set : List Bool) (o : IsOpened (bouncer s) set (after (bouncer s) size es) (open_session (bouncer s) set (after (bouncer s) size es)))
      (l : Node TowerBody) (at_l : item (ready (bouncer s) set (after (bouncer s) size es)) (candidate set (after (bouncer s) size es)) ≡ Some l) (leads : is_leader l.role ≡ true) (same : new_session l ≡ new_live (bouncer s) set (after (bouncer s) size es)) where
    abbrev M : Machine
    M = bouncer s

    abbrev w : World M
    w = after M size es

    abbrev c : ℕ
    c = candidate set w

    abbrev id : SessionId
    id = (new_live M set w).id

    abbrev L1 : List (Entry TowerBody)
    L1 = log_of (item (ready M set w) c)

    abbrev cs : List (List ℕ)
    cs = channels_held s (history L1)

    abbrev node : Node TowerBody
    node = o.answered.node

    abbrev brought : List TowerEffect
    brought = brought_about M node (of_sessions (Opened id))

    new_l : is_new (greatest (unclaimed (history l.log))) id ≡ true
    new_l = all_new id (history l.log) (under s size es set o l at_l leads same)

    new : is_new (greatest (unclaimed (history L1))) id ≡ true
    new = ap (λ z. is_new (greatest (unclaimed (history z))) id) (ap log_of at_l) ∙ new_l

    brings : brought ≡ map (word id) cs
    brings =
        ap (λ z. answers s (history z) (suc node.applied) (of_sessions (Opened id))) o.answered.front
        ∙ brings_joins s (history L1) (suc node.applied) id new

    left : leaving M c node brought ≡ map (word id) cs
    left =
        ap (λ z. leaving M c node z) brings
        ∙ all_leave c (boot_of (item w c)) (new_live M set w) node cs
        (λ k x e may. subst (λ z. (j : ℕ) × (item (leaving M c node z) j ≡ Some x)) brings (o.answered.answers k x (ap (λ z. item z k) brings ∙ e) may))

    joins : map class_of (leaving M c node brought) ≡ map (λ channel. Rejoin id (joining channel)) cs
    joins = ap (λ z. map class_of z) left ∙ classes id cs

    stay : channels_held s (history (log_of (item (with_session M set w) c))) ≡ cs
    stay =
        ap (λ z. channels_held s (history z)) (log_is s size es set o l at_l leads same)
        ∙ (ap (λ z. channels_held s z) (history_more l.log (record { term = o.leader.term; body = of_sessions (Opened id) }))
        ∙ (same_held s (history l.log) (1 + length (map (λ z. z.body) l.log)) id new_l
        ∙ ap (λ z. channels_held s (history z)) (sym (ap log_of at_l))))

  pub sessions_join : (size : ℕ) (es : List (Event (bouncer s))) → SessionsJoin (bouncer s) (channels_held s) size es
  sessions_join size es set two most room has_attempts =
      let o : IsOpened (bouncer s) set (after (bouncer s) size es) (open_session (bouncer s) set (after (bouncer s) size es)) = sessions_can_open (bouncer s) size es set two most room has_attempts in
      let r = ready_leads (bouncer s) size es set two most room has_attempts in
      record {
        opened = o;
        place = suc o.answered.node.applied;
        effects = leaving (bouncer s) (candidate set (after (bouncer s) size es)) o.answered.node (brought_about (bouncer s) o.answered.node (of_sessions (Opened (new_live (bouncer s) set (after (bouncer s) size es)).id)));
        comes = o.answered.comes;
        joins = joins size es set o r.0 r.1 r.2 r.3;
        stay = stay size es set o r.0 r.1 r.2 r.3;
      }
