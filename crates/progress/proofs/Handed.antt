-- A line that waits is handed, by the machine of the bouncer.
use Rattle.std.proofs.Common.{◌≡◌, ℕ, suc, ◌+◌, ◌-◌, Bool, true, List, [], ◌∷◌, ◌++◌, length, map, take, Some, refl, sym, ap, subst, ◌∙◌, arith, length-append}
use Rattle.std.specs.Prelude.{slice_get}
use Rattle.std.proofs.Math.Seq.{take-length}
use Rattle.wire_bytes.specs.declared.session_id.SessionId.{SessionId}
use Rattle.machine_laws.specs.Runs.{History, came}
use Rattle.machine_laws.proofs.Come.{came_one_more}
use Rattle.raft_log.specs.declared.entry.Entry.{Entry}
use Rattle.raft_log.specs.Lists.{item}
use Rattle.raft_log.specs.Node.{Node, is_leader}
use Rattle.node_steps.specs.Asking.{new_session}
use Rattle.raft_node.specs.Hosts.{hosted}
use Rattle.raft_node.specs.Machine.{Machine, history}
use Rattle.raft_node.specs.Steps.{leaving}
use Rattle.agreement.specs.World.{start}
use Rattle.buffer_commands.specs.Settings.{Settings}
use Rattle.session_fence.specs.declared.command.FenceCommand.TheVariants.{Opened, Shut, Heard}
use Rattle.session_fence.proofs.Ids.{same-itself}
use Rattle.upstream_claim.specs.declared.command.ClaimsCommand.TheVariants.{Claim}
use Rattle.upstream_claim.specs.declared.effect.ClaimsEffect.TheVariants as claims_effect
use Rattle.request_once.specs.declared.body.Body.TheVariants.{Blank}
use Rattle.request_once.specs.declared.answer.Answer.TheVariants as answer
use Rattle.bouncer_tower.specs.Bodies.{TowerBody, TowerEffect, session, outgoing, next_claim, answers}
use Rattle.bouncer_tower.specs.Hosting.{of_sessions, of_claims, source_of, class_of, playback}
use Rattle.world_run.specs.World.{Event}
use Rattle.progress.specs.Plans.{log_of, candidate, get_ready, open_session, claim_line}
use Rattle.progress.specs.Laws.{after, brought_about}
use Rattle.progress.specs.Sessions.{waits_at, ready, with_session, new_live, IsOpened, IsClaimed}
use Rattle.progress.specs.Handing.{NewIsInForce, WaitingIsHanded}
use Rattle.progress.proofs.Naming.{Each, Named}
use Rattle.progress.proofs.Ids.{TellsOpened, Below, named_run, named_start, next_above}
use Rattle.progress.proofs.Handing.{names, asked_names, AllUnder, all_new, in_force, Hands, hands_it}
use Rattle.progress.proofs.AllSessions.{ready_leads, sessions_can_open, waiting_is_claimed}

bodies_append : (xs : List (Entry TowerBody)) (e : Entry TowerBody) → map (λ z. z.body) (xs ++ e ∷ []) ≡ map (λ z. z.body) xs ++ e.body ∷ []
bodies_append [] e = refl
bodies_append (x ∷ xs) e = ap (λ z. x.body ∷ z) (bodies_append xs e)

-- the history with one more entry
pub history_more : (xs : List (Entry TowerBody)) (e : Entry TowerBody) → history (xs ++ e ∷ []) ≡ (1 + length (map (λ z. z.body) xs), e.body) ∷ history xs
history_more xs e = ap (λ z. came 1 z []) (bodies_append xs e) ∙ came_one_more 1 (map (λ z. z.body) xs) e.body []

module _ (s : Settings) where
  abbrev pub bouncer : Machine
  bouncer =
      hosted Blank (λ id. of_sessions (Opened id)) (λ id. of_sessions (Shut id))
      (λ id number at line. of_sessions (Heard id number at line)) (λ id number. of_claims (Claim id number))
      source_of (answers s) (next_claim s) (playback s) class_of

  tells : TellsOpened bouncer names
  tells =
      record {
        of_opened = λ id. refl;
        of_shut = λ id. refl;
        of_heard = λ id n at line. refl;
        of_claim = λ id n. refl;
        of_blank = refl;
        of_asked = λ i u b may. asked_names i u b may;
      }

  came_under : (top : SessionId) (place : ℕ) (log : List (Entry TowerBody)) (h : History TowerBody) → Each (Below bouncer names tells top) log → AllUnder top h → AllUnder top (came place (map (λ z. z.body) log) h)
  came_under top place [] h a b = b
  came_under top place (e ∷ log) h a b = came_under top (place + 1) log ((place, e.body) ∷ h) a.1 (a.0, b)

  module _ (size : ℕ) (es : List (Event bouncer)) (set : List Bool) (o : IsOpened bouncer set (after bouncer size es) (open_session bouncer set (after bouncer size es)))
      (l : Node TowerBody) (at_l : item (ready bouncer set (after bouncer size es)) (candidate set (after bouncer size es)) ≡ Some l) (leads : is_leader l.role ≡ true) (same : new_session l ≡ new_live bouncer set (after bouncer size es)) where
    abbrev w : List (Node TowerBody)
    w = after bouncer size es

    abbrev c : ℕ
    c = candidate set w

    abbrev id : SessionId
    id = (new_live bouncer set w).id

    abbrev L2 : List (Entry TowerBody)
    L2 = log_of (item (with_session bouncer set w) c)

    named : Named names l
    named = (named_run bouncer names tells (get_ready bouncer set w) w (named_run bouncer names tells es (start size) (named_start bouncer names tells size))).each c l at_l

    pub under : AllUnder id (history l.log)
    under = subst (λ z. AllUnder z.id (history l.log)) same (came_under (new_session l).id 1 l.log [] (next_above bouncer names tells l named leads) tt)

    pub log_is : L2 ≡ l.log ++ record { term = o.leader.term; body = of_sessions (Opened id) } ∷ []
    log_is = ap log_of o.at ∙ (o.log_is ∙ ap (λ z. z ++ record { term = o.leader.term; body = of_sessions (Opened id) } ∷ []) (ap log_of at_l))

    force : session (history L2) ≡ Some id
    force =
        ap (λ z. session (history z)) log_is
        ∙ (ap session (history_more l.log (record { term = o.leader.term; body = of_sessions (Opened id) }))
        ∙ in_force (history l.log) (1 + length (map (λ z. z.body) l.log)) id (all_new id (history l.log) under))

    all_taken : take o.leader.applied o.leader.log ≡ L2
    all_taken =
        let grown : length o.leader.log ≡ suc (length (log_of (item (ready bouncer set w) c))) =
        ap length o.log_is ∙ (let r = length-append (log_of (item (ready bouncer set w) c)) (record { term = o.leader.term; body = of_sessions (Opened id) } ∷ []) in omega arith) in
        ap (λ z. take z o.leader.log) (o.applied_is ∙ sym grown) ∙ (take-length o.leader.log ∙ sym (ap log_of o.at))

    module _ (number : ℕ) (k : IsClaimed bouncer set number w (claim_line bouncer set w)) (waits : waits_at bouncer (item (with_session bouncer set w) c) ≡ Some number) where
      next : next_claim s (history L2) ≡ Some number
      next = ap (λ z. next_claim s (history z)) (sym all_taken) ∙ (sym (ap (waits_at bouncer) o.at) ∙ waits)

      abbrev node : Node TowerBody
      node = k.answered.node

      hands : Hands s (history L2) (suc node.applied) id number
      hands = hands_it s (history L2) (suc node.applied) id number next force

      abbrev effect : TowerEffect
      effect = answer.Effect (claims_effect.Hand id number hands.line)

      brings : brought_about bouncer node (of_claims (Claim id number)) ≡ effect ∷ []
      brings = ap (λ z. answers s (history z) (suc node.applied) (of_claims (Claim id number))) k.answered.front ∙ hands.brings

      leaves_there : (j : ℕ) × (item (leaving bouncer c node (brought_about bouncer node (of_claims (Claim id number)))) j ≡ Some effect)
      leaves_there = k.answered.answers 1 effect (ap (λ z. item z 1) brings) (same-itself id)

  pub new_is_in_force : (size : ℕ) (es : List (Event bouncer)) → NewIsInForce bouncer session size es
  new_is_in_force size es set two most room has_attempts =
      let o : IsOpened bouncer set (after bouncer size es) (open_session bouncer set (after bouncer size es)) = sessions_can_open bouncer size es set two most room has_attempts in
      let r = ready_leads bouncer size es set two most room has_attempts in
      force size es set o r.0 r.1 r.2 r.3

  pub waiting_is_handed : (size : ℕ) (es : List (Event bouncer)) → WaitingIsHanded bouncer (λ h number. slice_get (outgoing s h) (number - 1)) size es
  waiting_is_handed size es set number two most room has_attempts more_room waits =
      let o : IsOpened bouncer set (after bouncer size es) (open_session bouncer set (after bouncer size es)) = sessions_can_open bouncer size es set two most room has_attempts in
      let k : IsClaimed bouncer set number (after bouncer size es) (claim_line bouncer set (after bouncer size es)) = waiting_is_claimed bouncer size es set number two most room has_attempts more_room waits in
      let r = ready_leads bouncer size es set two most room has_attempts in
      let h = hands size es set o r.0 r.1 r.2 r.3 number k waits in (
        h.line,
        h.is_line,
        record {
          before = k.answered.before;
          ends = k.answered.ends;
          place = suc k.answered.node.applied;
          effects = leaving bouncer (candidate set (after bouncer size es)) k.answered.node (brought_about bouncer k.answered.node (of_claims (Claim (new_live bouncer set (after bouncer size es)).id number)));
          comes = k.answered.comes;
          effect = answer.Effect (claims_effect.Hand (new_live bouncer set (after bouncer size es)).id number h.line);
          is_there = leaves_there size es set o r.0 r.1 r.2 r.3 number k waits;
          hands = refl;
        },
      )
