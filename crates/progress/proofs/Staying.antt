-- What a node keeps of its session through events that are neither of sessions nor restarts.
use Rattle.std.proofs.Common.{◌≡◌, ℕ, suc, ◌-◌, ◌<◌, Bool, true, false, ◌&&◌, ◌||◌, not, eqb, ltb, leb, List, [], ◌∷◌, length, drop, Option, Some, None, refl, sym, ap, ◌∙◌, arith, inl, inr, ◌⊎◌, ⊎_elim}
use Rattle.std.specs.Prelude.{◌^◌}
use Rattle.std.proofs.lemmas.Bool.{cond_both, cases_eq, ltb-true}
use Rattle.raft_log.specs.declared.entry.Entry.{Entry}
use Rattle.raft_log.specs.declared.node_state.Live.{Live}
use Rattle.raft_log.specs.declared.message.Kind.{Kind}
use Rattle.raft_log.specs.declared.message.Kind.TheVariants.{RequestVote, Vote, Append, AppendReply, Forward}
use Rattle.raft_log.specs.declared.message.Message.{Message}
use Rattle.raft_log.specs.declared.role.Role.TheVariants.{Leader}
use Rattle.raft_log.specs.Lists.{item, item_or, with_item}
use Rattle.raft_log.specs.Logs.{entry_limit, agrees_at, conflicts_within}
use Rattle.raft_log.specs.Node.{Node, is_leader, is_candidate, raised}
use Rattle.raft_log.specs.Votes.{majority}
use Rattle.election.specs.Elections.{timed_out, grants, leading}
use Rattle.election.specs.Elections as election
use Rattle.replication.specs.Replication.{beat, with_match, advanced, stepped_back, on_forward}
use Rattle.node_steps.specs.declared.refusal.Refusal.TheVariants.{TermsSpent}
use Rattle.node_steps.specs.Messages.{is_heard, handled, on_message}
use Rattle.raft_node.specs.Machine.{Machine}
use Rattle.raft_node.specs.Sound.{LeadsItsSession}
use Rattle.raft_node.specs.Steps.{Turn, quiet, refused, applied, turn}
use Rattle.world_run.specs.World.{World, Input, Timeout, Beat, Deliver, Ask, Opened, Closed, Heard, Claim, Apply, Look, Event, Does, Restart, StopIn, actor, hears, act_of, happens, run}
use Rattle.progress.proofs.Stepping.{Stepped, event_stepped, event_else}

or_left : (a b : Bool) → (a || b) ≡ false → a ≡ false
or_left true b h = h
or_left false b h = refl

module _ {B : Type 0} where
  -- a session is live at a leader alone
  abbrev pub Bound : Node B → Type 0
  Bound s = is_leader s.role ≡ false → s.live ≡ None

  pub bound_leader : (s : Node B) → s.role ≡ Leader → Bound s
  bound_leader s e f = absurd (cc (ap is_leader e, f))

  pub bound_sound : (s : Node B) → LeadsItsSession s → Bound s
  bound_sound s h f = by_live s.live refl
    where
      by_live : (o : Option Live) → s.live ≡ o → o ≡ None
      by_live None e = refl
      by_live (Some l) e = absurd (cc (ap is_leader (h l e).0, f))

  -- in the same term with the same session
  record Same (s t : Node B) : Type 0 where
    term_is : t.term ≡ s.term
    live_is : t.live ≡ s.live
    attempts_is : t.attempts ≡ s.attempts
    bound : Bound s → Bound t

  -- or in a later one with none
  pub record Onward (s t : Node B) : Type 0 where
    pub bound : Bound t
    pub attempts_is : t.attempts ≡ s.attempts
    pub live_is : ((t.term ≡ s.term) × (t.live ≡ s.live)) ⊎ ((s.term < t.term) × (t.live ≡ None))

  same_self : (s : Node B) → Same s s
  same_self s = record { term_is = refl; live_is = refl; attempts_is = refl; bound = λ h. h }

  same_on : (s t u : Node B) → Same s t → Same t u → Same s u
  same_on s t u a b =
      record { term_is = b.term_is ∙ a.term_is; live_is = b.live_is ∙ a.live_is; attempts_is = b.attempts_is ∙ a.attempts_is; bound = λ h. b.bound (a.bound h) }

  onward_self : (s : Node B) → Bound s → Onward s s
  onward_self s h = record { bound = h; attempts_is = refl; live_is = inl (refl, refl) }

  onward_on : (s t u : Node B) → Onward s t → Onward t u → Onward s u
  onward_on s t u a b =
      record {
        bound = b.bound;
        attempts_is = b.attempts_is ∙ a.attempts_is;
        live_is = ⊎_elim
            (λ y. ⊎_elim
            (λ x. inl (y.0 ∙ x.0, y.1 ∙ x.1))
            (λ x. inr (omega (arith, x.0, y.0), y.1 ∙ x.1)) a.live_is)
            (λ y. inr (⊎_elim (λ x. omega (arith, x.0, y.0)) (λ x. omega (arith, x.0, y.0)) a.live_is, y.1)) b.live_is;
      }

  onward_same : (s t u : Node B) → Onward s t → Same t u → Onward s u
  onward_same s t u a b =
      onward_on s t u a (record { bound = b.bound a.bound; attempts_is = b.attempts_is; live_is = inl (b.term_is, b.live_is) })

  module _ (n i : ℕ) (s : Node B) where
    timeout_onward : Bound s → Onward s (timed_out n i s)
    timeout_onward b =
        cond_both (is_leader s.role || leb (2 ^ 60) s.term) s _ (λ z. Onward s z) (λ h. onward_self s b)
        (λ h. let none : s.live ≡ None = b (or_left (is_leader s.role) _ h) in record { bound = λ f. none; attempts_is = refl; live_is = inr (omega arith, none) })

    beat_same : Same s (beat n i s)
    beat_same =
        cond_both (is_leader s.role) _ s (λ z. Same s z)
        (λ h. record { term_is = refl; live_is = refl; attempts_is = refl; bound = λ v. v }) (λ h. same_self s)

    raised_onward : (t : ℕ) → Bound s → Onward s (raised s t)
    raised_onward t b =
        cond_both (ltb s.term t) _ s (λ z. Onward s z)
        (λ h. record { bound = λ f. refl; attempts_is = refl; live_is = inr (ltb-true s.term t h, refl) })
        (λ h. onward_self s b)

    forward_same : (b : B) → Same s (on_forward s b)
    forward_same b =
        cond_both (is_leader s.role && ltb (length s.log) entry_limit) _ s (λ z. Same s z)
        (λ h. record { term_is = refl; live_is = refl; attempts_is = refl; bound = λ v. v }) (λ h. same_self s)

    vote_same : (m : Message B) (granted : Bool) → Same s (election.on_vote n s m.from m.term granted)
    vote_same m granted =
        cond_both (is_candidate s.role && (eqb s.term m.term && granted)) _ s (λ z. Same s z)
        (λ h. cond_both (majority n (with_item s.voters m.from true)) (leading n (record s { voters = with_item s.voters m.from true })) (record s { voters = with_item s.voters m.from true }) (λ z. Same s z)
        (λ k. record { term_is = refl; live_is = refl; attempts_is = refl; bound = λ v f. absurd (cc f) })
        (λ k. record { term_is = refl; live_is = refl; attempts_is = refl; bound = λ v. v }))
        (λ h. same_self s)

  module _ (blank : B) (n i : ℕ) (s : Node B) where
    handled_same : (m : Message B) (k : Kind B) → Same s (handled blank n i s m k)
    handled_same m (RequestVote l u) =
        cond_both (grants s m.from m.term l u) _ _ (λ z. Same s z)
        (λ h. record { term_is = refl; live_is = refl; attempts_is = refl; bound = λ v. v })
        (λ h. record { term_is = refl; live_is = refl; attempts_is = refl; bound = λ v. v })
    handled_same m (Vote granted) =
        cond_both (is_candidate s.role) (on_forward (election.on_vote n s m.from m.term granted) blank) s (λ z. Same s z)
        (λ c. same_on s (election.on_vote n s m.from m.term granted) _ (vote_same n i s m granted) (forward_same n i (election.on_vote n s m.from m.term granted) blank))
        (λ c. same_self s)
    handled_same m (Append b) =
        cond_both (ltb m.term s.term) _ _ (λ z. Same s z)
        (λ h. record { term_is = refl; live_is = refl; attempts_is = refl; bound = λ v. v })
        (λ h. cond_both (is_leader s.role) s _ (λ z. Same s z) (λ x. same_self s)
        (λ x. cond_both (agrees_at s.log b.prev_index b.prev_term) _ _ (λ z. Same s z)
        (λ y. cond_both (conflicts_within (drop b.prev_index s.log) b.entries (s.commit - b.prev_index)) _ _ (λ z. Same s z)
        (λ q. record { term_is = refl; live_is = refl; attempts_is = refl; bound = λ v f. v x })
        (λ q. record { term_is = refl; live_is = refl; attempts_is = refl; bound = λ v f. v x }))
        (λ y. record { term_is = refl; live_is = refl; attempts_is = refl; bound = λ v f. v x })))
    handled_same m (AppendReply o p) =
        cond_both (is_leader s.role && (eqb s.term m.term && leb p (length s.log))) _ s (λ z. Same s z)
        (λ h. cond_both o (advanced n i (with_match s m.from p)) (stepped_back s m.from p) (λ z. Same s z)
        (λ d. record { term_is = refl; live_is = refl; attempts_is = refl; bound = λ v. v })
        (λ d. cond_both (eqb (item_or s.next m.from 0) (suc p)) _ s (λ z. Same s z)
        (λ e. record { term_is = refl; live_is = refl; attempts_is = refl; bound = λ v. v }) (λ e. same_self s)))
        (λ h. same_self s)
    handled_same m (Forward b) = forward_same n i s b

  message_onward : (blank : B) (n i : ℕ) (s : Node B) (m : Message B) → Bound s → Onward s (on_message blank n i s m)
  message_onward blank n i s m b =
      cond_both (is_heard n i m) (handled blank n i (raised s m.term) m m.kind) s (λ z. Onward s z)
      (λ h. onward_same s (raised s m.term) _ (raised_onward n i s m.term b) (handled_same blank n i (raised s m.term) m m.kind))
      (λ h. onward_self s b)

module _ (M : Machine) where
  -- an event that is neither of a session nor a restart

  abbrev pub IsCalmInput : Input M → Type 0
  IsCalmInput (Timeout i) = Unit {0}
  IsCalmInput (Beat i) = Unit {0}
  IsCalmInput (Deliver j k) = Unit {0}
  IsCalmInput (Ask i body) = ⊥
  IsCalmInput (Opened i) = ⊥
  IsCalmInput (Closed i) = ⊥
  IsCalmInput (Heard i at line) = ⊥
  IsCalmInput (Claim i) = ⊥
  IsCalmInput (Apply i) = Unit {0}
  IsCalmInput (Look i from_place target) = ⊥

  abbrev pub IsCalm : Event M → Type 0
  IsCalm (Does x) = IsCalmInput x
  IsCalm (Restart i) = ⊥
  IsCalm (StopIn x after) = ⊥

  abbrev pub AreCalm : List (Event M) → Type 0
  AreCalm [] = Unit {0}
  AreCalm (e ∷ es) = IsCalm e × AreCalm es

  module _ (n i : ℕ) (s : Node M.Body) (b : Bound s) where
    heard_onward : (o : Option (Message M.Body)) → Onward s (turn M n i (hears M o) s).node
    heard_onward None = onward_self s b
    heard_onward (Some m) = message_onward M.blank n i s m b

    applied_onward : (o : Option (Entry M.Body)) → Onward s (applied M i s o).node
    applied_onward None = onward_self s b
    applied_onward (Some e) = record { bound = b; attempts_is = refl; live_is = inl (refl, refl) }

    turn_onward : (w : World M) (x : Input M) → IsCalmInput x → Onward s (turn M n i (act_of M w x) s).node
    turn_onward w (Timeout j) h =
        cond_both (not (is_leader s.role) && leb (2 ^ 60) s.term) (refused M s TermsSpent) (quiet M (timed_out n i s)) (λ (z : Turn M). Onward s z.node)
        (λ k. onward_self s b) (λ k. timeout_onward n i s b)
    turn_onward w (Beat j) h = onward_same s s _ (onward_self s b) (beat_same n i s)
    turn_onward w (Deliver j k) h = heard_onward _
    turn_onward w (Ask j body) h = absurd h
    turn_onward w (Opened j) h = absurd h
    turn_onward w (Closed j) h = absurd h
    turn_onward w (Heard j at line) h = absurd h
    turn_onward w (Claim j) h = absurd h
    turn_onward w (Apply j) h =
        cond_both (ltb s.applied s.commit) (applied M i s (item s.log (suc s.applied))) (quiet M s) (λ (z : Turn M). Onward s z.node)
        (λ k. applied_onward (item s.log (suc s.applied))) (λ k. onward_self s b)
    turn_onward w (Look j from_place target) h = absurd h

  -- the node is there, and in this state
  pub record Stays (a : ℕ) (s : Node M.Body) (v : World M) : Type 0 where
    pub node : Node M.Body
    pub at : item v a ≡ Some node
    pub onward : Onward s node

  event_stays : (w : World M) (e : Event M) (a : ℕ) (s : Node M.Body) → IsCalm e → item w a ≡ Some s → Bound s → Stays a s (happens M w e)
  event_stays w (Does x) a s calm at b =
      ⊎_elim
      (λ e.
      let step : Stepped M w (happens M w (Does x)) a (turn M (length w) a (act_of M w x) s).node = event_stepped M w (Does x) a s (sym e) at in
      record { node = (turn M (length w) a (act_of M w x) s).node; at = step.here; onward = turn_onward (length w) a s b w x calm })
      (λ ne. record { node = s; at = event_else M w (Does x) a ne ∙ at; onward = onward_self s b })
      (cases_eq a (actor M w x))
  event_stays w (Restart i) a s calm at b = absurd calm
  event_stays w (StopIn x after) a s calm at b = absurd calm

  pub calm_stays : (es : List (Event M)) (w : World M) (a : ℕ) (s : Node M.Body) → AreCalm es → item w a ≡ Some s → Bound s → Stays a s (run M es w)
  calm_stays [] w a s calm at b = record { node = s; at = at; onward = onward_self s b }
  calm_stays (e ∷ es) w a s calm at b =
      let one : Stays a s (happens M w e) = event_stays w e a s calm.0 at b in
      let more : Stays a one.node (run M es (happens M w e)) = calm_stays es (happens M w e) a one.node calm.1 one.at one.onward.bound in
      record { node = more.node; at = more.at; onward = onward_on s one.node more.node one.onward more.onward }
