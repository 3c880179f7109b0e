-- What a step of a node does to its run, its applied place and its session.
use Rattle.std.proofs.Common.{◌≡◌, ℕ, zero, suc, ◌-◌, ◌<◌, ◌≤◌, Bool, true, false, ◌&&◌, ◌||◌, not, ltb, leb, eqb, List, [], Option, Some, None, length, drop, refl, sym, ap, ◌∙◌, arith}
use Rattle.std.specs.Prelude.{◌^◌}
use Rattle.std.proofs.lemmas.Bool.{cond_both, and_parts, ltb-true}
use Rattle.raft_log.specs.Logs.{entry_limit}
use Rattle.raft_log.specs.Lists.{item, item_or, with_item}
use Rattle.raft_log.specs.declared.entry.Entry.{Entry}
use Rattle.raft_log.specs.declared.message.Kind.{Kind}
use Rattle.raft_log.specs.declared.message.Kind.TheVariants.{RequestVote, Vote, Append, AppendReply, Forward}
use Rattle.raft_log.specs.declared.message.Message.{Message}
use Rattle.raft_log.specs.declared.role.Role.{Role}
use Rattle.raft_log.specs.declared.role.Role.TheVariants.{Follower, Candidate, Leader}
use Rattle.raft_log.specs.declared.node_state.Live.{Live}
use Rattle.raft_log.specs.Node.{Node, is_leader, is_candidate, raised}
use Rattle.raft_log.specs.Votes.{majority, commits, commit_place}
use Rattle.raft_log.specs.Logs.{agrees_at, conflicts_within}
use Rattle.election.specs.Elections.{timed_out, leading}
use Rattle.replication.specs.Replication.{beat, with_match, advanced, stepped_back, on_forward, forwarded, ask}
use Rattle.raft_node.proofs.ByMessage.{grants}
use Rattle.node_steps.specs.Messages.{is_heard, on_message, handled}
use Rattle.raft_node.specs.Machine.{Machine}
use Rattle.node_steps.specs.declared.refusal.Refusal.TheVariants.{LogFull, TermsSpent, NoLeader, Behind, BadOrigin}
use Rattle.node_steps.specs.Asking.{is_full, may_ask, finds_leader, new_session}
use Rattle.raft_node.specs.Steps.{Out, Turn, Act, Expires, Beats, Hears, Asks, Opens, Closes, HearsLine, Claims, Applies, Looks, Idles, Own, Acts, Restarts, Stops, quiet, refused, applied_history, expired, asks, asked, adds, opened, closed, heard, claimed, if_leading, applied, apply_next, looked, turn, own, effects_of}
use Rattle.election.specs.Elections as election

pub role_leader : (r : Role) → is_leader r ≡ true → r ≡ Leader
role_leader Follower h = absurd (cc h)
role_leader Candidate h = absurd (cc h)
role_leader Leader h = refl

not_leader : (r : Role) → is_leader r ≡ false → r ≡ Leader → ⊥
not_leader Follower h e = absurd (cc e)
not_leader Candidate h e = absurd (cc e)
not_leader Leader h e = absurd (cc h)

or_left : (a b : Bool) → (a || b) ≡ false → a ≡ false
or_left true b h = h
or_left false b h = refl

candidate_follows : (r : Role) → is_candidate r ≡ true → r ≡ Leader → ⊥
candidate_follows Follower h e = absurd (cc e)
candidate_follows Candidate h e = absurd (cc e)
candidate_follows Leader h e = absurd (cc h)

module _ {B : Type 0} where
  -- a live session is of the term in which its node leads, and of an attempt that it made
  pub record Lives (s : Node B) : Type 0 where
    pub of : (l : Live) → s.live ≡ Some l → (s.role ≡ Leader) × (l.id.0 ≡ s.term) × (l.id.1 ≤ s.attempts)

  -- the run goes on
  pub record Fares (s t : Node B) : Type 0 where
    pub boot_is : t.boot ≡ s.boot
    pub applied_is : t.applied ≡ s.applied
    pub commit_up : s.commit ≤ t.commit
    pub attempts_up : s.attempts ≤ t.attempts
    pub lives : Lives s → Lives t

  pub fares_self : (s : Node B) → Fares s s
  fares_self s = record { boot_is = refl; applied_is = refl; commit_up = omega arith; attempts_up = omega arith; lives = λ h. h }

  pub fares_on : (s t u : Node B) → Fares s t → Fares t u → Fares s u
  fares_on s t u a b =
      record {
        boot_is = b.boot_is ∙ a.boot_is;
        applied_is = b.applied_is ∙ a.applied_is;
        commit_up = omega (arith, a.commit_up, b.commit_up);
        attempts_up = omega (arith, a.attempts_up, b.attempts_up);
        lives = λ h. b.lives (a.lives h);
      }

  none_lives : (s : Node B) → s.live ≡ None → Lives s
  none_lives s e = record { of = λ l h. absurd (cc (e, h)) }

  pub commit_place_up : (size : ℕ) (matches : List ℕ) (log : List (Entry B)) (t c k : ℕ) → c ≤ commit_place size matches log t c k
  commit_place_up size matches log t c zero = omega arith
  commit_place_up size matches log t c (suc k) =
      cond_both (ltb c (suc k) && commits size matches log t (suc k)) (suc k) (commit_place size matches log t c k) (λ z. c ≤ z)
      (λ h. let lt : c < suc k = ltb-true c (suc k) (and_parts (ltb c (suc k)) _ h).0 in omega arith)
      (λ h. commit_place_up size matches log t c k)

  module _ (n i : ℕ) (s : Node B) where
    timeout_fares : Fares s (timed_out n i s)
    timeout_fares =
        cond_both (is_leader s.role || leb (2 ^ 60) s.term) s _ (λ z. Fares s z) (λ h. fares_self s)
        (λ h. record {
          boot_is = refl;
          applied_is = refl;
          commit_up = omega arith;
          attempts_up = omega arith;
          lives = λ v. record { of = λ l e. absurd (not_leader s.role (or_left (is_leader s.role) _ h) (v.of l e).0) };
        })

    beat_fares : Fares s (beat n i s)
    beat_fares =
        cond_both (is_leader s.role) _ s (λ z. Fares s z)
        (λ h. record { boot_is = refl; applied_is = refl; commit_up = omega arith; attempts_up = omega arith; lives = λ v. record { of = v.of } })
        (λ h. fares_self s)

    raised_fares : (t : ℕ) → Fares s (raised s t)
    raised_fares t =
        cond_both (ltb s.term t) _ s (λ z. Fares s z)
        (λ h. record { boot_is = refl; applied_is = refl; commit_up = omega arith; attempts_up = omega arith; lives = λ v. none_lives _ refl })
        (λ h. fares_self s)

    forward_fares : (b : B) → Fares s (on_forward s b)
    forward_fares b =
        cond_both (is_leader s.role && ltb (length s.log) entry_limit) _ s (λ z. Fares s z)
        (λ h. record { boot_is = refl; applied_is = refl; commit_up = omega arith; attempts_up = omega arith; lives = λ v. record { of = v.of } })
        (λ h. fares_self s)

    ask_fares : (b : B) → Fares s (ask i s b)
    ask_fares b = cond_both (is_leader s.role) (on_forward s b) (forwarded i s b s.leader) (λ z. Fares s z) (λ h. forward_fares b) (λ h. to_leader s.leader)
      where
        to_leader : (o : Option ℕ) → Fares s (forwarded i s b o)
        to_leader None = fares_self s
        to_leader (Some j) = record { boot_is = refl; applied_is = refl; commit_up = omega arith; attempts_up = omega arith; lives = λ v. record { of = v.of } }

    vote_fares : (m : Message B) (granted : Bool) → Fares s (election.on_vote n s m.from m.term granted)
    vote_fares m granted =
        cond_both (is_candidate s.role && (eqb s.term m.term && granted)) _ s (λ z. Fares s z)
        (λ h.
        let c : is_candidate s.role ≡ true = (and_parts (is_candidate s.role) _ h).0 in
        cond_both (majority n (with_item s.voters m.from true)) (leading n (record s { voters = with_item s.voters m.from true })) (record s { voters = with_item s.voters m.from true }) (λ z. Fares s z)
        (λ k. record {
          boot_is = refl;
          applied_is = refl;
          commit_up = omega arith;
          attempts_up = omega arith;
          lives = λ v. record { of = λ l e. absurd (candidate_follows s.role c (v.of l e).0) };
        })
        (λ k. record { boot_is = refl; applied_is = refl; commit_up = omega arith; attempts_up = omega arith; lives = λ v. record { of = v.of } }))
        (λ h. fares_self s)

  module _ (blank : B) (n i : ℕ) (s : Node B) where
    handled_fares : (m : Message B) (k : Kind B) → Fares s (handled blank n i s m k)
    handled_fares m (RequestVote l u) =
        cond_both (grants s m l u) _ _ (λ z. Fares s z)
        (λ h. record { boot_is = refl; applied_is = refl; commit_up = omega arith; attempts_up = omega arith; lives = λ v. record { of = v.of } })
        (λ h. record { boot_is = refl; applied_is = refl; commit_up = omega arith; attempts_up = omega arith; lives = λ v. record { of = v.of } })
    handled_fares m (Vote granted) =
        cond_both (is_candidate s.role) (on_forward (election.on_vote n s m.from m.term granted) blank) s (λ z. Fares s z)
        (λ c. fares_on s (election.on_vote n s m.from m.term granted) _ (vote_fares n i s m granted) (forward_fares n i (election.on_vote n s m.from m.term granted) blank))
        (λ c. fares_self s)
    handled_fares m (Append b) =
        cond_both (ltb m.term s.term) _ _ (λ z. Fares s z)
        (λ h. record { boot_is = refl; applied_is = refl; commit_up = omega arith; attempts_up = omega arith; lives = λ v. record { of = v.of } })
        (λ h. cond_both (is_leader s.role) s _ (λ z. Fares s z) (λ x. fares_self s)
        (λ x. cond_both (agrees_at s.log b.prev_index b.prev_term) _ _ (λ z. Fares s z)
        (λ y. cond_both (conflicts_within (drop b.prev_index s.log) b.entries (s.commit - b.prev_index)) _ _ (λ z. Fares s z)
        (λ q. record { boot_is = refl; applied_is = refl; commit_up = omega arith; attempts_up = omega arith; lives = λ v. record { of = λ l e. absurd (not_leader s.role x (v.of l e).0) } })
        (λ q. record { boot_is = refl; applied_is = refl; commit_up = omega arith; attempts_up = omega arith; lives = λ v. record { of = λ l e. absurd (not_leader s.role x (v.of l e).0) } }))
        (λ y. record { boot_is = refl; applied_is = refl; commit_up = omega arith; attempts_up = omega arith; lives = λ v. record { of = λ l e. absurd (not_leader s.role x (v.of l e).0) } })))
    handled_fares m (AppendReply o p) =
        cond_both (is_leader s.role && (eqb s.term m.term && leb p (length s.log))) _ s (λ z. Fares s z)
        (λ h. cond_both o (advanced n i (with_match s m.from p)) (stepped_back s m.from p) (λ z. Fares s z)
        (λ d. record { boot_is = refl; applied_is = refl; commit_up = commit_place_up n _ s.log s.term s.commit (length s.log); attempts_up = omega arith; lives = λ v. record { of = v.of } })
        (λ d. cond_both (eqb (item_or s.next m.from 0) (suc p)) _ s (λ z. Fares s z)
        (λ e. record { boot_is = refl; applied_is = refl; commit_up = omega arith; attempts_up = omega arith; lives = λ v. record { of = v.of } })
        (λ e. fares_self s)))
        (λ h. fares_self s)
    handled_fares m (Forward b) = forward_fares n i s b

  message_fares : (blank : B) (n i : ℕ) (s : Node B) (m : Message B) → Fares s (on_message blank n i s m)
  message_fares blank n i s m =
      cond_both (is_heard n i m) (handled blank n i (raised s m.term) m m.kind) s (λ z. Fares s z)
      (λ h. fares_on s (raised s m.term) _ (raised_fares n i s m.term) (handled_fares blank n i (raised s m.term) m m.kind))
      (λ h. fares_self s)

-- a node with its machine

module _ (M : Machine) where
  -- What a turn is to a node: its run goes on, and no effect leaves; or it applies a place
  pub data Turned (i : ℕ) (s : Node M.Body) (t : Turn M) : Type 0 where
    GoesOn : Fares s t.node → effects_of t.out ≡ [] → Turned i s t
    Applied : (e : Entry M.Body) → s.applied < s.commit → item s.log (suc s.applied) ≡ Some e → t ≡ applied M i s (Some e) → Turned i s t

  -- and an event, which may begin a new run
  pub data Step (i : ℕ) (s : Node M.Body) (t : Turn M) : Type 0 where
    InRun : Turned i s t → Step i s t
    NewRun : t.node.boot ≡ suc s.boot → t.node.applied ≡ 0 → t.node.live ≡ None → effects_of t.out ≡ [] → Step i s t

  module _ (n i : ℕ) (s : Node M.Body) where
    abbrev Ok : Turn M → Type 0
    Ok t = Turned i s t

    still : (o : Out M) → effects_of o ≡ [] → Ok (record { node = s; out = o })
    still o e = GoesOn (fares_self s) e

    adds_step : (live : Option Live) (attempts : ℕ) (b : M.Body) → is_leader s.role ≡ true → s.attempts ≤ attempts → ((l : Live) → live ≡ Some l → (l.id.0 ≡ s.term) × (l.id.1 ≤ attempts)) → Ok (adds M s live attempts b)
    adds_step live attempts b lead up h =
        cond_both (is_full s) (refused M s LogFull) (quiet M (on_forward (record s { live = live; attempts = attempts }) b)) Ok
        (λ f. still _ refl)
        (λ f. GoesOn
        (fares_on s (record s { live = live; attempts = attempts }) _
        (record { boot_is = refl; applied_is = refl; commit_up = omega arith; attempts_up = up; lives = λ v. record { of = λ l e. (role_leader s.role lead, (h l e).0, (h l e).1) } })
        (forward_fares n i (record s { live = live; attempts = attempts }) b))
        refl)

    expired_step : Ok (expired M n i s)
    expired_step =
        cond_both (not (is_leader s.role) && leb (2 ^ 60) s.term) (refused M s TermsSpent) (quiet M (timed_out n i s)) Ok
        (λ h. still _ refl) (λ h. GoesOn (timeout_fares n i s) refl)

    asked_step : (b : M.Body) → Ok (asked M i s b)
    asked_step b =
        cond_both (may_ask i s (M.source b)) _ (refused M s BadOrigin) Ok
        (λ h. cond_both (finds_leader s s.leader) (asks M i s b) (refused M s NoLeader) Ok
        (λ k. cond_both (is_leader s.role && is_full s) (refused M s LogFull) (quiet M (ask i s b)) Ok (λ f. still _ refl) (λ f. GoesOn (ask_fares n i s b) refl))
        (λ k. still _ refl))
        (λ h. still _ refl)

    leading_step : (t : Turn M) → (is_leader s.role ≡ true → Ok t) → Ok (if_leading M s t)
    leading_step t h = cond_both (is_leader s.role) t (quiet M s) Ok h (λ l. still _ refl)

    opened_step : (o : Option Live) → is_leader s.role ≡ true → Ok (opened M s o)
    opened_step None lead =
        cond_both (leb (2 ^ 60) s.attempts) (refused M s TermsSpent) _ Ok (λ h. still _ refl)
        (λ h. adds_step (Some (new_session s)) (suc s.attempts) (M.opened (new_session s).id) lead (omega arith)
        (λ l e.
        let same : new_session s ≡ l = cc e in
        let attempt : l.id.1 ≡ suc s.attempts = sym (ap (λ (x : Live). x.id.1) same) in
        (sym (ap (λ (x : Live). x.id.0) same), omega (arith, attempt))))
    opened_step (Some l) lead = still _ refl

    module _ (v : Lives s) where
      of_term : (o : Option Live) → s.live ≡ o → (l : Live) → o ≡ Some l → l.id.0 ≡ s.term
      of_term o e l f = (v.of l (e ∙ f)).1

      closed_step : (o : Option Live) → is_leader s.role ≡ true → Ok (closed M s o)
      closed_step None lead = still _ refl
      closed_step (Some l) lead = adds_step None s.attempts (M.shut l.id) lead (omega arith) (λ k e. absurd (cc e))

      heard_step : (o : Option Live) → s.live ≡ o → (at : ℕ) (line : M.Line) → is_leader s.role ≡ true → Ok (heard M s o at line)
      heard_step None e at line lead = still _ refl
      heard_step (Some l) e at line lead =
          adds_step _ s.attempts _ lead (omega arith)
          (λ k f.
          let same : (record l { next = suc l.next }) ≡ k = cc f in
          let attempt : k.id.1 ≡ l.id.1 = sym (ap (λ (x : Live). x.id.1) same) in
          (sym (ap (λ (x : Live). x.id.0) same) ∙ (v.of l e).1, omega (arith, attempt, (v.of l e).2)))

      claimed_step : (o : Option Live) (k : Option ℕ) → is_leader s.role ≡ true → Ok (claimed M s o k)
      claimed_step None k lead = still _ refl
      claimed_step (Some l) None lead = still _ refl
      claimed_step (Some l) (Some k) lead = adds_step s.live s.attempts _ lead (omega arith) (λ j f. ((v.of j f).1, (v.of j f).2))

      applied_step : s.applied < s.commit → (o : Option (Entry M.Body)) → item s.log (suc s.applied) ≡ o → Ok (applied M i s o)
      applied_step lt None e = still _ refl
      applied_step lt (Some x) e = Applied x lt e refl

      apply_step : Ok (apply_next M i s)
      apply_step =
          cond_both (ltb s.applied s.commit) (applied M i s (item s.log (suc s.applied))) (quiet M s) Ok
          (λ h. applied_step (ltb-true s.applied s.commit h) (item s.log (suc s.applied)) refl) (λ h. still _ refl)

      looked_step : (from : ℕ) (target : M.Target) → Ok (looked M s from target)
      looked_step from target = cond_both (ltb s.applied from) (refused M s (Behind s.applied)) _ Ok (λ h. still _ refl) (λ h. still _ refl)

      pub turn_step : (a : Act M) → Ok (turn M n i a s)
      turn_step Expires = expired_step
      turn_step Beats = GoesOn (beat_fares n i s) refl
      turn_step (Hears m) = GoesOn (message_fares M.blank n i s m) refl
      turn_step (Asks b) = asked_step b
      turn_step Opens = leading_step _ (opened_step s.live)
      turn_step Closes = leading_step _ (closed_step s.live)
      turn_step (HearsLine at line) = leading_step _ (heard_step s.live refl at line)
      turn_step Claims = leading_step _ (claimed_step s.live (M.next_claim (applied_history M s)))
      turn_step Applies = apply_step
      turn_step (Looks from target) = looked_step from target
      turn_step Idles = still _ refl

      same_run : (t : Turn M) → Turned i s t → t.node.boot ≡ s.boot
      same_run t (GoesOn f e) = f.boot_is
      same_run t (Applied x lt at e) = ap (λ (u : Turn M). u.node.boot) e

      pub own_step : (r : Own M) → Step i s (own M n i r s)
      own_step (Acts a) = InRun (turn_step a)
      own_step Restarts = NewRun refl refl refl refl
      own_step (Stops a false) = NewRun refl refl refl refl
      own_step (Stops a true) = NewRun (ap suc (same_run _ (turn_step a))) refl refl refl

      pub stop_boot : (a : Act M) (after : Bool) → (own M n i (Stops a after) s).node.boot ≡ suc s.boot
      stop_boot a false = refl
      stop_boot a true = ap suc (same_run _ (turn_step a))
