-- The bouncer's machine hands out the line that waits when the claim of the session that was opened last is applied.
use Rattle.std.proofs.Common.{◌≡◌, ℕ, zero, suc, ◌+◌, ◌-◌, ◌<◌, ◌≤◌, Bool, true, false, eqb, leb, ltb, List, [], ◌∷◌, length, map, Option, Some, None, refl, sym, ap, ◌∙◌, arith, ⊎_elim}
use Rattle.std.specs.Prelude.{◌^◌, slice_get, if◌then◌else◌}
use Rattle.std.proofs.lemmas.Bool.{cond_both, cond-true, cond-false, cases_Bool, eq-eqb, le-leb, ltb-true}
use Rattle.irc_line.specs.Lines.{Parts}
use Rattle.wire_bytes.specs.declared.session_id.SessionId.{SessionId}
use Rattle.machine_laws.specs.Runs.{History}
use Rattle.machine_laws.specs.Sessions.{is_that}
use Rattle.raft_log.specs.Node.{Node}
use Rattle.node_steps.specs.Asking.{may_ask}
use Rattle.buffer_commands.specs.Settings.{Settings}
use Rattle.session_fence.specs.declared.command.FenceCommand.TheVariants as fence
use Rattle.session_fence.specs.Sessions.{is_below, is_new, greatest, greatest_after, was_opened, was_shut, unless_shut}
use Rattle.session_fence.specs.Sessions as sessions
use Rattle.session_fence.proofs.Ids.{same-itself}
use Rattle.session_fence.proofs.Kept.{new-not_opened, not_opened-not_shut}
use Rattle.upstream_claim.specs.declared.command.ClaimsCommand.TheVariants as claims
use Rattle.upstream_claim.specs.declared.effect.ClaimsEffect.TheVariants as claims_effect
use Rattle.upstream_claim.specs.Numbered.{Numbered, is_next, is_taken, handed, numbered}
use Rattle.upstream_claim.specs.Numbered as lines
use Rattle.request_once.specs.declared.body.Body.TheVariants as body
use Rattle.request_once.specs.declared.answer.Answer.TheVariants as answer
use Rattle.request_once.specs.Fresh.{if_stays, stays, fresh, plain_one, with_command, plain_of}
use Rattle.request_once.specs.Fresh as requests
use Rattle.bouncer_tower.specs.Bodies.{Sessioned, Claimed, TowerBody, client, accepted, unclaimed, session, sessioned_effects, outgoing, within_limit, next_claim, answers, sent}
use Rattle.bouncer_tower.specs.Hosting.{of_sessions, of_claims, session_source, claim_source, source_of}
use Rattle.progress.proofs.Voting.{both_true}
use Rattle.progress.proofs.Naming.{Each}

-- the session that a body opens

abbrev named_session : Sessioned → Option SessionId
named_session (fence.Inner c) = None
named_session (fence.Opened id) = Some id
named_session (fence.Shut id) = None
named_session (fence.Heard id n at line) = None

abbrev named_claim : Claimed → Option SessionId
named_claim (claims.Inner c) = named_session c
named_claim (claims.Claim id n) = None

abbrev pub names : TowerBody → Option SessionId
names (body.Inner c) = named_claim c
names (body.Asked o n at a) = None
names body.Blank = None
names (body.Mark m) = None

-- only the leader brings it

module _ {B : Type 0} (i : ℕ) (s : Node B) where
  asked_session : (c : Sessioned) → may_ask i s (session_source c) ≡ true → named_session c ≡ None
  asked_session (fence.Inner c) h = refl
  asked_session (fence.Opened id) h = absurd (cc h)
  asked_session (fence.Shut id) h = refl
  asked_session (fence.Heard id n at line) h = refl

  asked_claim : (c : Claimed) → may_ask i s (claim_source c) ≡ true → named_claim c ≡ None
  asked_claim (claims.Inner c) h = asked_session c h
  asked_claim (claims.Claim id n) h = refl

  pub asked_names : (b : TowerBody) → may_ask i s (source_of b) ≡ true → names b ≡ None
  asked_names (body.Inner c) h = asked_claim c h
  asked_names (body.Asked o n at a) h = refl
  asked_names body.Blank h = refl
  asked_names (body.Mark m) h = refl

module _ (top : SessionId) where
  abbrev pub Under : Option SessionId → Type 0
  Under named = (id : SessionId) → named ≡ Some id → is_below id top ≡ true

  abbrev pub AllUnder : History TowerBody → Type 0
  AllUnder h = Each (λ (x : ℕ × TowerBody). Under (names x.1)) h

  abbrev ClaimsUnder : History Claimed → Type 0
  ClaimsUnder h = Each (λ (x : ℕ × Claimed). Under (named_claim x.1)) h

  -- if all bodies name lower sessions, so do the commands of those that stay

  fresh_under : (h : History TowerBody) → AllUnder h → AllUnder (fresh h)
  unfolding fresh
  fresh_under [] u = tt
  fresh_under (x ∷ h) u = by_stays (stays (fresh h) x.1) (fresh h) (fresh_under h u.1)
    where
      by_stays : (b : Bool) (kept : History TowerBody) → AllUnder kept → AllUnder (if_stays b x kept)
      by_stays true kept k = (u.0, k)
      by_stays false kept k = k

  commands_under : (h : History TowerBody) → AllUnder h → ClaimsUnder (plain_of client h)
  commands_under [] u = tt
  commands_under ((p, body.Inner c) ∷ h) u = (u.0, commands_under h u.1)
  commands_under ((p, body.Asked o n at a) ∷ h) u = ((λ id e. absurd (cc e)), commands_under h u.1)
  commands_under ((p, body.Blank) ∷ h) u = commands_under h u.1
  commands_under ((p, body.Mark m) ∷ h) u = commands_under h u.1

  after_new : (now : Option SessionId) (c : Sessioned) → Under (named_session c) → is_new now top ≡ true → is_new (greatest_after now c) top ≡ true
  after_new now (fence.Inner c) u e = e
  after_new now (fence.Opened id) u e = cond_both (is_new now id) (Some id) now (λ z. is_new z top ≡ true) (λ h. u id refl) (λ h. e)
  after_new now (fence.Shut id) u e = e
  after_new now (fence.Heard id n at line) u e = e

  claims_new : (h : History Claimed) → ClaimsUnder h → is_new (greatest (lines.plain h)) top ≡ true
  unfolding lines.plain
  claims_new [] u = refl
  claims_new ((p, claims.Inner c) ∷ h) u = after_new (greatest (lines.plain h)) c u.0 (claims_new h u.1)
  claims_new ((p, claims.Claim id n) ∷ h) u = claims_new h u.1

  -- then it is new
  pub all_new : (h : History TowerBody) → AllUnder h → is_new (greatest (unclaimed h)) top ≡ true
  unfolding unclaimed accepted requests.plain
  all_new h u = claims_new (plain_of client (fresh h)) (commands_under (fresh h) (fresh_under h u))

-- a session that is new is in force once it is opened

opened_now : (u : History Sessioned) (p : ℕ) (id : SessionId) → is_new (greatest u) id ≡ true → sessions.session ((p, fence.Opened id) ∷ u) ≡ Some id
unfolding sessions.session
opened_now u p id new =
    ap (λ z. unless_shut ((p, fence.Opened id) ∷ u) z) (cond-true (is_new (greatest u) id) (Some id) (greatest u) new)
    ∙ cond-false (was_shut u id) None (Some id) (not_opened-not_shut u id (new-not_opened u id new))

pub unclaimed_opened : (h : History TowerBody) (p : ℕ) (id : SessionId) → unclaimed ((p, of_sessions (fence.Opened id)) ∷ h) ≡ (p, fence.Opened id) ∷ unclaimed h
unfolding unclaimed accepted requests.plain fresh lines.plain
unclaimed_opened h p id = refl

pub in_force : (h : History TowerBody) (p : ℕ) (id : SessionId) → is_new (greatest (unclaimed h)) id ≡ true → session ((p, of_sessions (fence.Opened id)) ∷ h) ≡ Some id
unfolding session
in_force h p id new = ap (λ z. sessions.session z) (unclaimed_opened h p id) ∙ opened_now (unclaimed h) p id new

-- what waits is handed

there : {A : Type 0} (xs : List A) (k : ℕ) → k < length xs → (x : A) × (slice_get xs k ≡ Some x)
there [] k h = absurd (omega arith)
there (x ∷ xs) zero h = (x, refl)
there (x ∷ xs) (suc k) h = there xs k (omega arith)

limited : (o : Option ℕ) (n : ℕ) → within_limit o ≡ Some n → o ≡ Some n
limited None n e = absurd (cc e)
limited (Some m) n e =
    ⊎_elim
    (λ t. sym (cond-true (leb m (2 ^ 60)) (Some m) None t) ∙ e)
    (λ f. absurd (cc (cond-false (leb m (2 ^ 60)) (Some m) None f, e)))
    (cases_Bool (leb m (2 ^ 60)))

-- the number that is to be claimed next is that of a line
pub record IsWaiting (q : Numbered) (n : ℕ) : Type 0 where
  pub is : n ≡ length q.claimed + 1
  pub in_lines : n ≤ length q.outgoing

waiting_by : (q : Numbered) (n : ℕ) → (if ltb (length q.claimed) (length q.outgoing) then Some (length q.claimed + 1) else None) ≡ Some n → IsWaiting q n
waiting_by q n e =
    ⊎_elim
    (λ t.
    let same : length q.claimed + 1 ≡ n = cc (cond-true (ltb (length q.claimed) (length q.outgoing)) (Some (length q.claimed + 1)) None t, e) in
    let lt : length q.claimed < length q.outgoing = ltb-true (length q.claimed) (length q.outgoing) t in
    record { is = sym same; in_lines = omega arith })
    (λ f. absurd (cc (cond-false (ltb (length q.claimed) (length q.outgoing)) (Some (length q.claimed + 1)) None f, e)))
    (cases_Bool (ltb (length q.claimed) (length q.outgoing)))

taken_by : (now : Option SessionId) (q : Numbered) (id : SessionId) (n : ℕ) → now ≡ Some id → IsWaiting q n → is_taken now q id n ≡ true
taken_by now q id n e w =
    both_true (is_that now id) (is_next q n) (ap (λ z. is_that z id) e ∙ same-itself id)
    (both_true (eqb n (length q.claimed + 1)) (leb n (length q.outgoing)) (eq-eqb n (length q.claimed + 1) w.is) (le-leb n (length q.outgoing) w.in_lines))

module _ (s : Settings) (h : History TowerBody) (place : ℕ) (id : SessionId) (n : ℕ) where
  abbrev q : Numbered
  q = numbered sessions.session (sessions.sent sent) (sessioned_effects s) (accepted h)

  waiting : next_claim s h ≡ Some n → IsWaiting q n
  unfolding next_claim lines.next_claim lines.claimed lines.outgoing
  waiting e = waiting_by q n (limited _ n e)

  -- the line, and what the claim of it brings about
  pub record Hands : Type 0 where
    pub line : Parts
    pub is_line : slice_get (outgoing s h) (n - 1) ≡ Some line
    pub brings : answers s h place (of_claims (claims.Claim id n)) ≡ answer.Effect (claims_effect.Hand id n line) ∷ []

  pub hands_it : next_claim s h ≡ Some n → session h ≡ Some id → Hands
  unfolding lines.answers outgoing lines.outgoing session unclaimed requests.answers accepted
  hands_it next force =
      let w : IsWaiting q n = waiting next in
      let line : (x : Parts) × (slice_get q.outgoing (n - 1) ≡ Some x) = there q.outgoing (n - 1) (let a = w.is in let b = w.in_lines in omega arith) in
      record {
        line = line.0;
        is_line = line.1;
        brings =
            ap (λ z. map answer.Effect z)
            (cond-true (is_taken (session h) q id n) (handed id n (slice_get q.outgoing (n - 1))) [] (taken_by (session h) q id n force w)
            ∙ ap (λ z. handed id n z) line.1);
      }
