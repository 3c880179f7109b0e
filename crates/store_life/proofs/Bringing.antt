-- How node 1 appends each body that a leader may bring.
use Rattle.std.proofs.Common.{◌≡◌, ℕ, suc, ◌<◌, ◌^◌, ◌==◌, ◌&&◌, true, false, List, [], ◌∷◌, ◌++◌, length, take, Option, Some, None, nat_le, nat_lt, refl, sym, ap, ◌∙◌, arith}
use Rattle.std.proofs.lemmas.Bool.{cond-true, cond-false, lt-ltb}
use Rattle.std.proofs.lemmas.Bool.Decides.{nat_tests}
use Rattle.wire_bytes.specs.declared.origin.Origin.{Origin}
use Rattle.wire_bytes.specs.declared.session_id.SessionId.{SessionId}
use Rattle.machine_laws.specs.Origins.{same_origin}
use Rattle.machine_laws.specs.Sessions.{same_session}
use Rattle.buffer_commands.specs.Settings.{Settings}
use Rattle.buffer_commands.specs.declared.command.Command.{Command}
use Rattle.buffer_commands.specs.declared.command.Command.TheVariants as command
use Rattle.session_fence.specs.declared.command.FenceCommand.TheVariants as fence
use Rattle.upstream_claim.specs.declared.command.ClaimsCommand.TheVariants as claims
use Rattle.request_once.specs.declared.body.Body.TheVariants as body
use Rattle.bouncer_tower.specs.Bodies.{Sessioned, TowerBody, next_claim}
use Rattle.bouncer_tower.specs.Hosting.{source_of}
use Rattle.raft_log.specs.declared.entry.Entry.{Entry}
use Rattle.raft_log.specs.declared.node_state.Live.{Live}
use Rattle.raft_log.specs.Lists.{item}
use Rattle.raft_log.specs.Logs.{entry_limit}
use Rattle.raft_log.specs.Node.{Node}
use Rattle.replication.specs.Replication.{on_forward}
use Rattle.node_steps.specs.Asking.{may_ask}
use Rattle.node_steps.specs.declared.refusal.Refusal.TheVariants.{LogFull, TermsSpent, BadOrigin}
use Rattle.raft_node.specs.Machine.{history}
use Rattle.raft_node.specs.Steps.{Act, Asks, Opens, Closes, HearsLine, Claims, Acts, Turn, adds, asked, asks, claimed, quiet, refused, turn}
use Rattle.world_run.specs.World as world
use Rattle.world_run.specs.World.{Input, happens}
use Rattle.headline.specs.Tower.{tower}
use Rattle.led_lists.specs.Led.{behind, may_bring, may_bring_command, may_bring_session}
use Rattle.store_life.proofs.Hearing.{leading}
use Rattle.store_life.proofs.Lists.{same_numbers, both_true, no_way, same_number}

-- tests that passed

below : (a b : ℕ) → nat_lt a b ≡ true → a < b
below a b e = grind (arith, nat_tests)

not_past : (a b : ℕ) → a < b → nat_le b a ≡ false
not_past a b h = grind (arith, nat_tests)

-- the same ids are one
one_session : (a b : SessionId) → same_session a b ≡ true → a ≡ b
one_session a b e =
    let p : ((a.0 == b.0) ≡ true) × ((a.1 == b.1) ≡ true) = both_true (a.0 == b.0) (a.1 == b.1) e in
    let x : a.0 ≡ b.0 = same_numbers a.0 b.0 p.0 in
    let y : a.1 ≡ b.1 = same_numbers a.1 b.1 p.1 in
    λ d. (x d, y d)

module _ (s : Settings) (boot T : ℕ) (log : List (Entry TowerBody)) (lead : Node TowerBody) where
  -- node 1 with this session, and after it appended this body, with another
  abbrev pub with_session : Option Live → ℕ → Node TowerBody
  with_session live attempts = leading boot T log (record lead { live = live; attempts = attempts })

  abbrev pub with_body : Option Live → ℕ → TowerBody → Node TowerBody
  with_body live attempts b = leading boot T (log ++ record { term = T; body = b } ∷ []) (record lead { live = live; attempts = attempts })

  -- An input of node 1, by which a node becomes another.
  pub record Does (size : ℕ) (old new : Node TowerBody) : Type 0 where
    pub input : Input (tower s)
    pub act : Act (tower s)
    pub acts : (w : List (Node TowerBody)) → happens (tower s) w (world.Does input) ≡ world.world_by (tower s) w 1 (Acts act) (item w 1)
    pub becomes : (turn (tower s) size 1 act old).node ≡ new

  module _ (size : ℕ) (room : length log < entry_limit) where
    full : nat_le entry_limit (length log) ≡ false
    full = not_past (length log) entry_limit room

    free : nat_lt (length log) entry_limit ≡ true
    free = lt-ltb (length log) entry_limit room

    -- a body of its own
    added : (live new : Option Live) (attempts made : ℕ) (b : TowerBody) → (adds (tower s) (with_session live attempts) new made b).node ≡ with_body new made b
    added live new attempts made b =
        ap (λ (t : Turn (tower s)). t.node)
        (cond-false (nat_le entry_limit (length log)) (refused (tower s) (with_session live attempts) LogFull) (quiet (tower s) (on_forward (with_session new made) b)) full)
        ∙ cond-true (nat_lt (length log) entry_limit) (with_body new made b) (with_session new made) free

    -- a body that it is asked for
    asked_for : (live : Option Live) (attempts : ℕ) (b : TowerBody) → may_ask 1 (with_session live attempts) (source_of b) ≡ true → (asked (tower s) 1 (with_session live attempts) b).node ≡ with_body live attempts b
    asked_for live attempts b may =
        ap (λ (t : Turn (tower s)). t.node)
        (cond-true (may_ask 1 (with_session live attempts) (source_of b)) (asks (tower s) 1 (with_session live attempts) b) (refused (tower s) (with_session live attempts) BadOrigin) may
        ∙ cond-false (nat_le entry_limit (length log)) (refused (tower s) (with_session live attempts) LogFull) (quiet (tower s) (on_forward (with_session live attempts) b)) full)
        ∙ cond-true (nat_lt (length log) entry_limit) (with_body live attempts b) (with_session live attempts) free

    own_client : (o : Origin) → same_origin (1, boot, 1) o ≡ true → (o.0 == 1 && o.1 == boot) ≡ true
    own_client o e =
        let p = both_true (1 == o.0 && boot == o.1) (1 == o.2) e in
        let q = both_true (1 == o.0) (boot == o.1) p.0 in
        let x : 1 ≡ o.0 = same_numbers 1 o.0 q.0 in
        let y : boot ≡ o.1 = same_numbers boot o.1 q.1 in
        ap (λ (n : ℕ). n == 1 && o.1 == boot) (sym x) ∙ ap (λ (n : ℕ). n == boot) (sym y) ∙ same_number boot

    -- what a leader that keeps this appends
    abbrev Appends : Option Live → ℕ → TowerBody → Type 0
    Appends live attempts b =
        Does size (with_session live attempts) (with_body (behind (record { live = live; attempts = attempts }) b).live (behind (record { live = live; attempts = attempts }) b).attempts b)

    opens : (attempts : ℕ) (id : SessionId) → (nat_lt attempts (2 ^ 60) && same_session (T, suc attempts) id) ≡ true → Appends None attempts (body.Inner (claims.Inner (fence.Opened id)))
    opens attempts id e =
        let p = both_true (nat_lt attempts (2 ^ 60)) (same_session (T, suc attempts) id) e in
        let low : nat_le (2 ^ 60) attempts ≡ false = not_past attempts (2 ^ 60) (below attempts (2 ^ 60) p.0) in
        let old : Node TowerBody = with_session None attempts in
        let new : Live = record { id = (T, suc attempts); next = 1 } in
        record {
          input = world.Opened 1;
          act = Opens;
          acts = λ w. refl;
          becomes =
              ap (λ (t : Turn (tower s)). t.node) (cond-false (nat_le (2 ^ 60) attempts) (refused (tower s) old TermsSpent) (adds (tower s) old (Some new) (suc attempts) (body.Inner (claims.Inner (fence.Opened (T, suc attempts))))) low)
              ∙ added None (Some new) attempts (suc attempts) (body.Inner (claims.Inner (fence.Opened (T, suc attempts))))
              ∙ ap (λ (i : SessionId). with_body (Some (record { id = i; next = 1 })) (suc attempts) (body.Inner (claims.Inner (fence.Opened i)))) (one_session (T, suc attempts) id p.1);
        }

    shuts : (live : Live) (attempts : ℕ) (id : SessionId) → same_session live.id id ≡ true → Appends (Some live) attempts (body.Inner (claims.Inner (fence.Shut id)))
    shuts live attempts id e =
        record {
          input = world.Closed 1;
          act = Closes;
          acts = λ w. refl;
          becomes =
              added (Some live) None attempts attempts (body.Inner (claims.Inner (fence.Shut live.id)))
              ∙ ap (λ (i : SessionId). with_body None attempts (body.Inner (claims.Inner (fence.Shut i)))) (one_session live.id id e);
        }

    hears : (live : Live) (attempts : ℕ) (id : SessionId) (n at : ℕ) (line : _) → ((same_session live.id id && live.next == n) && nat_lt n (2 ^ 60)) ≡ true
        → Appends (Some live) attempts (body.Inner (claims.Inner (fence.Heard id n at line)))
    hears live attempts id n at line e =
        let p = both_true (same_session live.id id && live.next == n) (nat_lt n (2 ^ 60)) e in
        let q = both_true (same_session live.id id) (live.next == n) p.0 in
        record {
          input = world.Heard 1 at line;
          act = HearsLine at line;
          acts = λ w. refl;
          becomes =
              added (Some live) (Some (record live { next = suc live.next })) attempts attempts (body.Inner (claims.Inner (fence.Heard live.id live.next at line)))
              ∙ ap (λ (i : SessionId). with_body (Some (record { id = i; next = suc live.next })) attempts (body.Inner (claims.Inner (fence.Heard i live.next at line)))) (one_session live.id id q.0)
              ∙ ap (λ (k : ℕ). with_body (Some (record { id = id; next = suc k })) attempts (body.Inner (claims.Inner (fence.Heard id k at line)))) (same_numbers live.next n q.1);
        }

    claims_it : (live : Live) (attempts number : ℕ) (id : SessionId) (n : ℕ) → next_claim s (history (take lead.applied log)) ≡ Some number → (same_session live.id id && number == n) ≡ true
        → Appends (Some live) attempts (body.Inner (claims.Claim id n))
    claims_it live attempts number id n c e =
        let p = both_true (same_session live.id id) (number == n) e in
        let old : Node TowerBody = with_session (Some live) attempts in
        record {
          input = world.Claim 1;
          act = Claims;
          acts = λ w. refl;
          becomes =
              ap (λ (o : Option ℕ). (claimed (tower s) old (Some live) o).node) c
              ∙ added (Some live) (Some live) attempts attempts (body.Inner (claims.Claim live.id number))
              ∙ ap (λ (i : SessionId). with_body (Some live) attempts (body.Inner (claims.Claim i number))) (one_session live.id id p.0)
              ∙ ap (λ (k : ℕ). with_body (Some live) attempts (body.Inner (claims.Claim id k))) (same_numbers number n p.1);
        }

    asks_so : (live : Option Live) (attempts : ℕ) (b : TowerBody) → may_ask 1 (with_session live attempts) (source_of b) ≡ true → Does size (with_session live attempts) (with_body live attempts b)
    asks_so live attempts b e =
        record {
          input = world.Ask 1 b;
          act = Asks b;
          acts = λ w. refl;
          becomes = asked_for live attempts b e;
        }

    gone : (live : Option Live) (attempts : ℕ) (c : Command) → may_bring_command c ≡ true → Appends live attempts (body.Inner (claims.Inner (fence.Inner c)))
    gone live attempts (command.NodeGone node floor) e = asks_so live attempts (body.Inner (claims.Inner (fence.Inner (command.NodeGone node floor)))) refl
    gone live attempts (command.Client o at action) e = absurd (no_way e)
    gone live attempts (command.Upstream at line) e = absurd (no_way e)
    gone live attempts command.Up e = absurd (no_way e)
    gone live attempts command.Down e = absurd (no_way e)

    -- of its sessions
    of_session : (live : Option Live) (attempts : ℕ) (c : Sessioned) → may_bring_session T (record { live = live; attempts = attempts }) c ≡ true → Appends live attempts (body.Inner (claims.Inner c))
    of_session None attempts (fence.Opened id) e = opens attempts id e
    of_session (Some live) attempts (fence.Opened id) e = absurd (no_way e)
    of_session None attempts (fence.Shut id) e = absurd (no_way e)
    of_session (Some live) attempts (fence.Shut id) e = shuts live attempts id e
    of_session None attempts (fence.Heard id n at line) e = absurd (no_way e)
    of_session (Some live) attempts (fence.Heard id n at line) e = hears live attempts id n at line e
    of_session live attempts (fence.Inner c) e = gone live attempts c e

    -- each body that a leader may bring
    pub appends : (live : Option Live) (attempts : ℕ) (next : Option ℕ) (b : TowerBody) → next_claim s (history (take lead.applied log)) ≡ next
        → may_bring T (1, boot, 1) (record { live = live; attempts = attempts }) next b ≡ true → Appends live attempts b
    appends live attempts next (body.Asked o n at action) c e = asks_so live attempts (body.Asked o n at action) (own_client o e)
    appends live attempts next body.Blank c e = absurd (no_way e)
    appends live attempts next (body.Mark m) c e = absurd (no_way e)
    appends live attempts next (body.Inner (claims.Inner x)) c e = of_session live attempts x e
    appends None attempts next (body.Inner (claims.Claim id n)) c e = absurd (no_way e)
    appends (Some live) attempts None (body.Inner (claims.Claim id n)) c e = absurd (no_way (both_true (same_session live.id id) false e).1)
    appends (Some live) attempts (Some number) (body.Inner (claims.Claim id n)) c e = claims_it live attempts number id n c e
