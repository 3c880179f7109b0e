-- How a group comes from new stores to nodes of these runs, of which node 1 asks for votes in a term.
use Rattle.std.proofs.Common.{◌≡◌, ℕ, zero, suc, ◌+◌, ◌-◌, ◌<◌, ◌≤◌, ◌^◌, ◌⊎◌, ⊎_elim, ◌||◌, ◌&&◌, not, Bool, true, false, List, [], ◌++◌, length, replicate, Option, Some, None, nat_le, refl, sym, ap, subst, ◌∙◌, arith}
use Rattle.std.proofs.Math.ListN.{length-replicate}
use Rattle.std.proofs.lemmas.Bool.{cond-false}
use Rattle.std.proofs.lemmas.Bool.Decides.{nat_tests}
use Rattle.raft_log.specs.declared.message.Message.{Message}
use Rattle.raft_log.specs.declared.role.Role.TheVariants.{Candidate}
use Rattle.raft_log.specs.Lists.{item, with_item}
use Rattle.raft_log.specs.Node.{Node, is_leader}
use Rattle.election.specs.Elections.{asking, timed_out, vote_requests}
use Rattle.raft_node.specs.Machine.{Machine}
use Rattle.raft_node.specs.Raft.{newborn, started}
use Rattle.raft_node.specs.Steps.{Expires, Turn, quiet, refused, turn}
use Rattle.node_steps.specs.declared.refusal.Refusal.TheVariants.{TermsSpent}
use Rattle.agreement.specs.World as core
use Rattle.world_run.specs.World as world
use Rattle.world_run.specs.World.{happens}
use Rattle.store_life.proofs.Lists.{below_other, item_replicate, one_or_two}
use Rattle.store_life.proofs.Reaching.{Becomes, Reaches, again, expires, go_on, here, one_event, restarts}

low_term : (t : ℕ) → t < 2 ^ 60 → nat_le (2 ^ 60) t ≡ false
low_term t h = grind (arith, nat_tests)

module _ (M : Machine) (size : ℕ) where
  -- a node of this run that did nothing
  abbrev pub idle : ℕ → Node M.Body
  idle boot = started size boot 0 None [] []

  -- node 1 as a candidate with these voters, which sent this before it asked for votes
  abbrev pub candidate : ℕ → ℕ → List Bool → List (Message M.Body) → Node M.Body
  candidate boot t voters before =
      record {
        boot = boot;
        term = t;
        vote = Some 1;
        log = [];
        role = Candidate;
        leader = None;
        commit = 0;
        applied = 0;
        voters = voters;
        next = replicate size 0;
        matched = replicate size 0;
        live = None;
        attempts = 0;
        sent = before ++ vote_requests size 1 t 0 0;
      }

  -- its own vote alone
  abbrev pub own_vote : List Bool
  own_vote = with_item (replicate size false) 1 true

  stays_so : (i : ℕ) (s : Node M.Body) (w : List (Node M.Body)) → length w ≡ size → item w i ≡ Some s → Becomes M size i s w w
  stays_so i s w long at = record { long = long; now = at; others = λ j h. refl }

  -- several more runs
  runs_on : (d b i : ℕ) (w : List (Node M.Body)) → length w ≡ size → item w i ≡ Some (idle b) → Reaches M w (Becomes M size i (idle (b + d)) w)
  runs_on zero b i w long at =
      here M w (Becomes M size i (idle (b + 0)) w) (let e : b ≡ b + 0 = omega arith in subst (λ (x : ℕ). Becomes M size i (idle x) w w) e (stays_so i (idle b) w long at))
  runs_on (suc d) b i w long at =
      let one : Becomes M size i (idle (suc b)) w (happens M w (world.Restart i)) = restarts M size i w (idle b) long at in
      let e : suc b + d ≡ b + suc d = omega arith in
      go_on M w (Becomes M size i (idle (suc b)) w) (Becomes M size i (idle (b + suc d)) w)
      (one_event M w (Becomes M size i (idle (suc b)) w) (world.Restart i) one)
      (λ u p. go_on M u (Becomes M size i (idle (suc b + d)) u) (Becomes M size i (idle (b + suc d)) w)
      (runs_on d (suc b) i u p.long p.now)
      (λ v q. here M v (Becomes M size i (idle (b + suc d)) w) (subst (λ (x : ℕ). Becomes M size i (idle x) w v) e (again M size i (idle (suc b)) (idle (suc b + d)) w u v p q))))

  module _ (boot : ℕ → ℕ) where
    -- The node of this number is of its run, if it is at most m, and else of its first.
    pub record Begins (m i : ℕ) (w : List (Node M.Body)) : Type 0 where
      pub now : ℕ
      pub there : item w i ≡ Some (idle now)
      pub done : i ≤ m → now ≡ boot i
      pub new : m < i → now ≡ 1

    pub record Begun (m : ℕ) (w : List (Node M.Body)) : Type 0 where
      pub long : length w ≡ size
      pub each : (i : ℕ) → 1 ≤ i → i ≤ size → Begins m i w

    others_begun : (m i : ℕ) (w u : List (Node M.Body)) → Begins m i w → Becomes M size (suc m) (idle (boot (suc m))) w u → 1 ≤ i → (i ≡ suc m) ⊎ (i ≡ suc m → ⊥) → Begins (suc m) i u
    others_begun m i w u old b pos c =
        ⊎_elim
        (λ e. subst (λ (x : ℕ). Begins (suc m) x u) (sym e) record { now = boot (suc m); there = b.now; done = λ d. refl; new = λ d. absurd (omega arith) })
        (λ other. record { now = old.now; there = b.others i other ∙ old.there; done = λ d. old.done (below_other i m d other); new = λ d. old.new (omega arith) })
        c

    one_begins : ((i : ℕ) → 1 ≤ i → i ≤ size → 1 ≤ boot i) → (m : ℕ) (w : List (Node M.Body)) → suc m ≤ size → Begun m w → Reaches M w (Begun (suc m))
    one_begins some m w h g =
        let it : Begins m (suc m) w = g.each (suc m) (omega arith) h in
        let first : it.now ≡ 1 = it.new (omega arith) in
        let at : item w (suc m) ≡ Some (idle 1) = it.there ∙ ap (λ (x : ℕ). let o : Option (Node M.Body) = Some (idle x) in o) first in
        let up : 1 + (boot (suc m) - 1) ≡ boot (suc m) = omega (arith, some (suc m) (omega arith) h) in
        go_on M w (Becomes M size (suc m) (idle (1 + (boot (suc m) - 1))) w) (Begun (suc m))
        (runs_on (boot (suc m) - 1) 1 (suc m) w g.long at)
        (λ u p.
        let b : Becomes M size (suc m) (idle (boot (suc m))) w u = subst (λ (x : ℕ). Becomes M size (suc m) (idle x) w u) up p in
        here M u (Begun (suc m)) record { long = b.long; each = λ i pos within. others_begun m i w u (g.each i pos within) b pos (one_or_two i (suc m)) })

    all_begin : ((i : ℕ) → 1 ≤ i → i ≤ size → 1 ≤ boot i) → (d m : ℕ) (w : List (Node M.Body)) → m + d ≡ size → Begun m w → Reaches M w (Begun size)
    all_begin some zero m w e g = here M w (Begun size) (let same : m ≡ size = omega arith in subst (λ (x : ℕ). Begun x w) same g)
    all_begin some (suc d) m w e g =
        go_on M w (Begun (suc m)) (Begun size) (one_begins some m w (omega arith) g) (λ u p. all_begin some d (suc m) u (omega arith) p)

    -- all nodes are of their runs
    pub begun : ((i : ℕ) → 1 ≤ i → i ≤ size → 1 ≤ boot i) → Reaches M (core.start size) (Begun size)
    begun some =
        all_begin some size 0 (core.start size) (omega arith)
        record {
          long = length-replicate size (newborn {B = M.Body} size);
          each = λ i pos within. record { now = 1; there = item_replicate size i (newborn size) pos within; done = λ d. absurd (omega arith); new = λ d. refl };
        }

  -- node 1 waits too long once more, in a term that is not spent
  module _ (s : Node M.Body) (follows : is_leader s.role ≡ false) (low : s.term < 2 ^ 60) where
    expires_is : (turn M size 1 Expires s).node ≡ asking size 1 s
    expires_is =
        let no : (not (is_leader s.role) && nat_le (2 ^ 60) s.term) ≡ false =
        ap (λ (b : Bool). not b && nat_le (2 ^ 60) s.term) follows ∙ low_term s.term low in
        let nor : (is_leader s.role || nat_le (2 ^ 60) s.term) ≡ false =
        ap (λ (b : Bool). b || nat_le (2 ^ 60) s.term) follows ∙ low_term s.term low in
        ap (λ (t : Turn M). t.node) (cond-false (not (is_leader s.role) && nat_le (2 ^ 60) s.term) (refused M s TermsSpent) (quiet M (timed_out size 1 s)) no)
        ∙ cond-false (is_leader s.role || nat_le (2 ^ 60) s.term) s (asking size 1 s) nor

    pub asks_for_votes : (w : List (Node M.Body)) → length w ≡ size → item w 1 ≡ Some s → Becomes M size 1 (asking size 1 s) w (happens M w (world.Does (world.Timeout 1)))
    asks_for_votes w long at =
        subst (λ (t : Node M.Body). Becomes M size 1 t w (happens M w (world.Does (world.Timeout 1)))) expires_is (expires M size 1 w s long at)

  -- node 1 asks for votes in this term
  pub record Asks (boot t : ℕ) (w u : List (Node M.Body)) : Type 0 where
    pub before : List (Message M.Body)
    pub becomes : Becomes M size 1 (candidate boot t own_vote before) w u

  asks_on : (d boot t : ℕ) (before : List (Message M.Body)) (w : List (Node M.Body)) → t + d ≤ 2 ^ 60 → length w ≡ size → item w 1 ≡ Some (candidate boot t own_vote before)
      → Reaches M w (Asks boot (t + d) w)
  asks_on zero boot t before w h long at =
      let e : t ≡ t + 0 = omega arith in
      here M w (Asks boot (t + 0) w) (subst (λ (x : ℕ). Asks boot x w w) e record { before = before; becomes = stays_so 1 (candidate boot t own_vote before) w long at })
  asks_on (suc d) boot t before w h long at =
      let more : List (Message M.Body) = before ++ vote_requests size 1 t 0 0 in
      let one : Becomes M size 1 (candidate boot (suc t) own_vote more) w (happens M w (world.Does (world.Timeout 1))) =
      asks_for_votes (candidate boot t own_vote before) refl (omega arith) w long at in
      let e : suc t + d ≡ t + suc d = omega arith in
      go_on M w (Becomes M size 1 (candidate boot (suc t) own_vote more) w) (Asks boot (t + suc d) w)
      (one_event M w (Becomes M size 1 (candidate boot (suc t) own_vote more) w) (world.Does (world.Timeout 1)) one)
      (λ u p. go_on M u (Asks boot (suc t + d) u) (Asks boot (t + suc d) w)
      (asks_on d boot (suc t) more u (omega arith) p.long p.now)
      (λ v q. here M v (Asks boot (t + suc d) w) (subst (λ (x : ℕ). Asks boot x w v) e record {
        before = q.before;
        becomes = again M size 1 (candidate boot (suc t) own_vote more) (candidate boot (suc t + d) own_vote q.before) w u v p q.becomes;
      })))

  -- so it does in the end, from a run that did nothing
  pub asks_in : (boot t : ℕ) (w : List (Node M.Body)) → suc t ≤ 2 ^ 60 → length w ≡ size → item w 1 ≡ Some (idle boot) → Reaches M w (Asks boot (suc t) w)
  asks_in boot t w h long at =
      let one : Becomes M size 1 (candidate boot 1 own_vote []) w (happens M w (world.Does (world.Timeout 1))) = asks_for_votes (idle boot) refl (omega arith) w long at in
      let e : 1 + t ≡ suc t = omega arith in
      go_on M w (Becomes M size 1 (candidate boot 1 own_vote []) w) (Asks boot (suc t) w)
      (one_event M w (Becomes M size 1 (candidate boot 1 own_vote []) w) (world.Does (world.Timeout 1)) one)
      (λ u p. go_on M u (Asks boot (1 + t) u) (Asks boot (suc t) w)
      (asks_on t boot 1 [] u (omega arith) p.long p.now)
      (λ v q. here M v (Asks boot (suc t) w) (subst (λ (x : ℕ). Asks boot x w v) e record {
        before = q.before;
        becomes = again M size 1 (candidate boot 1 own_vote []) (candidate boot (1 + t) own_vote q.before) w u v p q.becomes;
      })))
