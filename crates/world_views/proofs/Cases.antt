-- A worked case, computed on the definitions: nodes 1 and 2 of three are opened over new stores, with tickets 0 and 1;
-- node 1 waits too long twice, with tickets 2 and 3; node 2 takes the message that is then for it, the third of node 1,
-- and hears it with ticket 4.
use Rattle.std.proofs.Common.{◌≡◌, ℕ, zero, suc, ◌<◌, ◌≤◌, inl, inr, ⊎_elim, true, List, [], ◌∷◌, map, length, Option, Some, None, refl, sym, ap, subst, ◌∙◌, arith}
use Rattle.std.specs.Prelude.{◌^◌}
use mathlib.Core.Option.{some, some-injective, some-ne-none}
use lib.ListN.{get_elem?}
use Rattle.machine_laws.specs.declared.class.Class.TheVariants.{Nowhere}
use Rattle.machine_laws.specs.declared.class.Source.TheVariants.{Leader}
use Rattle.raft_log.specs.declared.message.Kind.TheVariants.{RequestVote}
use Rattle.raft_log.specs.declared.role.Role.{Role}
use Rattle.raft_log.specs.declared.role.Role.TheVariants.{Candidate, Follower}
use Rattle.raft_log.specs.Lists.{item}
use Rattle.raft_log.specs.Node.{Node, message}
use Rattle.raft_node.specs.Hosts.{hosted}
use Rattle.raft_node.specs.Machine.{Machine}
use Rattle.raft_node.specs.Raft.{newborn}
use Rattle.world_run.specs.World as world
use Rattle.world_views.specs.declared.envelope.Envelope.{Envelope}
use Rattle.world_views.specs.declared.node_event.NodeEvent.TheVariants.{Does}
use Rattle.raft_node.specs.declared.input.Input.TheVariants.{Timeout, Deliver}
use Rattle.world_views.specs.Views.{IsAt, Drew, RisesFrom, brings}
use Rattle.world_views.specs.Own.{EventOf, ViewOf, own_state, run, state_at}
use Rattle.world_views.specs.Rule.{IsRule, TicketsAreOnce, MessagesStand, Stands, IsRun, AreHonest}
use Rattle.world_views.specs.Merged.{PlacedOf}
use Rattle.world_views.specs.Openings.{IsNew, WereNew, events_in, world_after}

-- a machine whose bodies are numbers, and which brings nothing about
abbrev still : Machine
still =
    hosted {Body = ℕ} {Effect = ℕ} {Line = ℕ} {Target = ℕ} {Played = ℕ} 0 (λ id. 0) (λ id. 0) (λ id number at line. 0) (λ id number. 0) (λ body. Leader)
    (λ earlier place body. []) (λ earlier. None) (λ earlier target. []) (λ effect. Nowhere)

-- node 1's third message: it asks node 2 for a vote in term 2
abbrev third : Envelope ℕ
third = record { number = 3; message = message 2 1 2 (RequestVote 0 0) }

abbrev one : ViewOf still
one =
    record {
      size = 3;
      node = 0;
      honest = true;
      opened = Some (0, newborn 3);
      turns = (2, Does Timeout) ∷ (3, Does Timeout) ∷ [];
      state = run still 3 1 (newborn 3) ((2, Does Timeout) ∷ (3, Does Timeout) ∷ []);
      heard = [];
      posted = 1 ∷ 3 ∷ [];
    }

abbrev two : ViewOf still
two =
    record {
      size = 3;
      node = 1;
      honest = true;
      opened = Some (1, newborn 3);
      turns = (4, Does (Deliver third)) ∷ [];
      state = run still 3 2 (newborn 3) ((4, Does (Deliver third)) ∷ []);
      heard = third ∷ [];
      posted = [];
    }

abbrev three : ViewOf still
three = record { size = 3; node = 2; honest = true; opened = None; turns = []; state = newborn 3; heard = []; posted = [] }

abbrev views : List (ViewOf still)
views = one ∷ two ∷ three ∷ []

-- what holds for each
each : (P : ℕ → ViewOf still → Type 0) → P 0 one → P 1 two → P 2 three → (i : ℕ) (v : ViewOf still) → IsAt views i v → P i v
each P a b c zero v at = subst (P 0) (some-injective one v at) a
each P a b c (suc zero) v at = subst (P 1) (some-injective two v at) b
each P a b c (suc (suc zero)) v at = subst (P 2) (some-injective three v at) c
each P a b c (suc (suc (suc i))) v at = absurd (some-ne-none v (sym at))

-- the first clause

abbrev who : ℕ → ℕ
who zero = 0
who (suc zero) = 1
who (suc (suc zero)) = 0
who (suc (suc (suc zero))) = 0
who (suc (suc (suc (suc t)))) = 1

drawn : (t : ℕ) → t < 5 → (v : ViewOf still) × IsAt views (who t) v × Drew v t
drawn zero lt = (one, refl, inl refl)
drawn (suc zero) lt = (two, refl, inl refl)
drawn (suc (suc zero)) lt = (one, refl, inr (0, Does Timeout, refl))
drawn (suc (suc (suc zero))) lt = (one, refl, inr (1, Does Timeout, refl))
drawn (suc (suc (suc (suc zero)))) lt = (two, refl, inr (0, Does (Deliver third), refl))
drawn (suc (suc (suc (suc (suc t))))) lt = absurd (omega (arith, lt))

abbrev IsBy : ℕ → ℕ → Type 0
IsBy i t = (t < 5) × (who t ≡ i)

one_turns : (t k : ℕ) (e : EventOf still) → get_elem? one.turns k ≡ some (t, e) → IsBy 0 t
one_turns t zero e at = subst (IsBy 0) (ap (λ y. y.0) (some-injective (2, Does Timeout) (t, e) at)) (omega arith, refl)
one_turns t (suc zero) e at = subst (IsBy 0) (ap (λ y. y.0) (some-injective (3, Does Timeout) (t, e) at)) (omega arith, refl)
one_turns t (suc (suc k)) e at = absurd (some-ne-none (t, e) (sym at))

two_turns : (t k : ℕ) (e : EventOf still) → get_elem? two.turns k ≡ some (t, e) → IsBy 1 t
two_turns t zero e at = subst (IsBy 1) (ap (λ y. y.0) (some-injective (4, Does (Deliver third)) (t, e) at)) (omega arith, refl)
two_turns t (suc k) e at = absurd (some-ne-none (t, e) (sym at))

tickets : TicketsAreOnce 5 views
tickets =
    record {
      who = who;
      drawn = drawn;
      once = λ i t v at. each (λ j w. Drew w t → IsBy j t)
          (⊎_elim (λ e. subst (IsBy 0) e (omega arith, refl)) (λ x. one_turns t x.0 x.1 x.2))
          (⊎_elim (λ e. subst (IsBy 1) e (omega arith, refl)) (λ x. two_turns t x.0 x.1 x.2))
          (⊎_elim (λ e. absurd e) (λ x. absurd (some-ne-none (t, x.1) (sym x.2))))
          i v at;
      rises = each (λ j w. RisesFrom w.opened w.turns) (omega arith, (omega arith, tt)) (omega arith, tt) refl;
      counted = refl;
      few = each (λ j w. length w.turns ≤ 2 ^ 60) (omega arith) (omega arith) (omega arith);
    }

-- the second

runs_so : (i : ℕ) (v : ViewOf still) → IsAt views i v → IsRun still v
runs_so =
    each (λ j w. IsRun still w)
    (record { state = refl; fresh = refl; unopened = λ e. refl })
    (record { state = refl; fresh = refl; unopened = λ e. refl })
    (record { state = refl; fresh = refl; unopened = λ e. refl })

-- the third

stands : (d : ℕ) → item (state_at still d one).sent 3 ≡ Some third.message → Stands still views d third
stands d at = record { by = one; named = refl; at = refl; sent = λ h. at }

sent_by_five : item (state_at still 5 one).sent 3 ≡ Some third.message
unfolding own_state
sent_by_five = refl

sent_by_four : item (state_at still 4 one).sent 3 ≡ Some third.message
unfolding own_state
sent_by_four = refl

two_heard : (k : ℕ) (e : Envelope ℕ) → get_elem? two.heard k ≡ some e → Stands still views 5 e × (e.message.to ≡ 2)
two_heard zero e at = subst (λ (m : Envelope ℕ). Stands still views 5 m × (m.message.to ≡ 2)) (some-injective third e at) (stands 5 sent_by_five, refl)
two_heard (suc k) e at = absurd (some-ne-none e (sym at))

abbrev Comes : ℕ → ViewOf still → Type 0
Comes i v = (k d : ℕ) (x : EventOf still) (e : Envelope ℕ) → IsAt v.turns k (d, x) → brings x ≡ Some e → Stands still views d e × (e.message.to ≡ suc i)

one_comes : Comes 0 one
one_comes zero d x e at b = let is : Does Timeout ≡ x = ap (λ y. y.1) (some-injective (2, Does Timeout) (d, x) at) in absurd (cc (ap brings is ∙ b))
one_comes (suc zero) d x e at b = let is : Does Timeout ≡ x = ap (λ y. y.1) (some-injective (3, Does Timeout) (d, x) at) in absurd (cc (ap brings is ∙ b))
one_comes (suc (suc k)) d x e at b = absurd (some-ne-none (d, x) (sym at))

the_third : (e : Envelope ℕ) → Some third ≡ Some e → third ≡ e
the_third e h = cc h

two_comes : Comes 1 two
two_comes zero d x e at b =
    let is : (4, Does (Deliver third)) ≡ (d, x) = some-injective (4, Does (Deliver third)) (d, x) at in
    let event : Does (Deliver third) ≡ x = ap (λ y. y.1) is in
    let what : third ≡ e = the_third e (ap brings event ∙ b) in
    let when : 4 ≡ d = ap (λ y. y.0) is in
    subst (λ (z : ℕ × Envelope ℕ). Stands still views z.0 z.1 × (z.1.message.to ≡ 2)) (λ i. (when i, what i)) (stands 4 sent_by_four, refl)
two_comes (suc k) d x e at b = absurd (some-ne-none (d, x) (sym at))

messages : MessagesStand still 5 views
messages =
    record {
      heard = λ i k v e at. each (λ j w. IsAt w.heard k e → Stands still views 5 e × (e.message.to ≡ suc j))
          (λ h. absurd (some-ne-none e (sym h))) (two_heard k e) (λ h. absurd (some-ne-none e (sym h))) i v at;
      delivered = λ i k d v x e at. each (λ j w. IsAt w.turns k (d, x) → brings x ≡ Some e → Stands still views d e × (e.message.to ≡ suc j))
          (one_comes k d x e) (two_comes k d x e) (λ h b. absurd (some-ne-none (d, x) (sym h))) i v at;
    }

-- the views keep the rule

they_keep_the_rule : IsRule still 3 5 views
they_keep_the_rule =
    record {
      sized = refl;
      placed = each (λ j w. (w.node ≡ j) × (w.size ≡ 3)) (refl, refl) (refl, refl) (refl, refl);
      tickets = tickets;
      own = runs_so;
      messages = messages;
    }

their_stores_are_honest : AreHonest still views
their_stores_are_honest = each (λ j w. w.honest ≡ true) refl refl refl

their_stores_were_new : WereNew still views
their_stores_were_new = each (λ j w. IsNew still 3 w.opened) refl refl tt

-- and their records, merged, are these events of the group, which lead to the views' states

abbrev merged : List (PlacedOf still)
merged = (0, (2, Does Timeout)) ∷ (0, (3, Does Timeout)) ∷ (1, (4, Does (Deliver third))) ∷ []

abbrev events : List (world.Event still)
events = world.Does (world.Timeout 1) ∷ world.Does (world.Timeout 1) ∷ world.Does (world.Deliver 1 3) ∷ []

these_are_the_events : events_in still (world_after still 3 []) merged ≡ events
these_are_the_events = refl

-- if node 1 had sent two messages before, its third is the fifth
numbers_go_on : events_in still (world_after still 3 (world.Does (world.Timeout 1) ∷ [])) merged ≡ world.Does (world.Timeout 1) ∷ world.Does (world.Timeout 1) ∷ world.Does (world.Deliver 1 5) ∷ []
numbers_go_on = refl

-- role, term, vote
abbrev line : Node ℕ → Role × ℕ × Option ℕ
line s = (s.role, s.term, s.vote)

the_group_ends_so : map line (world_after still 3 events) ≡ (Candidate, 2, Some 1) ∷ (Follower, 2, Some 1) ∷ (Follower, 0, None) ∷ []
the_group_ends_so = refl

the_views_end_so : (line one.state ≡ (Candidate, 2, Some 1)) × (line two.state ≡ (Follower, 2, Some 1))
unfolding own_state
the_views_end_so = (refl, refl)
