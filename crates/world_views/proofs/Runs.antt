-- Runs of a node by its own turns.
use Rattle.std.proofs.Common.{◌≡◌, ℕ, zero, suc, ◌≤◌, List, [], ◌∷◌, ◌++◌, Some, refl, sym, ap, ◌∙◌, subst}
use Rattle.std.specs.Prelude.{slice_get}
use Rattle.raft_log.specs.declared.message.Message.{Message}
use Rattle.raft_log.specs.Lists.{item}
use Rattle.raft_log.specs.Node.{Node}
use Rattle.raft_node.specs.Machine.{Machine}
use Rattle.world_views.specs.Views.{start, upto}
use Rattle.world_views.specs.Own.{EventOf, TurnOf, ViewOf, own_state, run, runs, state_at}
use Rattle.world_views.proofs.Sent.{grows}
use Rattle.world_views.proofs.Tickets.{upto_more}

get_longer : {A : Type 0} (xs ys : List A) (k : ℕ) (x : A) → slice_get xs k ≡ Some x → slice_get (xs ++ ys) k ≡ Some x
get_longer [] ys k x h = absurd (cc h)
get_longer (y ∷ xs) ys zero x h = h
get_longer (y ∷ xs) ys (suc k) x h = get_longer xs ys k x h

-- an item of a list is one of it and more
pub item_longer : {A : Type 0} (xs ys : List A) (k : ℕ) (x : A) → item xs k ≡ Some x → item (xs ++ ys) k ≡ Some x
item_longer xs ys zero x h = absurd (cc h)
item_longer xs ys (suc k) x h = get_longer xs ys k x h

module _ (M : Machine) where
  pub run-append : (n i : ℕ) (s : Node M.Body) (xs ys : List (TurnOf M)) → run M n i s (xs ++ ys) ≡ run M n i (run M n i s xs) ys
  run-append n i s [] ys = refl
  run-append n i s (t ∷ xs) ys = run-append n i (own_state M n i s t.1) xs ys

  -- what was sent stays at its number
  pub still_sent : (n i : ℕ) (s : Node M.Body) (e : EventOf M) (k : ℕ) (m : Message M.Body) → item s.sent k ≡ Some m → item (own_state M n i s e).sent k ≡ Some m
  still_sent n i s e k m h = let g = grows M n i s e in subst (λ (l : List (Message M.Body)). item l k ≡ Some m) (sym g.1) (item_longer s.sent g.0 k m h)

  pub run_sent : (n i : ℕ) (s : Node M.Body) (ts : List (TurnOf M)) (k : ℕ) (m : Message M.Body) → item s.sent k ≡ Some m → item (run M n i s ts).sent k ≡ Some m
  run_sent n i s [] k m h = h
  run_sent n i s (t ∷ ts) k m h = run_sent n i (own_state M n i s t.1) ts k m (still_sent n i s t.1 k m h)

  -- what a node had sent before a ticket it had sent before a later one
  pub later : (d d' : ℕ) (v : ViewOf M) (k : ℕ) (m : Message M.Body) → d ≤ d' → item (state_at M d v).sent k ≡ Some m → item (state_at M d' v).sent k ≡ Some m
  later d d' v k m le h = let more = upto_more d d' v.turns le in
      subst (λ (s : Node M.Body). item s.sent k ≡ Some m)
      (sym (ap (runs M v (start v)) more.1 ∙ run-append v.size (suc v.node) (start v) (upto d v.turns) more.0))
      (run_sent v.size (suc v.node) (state_at M d v) more.0 k m h)
