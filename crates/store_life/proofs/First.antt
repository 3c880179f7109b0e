-- How node 1 of a group over new stores comes to lead with one entry that all have.
use Rattle.std.proofs.Common.{◌≡◌, ℕ, suc, ◌≤◌, ◌^◌, inl, List, [], ◌∷◌, replicate, true, false, Option, Some, None, refl, ap, ◌∙◌, arith}
use Rattle.std.proofs.Math.ListN.{length-replicate}
use Rattle.raft_log.specs.Lists.{item, item_or}
use Rattle.raft_log.specs.Node.{Node}
use Rattle.raft_node.specs.Machine.{Machine}
use Rattle.raft_node.proofs.Items.{length-with_item}
use Rattle.agreement.specs.World as core
use Rattle.store_life.proofs.Adding.{Rest, goes_round}
use Rattle.store_life.proofs.Beginning.{Asks, Begins, Begun, asks_in, begun, candidate, idle, own_vote}
use Rattle.store_life.proofs.Lists.{item_or_replicate, item_or_with}
use Rattle.store_life.proofs.Reaching.{Reaches, go_on}
use Rattle.store_life.proofs.Resting.{one_sent}
use Rattle.store_life.proofs.Rounds.{Stage}
use Rattle.store_life.proofs.Voting.{NowLeads, Voting, all_vote, blank_entry, leads_then, new_lead, voter}

module _ (M : Machine) (size : ℕ) (boot : ℕ → ℕ) (t n : ℕ) (f : suc n ≡ size) (pos : 1 ≤ n) where
  -- the new leader and what it appended, which no other has
  first_stage : (w : List (Node M.Body)) → Voting M size boot t n w → Stage M size boot (suc t) None 0 0 (blank_entry M size boot t ∷ []) 0 w
  first_stage w st =
      let a : NowLeads M size boot t st.before st.first = leads_then M size boot t n w f pos st in
      record {
        long = st.long;
        lead = new_lead M size boot t a.voters st.before;
        leads = st.there ∙ ap (λ (x : Node M.Body). let o : Option (Node M.Body) = Some x in o) a.is;
        live_is = refl;
        attempts_is = refl;
        applied_is = refl;
        next_long = length-replicate size 1;
        matched_long = length-replicate size 0;
        each = λ k low high. record {
          node = voter M size boot t (suc k);
          place = 0;
          there = st.voted k low (omega arith);
          next = item_or_replicate size (suc k) 1 0 (omega arith) high;
          matched = item_or_replicate size (suc k) 0 0 (omega arith) high;
          within = omega arith;
          few = omega (arith, one_sent);
          whole = λ d. absurd (omega arith);
        };
        commit_within = omega arith;
        counted = λ d. absurd (omega arith);
      }

  -- node 1 asked for votes, and no other voted yet
  first_vote : (w u : List (Node M.Body)) → Begun M size boot size w → Asks M size (boot 1) (suc t) w u → Voting M size boot t 0 u
  first_vote w u g a =
      record {
        long = a.becomes.long;
        before = a.before;
        first = candidate M size (boot 1) (suc t) (own_vote M size) a.before;
        there = a.becomes.now;
        so = inl record {
          voters = own_vote M size;
          is = refl;
          long = length-with_item (replicate size false) 1 true ∙ length-replicate size false;
          have = λ i low high. let one : i ≡ 1 = omega arith in
              ap (λ (x : ℕ). item_or (own_vote M size) x false) one
              ∙ item_or_with (replicate size false) 1 true false (omega arith) (omega (arith, length-replicate size false));
          minor = λ d. absurd (omega arith);
        };
        sent = refl;
        voted = λ k low high. absurd (omega arith);
        waits = λ k low high.
            let it : Begins M size boot size (suc k) w = g.each (suc k) (omega arith) high in
            a.becomes.others (suc k) (λ d. omega arith) ∙ it.there ∙ ap (λ (x : ℕ). let o : Option (Node M.Body) = Some (idle M size x) in o) (it.done high);
      }

  -- from new stores
  pub first_rest : ((i : ℕ) → 1 ≤ i → i ≤ size → 1 ≤ boot i) → suc t ≤ 2 ^ 60 → Reaches M (core.start size) (Rest M size boot (suc t) n None 0 (blank_entry M size boot t ∷ []))
  first_rest some high =
      go_on M (core.start size) (Begun M size boot size) (Rest M size boot (suc t) n None 0 (blank_entry M size boot t ∷ [])) (begun M size boot some) (λ w g.
      let it : Begins M size boot size 1 w = g.each 1 (omega arith) (omega arith) in
      let at : item w 1 ≡ Some (idle M size (boot 1)) = it.there ∙ ap (λ (x : ℕ). let o : Option (Node M.Body) = Some (idle M size x) in o) (it.done (omega arith)) in
      go_on M w (Asks M size (boot 1) (suc t) w) (Rest M size boot (suc t) n None 0 (blank_entry M size boot t ∷ [])) (asks_in M size (boot 1) t w high g.long at) (λ u a.
      go_on M u (Voting M size boot t n) (Rest M size boot (suc t) n None 0 (blank_entry M size boot t ∷ [])) (all_vote M size boot t n n 0 u (omega arith) f (first_vote w u g a)) (λ v st.
      goes_round M size boot (suc t) n None 0 [] (blank_entry M size boot t) v f pos refl (first_stage v st))))
