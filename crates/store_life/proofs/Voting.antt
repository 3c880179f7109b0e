-- How node 1 comes to lead: all others vote for it.
use Rattle.std.proofs.Common.{◌≡◌, ℕ, zero, suc, ◌+◌, ◌<◌, ◌≤◌, ◌==◌, ◌⊎◌, inl, inr, ⊎_elim, ◌&&◌, Bool, true, false, List, [], ◌∷◌, ◌++◌, length, replicate, Some, None, nat_lt, refl, sym, ap, subst, ◌∙◌, arith}
use Rattle.std.proofs.lemmas.Bool.{cond-true, cond-false, lt-ltb}
use Rattle.raft_log.specs.declared.entry.Entry.{Entry}
use Rattle.raft_log.specs.declared.message.Kind.TheVariants.{RequestVote, Vote}
use Rattle.raft_log.specs.declared.message.Message.{Message}
use Rattle.raft_log.specs.declared.role.Role.TheVariants.{Follower}
use Rattle.raft_log.specs.Lists.{item, item_or, with_item}
use Rattle.raft_log.specs.Node.{Node, message, sending}
use Rattle.raft_log.specs.Votes.{majority, tally}
use Rattle.election.specs.Elections as election
use Rattle.election.specs.Elections.{elected, vote_requests}
use Rattle.replication.specs.Replication.{on_forward}
use Rattle.node_steps.specs.Messages.{handled, is_heard, on_message}
use Rattle.raft_node.specs.Machine.{Machine}
use Rattle.raft_node.specs.Raft.{newborn}
use Rattle.raft_node.proofs.Items.{length-with_item}
use Rattle.world_run.specs.World as world
use Rattle.world_run.specs.World.{Event, happens}
use Rattle.world_views.proofs.Histories.{item_past}
use Rattle.store_life.proofs.Beginning.{candidate, idle}
use Rattle.store_life.proofs.Hearing.{following, heard_now, is_heard_from, leading}
use Rattle.store_life.proofs.Lists.{below_other, no_way, item_or_other, item_or_with, of_others, one_or_two, same_number}
use Rattle.store_life.proofs.Reaching.{Becomes, Reaches, comes, go_on, here}

shifted : (x : Bool) (xs : List Bool) → ((i : ℕ) → 1 ≤ i → i ≤ length (x ∷ xs) → item_or (x ∷ xs) i false ≡ true) → (i : ℕ) → 1 ≤ i → i ≤ length xs → item_or xs i false ≡ true
shifted x xs f zero pos h = absurd (omega arith)
shifted x xs f (suc i) pos h = f (suc (suc i)) (omega arith) (omega arith)

all_voted : (xs : List Bool) → ((i : ℕ) → 1 ≤ i → i ≤ length xs → item_or xs i false ≡ true) → tally xs ≡ length xs
all_voted [] f = refl
all_voted (x ∷ xs) f = ap (λ (b : Bool). tally (b ∷ xs)) (f 1 (omega arith) (omega arith)) ∙ ap suc (all_voted xs (shifted x xs f))

-- if all voted for it, a majority did
most_voted : (size : ℕ) (xs : List Bool) → 1 ≤ size → length xs ≡ size → ((i : ℕ) → 1 ≤ i → i ≤ length xs → item_or xs i false ≡ true) → majority size xs ≡ true
most_voted size xs pos long f =
    let n : tally xs ≡ size = all_voted xs f ∙ long in
    lt-ltb size (tally xs + tally xs) (omega arith)

module _ (M : Machine) (size : ℕ) (boot : ℕ → ℕ) (t : ℕ) where
  -- the term, which is not 0
  abbrev T : ℕ
  T = suc t

  -- the entry that a new leader appends first
  abbrev pub blank_entry : Entry M.Body
  blank_entry = record { term = T; body = M.blank }

  -- node 1 as it leads by these voters
  abbrev pub new_lead : List Bool → List (Message M.Body) → Node M.Body
  new_lead voters before = record (candidate M size (boot 1) T voters before) { next = replicate size 1; matched = replicate size 0 }

  abbrev pub request : ℕ → Message M.Body
  request j = message T 1 j (RequestVote 0 0)

  abbrev pub vote : ℕ → Message M.Body
  vote j = message T j 1 (Vote true)

  -- a node as it voted
  abbrev pub voter : ℕ → Node M.Body
  voter j = record (newborn size) { sent = vote j ∷ [] }

  module _ (j : ℕ) (far : 2 ≤ j) (within : j ≤ size) where
    pub hears_request : on_message M.blank size j (idle M size (boot j)) (request j) ≡ following (boot j) T [] (voter j)
    hears_request =
        let m : Message M.Body = request j in
        let at : nat_lt 0 T ≡ true = lt-ltb 0 T (omega arith) in
        let s : Node M.Body = record (idle M size (boot j)) { term = T; vote = None; role = Follower; leader = None; live = None } in
        cond-true (is_heard size j m) _ _ (is_heard_from size j m refl (λ e. omega arith) (omega arith) (omega arith))
        ∙ ap (λ (r : Node M.Body). handled M.blank size j r m m.kind) (cond-true (nat_lt 0 T) s (idle M size (boot j)) at)
        ∙ cond-true ((T == T) && true) (sending (record s { vote = Some 1 }) (vote j ∷ [])) (sending s (message T j 1 (Vote false) ∷ [])) (ap (λ (b : Bool). b && true) (same_number T))

    heard_vote : is_heard size 1 (vote j) ≡ true
    heard_vote = is_heard_from size 1 (vote j) refl (λ e. omega arith) (omega arith) (omega arith)

    -- a leader hears one more vote
    pub hears_late : (log : List (Entry M.Body)) (s : Node M.Body) → on_message M.blank size 1 (leading (boot 1) T log s) (vote j) ≡ leading (boot 1) T log s
    hears_late log s = heard_now M.blank size 1 (leading (boot 1) T log s) (vote j) heard_vote refl

    module _ (voters : List Bool) (before : List (Message M.Body)) where
      took : on_message M.blank size 1 (candidate M size (boot 1) T voters before) (vote j) ≡ on_forward (elected size (candidate M size (boot 1) T (with_item voters j true) before)) M.blank
      took =
          heard_now M.blank size 1 (candidate M size (boot 1) T voters before) (vote j) heard_vote refl
          ∙ ap (λ (n : Node M.Body). on_forward n M.blank)
          (cond-true ((T == T) && true) (elected size (candidate M size (boot 1) T (with_item voters j true) before)) (candidate M size (boot 1) T voters before) (ap (λ (b : Bool). b && true) (same_number T)))

      -- a candidate that a majority voted for leads, one that no majority voted for does not
      pub hears_enough : majority size (with_item voters j true) ≡ true
          → on_message M.blank size 1 (candidate M size (boot 1) T voters before) (vote j) ≡ leading (boot 1) T (blank_entry ∷ []) (new_lead (with_item voters j true) before)
      hears_enough e =
          took ∙ ap (λ (n : Node M.Body). on_forward n M.blank)
          (cond-true (majority size (with_item voters j true)) (election.leading size (candidate M size (boot 1) T (with_item voters j true) before)) (candidate M size (boot 1) T (with_item voters j true) before) e)

      pub hears_few : majority size (with_item voters j true) ≡ false
          → on_message M.blank size 1 (candidate M size (boot 1) T voters before) (vote j) ≡ candidate M size (boot 1) T (with_item voters j true) before
      hears_few e =
          took ∙ ap (λ (n : Node M.Body). on_forward n M.blank)
          (cond-false (majority size (with_item voters j true)) (election.leading size (candidate M size (boot 1) T (with_item voters j true) before)) (candidate M size (boot 1) T (with_item voters j true) before) e)

  -- Node 1 still asks: the first m others voted for it, and no majority did.
  pub record StillAsks (m : ℕ) (before : List (Message M.Body)) (s : Node M.Body) : Type 0 where
    pub voters : List Bool
    pub is : s ≡ candidate M size (boot 1) T voters before
    pub long : length voters ≡ size
    pub have : (i : ℕ) → 1 ≤ i → i ≤ suc m → item_or voters i false ≡ true
    pub minor : 1 ≤ m → majority size voters ≡ false

  -- it leads
  pub record NowLeads (before : List (Message M.Body)) (s : Node M.Body) : Type 0 where
    pub voters : List Bool
    pub is : s ≡ leading (boot 1) T (blank_entry ∷ []) (new_lead voters before)

  -- The first m others voted for node 1, which asked for votes last.
  pub record Voting (m : ℕ) (w : List (Node M.Body)) : Type 0 where
    pub long : length w ≡ size
    pub before : List (Message M.Body)
    pub first : Node M.Body
    pub there : item w 1 ≡ Some first
    pub so : StillAsks m before first ⊎ NowLeads before first
    pub sent : first.sent ≡ before ++ vote_requests size 1 T 0 0
    pub voted : (k : ℕ) → 1 ≤ k → k ≤ m → item w (suc k) ≡ Some (following (boot (suc k)) T [] (voter (suc k)))
    pub waits : (k : ℕ) → m < k → suc k ≤ size → item w (suc k) ≡ Some (idle M size (boot (suc k)))

  -- what one more vote does to node 1
  pub record Takes (m : ℕ) (before : List (Message M.Body)) (s : Node M.Body) : Type 0 where
    pub now : Node M.Body
    pub is : on_message M.blank size 1 s (vote (suc (suc m))) ≡ now
    pub so : StillAsks (suc m) before now ⊎ NowLeads before now
    pub sent : now.sent ≡ before ++ vote_requests size 1 T 0 0

  module _ (m : ℕ) (before : List (Message M.Body)) (s : Node M.Body) (h : suc (suc m) ≤ size) where
    have_more : (voters : List Bool) → length voters ≡ size → ((i : ℕ) → 1 ≤ i → i ≤ suc m → item_or voters i false ≡ true) → (i : ℕ) → 1 ≤ i → i ≤ suc (suc m) → (i ≡ suc (suc m)) ⊎ (i ≡ suc (suc m) → ⊥)
        → item_or (with_item voters (suc (suc m)) true) i false ≡ true
    have_more voters long have i pos within c =
        ⊎_elim
        (λ e. ap (λ (x : ℕ). item_or (with_item voters (suc (suc m)) true) x false) e ∙ item_or_with voters (suc (suc m)) true false (omega arith) (omega arith))
        (λ other. item_or_other voters (suc (suc m)) i true false other ∙ have i pos (below_other i (suc m) within other))
        c

    still : (a : StillAsks m before s) (b : Bool) → majority size (with_item a.voters (suc (suc m)) true) ≡ b → Takes m before s
    still a true e =
        record {
          now = leading (boot 1) T (blank_entry ∷ []) (new_lead (with_item a.voters (suc (suc m)) true) before);
          is = ap (λ (x : Node M.Body). on_message M.blank size 1 x (vote (suc (suc m)))) a.is ∙ hears_enough (suc (suc m)) (omega arith) h a.voters before e;
          so = inr record { voters = with_item a.voters (suc (suc m)) true; is = refl };
          sent = refl;
        }
    still a false e =
        record {
          now = candidate M size (boot 1) T (with_item a.voters (suc (suc m)) true) before;
          is = ap (λ (x : Node M.Body). on_message M.blank size 1 x (vote (suc (suc m)))) a.is ∙ hears_few (suc (suc m)) (omega arith) h a.voters before e;
          so = inl record {
            voters = with_item a.voters (suc (suc m)) true;
            is = refl;
            long = length-with_item a.voters (suc (suc m)) true ∙ a.long;
            have = λ i pos within. have_more a.voters a.long a.have i pos within (one_or_two i (suc (suc m)));
            minor = λ d. e;
          };
          sent = refl;
        }

    late : NowLeads before s → Takes m before s
    late a =
        record {
          now = leading (boot 1) T (blank_entry ∷ []) (new_lead a.voters before);
          is = ap (λ (x : Node M.Body). on_message M.blank size 1 x (vote (suc (suc m)))) a.is ∙ hears_late (suc (suc m)) (omega arith) h (blank_entry ∷ []) (new_lead a.voters before);
          so = inr record { voters = a.voters; is = refl };
          sent = refl;
        }

    takes : StillAsks m before s ⊎ NowLeads before s → Takes m before s
    takes so = ⊎_elim (λ (a : StillAsks m before s). still a (majority size (with_item a.voters (suc (suc m)) true)) refl) (λ (a : NowLeads before s). late a) so

  module _ (m : ℕ) (w : List (Node M.Body)) (st : Voting m w) (h : suc (suc m) ≤ size) where
    abbrev e1 : Event M
    e1 = world.Does (world.Deliver 1 (length st.before + suc m))

    abbrev w1 : List (Node M.Body)
    w1 = happens M w e1

    asked : item st.first.sent (length st.before + suc m) ≡ Some (request (suc (suc m)))
    asked =
        ap (λ (l : List (Message M.Body)). item l (length st.before + suc m)) st.sent
        ∙ item_past st.before (vote_requests size 1 T 0 0) (suc m) (request (suc (suc m))) (of_others request size (suc m) (omega arith) h)

    votes_is : Becomes M size (suc (suc m)) (following (boot (suc (suc m))) T [] (voter (suc (suc m)))) w w1
    votes_is =
        subst (λ (n : Node M.Body). Becomes M size (suc (suc m)) n w w1) (hears_request (suc (suc m)) (omega arith) h)
        (comes M size 1 (length st.before + suc m) w st.first (idle M size (boot (suc (suc m)))) (request (suc (suc m))) st.long st.there asked (st.waits (suc m) (omega arith) h))

    taken : Takes m st.before st.first
    taken = takes m st.before st.first h st.so

    abbrev e2 : Event M
    e2 = world.Does (world.Deliver (suc (suc m)) 1)

    abbrev w2 : List (Node M.Body)
    w2 = happens M w1 e2

    takes_is : Becomes M size 1 taken.now w1 w2
    takes_is =
        subst (λ (n : Node M.Body). Becomes M size 1 n w1 w2) taken.is
        (comes M size (suc (suc m)) 1 w1 (following (boot (suc (suc m))) T [] (voter (suc (suc m)))) st.first (vote (suc (suc m))) votes_is.long votes_is.now refl
        (votes_is.others 1 (λ d. omega arith) ∙ st.there))

    voted2 : (k : ℕ) → 1 ≤ k → k ≤ suc m → (k ≡ suc m) ⊎ (k ≡ suc m → ⊥) → item w2 (suc k) ≡ Some (following (boot (suc k)) T [] (voter (suc k)))
    voted2 k pos within c =
        takes_is.others (suc k) (λ d. omega arith) ∙ ⊎_elim
        (λ e. subst (λ (x : ℕ). item w1 (suc x) ≡ Some (following (boot (suc x)) T [] (voter (suc x)))) (sym e) votes_is.now)
        (λ other. votes_is.others (suc k) (λ d. other (omega arith)) ∙ st.voted k pos (below_other k m within other))
        c

    pub one_votes : Reaches M w (Voting (suc m))
    one_votes = (
      e1 ∷ e2 ∷ [],
      record {
        long = takes_is.long;
        before = st.before;
        first = taken.now;
        there = takes_is.now;
        so = taken.so;
        sent = taken.sent;
        voted = λ k pos within. voted2 k pos within (one_or_two k (suc m));
        waits = λ k far within. takes_is.others (suc k) (λ d. omega arith) ∙ votes_is.others (suc k) (λ d. omega arith) ∙ st.waits k (omega arith) within;
      },
    )

  pub all_vote : (n d m : ℕ) (w : List (Node M.Body)) → m + d ≡ n → suc n ≡ size → Voting m w → Reaches M w (Voting n)
  all_vote n zero m w e f st = here M w (Voting n) (let same : m ≡ n = omega arith in subst (λ (x : ℕ). Voting x w) same st)
  all_vote n (suc d) m w e f st = go_on M w (Voting (suc m)) (Voting n) (one_votes m w st (omega arith)) (λ u p. all_vote n d (suc m) u (omega arith) f p)

  -- node 1 leads once all voted
  pub leads_then : (n : ℕ) (w : List (Node M.Body)) → suc n ≡ size → 1 ≤ n → (st : Voting n w) → NowLeads st.before st.first
  leads_then n w f pos st =
      ⊎_elim
      (λ (a : StillAsks n st.before st.first). absurd (no_way (sym (a.minor pos) ∙ most_voted size a.voters (omega arith) a.long (λ i low high. a.have i low (omega (arith, a.long))))))
      (λ (a : NowLeads st.before st.first). a)
      st.so
