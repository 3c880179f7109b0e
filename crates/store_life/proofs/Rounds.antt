-- Rounds of a leader that is node 1: each other node gets what it lacks, and what all have is committed.
use Rattle.std.proofs.Common.{◌≡◌, ℕ, zero, suc, pred, ◌+◌, ◌≤◌, ◌⊎◌, ⊎_elim, Bool, true, false, if◌then◌else◌, List, [], ◌∷◌, ◌++◌, map, length, take, drop, Option, Some, refl, sym, ap, subst, ◌∙◌, arith}
use Rattle.std.proofs.lemmas.List.{take_all}
use Rattle.raft_log.specs.declared.entry.Entry.{Entry}
use Rattle.raft_log.specs.declared.message.Kind.TheVariants.{Append}
use Rattle.raft_log.specs.declared.message.Message.{Message}
use Rattle.raft_log.specs.declared.node_state.Live.{Live}
use Rattle.raft_log.specs.Batches.{batch, batch_limit}
use Rattle.raft_log.specs.Lists.{item, item_or, others, with_item}
use Rattle.raft_log.specs.Logs.{term_at}
use Rattle.raft_log.specs.Node.{Node, message}
use Rattle.raft_log.specs.Votes.{commit_place}
use Rattle.replication.specs.Replication.{append_for, reply}
use Rattle.raft_node.specs.Machine.{Machine}
use Rattle.raft_node.proofs.Items.{length-with_item}
use Rattle.world_run.specs.World as world
use Rattle.world_run.specs.World.{Event, happens}
use Rattle.world_views.proofs.Histories.{item_past}
use Rattle.store_life.proofs.Hearing.{caught_up, following, hears_append, hears_reply, leading, told}
use Rattle.store_life.proofs.Lists.{below_other, item_or_other, item_or_with, of_others, one_or_two}
use Rattle.store_life.proofs.Reaching.{Becomes, Reaches, beats, comes}

cond_within : (b : Bool) (x y l : ℕ) → x ≤ l → y ≤ l → (if b then x else y) ≤ l
cond_within true x y l p q = p
cond_within false x y l p q = q

place_below : {B : Type 0} (size : ℕ) (matches : List ℕ) (log : List (Entry B)) (t c k l : ℕ) → c ≤ l → k ≤ l → commit_place size matches log t c k ≤ l
place_below size matches log t c zero l h g = h
place_below size matches log t c (suc k) l h g = cond_within _ (suc k) (commit_place size matches log t c k) l g (place_below size matches log t c k l h (omega arith))

-- what is found is within the log
place_within : {B : Type 0} (size : ℕ) (matches : List ℕ) (log : List (Entry B)) (t c k : ℕ) → c ≤ k → commit_place size matches log t c k ≤ k
place_within size matches log t c k h = place_below size matches log t c k k h (omega arith)

module _ (M : Machine) (size : ℕ) (boot : ℕ → ℕ) (T : ℕ) where
  -- The follower after place k has the first entries of this log, which the leader knows; the whole log, if k is at
  -- most m.
  pub record Keeps (log : List (Entry M.Body)) (s : Node M.Body) (m k : ℕ) (w : List (Node M.Body)) : Type 0 where
    pub node : Node M.Body
    pub place : ℕ
    pub there : item w (suc k) ≡ Some (following (boot (suc k)) T (take place log) node)
    pub next : item_or s.next (suc k) 0 ≡ suc place
    pub matched : item_or s.matched (suc k) 0 ≡ place
    pub within : place ≤ length log
    pub few : length log ≤ place + batch_limit
    pub whole : k ≤ m → place ≡ length log

  -- the commit is what was found from what the leader knows, with its own log, and a commit before
  pub record IsCounted (log : List (Entry M.Body)) (s : Node M.Body) : Type 0 where
    pub before : ℕ
    pub low : before ≤ length log
    pub found : s.commit ≡ commit_place size (with_item s.matched 1 (length log)) log T before (length log)

  -- Node 1 leads with this session, and the followers of the first m places have its whole log.
  pub record Stage (live : Option Live) (attempts applied : ℕ) (log : List (Entry M.Body)) (m : ℕ) (w : List (Node M.Body)) : Type 0 where
    pub long : length w ≡ size
    pub lead : Node M.Body
    pub leads : item w 1 ≡ Some (leading (boot 1) T log lead)
    pub live_is : lead.live ≡ live
    pub attempts_is : lead.attempts ≡ attempts
    pub applied_is : lead.applied ≡ applied
    pub next_long : length lead.next ≡ size
    pub matched_long : length lead.matched ≡ size
    pub each : (k : ℕ) → 1 ≤ k → suc k ≤ size → Keeps log lead m k w
    pub commit_within : lead.commit ≤ length log
    pub counted : 1 ≤ m → IsCounted log lead

  module _ (live : Option Live) (attempts applied : ℕ) (log : List (Entry M.Body)) (m : ℕ) (w : List (Node M.Body)) (st : Stage live attempts applied log m w) (h : suc (suc m) ≤ size) where
    kept : Keeps log st.lead m (suc m) w
    kept = st.each (suc m) (omega arith) h

    -- node 1 as it sends in a beat
    abbrev s1 : Node M.Body
    s1 = record st.lead { sent = st.lead.sent ++ map (append_for 1 (leading (boot 1) T log st.lead)) (others size 1) }

    abbrev e1 : Event M
    e1 = world.Does (world.Beat 1)

    abbrev w1 : List (Node M.Body)
    w1 = happens M w e1

    beat_is : Becomes M size 1 (leading (boot 1) T log s1) w w1
    beat_is = beats M size 1 w (leading (boot 1) T log st.lead) st.long st.leads

    abbrev append_is : ℕ → Message M.Body
    append_is p = message T 1 (suc (suc m)) (Append (batch p (term_at log p) (take batch_limit (drop p log)) st.lead.commit))

    sent_is : item (leading (boot 1) T log s1).sent (length st.lead.sent + suc m) ≡ Some (append_is kept.place)
    sent_is =
        item_past st.lead.sent (map (append_for 1 (leading (boot 1) T log st.lead)) (others size 1)) (suc m) (append_for 1 (leading (boot 1) T log st.lead) (suc (suc m)))
        (of_others (append_for 1 (leading (boot 1) T log st.lead)) size (suc m) (omega arith) h)
        ∙ ap (λ (n : ℕ). let o : Option (Message M.Body) = Some (append_is (pred n)) in o) kept.next

    abbrev follower : Node M.Body
    follower = following (boot (suc (suc m))) T (take kept.place log) kept.node

    there1 : item w1 (suc (suc m)) ≡ Some follower
    there1 = beat_is.others (suc (suc m)) (λ e. omega arith) ∙ kept.there

    -- the follower as it has the whole log, and says so
    abbrev f2 : Node M.Body
    f2 = caught_up (suc (suc m)) T kept.place st.lead.commit log kept.node

    abbrev e2 : Event M
    e2 = world.Does (world.Deliver 1 (length st.lead.sent + suc m))

    abbrev w2 : List (Node M.Body)
    w2 = happens M w1 e2

    takes_is : Becomes M size (suc (suc m)) (following (boot (suc (suc m))) T log f2) w1 w2
    takes_is =
        subst (λ (n : Node M.Body). Becomes M size (suc (suc m)) n w1 w2)
        (hears_append M.blank size (suc (suc m)) (boot (suc (suc m))) T kept.place st.lead.commit log kept.node (omega arith) h kept.within kept.few)
        (comes M size 1 (length st.lead.sent + suc m) w1 (leading (boot 1) T log s1) follower (append_is kept.place) beat_is.long beat_is.now sent_is there1)

    reply_is : item (following (boot (suc (suc m))) T log f2).sent (length kept.node.sent + 1) ≡ Some (reply T (suc (suc m)) 1 true (length log))
    reply_is = item_past kept.node.sent (reply T (suc (suc m)) 1 true (length log) ∷ []) 1 (reply T (suc (suc m)) 1 true (length log)) refl

    lead2 : item w2 1 ≡ Some (leading (boot 1) T log s1)
    lead2 = takes_is.others 1 (λ e. omega arith) ∙ beat_is.now

    low : item_or s1.matched (suc (suc m)) 0 ≤ length log
    low = omega (arith, kept.matched, kept.within)

    -- node 1 when it gets that answer
    abbrev s3 : Node M.Body
    s3 = told size (suc (suc m)) T log s1

    abbrev e3 : Event M
    e3 = world.Does (world.Deliver (suc (suc m)) (length kept.node.sent + 1))

    abbrev w3 : List (Node M.Body)
    w3 = happens M w2 e3

    told_is : Becomes M size 1 (leading (boot 1) T log s3) w2 w3
    told_is =
        subst (λ (n : Node M.Body). Becomes M size 1 n w2 w3)
        (hears_reply M.blank size (suc (suc m)) (boot 1) T log s1 (omega arith) h low)
        (comes M size (suc (suc m)) (length kept.node.sent + 1) w2 (following (boot (suc (suc m))) T log f2) (leading (boot 1) T log s1) (reply T (suc (suc m)) 1 true (length log))
        takes_is.long takes_is.now reply_is lead2)

    long_next : suc (suc m) ≤ length st.lead.next
    long_next = omega (arith, st.next_long)

    long_matched : suc (suc m) ≤ length st.lead.matched
    long_matched = omega (arith, st.matched_long)

    each3 : (i : ℕ) → 1 ≤ i → suc i ≤ size → (i ≡ suc m) ⊎ (i ≡ suc m → ⊥) → Keeps log s3 (suc m) i w3
    each3 i pos within c =
        ⊎_elim
        (λ e. subst (λ (n : ℕ). Keeps log s3 (suc m) n w3) (sym e) record {
          node = f2;
          place = length log;
          there = told_is.others (suc (suc m)) (λ d. omega arith) ∙ takes_is.now ∙ ap (λ (l : List (Entry M.Body)). let o : Option (Node M.Body) = Some (following (boot (suc (suc m))) T l f2) in o) (sym (take_all (length log) log (omega arith)));
          next = item_or_with st.lead.next (suc (suc m)) (suc (length log)) 0 (omega arith) long_next;
          matched = item_or_with st.lead.matched (suc (suc m)) (length log) 0 (omega arith) long_matched;
          within = omega arith;
          few = omega arith;
          whole = λ d. refl;
        })
        (λ n.
        let old : Keeps log st.lead m i w = st.each i pos within in
        let far : suc i ≡ suc (suc m) → ⊥ = λ d. n (omega arith) in
        record {
          node = old.node;
          place = old.place;
          there = told_is.others (suc i) (λ d. omega arith) ∙ takes_is.others (suc i) far ∙ beat_is.others (suc i) (λ d. omega arith) ∙ old.there;
          next = item_or_other st.lead.next (suc (suc m)) (suc i) (suc (length log)) 0 far ∙ old.next;
          matched = item_or_other st.lead.matched (suc (suc m)) (suc i) (length log) 0 far ∙ old.matched;
          within = old.within;
          few = old.few;
          whole = λ d. old.whole (let t : i ≤ m = below_other i m d n in t);
        })
        c

    pub one_caught_up : Reaches M w (Stage live attempts applied log (suc m))
    one_caught_up = (
      e1 ∷ e2 ∷ e3 ∷ [],
      record {
        long = told_is.long;
        lead = s3;
        leads = told_is.now;
        live_is = st.live_is;
        attempts_is = st.attempts_is;
        applied_is = st.applied_is;
        next_long = length-with_item st.lead.next (suc (suc m)) (suc (length log)) ∙ st.next_long;
        matched_long = length-with_item st.lead.matched (suc (suc m)) (length log) ∙ st.matched_long;
        each = λ i pos within. each3 i pos within (one_or_two i (suc m));
        commit_within = place_within size (with_item (with_item st.lead.matched (suc (suc m)) (length log)) 1 (length log)) log T st.lead.commit (length log) st.commit_within;
        counted = λ d. record { before = st.lead.commit; low = st.commit_within; found = refl };
      },
    )
