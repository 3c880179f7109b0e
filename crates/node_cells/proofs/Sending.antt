-- What an act of a node sends goes to others of its group, and what it does to the rest of what a cell needs.
use Rattle.std.proofs.Common.{◌≡◌, ℕ, zero, suc, ◌+◌, ◌-◌, ◌≤◌, Bool, true, false, ◌&&◌, ◌||◌, not, ltb, leb, eqb, List, [], ◌∷◌, ◌++◌, map, Option, Some, None, length, drop, refl, sym, ap, ◌∙◌, subst, append-nil, arith}
use Rattle.std.specs.Prelude.{◌^◌}
use Rattle.std.proofs.lemmas.Bool.{cond_both, and_parts, leb-true}
use Rattle.raft_log.specs.declared.entry.Entry.{Entry}
use Rattle.raft_log.specs.declared.message.Kind.{Kind}
use Rattle.raft_log.specs.declared.message.Kind.TheVariants.{RequestVote, Vote, Append, AppendReply, Forward}
use Rattle.raft_log.specs.declared.message.Message.{Message}
use Rattle.raft_log.specs.declared.node_state.Live.{Live}
use Rattle.raft_log.specs.Lists.{item, item_or, with_item, others, range_from, without}
use Rattle.raft_log.specs.Logs.{entry_limit, agrees_at, conflicts_within, last_term}
use Rattle.raft_log.specs.Node.{Node, is_leader, is_candidate, message, raised}
use Rattle.raft_log.specs.Votes.{majority}
use Rattle.election.specs.Elections as election
use Rattle.election.specs.Elections.{timed_out, leading}
use Rattle.replication.specs.Replication.{beat, append_for, with_match, advanced, stepped_back, on_forward, forwarded, ask}
use Rattle.node_steps.specs.Asking.{is_full, may_ask, finds_leader}
use Rattle.node_steps.specs.Messages.{is_heard, on_message, handled}
use Rattle.node_steps.specs.declared.refusal.Refusal.TheVariants.{LogFull, TermsSpent, NoLeader, Behind, BadOrigin}
use Rattle.raft_node.specs.Machine.{Machine}
use Rattle.raft_node.specs.Steps.{Turn, Act, Expires, Beats, Hears, Asks, Opens, Closes, HearsLine, Claims, Applies, Looks, Idles, quiet, refused, applied_history, asks, asked, adds, opened, closed, heard, claimed, if_leading, applied, turn}
use Rattle.raft_node.proofs.ByMessage.{grants}
use Rattle.node_cells.specs.Sending.{AreWithin, KnowsOneOf}
use Rattle.node_cells.proofs.Terms.{Tells, longer_tells, repair_tells}

-- no leader is known
pub none_known : (n : ℕ) (o : Option ℕ) → o ≡ None → (leader : ℕ) → o ≡ Some leader → (1 ≤ leader) × (leader ≤ n)
none_known n o e leader h = absurd (let z : None ≡ Some leader = sym e ∙ h in cc z)

module _ {B : Type 0} (i n : ℕ) (low : 1 ≤ n) where
  -- A node did something in its run: what it sent goes to nodes of the group, a leader that it knows is one of them,
  -- and its log differs from the one before in its terms.
  pub record Acted (s t : Node B) : Type 0 where
    pub more : List (Message B)
    pub is : t.sent ≡ s.sent ++ more
    pub within : AreWithin i n more
    pub few : length more ≤ n
    pub boot : t.boot ≡ s.boot
    pub leader : KnowsOneOf n t
    pub told : Tells s.log t.log

  silent : (s t : Node B) → t.sent ≡ s.sent → t.boot ≡ s.boot → KnowsOneOf n t → Tells s.log t.log → Acted s t
  silent s t e boot known told =
      record { more = []; is = e ∙ sym (append-nil s.sent); within = tt; few = omega arith; boot = boot; leader = known; told = told }

  speaks : (s t : Node B) (m : Message B) → t.sent ≡ s.sent ++ m ∷ [] → m.from ≡ i → (1 ≤ m.to) × (m.to ≤ n) → t.boot ≡ s.boot → KnowsOneOf n t → Tells s.log t.log → Acted s t
  speaks s t m e from to boot known told =
      record { more = m ∷ []; is = e; within = (from, to.0, to.1, tt); few = omega arith; boot = boot; leader = known; told = told }

  -- messages to all others
  each_within : (f : ℕ → Message B) → ((j : ℕ) → ((f j).from ≡ i) × ((f j).to ≡ j)) → (a k : ℕ) → 1 ≤ a → a + k ≤ n + 1 → AreWithin i n (map f (without i (range_from a k)))
  each_within f h a zero la lk = tt
  each_within f h a (suc k) la lk =
      let rest : AreWithin i n (map f (without i (range_from (suc a) k))) = each_within f h (suc a) k (omega arith) (omega arith) in
      cond_both (eqb a i) (without i (range_from (suc a) k)) (a ∷ without i (range_from (suc a) k)) (λ (js : List ℕ). AreWithin i n (map f js))
      (λ e. rest)
      (λ e. let to = (h a).1 in ((h a).0, omega arith, omega arith, rest))

  each_few : (f : ℕ → Message B) (a k : ℕ) → length (map f (without i (range_from a k))) ≤ k
  each_few f a zero = omega arith
  each_few f a (suc k) =
      let rest = each_few f (suc a) k in
      cond_both (eqb a i) (without i (range_from (suc a) k)) (a ∷ without i (range_from (suc a) k)) (λ (js : List ℕ). length (map f js) ≤ suc k)
      (λ e. omega (arith, rest)) (λ e. omega (arith, rest))

  tells_all : (s t : Node B) (f : ℕ → Message B) → ((j : ℕ) → ((f j).from ≡ i) × ((f j).to ≡ j)) → t.sent ≡ s.sent ++ map f (others n i) → t.boot ≡ s.boot → KnowsOneOf n t → Tells s.log t.log → Acted s t
  tells_all s t f h e boot known told =
      record { more = map f (others n i); is = e; within = each_within f h 1 n (omega arith) (omega arith); few = each_few f 1 n; boot = boot; leader = known; told = told }

  module _ (s : Node B) (known : KnowsOneOf n s) where
    still : Acted s s
    still = silent s s refl refl known (λ h. refl)

    timeout_acted : Acted s (timed_out n i s)
    timeout_acted =
        cond_both (is_leader s.role || leb (2 ^ 60) s.term) s _ (λ z. Acted s z) (λ h. still)
        (λ h. tells_all s _ (λ j. message (suc s.term) i j (RequestVote (length s.log) (last_term s.log))) (λ j. (refl, refl)) refl refl (none_known n None refl) (λ h. refl))

    beat_acted : Acted s (beat n i s)
    beat_acted =
        cond_both (is_leader s.role) _ s (λ z. Acted s z)
        (λ h. tells_all s _ (append_for i s) (λ j. (refl, refl)) refl refl known (λ h. refl)) (λ h. still)

    forward_acted : (b : B) → Acted s (on_forward s b)
    forward_acted b =
        cond_both (is_leader s.role && ltb (length s.log) entry_limit) _ s (λ z. Acted s z)
        (λ h. silent s _ refl refl known (longer_tells s.log (record { term = s.term; body = b }) [])) (λ h. still)

    ask_acted : (b : B) → Acted s (ask i s b)
    ask_acted b = cond_both (is_leader s.role) (on_forward s b) (forwarded i s b s.leader) (λ z. Acted s z) (λ h. forward_acted b) (λ h. to_leader s.leader refl)
      where
        to_leader : (o : Option ℕ) → s.leader ≡ o → Acted s (forwarded i s b o)
        to_leader None e = still
        to_leader (Some j) e = speaks s _ (message s.term i j (Forward b)) refl refl (known j e) refl known (λ h. refl)

    counted : (m : Message B) (granted : Bool) → let t : Node B = election.on_vote n s m.from m.term granted in
        (t.sent ≡ s.sent) × (t.boot ≡ s.boot) × KnowsOneOf n t × (t.log ≡ s.log)
    counted m granted =
        cond_both (is_candidate s.role && (eqb s.term m.term && granted)) _ s (λ (z : Node B). (z.sent ≡ s.sent) × (z.boot ≡ s.boot) × KnowsOneOf n z × (z.log ≡ s.log))
        (λ h. cond_both (majority n (with_item s.voters m.from true)) (leading n (record s { voters = with_item s.voters m.from true })) (record s { voters = with_item s.voters m.from true }) (λ (z : Node B). (z.sent ≡ s.sent) × (z.boot ≡ s.boot) × KnowsOneOf n z × (z.log ≡ s.log))
        (λ k. (refl, refl, none_known n None refl, refl)) (λ k. (refl, refl, known, refl)))
        (λ h. (refl, refl, known, refl))

  -- two things done, the first of which sent nothing and left the log
  behind : (s t u : Node B) → t.sent ≡ s.sent → t.boot ≡ s.boot → t.log ≡ s.log → Acted t u → Acted s u
  behind s t u sent boot log a =
      record {
        more = a.more;
        is = a.is ∙ ap (λ (l : List (Message B)). l ++ a.more) sent;
        within = a.within;
        few = a.few;
        boot = a.boot ∙ boot;
        leader = a.leader;
        told = subst (λ (l : List (Entry B)). Tells l u.log) log a.told;
      }

  raised_leaves : (s : Node B) (t : ℕ) → KnowsOneOf n s → let r : Node B = raised s t in (r.sent ≡ s.sent) × (r.boot ≡ s.boot) × KnowsOneOf n r × (r.log ≡ s.log)
  raised_leaves s t known =
      cond_both (ltb s.term t) _ s (λ (z : Node B). (z.sent ≡ s.sent) × (z.boot ≡ s.boot) × KnowsOneOf n z × (z.log ≡ s.log))
      (λ h. (refl, refl, none_known n None refl, refl)) (λ h. (refl, refl, known, refl))

  module _ (blank : B) (s : Node B) (known : KnowsOneOf n s) (m : Message B) (from : (1 ≤ m.from) × (m.from ≤ n)) where
    sender_known : (o : Option ℕ) → o ≡ Some m.from → (leader : ℕ) → o ≡ Some leader → (1 ≤ leader) × (leader ≤ n)
    sender_known o e leader h = let same : m.from ≡ leader = (let z : Some m.from ≡ Some leader = sym e ∙ h in cc z) in subst (λ (j : ℕ). (1 ≤ j) × (j ≤ n)) same from

    handled_acted : (k : Kind B) → Acted s (handled blank n i s m k)
    handled_acted (RequestVote l u) =
        cond_both (grants s m l u) _ _ (λ z. Acted s z)
        (λ h. speaks s _ (message s.term i m.from (Vote true)) refl refl from refl known (λ h. refl))
        (λ h. speaks s _ (message s.term i m.from (Vote false)) refl refl from refl known (λ h. refl))
    handled_acted (Vote granted) =
        cond_both (is_candidate s.role) (on_forward (election.on_vote n s m.from m.term granted) blank) s (λ z. Acted s z)
        (λ c.
        let r = counted s known m granted in
        behind s (election.on_vote n s m.from m.term granted) _ r.0 r.1 r.3 (forward_acted (election.on_vote n s m.from m.term granted) r.2 blank))
        (λ c. still s known)
    handled_acted (Append b) =
        cond_both (ltb m.term s.term) _ _ (λ z. Acted s z)
        (λ h. speaks s _ (message s.term i m.from (AppendReply false 0)) refl refl from refl known (λ h. refl))
        (λ h. cond_both (is_leader s.role) s _ (λ z. Acted s z) (λ x. still s known)
        (λ x. cond_both (agrees_at s.log b.prev_index b.prev_term) _ _ (λ z. Acted s z)
        (λ y. cond_both (conflicts_within (drop b.prev_index s.log) b.entries (s.commit - b.prev_index)) _ _ (λ z. Acted s z)
        (λ q. silent s _ refl refl (sender_known (Some m.from) refl) (λ h. refl))
        (λ q. speaks s _ _ refl refl from refl (sender_known (Some m.from) refl) (repair_tells s.log b.prev_index b.entries)))
        (λ y. speaks s _ (message s.term i m.from (AppendReply false b.prev_index)) refl refl from refl (sender_known (Some m.from) refl) (λ h. refl))))
    handled_acted (AppendReply o p) =
        cond_both (is_leader s.role && (eqb s.term m.term && leb p (length s.log))) _ s (λ z. Acted s z)
        (λ h. cond_both o (advanced n i (with_match s m.from p)) (stepped_back s m.from p) (λ z. Acted s z)
        (λ d. silent s _ refl refl known (λ h. refl))
        (λ d. cond_both (eqb (item_or s.next m.from 0) (suc p)) _ s (λ z. Acted s z) (λ e. silent s _ refl refl known (λ h. refl)) (λ e. still s known)))
        (λ h. still s known)
    handled_acted (Forward b) = forward_acted s known b

  message_acted : (blank : B) (s : Node B) (known : KnowsOneOf n s) (m : Message B) → Acted s (on_message blank n i s m)
  message_acted blank s known m =
      cond_both (is_heard n i m) (handled blank n i (raised s m.term) m m.kind) s (λ z. Acted s z)
      (λ h.
      let r = raised_leaves s m.term known in
      let parts = and_parts (not (eqb m.from i)) _ (and_parts (eqb m.to i) _ h).1 in
      let range = and_parts (leb 1 m.from) (leb m.from n) parts.1 in
      behind s (raised s m.term) _ r.0 r.1 r.3 (handled_acted blank (raised s m.term) r.2 m (leb-true 1 m.from range.0, leb-true m.from n range.1) m.kind))
      (λ h. still s known)

module _ (M : Machine) (i n : ℕ) (low : 1 ≤ n) (s : Node M.Body) (known : KnowsOneOf n s) where
  abbrev Done : Turn M → Type 0
  Done t = Acted i n low s t.node

  as_is : Acted i n low s s
  as_is = still i n low s known

  adds_acted : (live : Option Live) (attempts : ℕ) (b : M.Body) → Done (adds M s live attempts b)
  adds_acted live attempts b =
      cond_both (is_full s) (refused M s LogFull) (quiet M (on_forward (record s { live = live; attempts = attempts }) b)) Done
      (λ f. as_is)
      (λ f. behind i n low s (record s { live = live; attempts = attempts }) _ refl refl refl (forward_acted i n low (record s { live = live; attempts = attempts }) known b))

  asked_acted : (b : M.Body) → Done (asked M i s b)
  asked_acted b =
      cond_both (may_ask i s (M.source b)) _ (refused M s BadOrigin) Done
      (λ h. cond_both (finds_leader s s.leader) (asks M i s b) (refused M s NoLeader) Done
      (λ k. cond_both (is_leader s.role && is_full s) (refused M s LogFull) (quiet M (ask i s b)) Done (λ f. as_is) (λ f. ask_acted i n low s known b))
      (λ k. as_is))
      (λ h. as_is)

  leading_acted : (t : Turn M) → Done t → Done (if_leading M s t)
  leading_acted t h = cond_both (is_leader s.role) t (quiet M s) Done (λ l. h) (λ l. as_is)

  opened_acted : (o : Option Live) → Done (opened M s o)
  opened_acted None = cond_both (leb (2 ^ 60) s.attempts) (refused M s TermsSpent) _ Done (λ h. as_is) (λ h. adds_acted _ _ _)
  opened_acted (Some l) = as_is

  closed_acted : (o : Option Live) → Done (closed M s o)
  closed_acted None = as_is
  closed_acted (Some l) = adds_acted _ _ _

  heard_acted : (o : Option Live) (at : ℕ) (line : M.Line) → Done (heard M s o at line)
  heard_acted None at line = as_is
  heard_acted (Some l) at line = adds_acted _ _ _

  claimed_acted : (o : Option Live) (k : Option ℕ) → Done (claimed M s o k)
  claimed_acted None k = as_is
  claimed_acted (Some l) None = as_is
  claimed_acted (Some l) (Some k) = adds_acted _ _ _

  applied_acted : (o : Option (Entry M.Body)) → Done (applied M i s o)
  applied_acted None = as_is
  applied_acted (Some e) = silent i n low s (record s { applied = suc s.applied }) refl refl known (λ h. refl)

  pub turn_acted : (a : Act M) → Done (turn M n i a s)
  turn_acted Expires = cond_both (not (is_leader s.role) && leb (2 ^ 60) s.term) (refused M s TermsSpent) (quiet M (timed_out n i s)) Done (λ h. as_is) (λ h. timeout_acted i n low s known)
  turn_acted Beats = beat_acted i n low s known
  turn_acted (Hears m) = message_acted i n low M.blank s known m
  turn_acted (Asks b) = asked_acted b
  turn_acted Opens = leading_acted _ (opened_acted s.live)
  turn_acted Closes = leading_acted _ (closed_acted s.live)
  turn_acted (HearsLine at line) = leading_acted _ (heard_acted s.live at line)
  turn_acted Claims = leading_acted _ (claimed_acted s.live (M.next_claim (applied_history M s)))
  turn_acted Applies = cond_both (ltb s.applied s.commit) (applied M i s (item s.log (suc s.applied))) (quiet M s) Done (λ h. applied_acted (item s.log (suc s.applied))) (λ h. as_is)
  turn_acted (Looks from target) = cond_both (ltb s.applied from) (refused M s (Behind s.applied)) _ Done (λ h. as_is) (λ h. as_is)
  turn_acted Idles = as_is
