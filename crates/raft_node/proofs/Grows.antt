-- What one node keeps by itself, whatever it hears: its applied bodies stay.
use Rattle.std.proofs.Common.{◌≡◌, ℕ, zero, suc, ◌+◌, ◌-◌, ◌≤◌, Bool, true, false, ◌&&◌, ◌||◌, cond, ltb, leb, eqb, List, [], ◌∷◌, ◌++◌, ◌⊎◌, inl, inr, ⊎_elim, Option, Some, None, length, take, drop, refl, sym, ap, subst, ◌∙◌, arith, length-append, length-take, length-drop, take-append-drop}
use Rattle.std.specs.Prelude.{◌^◌}
use Rattle.std.proofs.lemmas.Bool.{cond_both, cases_lt, eqb-true, leb-true, and_parts}
use Rattle.raft_log.specs.Logs.{entry_limit}
use Rattle.raft_log.specs.Lists.{item_or, with_item}
use Rattle.raft_log.specs.declared.entry.Entry.{Entry}
use Rattle.raft_log.specs.declared.message.Kind.{Kind}
use Rattle.raft_log.specs.declared.message.Kind.TheVariants.{RequestVote, Vote, Append, AppendReply, Forward}
use Rattle.raft_log.specs.declared.message.Message.{Message}
use Rattle.raft_log.specs.Node.{Node, is_leader, is_candidate, raised}
use Rattle.raft_log.specs.Votes.{majority, commits, commit_place}
use Rattle.raft_log.specs.Logs.{term_at, agrees_at, merged, repair, conflicts_within}
use Rattle.election.specs.Elections.{timed_out, leading}
use Rattle.replication.specs.Replication.{beat, with_match, advanced, stepped_back, on_forward, forwarded, ask}
use Rattle.raft_node.proofs.ByMessage.{grants}
use Rattle.node_steps.specs.Messages.{is_heard, on_message, handled}
use Rattle.election.specs.Elections as election
use Rattle.raft_node.proofs.Fares.{commit_place_up}

module _ {B : Type 0} where
  length_take : (k : ℕ) (xs : List (Entry B)) → k ≤ length xs → length (take k xs) ≡ k
  length_take k xs h = simp length-take (omega arith)

  pub agrees_by : (log : List (Entry B)) (k t : ℕ) (b : Bool) → eqb k 0 ≡ b → agrees_at log k t ≡ true → (k ≡ 0) ⊎ ((k ≤ length log) × (term_at log k ≡ t))
  agrees_by log k t true e h = inl (eqb-true k 0 e)
  agrees_by log k t false e h =
      let r : (leb k (length log) && eqb (term_at log k) t) ≡ true = ap (λ (c : Bool). c || (leb k (length log) && eqb (term_at log k) t)) (sym e) ∙ h in
      inr (leb-true k (length log) (and_parts (leb k (length log)) _ r).0, eqb-true (term_at log k) t (and_parts (leb k (length log)) _ r).1)

  pub agrees_in : (log : List (Entry B)) (k t : ℕ) → agrees_at log k t ≡ true → k ≤ length log
  agrees_in log k t h = ⊎_elim (λ e. omega (arith, e)) (λ r. r.0) (agrees_by log k t (eqb k 0) refl h)

  pub record Grows (s t : Node B) : Type 0 where
    pub commit_up : s.commit ≤ t.commit
    pub within : s.commit ≤ length s.log → t.commit ≤ length t.log
    pub front : s.commit ≤ length s.log → take s.commit t.log ≡ take s.commit s.log

  pub take_less : (j k : ℕ) (xs ys : List (Entry B)) → j ≤ k → take k xs ≡ take k ys → take j xs ≡ take j ys
  take_less zero k xs ys le e = refl
  take_less (suc j) zero xs ys le e = absurd (omega arith)
  take_less (suc j) (suc k) [] [] le e = refl
  take_less (suc j) (suc k) [] (y ∷ ys) le e = absurd (cc e)
  take_less (suc j) (suc k) (x ∷ xs) [] le e = absurd (cc e)
  take_less (suc j) (suc k) (x ∷ xs) (y ∷ ys) le e =
      let heads : x ≡ y = cc e in
      let tails : take k xs ≡ take k ys = cc e in
      let rest : take j xs ≡ take j ys = take_less j k xs ys (omega arith) tails in
      cc (heads, rest)

  pub same_grows : (s t : Node B) → t.commit ≡ s.commit → t.log ≡ s.log → Grows s t
  same_grows s t c l = record { commit_up = omega (arith, c); within = λ h. omega (arith, c, ap length l); front = λ h. ap (take s.commit) l }

  pub grows_on : (s t u : Node B) → Grows s t → Grows t u → Grows s u
  grows_on s t u a b =
      record {
        commit_up = omega (arith, a.commit_up, b.commit_up);
        within = λ h. b.within (a.within h);
        front = λ h. take_less s.commit t.commit u.log t.log a.commit_up (b.front (a.within h)) ∙ a.front h;
      }

  -- what a repair keeps

  merged_front : (rest es : List (Entry B)) (d : ℕ) → conflicts_within rest es d ≡ false → d ≤ length rest → take d (merged rest es) ≡ take d rest
  merged_front rest es zero h le = refl
  merged_front rest [] (suc d) h le = refl
  merged_front [] (e ∷ es) (suc d) h le = absurd (omega arith)
  merged_front (x ∷ rest) (e ∷ es) (suc d) h le =
      by (λ c. merged_front rest es d c (omega arith)) (eqb x.term e.term) refl
    where
      by : (conflicts_within rest es d ≡ false → take d (merged rest es) ≡ take d rest) → (b : Bool) → eqb x.term e.term ≡ b → take (suc d) (merged (x ∷ rest) (e ∷ es)) ≡ take (suc d) (x ∷ rest)
      by more true q =
          let clear : conflicts_within rest es d ≡ false = ap (λ (b : Bool). cond b (conflicts_within rest es d) true) (sym q) ∙ h in
          ap (λ (b : Bool). take (suc d) (cond b (x ∷ merged rest es) (e ∷ es))) q ∙ ap (λ z. x ∷ z) (more clear)
      by more false q = absurd (let clash : true ≡ false = ap (λ (b : Bool). cond b (conflicts_within rest es d) true) (sym q) ∙ h in cc clash)

  merged_long : (rest es : List (Entry B)) → length es ≤ length (merged rest es)
  merged_long rest [] = omega arith
  merged_long [] (e ∷ es) = omega arith
  merged_long (x ∷ rest) (e ∷ es) =
      cond_both (eqb x.term e.term) (x ∷ merged rest es) (e ∷ es) (λ z. suc (length es) ≤ length z) (λ h. omega (arith, merged_long rest es)) (λ h. omega arith)

  take_front : (c : ℕ) (xs ys : List (Entry B)) → c ≤ length xs → take c (xs ++ ys) ≡ take c xs
  take_front zero xs ys le = refl
  take_front (suc c) [] ys le = absurd (omega arith)
  take_front (suc c) (x ∷ xs) ys le = ap (λ z. x ∷ z) (take_front c xs ys (omega arith))

  take_past : (xs ys zs : List (Entry B)) (c : ℕ) → take (c - length xs) ys ≡ take (c - length xs) zs → length xs ≤ c → take c (xs ++ ys) ≡ take c (xs ++ zs)
  take_past [] ys zs c e le = let z : c - 0 ≡ c = omega arith in subst (λ k. take k ys ≡ take k zs) z e
  take_past (x ∷ xs) ys zs zero e le = absurd (omega arith)
  take_past (x ∷ xs) ys zs (suc c) e le =
      let z : suc c - suc (length xs) ≡ c - length xs = omega arith in
      ap (λ w. x ∷ w) (take_past xs ys zs c (subst (λ k. take k ys ≡ take k zs) z e) (omega arith))

  pub repair_front : (log es : List (Entry B)) (prev c : ℕ) → prev ≤ length log → c ≤ length log → conflicts_within (drop prev log) es (c - prev) ≡ false → take c (repair log prev es) ≡ take c log
  repair_front log es prev c pin cin clear =
      ⊎_elim
      (λ lt.
      let short : length (take prev log) ≡ prev = length_take prev log pin in
      take_front c (take prev log) (merged (drop prev log) es) (omega (arith, short, lt))
      ∙ (sym (take_front c (take prev log) (drop prev log) (omega (arith, short, lt))) ∙ ap (take c) (take-append-drop prev log)))
      (λ ge.
      let short : length (take prev log) ≡ prev = length_take prev log pin in
      let rest : take (c - prev) (merged (drop prev log) es) ≡ take (c - prev) (drop prev log) = merged_front (drop prev log) es (c - prev) clear (omega (arith, length-drop prev log)) in
      take_past (take prev log) (merged (drop prev log) es) (drop prev log) c (subst (λ k. take (c - k) (merged (drop prev log) es) ≡ take (c - k) (drop prev log)) (sym short) rest) (omega (arith, short, ge))
      ∙ ap (take c) (take-append-drop prev log))
      (cases_lt c prev)

  pub repair_long : (log es : List (Entry B)) (prev : ℕ) → prev ≤ length log → prev + length es ≤ length (repair log prev es)
  repair_long log es prev pin =
      omega (arith, length-append (take prev log) (merged (drop prev log) es), length_take prev log pin, merged_long (drop prev log) es)

  place_within : (size : ℕ) (matches : List ℕ) (log : List (Entry B)) (t c k m : ℕ) → c ≤ m → k ≤ m → commit_place size matches log t c k ≤ m
  place_within size matches log t c zero m a b = a
  place_within size matches log t c (suc k) m a b =
      cond_both (ltb c (suc k) && commits size matches log t (suc k)) (suc k) (commit_place size matches log t c k) (λ z. z ≤ m)
      (λ q. b) (λ q. place_within size matches log t c k m a (omega arith))

  pub commit_place_in : (size : ℕ) (matches : List ℕ) (log : List (Entry B)) (t c k : ℕ) → c ≤ k → commit_place size matches log t c k ≤ k
  commit_place_in size matches log t c k h = place_within size matches log t c k k h (omega arith)

  -- steps

  module _ (n i : ℕ) (s : Node B) where
    still : Grows s s
    still = same_grows s s refl refl

    raised_grows : (t : ℕ) → Grows s (raised s t)
    raised_grows t = cond_both (ltb s.term t) _ s (λ z. Grows s z) (λ h. same_grows s _ refl refl) (λ h. still)

    pub timeout_grows : Grows s (timed_out n i s)
    timeout_grows = cond_both (is_leader s.role || leb (2 ^ 60) s.term) s _ (λ z. Grows s z) (λ h. still) (λ h. same_grows s _ refl refl)

    pub beat_grows : Grows s (beat n i s)
    beat_grows = cond_both (is_leader s.role) _ s (λ z. Grows s z) (λ h. same_grows s _ refl refl) (λ h. still)

    pub forward_grows : (b : B) → Grows s (on_forward s b)
    forward_grows b =
        cond_both (is_leader s.role && ltb (length s.log) entry_limit) _ s (λ z. Grows s z)
        (λ h. record {
          commit_up = omega arith;
          within = λ w. omega (arith, w, length-append s.log (record { term = s.term; body = b } ∷ []));
          front = λ w. take_front s.commit s.log (record { term = s.term; body = b } ∷ []) w;
        })
        (λ h. still)

    pub ask_grows : (b : B) → Grows s (ask i s b)
    ask_grows b = cond_both (is_leader s.role) (on_forward s b) (forwarded i s b s.leader) (λ z. Grows s z) (λ h. forward_grows b) (λ h. to_leader s.leader)
      where
        to_leader : (o : Option ℕ) → Grows s (forwarded i s b o)
        to_leader None = same_grows s s refl refl
        to_leader (Some j) = same_grows s _ refl refl

    vote_grows : (m : Message B) (granted : Bool) → Grows s (election.on_vote n s m.from m.term granted)
    vote_grows m granted =
        cond_both (is_candidate s.role && (eqb s.term m.term && granted)) _ s (λ z. Grows s z)
        (λ h. cond_both (majority n (with_item s.voters m.from true)) (leading n (record s { voters = with_item s.voters m.from true })) (record s { voters = with_item s.voters m.from true }) (λ z. Grows s z)
        (λ k. same_grows s _ refl refl) (λ k. same_grows s _ refl refl))
        (λ h. still)

  module _ (blank : B) (n i : ℕ) (s : Node B) where
    handled_grows : (m : Message B) (k : Kind B) → Grows s (handled blank n i s m k)
    handled_grows m (RequestVote l u) = cond_both (grants s m l u) _ _ (λ z. Grows s z) (λ h. same_grows s _ refl refl) (λ h. same_grows s _ refl refl)
    handled_grows m (Vote granted) =
        cond_both (is_candidate s.role) (on_forward (election.on_vote n s m.from m.term granted) blank) s (λ z. Grows s z)
        (λ c. grows_on s (election.on_vote n s m.from m.term granted) _ (vote_grows n i s m granted) (forward_grows n i (election.on_vote n s m.from m.term granted) blank))
        (λ c. still n i s)
    handled_grows m (Append b) =
        cond_both (ltb m.term s.term) _ _ (λ z. Grows s z)
        (λ h. same_grows s _ refl refl)
        (λ h. cond_both (is_leader s.role) s _ (λ z. Grows s z) (λ x. still n i s)
        (λ x. cond_both (agrees_at s.log b.prev_index b.prev_term) _ _ (λ z. Grows s z)
        (λ y. cond_both (conflicts_within (drop b.prev_index s.log) b.entries (s.commit - b.prev_index)) _ _ (λ z. Grows s z)
        (λ q. same_grows s _ refl refl)
        (λ q.
        let pin : b.prev_index ≤ length s.log = agrees_in s.log b.prev_index b.prev_term y in
        record {
          commit_up = omega arith;
          within = λ w.
              let same : take s.commit (repair s.log b.prev_index b.entries) ≡ take s.commit s.log = repair_front s.log b.entries b.prev_index s.commit pin w q in
              let reach : s.commit ≤ length (repair s.log b.prev_index b.entries) =
              omega (arith, ap length same, length-take s.commit (repair s.log b.prev_index b.entries), length_take s.commit s.log w) in
              omega (arith, reach, repair_long s.log b.entries b.prev_index pin);
          front = λ w. repair_front s.log b.entries b.prev_index s.commit pin w q;
        }))
        (λ y. same_grows s _ refl refl)))
    handled_grows m (AppendReply o p) =
        cond_both (is_leader s.role && (eqb s.term m.term && leb p (length s.log))) _ s (λ z. Grows s z)
        (λ h. cond_both o (advanced n i (with_match s m.from p)) (stepped_back s m.from p) (λ z. Grows s z)
        (λ d. record {
          commit_up = commit_place_up n _ s.log s.term s.commit (length s.log);
          within = λ w. commit_place_in n _ s.log s.term s.commit (length s.log) w;
          front = λ w. refl;
        })
        (λ d. cond_both (eqb (item_or s.next m.from 0) (suc p)) _ s (λ z. Grows s z) (λ e. same_grows s _ refl refl) (λ e. still n i s)))
        (λ h. still n i s)
    handled_grows m (Forward b) = forward_grows n i s b

  pub message_grows : (blank : B) (n i : ℕ) (s : Node B) (m : Message B) → Grows s (on_message blank n i s m)
  message_grows blank n i s m =
      cond_both (is_heard n i m) (handled blank n i (raised s m.term) m m.kind) s (λ z. Grows s z)
      (λ h. grows_on s (raised s m.term) _ (raised_grows n i s m.term) (handled_grows blank n i (raised s m.term) m m.kind))
      (λ h. same_grows s s refl refl)
