-- Each entry was brought by an event.
use Rattle.std.proofs.Common.{◌||◌, ◌^◌, ◌≡◌, ℕ, zero, suc, ◌-◌, true, ◌&&◌, ltb, leb, eqb, List, [], ◌∷◌, ◌++◌, inl, inr, ⊎_elim, Option, Some, None, length, take, drop, map, slice_get, refl, subst}
use Rattle.std.proofs.lemmas.Bool.{cond_both}
use Rattle.raft_log.specs.Batches.{batch_limit}
use Rattle.raft_log.specs.Logs.{entry_limit}
use Rattle.raft_log.specs.Lists.{item, item_or, with_item, others}
use Rattle.raft_log.specs.declared.entry.Entry.{Entry}
use Rattle.raft_log.specs.declared.message.Kind.{Kind}
use Rattle.raft_log.specs.declared.message.Kind.TheVariants.{RequestVote, Vote, Append, AppendReply, Forward}
use Rattle.raft_log.specs.declared.message.Message.{Message}
use Rattle.raft_log.specs.Node.{Node, is_leader, is_candidate, raised}
use Rattle.raft_log.specs.Logs.{merged, agrees_at, conflicts_within}
use Rattle.raft_log.specs.Votes.{majority}
use Rattle.node_steps.specs.Messages.{is_heard, handled}
use Rattle.raft_node.specs.Raft.{restarted, newborn}
use Rattle.election.specs.Elections.{timed_out, leading, elected}
use Rattle.replication.specs.Replication.{append_for, beat, with_match, advanced, stepped_back, on_forward, forwarded, ask}
use Rattle.raft_node.proofs.ByMessage.{grants}
use Rattle.agreement.specs.World.{lifted, Act, Expires, Beats, Hears, Asks, Lifts, Nothing, Own, Acts, Restarts, Stops, acted, own, Input, Timeout, Beat, Deliver, Ask, Lift, Idle, Event, Does, Restart, StopIn, sent_of, hears, act_of, stepper, own_of, placed, happens, start}
use Rattle.agreement.specs.Laws.{longer, longest_now, longest_over, brings_in, brings, brought, IsAmong, EachIn, AllBrought}
use Rattle.raft_node.proofs.Items.{item_of_with, item_of_replicate}

module _ {B : Type 0} where
  abbrev KindIn : List B → Kind B → Type 0
  KindIn bs (RequestVote n u) = Unit {0}
  KindIn bs (Vote g) = Unit {0}
  KindIn bs (Append b) = EachIn bs b.entries
  KindIn bs (AppendReply o p) = Unit {0}
  KindIn bs (Forward b) = IsAmong b bs

  abbrev SentIn : List B → List (Message B) → Type 0
  SentIn bs [] = Unit {0}
  SentIn bs (m ∷ ms) = KindIn bs m.kind × SentIn bs ms

  abbrev NodeIn : List B → Node B → Type 0
  NodeIn bs s = EachIn bs s.log × SentIn bs s.sent

  module _ (blank : B) (bs : List B) (has_blank : IsAmong blank bs) where
    each_append : (xs ys : List (Entry B)) → EachIn bs xs → EachIn bs ys → EachIn bs (xs ++ ys)
    each_append [] ys a b = b
    each_append (x ∷ xs) ys a b = (a.0, each_append xs ys a.1 b)

    each_take : (k : ℕ) (xs : List (Entry B)) → EachIn bs xs → EachIn bs (take k xs)
    each_take zero xs a = tt
    each_take (suc k) [] a = tt
    each_take (suc k) (x ∷ xs) a = (a.0, each_take k xs a.1)

    each_drop : (k : ℕ) (xs : List (Entry B)) → EachIn bs xs → EachIn bs (drop k xs)
    each_drop zero xs a = a
    each_drop (suc k) [] a = tt
    each_drop (suc k) (x ∷ xs) a = each_drop k xs a.1

    each_merged : (rest es : List (Entry B)) → EachIn bs rest → EachIn bs es → EachIn bs (merged rest es)
    each_merged rest [] a b = a
    each_merged [] (e ∷ es) a b = b
    each_merged (x ∷ rest) (e ∷ es) a b =
        cond_both (eqb x.term e.term) (x ∷ merged rest es) (e ∷ es) (λ z. EachIn bs z) (λ h. (a.0, each_merged rest es a.1 b.1)) (λ h. b)

    sent_append : (ms ks : List (Message B)) → SentIn bs ms → SentIn bs ks → SentIn bs (ms ++ ks)
    sent_append [] ks a b = b
    sent_append (m ∷ ms) ks a b = (a.0, sent_append ms ks a.1 b)

    sent_map : (f : ℕ → (Message B)) (js : List ℕ) → ((j : ℕ) → KindIn bs (f j).kind) → SentIn bs (map f js)
    sent_map f [] h = tt
    sent_map f (j ∷ js) h = (h j, sent_map f js h)

    sent_get : (ms : List (Message B)) (k : ℕ) (m : Message B) → SentIn bs ms → slice_get ms k ≡ Some m → KindIn bs m.kind
    sent_get [] k m h e = absurd (cc e)
    sent_get (x ∷ ms) zero m h e = subst (λ (z : Message B). KindIn bs z.kind) (let eq : x ≡ m = cc e in eq) h.0
    sent_get (x ∷ ms) (suc k) m h e = sent_get ms k m h.1 e

    raised_in : (s : Node B) (t : ℕ) → NodeIn bs s → NodeIn bs (raised s t)
    raised_in s t h = cond_both (ltb s.term t) _ s (λ z. NodeIn bs z) (λ c. h) (λ c. h)

    timeout_in : (n i : ℕ) (s : Node B) → NodeIn bs s → NodeIn bs (timed_out n i s)
    timeout_in n i s h =
        cond_both (is_leader s.role || leb (2 ^ 60) s.term) s _ (λ z. NodeIn bs z) (λ c. h)
        (λ c. (h.0, sent_append s.sent _ h.1 (sent_map _ (others n i) (λ j. tt))))

    beat_in : (n i : ℕ) (s : Node B) → NodeIn bs s → NodeIn bs (beat n i s)
    beat_in n i s h =
        cond_both (is_leader s.role) _ s (λ z. NodeIn bs z)
        (λ c. (h.0, sent_append s.sent _ h.1 (sent_map (append_for i s) (others n i) (λ j. each_take batch_limit _ (each_drop _ s.log h.0)))))
        (λ c. h)

    forward_in : (s : Node B) (b : B) → IsAmong b bs → NodeIn bs s → NodeIn bs (on_forward s b)
    forward_in s b a h =
        cond_both (is_leader s.role && ltb (length s.log) entry_limit) _ s (λ z. NodeIn bs z)
        (λ c. (each_append s.log _ h.0 (a, tt), h.1)) (λ c. h)

    ask_in : (i : ℕ) (s : Node B) (b : B) → IsAmong b bs → NodeIn bs s → NodeIn bs (ask i s b)
    ask_in i s b a h =
        cond_both (is_leader s.role) _ _ (λ z. NodeIn bs z) (λ c. forward_in s b a h) (λ c. to_leader s.leader)
      where
        to_leader : (o : Option ℕ) → NodeIn bs (forwarded i s b o)
        to_leader None = h
        to_leader (Some j) = (h.0, sent_append s.sent _ h.1 (a, tt))

    counted_in : (n : ℕ) (s : Node B) → NodeIn bs s → NodeIn bs (elected n s)
    counted_in n s h = cond_both (majority n s.voters) (leading n s) s (λ z. NodeIn bs z) (λ d. h) (λ d. h)

    handled_in : (n i : ℕ) (s : Node B) (m : Message B) (k : Kind B) → KindIn bs k → NodeIn bs s → NodeIn bs (handled blank n i s m k)
    handled_in n i s m (RequestVote l u) a h =
        cond_both (grants s m l u) _ _ (λ z. NodeIn bs z) (λ c. (h.0, sent_append s.sent _ h.1 (tt, tt))) (λ c. (h.0, sent_append s.sent _ h.1 (tt, tt)))
    handled_in n i s m (Vote g) a h =
        cond_both (is_candidate s.role) _ s (λ z. NodeIn bs z)
        (λ k.
        forward_in _ blank has_blank
        (cond_both (is_candidate s.role && (eqb s.term m.term && g)) _ s (λ z. NodeIn bs z)
        (λ c. counted_in n (record s { voters = with_item s.voters m.from true }) h) (λ c. h)))
        (λ k. h)
    handled_in n i s m (Append b) a h =
        cond_both (ltb m.term s.term) _ _ (λ z. NodeIn bs z)
        (λ d. (h.0, sent_append s.sent _ h.1 (tt, tt)))
        (λ d. cond_both (is_leader s.role) s _ (λ z. NodeIn bs z) (λ x. h)
        (λ x. cond_both (agrees_at s.log b.prev_index b.prev_term) _ _ (λ z. NodeIn bs z)
        (λ y. cond_both (conflicts_within (drop b.prev_index s.log) b.entries (s.commit - b.prev_index)) _ _ (λ z. NodeIn bs z) (λ v. h)
        (λ v. (each_append (take b.prev_index s.log) _ (each_take b.prev_index s.log h.0) (each_merged (drop b.prev_index s.log) b.entries (each_drop b.prev_index s.log h.0) a), sent_append s.sent _ h.1 (tt, tt))))
        (λ y. (h.0, sent_append s.sent _ h.1 (tt, tt)))))
    handled_in n i s m (AppendReply o p) a h =
        cond_both (is_leader s.role && (eqb s.term m.term && leb p (length s.log))) _ s (λ z. NodeIn bs z)
        (λ c. cond_both o (advanced n i (with_match s m.from p)) (stepped_back s m.from p) (λ z. NodeIn bs z) (λ d. h) (λ d. cond_both (eqb (item_or s.next m.from 0) (suc p)) _ s (λ z. NodeIn bs z) (λ e. h) (λ e. h)))
        (λ c. h)
    handled_in n i s m (Forward b) a h = forward_in s b a h

    abbrev AddIn : Option B → Type 0
    AddIn None = Unit {0}
    AddIn (Some b) = IsAmong b bs

    abbrev ActIn : (Act B) → Type 0
    ActIn Expires = Unit {0}
    ActIn Beats = Unit {0}
    ActIn (Hears m) = KindIn bs m.kind
    ActIn (Asks b) = IsAmong b bs
    ActIn (Lifts x l k b) = AddIn b
    ActIn Nothing = Unit {0}

    abbrev OwnIn : (Own B) → Type 0
    OwnIn (Acts a) = ActIn a
    OwnIn Restarts = Unit {0}
    OwnIn (Stops a after) = ActIn a

    acted_in : (n i : ℕ) (s : Node B) (a : (Act B)) → ActIn a → NodeIn bs s → NodeIn bs (acted blank n i a s)
    acted_in n i s Expires a h = timeout_in n i s h
    acted_in n i s Beats a h = beat_in n i s h
    acted_in n i s (Hears m) a h =
        cond_both (is_heard n i m) _ s (λ z. NodeIn bs z) (λ c. handled_in n i (raised s m.term) m m.kind a (raised_in s m.term h)) (λ c. h)
    acted_in n i s (Asks b) a h = ask_in i s b a h
    acted_in n i s (Lifts x l k None) a h = h
    acted_in n i s (Lifts x l k (Some b)) a h = forward_in (lifted s x l k) b a h
    acted_in n i s Nothing a h = h

    own_in : (n i : ℕ) (s : Node B) (o : (Own B)) → OwnIn o → NodeIn bs s → NodeIn bs (own blank n i o s)
    own_in n i s (Acts a) x h = acted_in n i s a x h
    own_in n i s Restarts x h = h
    own_in n i s (Stops a after) x h =
        cond_both after (restarted n (record (acted blank n i a s) { sent = s.sent })) (restarted n s) (λ z. NodeIn bs z) (λ c. ((acted_in n i s a x h).0, h.1)) (λ c. h)

    abbrev WorldIn : List (Node B) → Type 0
    WorldIn w = (i : ℕ) (s : Node B) → item w i ≡ Some s → NodeIn bs s

    sent_item : (ms : List (Message B)) (k : ℕ) (m : Message B) → SentIn bs ms → item ms k ≡ Some m → KindIn bs m.kind
    sent_item ms zero m h e = absurd (cc e)
    sent_item ms (suc k) m h e = sent_get ms k m h e

    sent_of_in : (w : List (Node B)) → WorldIn w → (j : ℕ) (o : Option (Node B)) (k : ℕ) (m : Message B) → item w j ≡ o → sent_of o k ≡ Some m → KindIn bs m.kind
    sent_of_in w all j None k m at e = absurd (cc e)
    sent_of_in w all j (Some s) k m at e = sent_item s.sent k m (all j s at).1 e

    hears_in : (o : Option (Message B)) → ((m : Message B) → o ≡ Some m → KindIn bs m.kind) → ActIn (hears o)
    hears_in None h = tt
    hears_in (Some m) h = h m refl

    act_in : (w : List (Node B)) (x : (Input B)) → ((b : B) → IsAmong b (brings_in x) → IsAmong b bs) → WorldIn w → ActIn (act_of w x)
    act_in w (Timeout i) new all = tt
    act_in w (Beat i) new all = tt
    act_in w (Deliver j k) new all = hears_in (sent_of (item w j) k) (λ m e. sent_of_in w all j (item w j) k m refl e)
    act_in w (Ask i b) new all = new b (inl refl)
    act_in w (Lift i x l k None) new all = tt
    act_in w (Lift i x l k (Some b)) new all = new b (inl refl)
    act_in w (Idle i) new all = tt

    own_of_in : (w : List (Node B)) (e : (Event B)) → ((b : B) → IsAmong b (brings e) → IsAmong b bs) → WorldIn w → OwnIn (own_of w e)
    own_of_in w (Does x) new all = act_in w x new all
    own_of_in w (Restart i) new all = tt
    own_of_in w (StopIn x after) new all = act_in w x new all

    placed_in : (w : List (Node B)) (i : ℕ) (f : Node B → (Node B)) (o : Option (Node B)) → item w i ≡ o → WorldIn w → ((s : Node B) → item w i ≡ Some s → NodeIn bs (f s)) → WorldIn (placed w i f o)
    placed_in w i f None at all h = all
    placed_in w i f (Some s) at all h = λ j y here. ⊎_elim (λ e. subst (λ z. NodeIn bs z) e.1 (h s at)) (λ e. all j y e.1) (item_of_with w i (f s) j y s at here)

    happens_in : (w : List (Node B)) (e : (Event B)) → ((b : B) → IsAmong b (brings e) → IsAmong b bs) → WorldIn w → WorldIn (happens blank w e)
    happens_in w e new all =
        placed_in w (stepper w e) _ (item w (stepper w e)) refl all
        (λ s at. own_in (length w) (stepper w e) s (own_of w e) (own_of_in w e new all) (all (stepper w e) s at))

    longer_each : (xs ys : List (Entry B)) → EachIn bs xs → EachIn bs ys → EachIn bs (longer xs ys)
    longer_each xs ys a b = cond_both (ltb (length xs) (length ys)) ys xs (λ z. EachIn bs z) (λ h. b) (λ h. a)

    now_in : (w : List (Node B)) → WorldIn w → EachIn bs (longest_now w)
    now_in [] all = tt
    now_in (s ∷ w) all = longer_each _ _ (each_take s.commit s.log (all 1 s refl).0) (now_in w (λ i y at. later i y at))
      where
        later : (i : ℕ) (y : Node B) → item w i ≡ Some y → NodeIn bs y
        later zero y at = absurd (cc at)
        later (suc i) y at = all (suc (suc i)) y at

    over_in : (es : List (Event B)) (w : List (Node B)) → ((b : B) → IsAmong b (brought es) → IsAmong b bs) → WorldIn w → EachIn bs (longest_over blank es w)
    over_in [] w new all = now_in w all
    over_in (e ∷ es) w new all =
        longer_each _ _ (now_in w all)
        (over_in es (happens blank w e) (λ b h. new b (right (brings e) (brought es) b h)) (happens_in w e (λ b h. new b (left (brings e) (brought es) b h)) all))
      where
        left : (xs ys : List B) (b : B) → IsAmong b xs → IsAmong b (xs ++ ys)
        left [] ys b h = absurd h
        left (x ∷ xs) ys b h = ⊎_elim (λ e. inl e) (λ k. inr (left xs ys b k)) h

        right : (xs ys : List B) (b : B) → IsAmong b ys → IsAmong b (xs ++ ys)
        right [] ys b h = h
        right (x ∷ xs) ys b h = inr (right xs ys b h)

  pub all_brought : (blank : B) → AllBrought B blank
  all_brought blank size es =
      over_in blank (blank ∷ brought es) (inl refl) es (start size) (λ b h. inr h)
      (λ i s at. subst (λ z. NodeIn (blank ∷ brought es) z) (item_of_replicate size i (newborn size) s at) (tt, tt))
