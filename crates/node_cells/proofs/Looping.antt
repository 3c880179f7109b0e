-- Loops over messages, effects, restarts and terms.
use Rattle.std.proofs.Common.{◌≡◌, ℕ, suc, ◌+◌, ◌*◌, ◌<◌, ◌≤◌, ◌^◌, inl, inr, Bool, true, false, cond, eqb, eq-eqb, List, [], ◌∷◌, ◌++◌, Option, Some, None, option_to_list, map, length, refl, sym, ap, ◌∙◌, subst, arith, append-nil, append_assoc, length-append}
use Rattle.std.proofs.lemmas.Bool.{cond_both, eqb-true}
use Rattle.std.proofs.lemmas.List.{map-append}
use Rattle.raft_log.specs.declared.entry.Entry.{Entry}
use Rattle.raft_log.specs.declared.message.Message.{Message}
use Rattle.raft_log.specs.Node.{Node}
use Rattle.raft_node.specs.Machine.{Machine}
use Rattle.raft_node.specs.Steps.{Quiet}
use Rattle.world_run.specs.declared.outcome.Outcome.TheVariants as outcome
use Rattle.world_views.specs.declared.node_event.NodeEvent.TheVariants.{Restart}
use Rattle.world_views.specs.declared.envelope.Envelope.{Envelope}
use Rattle.world_views.specs.Own.{TurnOf, ViewOf, own_out}
use Rattle.world_views.specs.Views.{View}
use Rattle.ether.specs.Passes.{view_of}
use Rattle.ether.specs.Plays.{IsOlder, after_event}
use Rattle.node_cells.specs.declared.record.Recording.{Recording}
use Rattle.node_cells.specs.Books.{HasNoted, HasPosted, NotedOf, noted, recorded_by, room_for}
use Rattle.node_cells.specs.Posts.{GaveBack, MayGiveBack, posts_from}
use Rattle.node_cells.specs.Remembering.{same_terms}
use Rattle.node_cells.specs.Restarts.{AreRestarts, HasRestarts, after_turns, silent}
use Rattle.node_cells.specs.Sending.{AreWithin, StandFrom, terms_of, to_of}
use Rattle.node_cells.specs.Upstreams.{HandsOut, Numbered, Tally, failed, taken}
use Rattle.node_cells.proofs.Recorded.{Book, posts_are, recorded-append, recorded-nil, room-left, room-more, room-none}

-- ---- hands

pub hands_on : (xs ys : List Numbered) (a b c : Tally) → HandsOut xs a b → HandsOut ys b c → HandsOut (xs ++ ys) a c
hands_on [] ys a b c h k = subst (λ (t : Tally). HandsOut ys t c) h k
hands_on (x ∷ xs) ys a b c (inl h) k = inl (hands_on xs ys (taken x a) b c h k)
hands_on (x ∷ xs) ys a b c (inr h) k = inr (hands_on xs ys (failed a) b c h k)

-- ---- posts

module _ (M : Machine) {Setup : Type 0} where
  -- between two posts: what is still to be posted
  pub record Posting (b0 b : Book M Setup) (all rest : List (Message M.Body)) : Type 0 where
    pub within : AreWithin (suc b.pass.node) b.ether.size rest
    pub stand : (view_of b.pass).honest ≡ true → StandFrom (view_of b.pass).state.sent b.sent rest
    pub few : b.sent + length rest ≤ 7 * length (view_of b.pass).turns
    pub view : posts_from (view_of b.pass) b.sent (length rest) ≡ posts_from (view_of b0.pass) b0.sent (length all)
    pub sent : b.sent + length rest ≡ b0.sent + length all
    pub recording : b.recording ≡ b0.recording
    pub turns : b.turns ≡ b0.turns
    pub ether : b.ether ≡ b0.ether
    pub node : b.pass.node ≡ b0.pass.node
    pub room : b.room ≡ b0.room

  pub posting_first : (b : Book M Setup) (all : List (Message M.Body)) → AreWithin (suc b.pass.node) b.ether.size all
      → ((view_of b.pass).honest ≡ true → StandFrom (view_of b.pass).state.sent b.sent all) → b.sent + length all ≤ 7 * length (view_of b.pass).turns → Posting b b all all
  posting_first b all within stand few =
      record { within = within; stand = stand; few = few; view = refl; sent = refl; recording = refl; turns = refl; ether = refl; node = refl; room = refl }

  pub posting_one : (b0 b : Book M Setup) (all : List (Message M.Body)) (m : Message M.Body) (rest : List (Message M.Body)) → Posting b0 b all (m ∷ rest)
      → AreWithin (suc b.pass.node) b.ether.size (m ∷ []) × ((view_of b.pass).honest ≡ true → StandFrom (view_of b.pass).state.sent b.sent (m ∷ [])) × (b.sent + 1 ≤ 7 * length (view_of b.pass).turns)
  posting_one b0 b all m rest h = let few = h.few in ((h.within.0, h.within.1, h.within.2, tt), λ honest. ((h.stand honest).0, tt), omega arith)

  pub posting_next : (b0 b d : Book M Setup) (all : List (Message M.Body)) (m : Message M.Body) (rest : List (Message M.Body)) → Posting b0 b all (m ∷ rest)
      → HasPosted M b 1 d → Posting b0 d all rest
  posting_next b0 b d all m rest h p =
      let one : d.sent ≡ suc b.sent = p.sent ∙ omega arith in
      let state : (view_of d.pass).state ≡ (view_of b.pass).state = ap (λ (v : ViewOf M). v.state) p.view in
      record {
        within = subst (λ (z : ℕ × ℕ). AreWithin (suc z.0) z.1 rest) (λ i. (sym p.node i, (sym p.ether i).size)) h.within.3;
        stand = λ honest. subst (λ (z : List (Message M.Body) × ℕ). StandFrom z.0 z.1 rest) (λ i. ((sym state i).sent, sym one i)) (h.stand (sym (ap (λ (v : ViewOf M). v.honest) p.view) ∙ honest)).1;
        few = let few = h.few in let long : length (view_of d.pass).turns ≡ length (view_of b.pass).turns = ap (λ (v : ViewOf M). length v.turns) p.view in omega (arith, few, long, one);
        view = (λ i. posts_from (p.view i) (one i) (length rest)) ∙ h.view;
        sent = let s = h.sent in omega (arith, s, one);
        recording = p.recording ∙ h.recording;
        turns = p.turns ∙ h.turns;
        ether = p.ether ∙ h.ether;
        node = p.node ∙ h.node;
        room = p.room ∙ h.room;
      }

  pub posting_done : (b0 b : Book M Setup) (all rest : List (Message M.Body)) → Posting b0 b all rest → rest ≡ [] → HasPosted M b0 (length all) b
  posting_done b0 b all rest h none =
      let zero' : length rest ≡ 0 = ap length none in
      record {
        view = ap (λ (l : List (Message M.Body)). posts_from (view_of b.pass) b.sent (length l)) (sym none) ∙ h.view;
        recording = h.recording;
        turns = h.turns;
        ether = h.ether;
        node = h.node;
        sent = let s = h.sent in omega (arith, s, zero');
        room = h.room;
      }

-- ---- what posts give back

module _ {B L T : Type 0} where
  pub older_given : (v : View B L T) (e : Envelope B) (o : Option (Envelope B)) → IsOlder v e o → MayGiveBack v e.message.to o
  older_given v e None h = tt
  older_given v e (Some old) h = ((h.0, h.2), h.1)

  -- one more post, after which these came back
  pub gives_more : (v : View B L T) (to : ℕ) (more : List ℕ) (o : Option (Envelope B)) (es : List (Envelope B)) → MayGiveBack v to o → GaveBack v more es
      → GaveBack v (to ∷ more) (option_to_list o ++ es)
  gives_more v to more None [] may h = tt
  gives_more v to more None (e ∷ es) may h = inr h
  gives_more v to more (Some o) es may h = inl (may, h)

  -- the same, by the view after some posts
  pub given_behind : (v : View B L T) (n k to : ℕ) (o : Option (Envelope B)) → MayGiveBack (posts_from v n k) to o → MayGiveBack v to o
  given_behind v n k to o h = by_one o (subst (λ (w : View B L T). MayGiveBack w to o) (posts_are v n k) h)
    where
      by_one : (o : Option (Envelope B)) → MayGiveBack (record v { posted = (posts_from v n k).posted }) to o → MayGiveBack v to o
      by_one None h = tt
      by_one (Some e) h = h

  pub given_ahead : (v : View B L T) (n k to : ℕ) (o : Option (Envelope B)) → MayGiveBack v to o → MayGiveBack (posts_from v n k) to o
  given_ahead v n k to o h = subst (λ (w : View B L T). MayGiveBack w to o) (sym (posts_are v n k)) (by_one o h)
    where
      by_one : (o : Option (Envelope B)) → MayGiveBack v to o → MayGiveBack (record v { posted = (posts_from v n k).posted }) to o
      by_one None h = tt
      by_one (Some e) h = h

  pub gave_behind : (v : View B L T) (posted : List ℕ) (tos : List ℕ) (es : List (Envelope B)) → GaveBack v tos es → GaveBack (record v { posted = posted }) tos es
  gave_behind v posted [] [] h = tt
  gave_behind v posted [] (e ∷ es) h = absurd h
  gave_behind v posted (to ∷ tos) [] h = tt
  gave_behind v posted (to ∷ tos) (e ∷ es) (inl h) = inl (h.0, gave_behind v posted tos es h.1)
  gave_behind v posted (to ∷ tos) (e ∷ es) (inr h) = inr (gave_behind v posted tos (e ∷ es) h)

  -- what came back so far, after which what the further posts give back may come
  pub record Giving (v : View B L T) (all rest : List (Message B)) (olds : List (Envelope B)) : Type 0 where
    pub gives : (es : List (Envelope B)) → GaveBack v (map to_of rest) es → GaveBack v (map to_of all) (olds ++ es)

  pub giving_first : (v : View B L T) (all : List (Message B)) (olds : List (Envelope B)) → olds ≡ [] → Giving v all all olds
  giving_first v all olds none = record { gives = λ es h. subst (λ (l : List (Envelope B)). GaveBack v (map to_of all) (l ++ es)) (sym none) h }

  pub giving_next : (v : View B L T) (all : List (Message B)) (m : Message B) (rest : List (Message B)) (olds : List (Envelope B)) (o : Option (Envelope B)) (news : List (Envelope B))
      → Giving v all (m ∷ rest) olds → MayGiveBack v m.to o → news ≡ olds ++ option_to_list o → Giving v all rest news
  giving_next v all m rest olds o news h may is =
      record {
        gives = λ es g. subst (λ (l : List (Envelope B)). GaveBack v (map to_of all) l) (sym (append_assoc olds (option_to_list o) es) ∙ ap (λ (l : List (Envelope B)). l ++ es) (sym is))
            (h.gives (option_to_list o ++ es) (gives_more v m.to (map to_of rest) o es may g));
      }

  pub giving_done : (v : View B L T) (all rest : List (Message B)) (olds : List (Envelope B)) → Giving v all rest olds → rest ≡ [] → GaveBack v (map to_of all) olds
  giving_done v all rest olds h none = subst (λ (l : List (Envelope B)). GaveBack v (map to_of all) l) (append-nil olds) (h.gives [] (subst (λ (l : List (Message B)). GaveBack v (map to_of l) []) (sym none) tt))

module _ (M : Machine) {Setup : Type 0} where
  -- by the book after some posts, and so by the one before them
  pub given_first : (b0 b : Book M Setup) (all rest : List (Message M.Body)) (to : ℕ) (o : Option (Envelope M.Body)) → Posting M b0 b all rest → MayGiveBack (view_of b.pass) to o → MayGiveBack (view_of b0.pass) to o
  given_first b0 b all rest to o h may =
      given_behind (view_of b0.pass) b0.sent (length all) to o (subst (λ (w : ViewOf M). MayGiveBack w to o) h.view (given_ahead (view_of b.pass) b.sent (length rest) to o may))

-- ---- restarts

module _ (M : Machine) where
  -- nothing comes out of a restart
  pub restart_out : (n i : ℕ) (s : Node M.Body) → Quiet ≡ own_out M n i s Restart
  unfolding own_out
  restart_out n i s = refl

  pub turns-append : (v : ViewOf M) (xs ys : List (TurnOf M)) → after_turns M v (xs ++ ys) ≡ after_turns M (after_turns M v xs) ys
  turns-append v [] ys = refl
  turns-append v (t ∷ xs) ys = turns-append (after_event M v t.0 t.1) xs ys

  pub turns_length : (v : ViewOf M) (ts : List (TurnOf M)) → length (after_turns M v ts).turns ≡ length v.turns + length ts
  turns_length v [] = omega arith
  turns_length v (t ∷ ts) = let r = turns_length (after_event M v t.0 t.1) ts in let l = length-append v.turns ((t.0, t.1) ∷ []) in r ∙ omega arith

  restarts_more : (ts : List (TurnOf M)) (t : ℕ) → AreRestarts ts → AreRestarts (ts ++ (t, Restart) ∷ [])
  restarts_more [] t h = (refl, tt)
  restarts_more (x ∷ xs) t h = (h.0, restarts_more xs t h.1)

module _ (M : Machine) {Setup : Type 0} where
  -- between two restarts: this many are noted
  pub record Restarting (b0 b : Book M Setup) (done : ℕ) : Type 0 where
    pub noted_all : HasRestarts M b0 done b
    pub room : b.room + room_for b0.recording done ≡ b0.room

  pub restarting_first : (b : Book M Setup) → Restarting b b 0
  restarting_first b =
      record {
        noted_all = record { more = []; restarts = tt; long = refl; view = refl; recording = refl; turns = sym (ap (λ (l : List (NotedOf M)). b.turns ++ l) (recorded-nil b.recording) ∙ append-nil b.turns); ether = refl; node = refl; sent = refl };
        room = room-none b.recording b.room;
      }

  pub restarting_room : (b0 b : Book M Setup) (done count : ℕ) → Restarting b0 b done → done < count → room_for b0.recording count ≤ b0.room → length (view_of b0.pass).turns + count ≤ 2 ^ 60
      → (room_for b.recording 1 ≤ b.room) × (length (view_of b.pass).turns < 2 ^ 60)
  restarting_room b0 b done count h lt room few =
      let long = h.noted_all.long in
      let turns : length (view_of b.pass).turns ≡ length (view_of b0.pass).turns + length h.noted_all.more = ap (λ (v : ViewOf M). length v.turns) h.noted_all.view ∙ turns_length M (view_of b0.pass) h.noted_all.more in (
        subst (λ (r : Recording). room_for r 1 ≤ b.room) (sym h.noted_all.recording) (room-left b0.recording done count b0.room b.room h.room lt room),
        omega (arith, long, turns),
      )

  pub restarting_next : (b0 b d : Book M Setup) (done : ℕ) → Restarting b0 b done → HasNoted M b Restart outcome.Quiet d → Restarting b0 d (done + 1)
  restarting_next b0 b d done h n =
      let a = h.noted_all in
      let one : List (TurnOf M) = (n.ticket, Restart) ∷ [] in
      let last : List (NotedOf M) = noted M n.ticket Restart outcome.Quiet ∷ [] in
      record {
        noted_all = record {
          more = a.more ++ one;
          restarts = restarts_more M a.more n.ticket a.restarts;
          long = let l = length-append a.more one in let m = a.long in omega (arith, l, m);
          view = n.view ∙ ap (λ (v : ViewOf M). after_event M v n.ticket Restart) a.view ∙ sym (turns-append M (view_of b0.pass) a.more one);
          recording = n.recording ∙ a.recording;
          turns = n.turns ∙ (λ i. a.turns i ++ recorded_by (a.recording i) last)
              ∙ append_assoc b0.turns (recorded_by b0.recording (map (silent M) a.more)) (recorded_by b0.recording last)
              ∙ ap (λ (l : List (NotedOf M)). b0.turns ++ l) (sym (recorded-append b0.recording (map (silent M) a.more) last))
              ∙ ap (λ (l : List (NotedOf M)). b0.turns ++ recorded_by b0.recording l) (sym (map-append (silent M) a.more one));
          ether = n.ether ∙ a.ether;
          node = n.node ∙ a.node;
          sent = n.sent ∙ a.sent;
        };
        room = room-more b0.recording done b0.room b.room d.room h.room (subst (λ (r : Recording). d.room + room_for r 1 ≡ b.room) a.recording n.room);
      }

-- ---- terms

module _ {B : Type 0} where
  pub differ : (ts : List ℕ) (es : List (Entry B)) → (length ts ≡ length es → ⊥) → same_terms ts es ≡ false
  differ [] [] h = absurd (h refl)
  differ [] (e ∷ es) h = refl
  differ (t ∷ ts) [] h = refl
  differ (t ∷ ts) (e ∷ es) h =
      cond_both (eqb t e.term) (same_terms ts es) false (λ z. z ≡ false) (λ k. differ ts es (λ l. h (ap suc l))) (λ k. refl)

  -- the test decides
  pub told_same : (ts : List ℕ) (es : List (Entry B)) → same_terms ts es ≡ true → ts ≡ terms_of es
  told_same [] [] h = refl
  told_same [] (e ∷ es) h = absurd (cc h)
  told_same (t ∷ ts) [] h = absurd (cc h)
  told_same (t ∷ ts) (e ∷ es) h = by_test t ts e es (told_same ts es) (eqb t e.term) refl h
    where
      by_test : (t : ℕ) (ts : List ℕ) (e : Entry B) (es : List (Entry B)) → (same_terms ts es ≡ true → ts ≡ terms_of es) → (b : Bool) → eqb t e.term ≡ b → cond b (same_terms ts es) false ≡ true → t ∷ ts ≡ terms_of (e ∷ es)
      by_test t ts e es told true q h = λ d. eqb-true t e.term q d ∷ told h d
      by_test t ts e es told false q h = absurd (cc h)

  pub same_told : (ts : List ℕ) (es : List (Entry B)) → ts ≡ terms_of es → same_terms ts es ≡ true
  same_told [] [] h = refl
  same_told [] (e ∷ es) h = absurd (cc h)
  same_told (t ∷ ts) [] h = absurd (cc h)
  same_told (t ∷ ts) (e ∷ es) h =
      let first : t ≡ e.term = cc h in
      let rest : ts ≡ terms_of es = cc h in
      ap (λ (b : Bool). cond b (same_terms ts es) false) (eq-eqb t e.term first) ∙ same_told ts es rest
