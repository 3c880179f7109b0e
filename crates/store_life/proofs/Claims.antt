-- The claims of a list of bodies, and those of more of it.
use Rattle.std.proofs.Common.{◌≡◌, ◌≢◌, ℕ, zero, suc, ◌+◌, ◌≤◌, ◌==◌, ◌^◌, nat_lt, ◌&&◌, ◌⊎◌, inl, inr, ⊎_elim, Bool, true, false, if◌then◌else◌, List, [], ◌∷◌, ◌++◌, map, length, take, drop, slice_get, Option, Some, None, refl, sym, ap, subst, ◌∙◌, arith, length-append, append_assoc, append-nil, take-append-drop}
use Rattle.std.proofs.lemmas.Bool.Decides.{nat_tests}
use Rattle.irc_line.specs.Lines.{Parts}
use Rattle.wire_bytes.specs.declared.origin.Origin.{Origin}
use Rattle.wire_bytes.specs.declared.session_id.SessionId.{SessionId}
use Rattle.machine_laws.specs.Runs.{History, came, came_at, run}
use Rattle.machine_laws.specs.Sessions.{same_session}
use Rattle.buffer_commands.specs.Settings.{Settings}
use Rattle.buffer_commands.specs.declared.command.Action.{Action}
use Rattle.buffer_commands.specs.declared.command.Command.{Command}
use Rattle.buffer_commands.specs.declared.command.Command.TheVariants as command
use Rattle.session_fence.specs.Sessions as sessions
use Rattle.session_fence.specs.declared.command.FenceCommand.TheVariants as fence
use Rattle.upstream_claim.specs.declared.command.ClaimsCommand.TheVariants as claims
use Rattle.upstream_claim.specs.Numbered as lines
use Rattle.request_once.specs.declared.body.Body.TheVariants as body
use Rattle.request_once.specs.Fresh as requests
use Rattle.request_once.proofs.Requests.{plain-inner, plain-blank, plain-mark, plain-next, plain-skip}
use Rattle.bouncer_tower.specs.Bodies.{Claimed, Sessioned, TowerBody, accepted, claimed, client, next_claim, outgoing, sent, sessioned_effects}
use Rattle.bouncer_tower.specs.Hosting.{of_buffers}
use Rattle.bouncer_tower.proofs.Handed.{lines_stay}
use Rattle.raft_log.specs.declared.entry.Entry.{Entry}
use Rattle.raft_log.specs.declared.node_state.Live.{Live}
use Rattle.raft_node.specs.Machine.{history}
use Rattle.agreement.specs.World.{Begins}
use Rattle.world_run.proofs.Places.{came_append}
use Rattle.led_lists.specs.declared.leading.Leading.{Leading}
use Rattle.led_lists.specs.Led.{IsLed, are_led, behind, behind_session, is_blank, is_idle, is_live, is_next_claim, is_next_line, may_bring, may_bring_session, new_leader}
use Rattle.renewal.specs.Lists.{settled}
use Rattle.store_life.proofs.Lists.{both_true, no_way}

pub get_more : {A : Type 0} (xs ys : List A) (i : ℕ) (x : A) → slice_get xs i ≡ Some x → slice_get (xs ++ ys) i ≡ Some x
get_more [] ys i x e = absurd (cc e)
get_more (y ∷ xs) ys zero x e = e
get_more (y ∷ xs) ys (suc i) x e = get_more xs ys i x e

none_is : {A : Type 0} (x : A) → None ≡ Some x → ⊥
none_is x e = cc

-- whether a request is the next of its origin
is_next : (n m : ℕ) → (n == m) ≡ true → n ≡ m
is_next n m e = grind (arith, nat_tests)

is_not_next : (n m : ℕ) → (n == m) ≡ false → n ≢ m
is_not_next n m e = grind (arith, nat_tests)

module _ (s : Settings) where
  abbrev claims_of : History Claimed → List (ℕ × SessionId)
  claims_of h = lines.claimed sessions.session (sessions.sent sent) (sessioned_effects s) h

  -- what a body adds to the claims: nothing, or itself
  abbrev Adds : History TowerBody → ℕ → TowerBody → Type 0
  Adds h place b =
      (claimed s ((place, b) ∷ h) ≡ claimed s h)
      ⊎ ((id : SessionId) × (n : ℕ) × (b ≡ body.Inner (claims.Claim id n)) × (claimed s ((place, b) ∷ h) ≡ claimed s h ++ (n, id) ∷ []))

  of_below : (h : History Claimed) (place : ℕ) (c : Sessioned) → claims_of ((place, claims.Inner c) ∷ h) ≡ claims_of h
  unfolding lines.claimed lines.numbered
  of_below h place c = refl

  by_taken : (q : lines.Numbered) (id : SessionId) (n : ℕ) (b : Bool)
      → ((if b then lines.with_claim q id n else q).claimed ≡ q.claimed) ⊎ ((if b then lines.with_claim q id n else q).claimed ≡ q.claimed ++ (n, id) ∷ [])
  by_taken q id n true = inr refl
  by_taken q id n false = inl refl

  of_claim : (h : History Claimed) (place : ℕ) (id : SessionId) (n : ℕ) → (claims_of ((place, claims.Claim id n) ∷ h) ≡ claims_of h) ⊎ (claims_of ((place, claims.Claim id n) ∷ h) ≡ claims_of h ++ (n, id) ∷ [])
  unfolding lines.claimed lines.numbered
  of_claim h place id n =
      let q : lines.Numbered = lines.numbered sessions.session (sessions.sent sent) (sessioned_effects s) h in
      by_taken q id n (lines.is_taken (sessions.session (lines.plain h)) q id n)

  asked_adds : (h : History TowerBody) (place : ℕ) (o : Origin) (n at : ℕ) (a : Action) (b : Bool) → (n == requests.last h o + 1) ≡ b → claimed s ((place, body.Asked o n at a) ∷ h) ≡ claimed s h
  unfolding claimed accepted
  asked_adds h place o n at a true e =
      ap claims_of (plain-next client h place o n at a (is_next n (requests.last h o + 1) e)) ∙ of_below (requests.plain client h) place _
  asked_adds h place o n at a false e = ap claims_of (plain-skip client h place o n at a (is_not_next n (requests.last h o + 1) e))

  pub adds : (h : History TowerBody) (place : ℕ) (b : TowerBody) → Adds h place b
  unfolding claimed accepted
  adds h place (body.Inner (claims.Inner c)) = inl (ap claims_of (plain-inner client h place (claims.Inner c)) ∙ of_below (requests.plain client h) place c)
  adds h place (body.Inner (claims.Claim id n)) =
      let is : requests.plain client ((place, body.Inner (claims.Claim id n)) ∷ h) ≡ (place, claims.Claim id n) ∷ requests.plain client h = plain-inner client h place (claims.Claim id n) in
      ⊎_elim (λ e. inl (ap claims_of is ∙ e)) (λ e. inr (id, n, refl, ap claims_of is ∙ e)) (of_claim (requests.plain client h) place id n)
  adds h place (body.Asked o n at a) = inl (asked_adds h place o n at a (n == requests.last h o + 1) refl)
  adds h place body.Blank = inl (ap claims_of (plain-blank client h place))
  adds h place (body.Mark m) = inl (ap claims_of (plain-mark client h place m))

  blank_adds : (h : History TowerBody) (place : ℕ) → claimed s ((place, body.Blank) ∷ h) ≡ claimed s h
  unfolding claimed accepted
  blank_adds h place = ap claims_of (plain-blank client h place)

  buffers_add : (h : History TowerBody) (place : ℕ) (c : Command) → claimed s ((place, of_buffers c) ∷ h) ≡ claimed s h
  unfolding claimed accepted
  buffers_add h place c = ap claims_of (plain-inner client h place (claims.Inner (fence.Inner c))) ∙ of_below (requests.plain client h) place (fence.Inner c)

  -- nothing came, and nothing is claimed
  pub none_claimed : claimed s [] ≡ []
  unfolding claimed accepted lines.claimed lines.numbered requests.plain requests.fresh
  none_claimed = refl

  one_more : (h : History TowerBody) (place : ℕ) (b : TowerBody) → (more : List (ℕ × SessionId)) × (claimed s ((place, b) ∷ h) ≡ claimed s h ++ more)
  one_more h place b = ⊎_elim (λ e. ([], e ∙ sym (append-nil (claimed s h)))) (λ p. ((p.1, p.0) ∷ [], p.3)) (adds h place b)

  -- more bodies add claims after those that were there
  pub claims_more : (place : ℕ) (bodies : List TowerBody) (h : History TowerBody) → (more : List (ℕ × SessionId)) × (claimed s (came place bodies h) ≡ claimed s h ++ more)
  claims_more place [] h = ([], sym (append-nil (claimed s h)))
  claims_more place (b ∷ bodies) h =
      let here = one_more h place b in
      let r = claims_more (place + 1) bodies ((place, b) ∷ h) in
      (here.0 ++ r.0, r.1 ∙ ap (λ (l : List (ℕ × SessionId)). l ++ r.0) here.1 ∙ append_assoc (claimed s h) here.0 r.0)

  -- a longer log adds claims after those of its beginning
  pub claims_begin : (xs ys : List (Entry TowerBody)) → Begins xs ys → (more : List (ℕ × SessionId)) × (claimed s (history ys) ≡ claimed s (history xs) ++ more)
  claims_begin xs ys p =
      let whole : history ys ≡ came (1 + length xs) (map (λ (e : Entry TowerBody). e.body) p.0) (history xs) = ap history (sym p.1) ∙ came_append 1 xs p.0 [] in
      let r = claims_more (1 + length xs) (map (λ (e : Entry TowerBody). e.body) p.0) (history xs) in
      (r.0, ap (claimed s) whole ∙ r.1)

  pub claims_grow : (xs ys : List (Entry TowerBody)) → Begins xs ys → length (claimed s (history xs)) ≤ length (claimed s (history ys))
  claims_grow xs ys p =
      let r = claims_begin xs ys p in
      let e : length (claimed s (history ys)) ≡ length (claimed s (history xs)) + length r.0 = ap length r.1 ∙ length-append (claimed s (history xs)) r.0 in
      omega arith

  -- a claim stays at its place
  pub claim_stays : (xs ys : List (Entry TowerBody)) (i : ℕ) (c : ℕ × SessionId) → Begins xs ys → slice_get (claimed s (history xs)) i ≡ Some c → slice_get (claimed s (history ys)) i ≡ Some c
  claim_stays xs ys i c p at =
      let r = claims_begin xs ys p in
      ap (λ (l : List (ℕ × SessionId)). slice_get l i) r.1 ∙ get_more (claimed s (history xs)) r.0 i c at

  -- a numbered line stays at its place
  line_stays : (h : History TowerBody) (place : ℕ) (b : TowerBody) (i : ℕ) (line : Parts) → slice_get (outgoing s h) i ≡ Some line → slice_get (outgoing s ((place, b) ∷ h)) i ≡ Some line
  line_stays h place b i line at =
      let l : List Parts = outgoing s ((place, b) ∷ h) in
      subst (λ zs. slice_get zs i ≡ Some line) (take-append-drop (length (outgoing s h)) l)
      (get_more (take (length (outgoing s h)) l) (drop (length (outgoing s h)) l) i line (ap (λ (zs : List Parts). slice_get zs i) (lines_stay s h place b) ∙ at))

  lines_more : (place : ℕ) (bodies : List TowerBody) (h : History TowerBody) (i : ℕ) (line : Parts) → slice_get (outgoing s h) i ≡ Some line → slice_get (outgoing s (came place bodies h)) i ≡ Some line
  lines_more place [] h i line at = at
  lines_more place (b ∷ bodies) h i line at = lines_more (place + 1) bodies ((place, b) ∷ h) i line (line_stays h place b i line at)

  pub line_of_longer : (xs ys : List (Entry TowerBody)) (i : ℕ) (line : Parts) → Begins xs ys → slice_get (outgoing s (history xs)) i ≡ Some line → slice_get (outgoing s (history ys)) i ≡ Some line
  line_of_longer xs ys i line p at =
      let whole : history ys ≡ came (1 + length xs) (map (λ (e : Entry TowerBody). e.body) p.0) (history xs) = ap history (sym p.1) ∙ came_append 1 xs p.0 [] in
      ap (λ (h : History TowerBody). slice_get (outgoing s h) i) whole ∙ lines_more (1 + length xs) (map (λ (e : Entry TowerBody). e.body) p.0) (history xs) i line at

  -- the same for bodies at one place
  pub lines_stay_at : (place : ℕ) (bodies : List TowerBody) (h : History TowerBody) (i : ℕ) (line : Parts) → slice_get (outgoing s h) i ≡ Some line → slice_get (outgoing s (came_at place bodies h)) i ≡ Some line
  lines_stay_at place [] h i line at = at
  lines_stay_at place (b ∷ bodies) h i line at = lines_stay_at place bodies ((place, b) ∷ h) i line (line_stays h place b i line at)

  -- claims of sessions of one term
  abbrev AreOfTerm : ℕ → List (ℕ × SessionId) → Type 0
  AreOfTerm T cs = (i n : ℕ) (id : SessionId) → slice_get cs i ≡ Some (n, id) → id.0 ≡ T

  last_of : (cs : List (ℕ × SessionId)) (c : ℕ × SessionId) (i : ℕ) (d : ℕ × SessionId) → slice_get (cs ++ c ∷ []) i ≡ Some d → (slice_get cs i ≡ Some d) ⊎ (c ≡ d)
  last_of [] c zero d e = inr (cc e)
  last_of [] c (suc i) d e = absurd (cc e)
  last_of (x ∷ cs) c zero d e = inl e
  last_of (x ∷ cs) c (suc i) d e = last_of cs c i d e

  -- its live session, if any, is of this term
  abbrev IsOfTerm : ℕ → Option Live → Type 0
  IsOfTerm T o = (live : Live) → o ≡ Some live → live.id.0 ≡ T

  same_term : (a b : SessionId) → same_session a b ≡ true → a.0 ≡ b.0
  same_term a b e = is_next a.0 b.0 (both_true (a.0 == b.0) (a.1 == b.1) e).0

  live_of : (T : ℕ) (o : Option Live) (id : SessionId) → IsOfTerm T o → is_live o id ≡ true → id.0 ≡ T
  live_of T None id h e = absurd (no_way e)
  live_of T (Some live) id h e = sym (same_term live.id id e) ∙ h live refl

  next_of : (T : ℕ) (o : Option Live) (id : SessionId) (n : ℕ) → IsOfTerm T o → is_next_line o id n ≡ true → id.0 ≡ T
  next_of T None id n h e = absurd (no_way e)
  next_of T (Some live) id n h e = live_of T (Some live) id h (both_true (same_session live.id id) (live.next == n) e).0

  now_of : (T next : ℕ) (id : SessionId) → id.0 ≡ T → IsOfTerm T (Some (record { id = id; next = next }))
  now_of T next id e live f =
      let is : ◌≡◌ {A = Live} (record { id = id; next = next }) live = cc f in
      ap (λ (l : Live). l.id.0) (sym is) ∙ e

  module _ (T : ℕ) (own : Origin) where
    session_of : (k : Leading) (c : Sessioned) → may_bring_session T k c ≡ true → IsOfTerm T k.live → IsOfTerm T (behind_session k c).live
    session_of k (fence.Opened id) e h =
        let p = both_true (is_idle k.live) (nat_lt k.attempts (2 ^ 60) && same_session (T, suc k.attempts) id) e in
        let q = both_true (nat_lt k.attempts (2 ^ 60)) (same_session (T, suc k.attempts) id) p.1 in
        now_of T 1 id (sym (same_term (T, suc k.attempts) id q.1))
    session_of k (fence.Shut id) e h = λ live f. absurd (none_is live f)
    session_of k (fence.Heard id n at line) e h = now_of T (suc n) id (next_of T k.live id n h (both_true (is_next_line k.live id n) (nat_lt n (2 ^ 60)) e).0)
    session_of k (fence.Inner c) e h = h

    -- what a leader keeps after a body that it may bring
    keeps_term : (k : Leading) (next : Option ℕ) (b : TowerBody) → may_bring T own k next b ≡ true → IsOfTerm T k.live → IsOfTerm T (behind k b).live
    keeps_term k next (body.Inner (claims.Inner c)) e h = session_of k c e h
    keeps_term k next (body.Inner (claims.Claim id n)) e h = h
    keeps_term k next (body.Asked o n at a) e h = h
    keeps_term k next body.Blank e h = h
    keeps_term k next (body.Mark m) e h = h

    claims_then : (k : Leading) (next : Option ℕ) (h : History TowerBody) (place : ℕ) (b : TowerBody) → may_bring T own k next b ≡ true → IsOfTerm T k.live → AreOfTerm T (claimed s h) → AreOfTerm T (claimed s ((place, b) ∷ h))
    claims_then k next h place b may of all =
        ⊎_elim
        (λ e i n id at. all i n id (ap (λ (l : List (ℕ × SessionId)). slice_get l i) (sym e) ∙ at))
        (λ p i n id at.
        let of_it : p.0.0 ≡ T = live_of T k.live p.0 of (both_true (is_live k.live p.0) (is_next_claim next p.1) (ap (may_bring T own k next) (sym p.2) ∙ may)).0 in
        let among : slice_get (claimed s h ++ (p.1, p.0) ∷ []) i ≡ Some (n, id) = ap (λ (l : List (ℕ × SessionId)). slice_get l i) (sym p.3) ∙ at in
        ⊎_elim (λ was. all i n id was) (λ is. ap (λ (c : ℕ × SessionId). c.1.0) (sym is) ∙ of_it) (last_of (claimed s h) (p.1, p.0) i (n, id) among))
        (adds h place b)

    claims_along : (later : List TowerBody) (k : Leading) (place : ℕ) (h : History TowerBody) → IsOfTerm T k.live → AreOfTerm T (claimed s h) → are_led (next_claim s) T own k place h later ≡ true
        → AreOfTerm T (claimed s (came place later h))
    claims_along [] k place h of all led = all
    claims_along (b ∷ later) k place h of all led =
        let p = both_true (may_bring T own k (next_claim s h) b) (are_led (next_claim s) T own (behind k b) (place + 1) ((place, b) ∷ h) later) led in
        claims_along later (behind k b) (place + 1) ((place, b) ∷ h) (keeps_term k (next_claim s h) b p.0 of) (claims_then k (next_claim s h) h place b p.0 of all) p.1

    none_of_term : AreOfTerm T (claimed s [])
    none_of_term i n id at = absurd (let e : slice_get (claimed s []) i ≡ None = ap (λ (l : List (ℕ × SessionId)). slice_get l i) none_claimed in none_is (n, id) (sym e ∙ at))

    -- the claims of a list that one leader brings are of sessions of its term
    pub claims_of_leader : (bodies : List TowerBody) → IsLed s T own bodies → (i n : ℕ) (id : SessionId) → slice_get (claimed s (run bodies)) i ≡ Some (n, id) → id.0 ≡ T
    claims_of_leader [] led = absurd (no_way led)
    claims_of_leader (b ∷ later) led =
        let p = both_true (is_blank b) (are_led (next_claim s) T own new_leader 2 ((1, b) ∷ []) later) led in
        claims_along later new_leader 2 ((1, b) ∷ []) (λ live f. absurd (none_is live f)) (first_of b p.0) p.1
      where
        first_of : (b : TowerBody) → is_blank b ≡ true → AreOfTerm T (claimed s ((1, b) ∷ []))
        first_of (body.Inner c) e = absurd (no_way e)
        first_of (body.Asked o n at a) e = absurd (no_way e)
        first_of body.Blank e = λ i n id at. none_of_term i n id (ap (λ (l : List (ℕ × SessionId)). slice_get l i) (sym (blank_adds [] 1)) ∙ at)
        first_of (body.Mark m) e = absurd (no_way e)

  -- settling a list adds no claim
  pub settled_claims : (floors : List (ℕ × ℕ)) (h : History TowerBody) → claimed s (settled floors h) ≡ claimed s h
  settled_claims [] h = buffers_add h 0 command.Down
  settled_claims (f ∷ floors) h = settled_claims floors ((0, of_buffers (command.NodeGone f.0 f.1)) ∷ h) ∙ buffers_add h 0 (command.NodeGone f.0 f.1)
