-- That looks whether a message was taken, and requests that are asked, leave a cell its node's.
use Rattle.std.proofs.Common.{◌≡◌, ◌↔◌, inl, inr, ⊎_elim, ℕ, zero, suc, Bool, true, false, not, List, [], ◌∷◌, take, Option, None, Some, refl, sym, ap, subst}
use Rattle.raft_log.specs.Batches.{batch_limit}
use Rattle.raft_node.specs.Machine.{Machine}
use Rattle.raft_log.specs.declared.position.Position.{Position}
use Rattle.raft_log.specs.declared.position.Position.TheVariants.{Follower, Candidate, Leader}
use Rattle.raft_node.specs.declared.input.Input.TheVariants as input
use Rattle.node_cells.specs.declared.phase.Phase.{Phase}
use Rattle.node_cells.specs.declared.phase.Phase.TheVariants.{Up, DownInTurn, DownInTurns, DownInRestart}
use Rattle.node_cells.specs.Cells.{CellParts}
use Rattle.node_cells.specs.Openings.{HasSeenTo}
use Rattle.node_cells.specs.Turns.{CellOf}
use Rattle.node_cells.specs.Upstreams.{Tally}
use Rattle.node_threads.specs.declared.worker_loop.requests.Request.{Request}
use Rattle.node_threads.specs.Asking.{HasLeft, HasSeenIf, MayAsk, MayIn, MayUp, term_in}
use Rattle.node_threads.specs.Homes.{IsSameHome}
use Rattle.node_threads.specs.Requests.{request}
use Rattle.node_threads.specs.Waiting.{Account}
use Rattle.node_threads.specs.Work.{AsksBefore, AsksWhere, HasAskedEach, HasAskedFirstOf, HasAskedOn, HasAskedOne, HasAskedTogether, HasAskedUpTo, HasHadTurn, HasTriedTogether}
use Rattle.node_threads.specs.Together.{asks_of}
use Rattle.node_threads.proofs.Home.{home_after_all, home_after_input, home_after_seen, same_home, same_home_still}

-- that none waits, by what says whether one does
pub none_left : {A : Type 0} (some : Bool) (waiting : List A) → (some ≡ false → waiting ≡ []) → (waiting ≡ [] → some ≡ false) → (not some ≡ true) ↔ (waiting ≡ [])
none_left true waiting none waits = (λ is. absurd (cc is), λ is. absurd (let clash : true ≡ false = waits is in cc clash))
none_left false waiting none waits = (λ is. none refl, λ is. refl)

module _ {Setup Hosted Store B L T E P U : Type 0} where
  pub home_seen_if : (node : ℕ) (c : CellParts Setup Hosted Store B L T E P U) (taken : Bool) (d : CellParts Setup Hosted Store B L T E P U) → HasSeenIf node c taken d → IsSameHome c d
  home_seen_if node c taken d h =
      ⊎_elim (λ (s : (to : ℕ) × (node ≡ suc to) × HasSeenTo c to taken d). home_after_seen c s.0 taken d s.2) (λ (s : (taken ≡ false) × (d ≡ c)). same_home c d s.1) h

  in_position : (p : Position) (c : CellParts Setup Hosted Store B L T E P U) (may : Bool) (d : CellParts Setup Hosted Store B L T E P U) → MayIn p c may d → IsSameHome c d
  in_position (Follower None) c may d h = same_home c d h.1
  in_position (Follower (Some leader)) c may d h = home_seen_if leader c may d h
  in_position Candidate c may d h = same_home c d h.1
  in_position (Leader live) c may d h = same_home c d h.1

  in_phase : (p : Phase B L T) (c : CellParts Setup Hosted Store B L T E P U) (may : Bool) (d : CellParts Setup Hosted Store B L T E P U) → MayUp p c may d → IsSameHome c d
  in_phase Up c may d h = in_position c.node.state.standing.position c may d h
  in_phase (DownInTurn x copy done) c may d h = same_home c d h.1
  in_phase (DownInTurns inputs copies answers) c may d h = same_home c d h.1
  in_phase DownInRestart c may d h = same_home c d h.1

  -- after a look whether the node may ask
  pub home_may : (c : CellParts Setup Hosted Store B L T E P U) (may : Bool) (d : CellParts Setup Hosted Store B L T E P U) → MayAsk c may d → IsSameHome c d
  home_may c may d h = in_phase c.phase c may d h

  seen_if_node : (node : ℕ) (c : CellParts Setup Hosted Store B L T E P U) (taken : Bool) (d : CellParts Setup Hosted Store B L T E P U) → HasSeenIf node c taken d → d.node ≡ c.node
  seen_if_node node c taken d h =
      ⊎_elim (λ (s : (to : ℕ) × (node ≡ suc to) × HasSeenTo c to taken d). s.2.same.node_is) (λ (s : (taken ≡ false) × (d ≡ c)). ap (λ z. z.node) s.1) h

  node_in_position : (p : Position) (c : CellParts Setup Hosted Store B L T E P U) (may : Bool) (d : CellParts Setup Hosted Store B L T E P U) → MayIn p c may d → d.node ≡ c.node
  node_in_position (Follower None) c may d h = ap (λ z. z.node) h.1
  node_in_position (Follower (Some leader)) c may d h = seen_if_node leader c may d h
  node_in_position Candidate c may d h = ap (λ z. z.node) h.1
  node_in_position (Leader live) c may d h = ap (λ z. z.node) h.1

  node_in_phase : (p : Phase B L T) (c : CellParts Setup Hosted Store B L T E P U) (may : Bool) (d : CellParts Setup Hosted Store B L T E P U) → MayUp p c may d → d.node ≡ c.node
  node_in_phase Up c may d h = node_in_position c.node.state.standing.position c may d h
  node_in_phase (DownInTurn x copy done) c may d h = ap (λ z. z.node) h.1
  node_in_phase (DownInTurns inputs copies answers) c may d h = ap (λ z. z.node) h.1
  node_in_phase DownInRestart c may d h = ap (λ z. z.node) h.1

  -- a look whether the node may ask leaves it in its term
  pub term_seen : (c : CellParts Setup Hosted Store B L T E P U) (may : Bool) (d : CellParts Setup Hosted Store B L T E P U) → MayAsk c may d → term_in d ≡ term_in c
  term_seen c may d h = ap (λ n. n.state.standing.term) (node_in_phase c.phase c may d h)

  -- after a look whether the leader took a request
  pub home_left : (request : Option ℕ) (c : CellParts Setup Hosted Store B L T E P U) (left : Option ℕ) (d : CellParts Setup Hosted Store B L T E P U) → HasLeft request c left d → IsSameHome c d
  home_left None c left d h = same_home c d h.1
  home_left (Some leader) c left d h = home_seen_if leader c h.0 d h.1

module _ (M : Machine) {Setup Hosted Store U : Type 0} (tally : U → Tally) where
  home_where : (body : M.Body) (may asked : Bool) (c d : CellOf M Setup Hosted Store U) → AsksWhere M tally body may asked c d → IsSameHome c d
  home_where body true true c d h = home_after_input M tally c (input.Ask body) d h
  home_where body true false c d h = absurd h
  home_where body false true c d h = absurd h
  home_where body false false c d h = same_home c d h

  pub home_first_of : (waiting : List (Request M.Body)) (asked : Bool) (c d : CellOf M Setup Hosted Store U) → HasAskedFirstOf M tally waiting asked c d → IsSameHome c d
  home_first_of [] asked c d h = same_home c d h.1
  home_first_of (r ∷ waiting) asked c d h = same_home_still c h.seen d (home_may c h.may h.seen h.looked) (home_where r.body h.may asked h.seen d h.asks)

  pub home_asked_one : (a : Account M.Body) (asked : Bool) (c : CellOf M Setup Hosted Store U) (b : Account M.Body) (d : CellOf M Setup Hosted Store U) → HasAskedOne M tally a asked c b d
      → IsSameHome c d
  home_asked_one a asked c b d h = home_first_of a.requests.waiting asked c d h.cell

  home_up_to : (n : ℕ) (a : Account M.Body) (c : CellOf M Setup Hosted Store U) (over : Bool) (b : Account M.Body) (d : CellOf M Setup Hosted Store U) → HasAskedUpTo M tally n a c over b d
      → IsSameHome c d
  home_up_to zero a c over b d h = same_home c d h.2
  home_up_to (suc n) a c over b d h =
      ⊎_elim (λ (s : HasAskedOne M tally a false c b d × (over ≡ true)). home_asked_one a false c b d s.0)
      (λ (s : (m : Account M.Body) × (e : CellOf M Setup Hosted Store U) × HasAskedOne M tally a true c m e × HasAskedUpTo M tally n m e over b d).
      same_home_still c s.1 d (home_asked_one a true c s.0 s.1 s.2) (home_up_to n s.0 s.1 over b d s.3)) h

  pub home_asked : (a : Account M.Body) (c : CellOf M Setup Hosted Store U) (over : Bool) (b : Account M.Body) (d : CellOf M Setup Hosted Store U) → HasAskedOn M tally a c over b d → IsSameHome c d
  home_asked a c over b d h =
      ⊎_elim
      (λ (t : HasAskedTogether M tally a c b d × ((over ≡ true) ↔ (b.requests.waiting ≡ []))). home_after_all M (asks_of (take batch_limit a.requests.waiting)) c d t.0.turned)
      (λ (e : HasAskedEach M tally a c over b d). home_up_to e.0 a c over b d e.2) h

  pub home_before : (asks : Bool) (a : Account M.Body) (c : CellOf M Setup Hosted Store U) (b : Account M.Body) (d : CellOf M Setup Hosted Store U) → AsksBefore M tally asks a c b d → IsSameHome c d
  home_before true a c b d h = home_asked_one a h.0 c b d h.1
  home_before false a c b d h = same_home c d h.1

  -- none was asked
  pub asked_none : (a : Account M.Body) (c d : CellOf M Setup Hosted Store U) → HasAskedFirstOf M tally a.requests.waiting false c d → HasAskedOne M tally a false c a d
  asked_none a c d h = record { cell = h; requests = refl }

  -- one more request is asked
  pub asks_next : (n : ℕ) (a : Account M.Body) (asked : Bool) (c : CellOf M Setup Hosted Store U) (m : Account M.Body) (e : CellOf M Setup Hosted Store U) (over : Bool) (b : Account M.Body)
      (d : CellOf M Setup Hosted Store U) → asked ≡ true → HasAskedOne M tally a asked c m e → HasAskedUpTo M tally n m e over b d → HasAskedUpTo M tally (suc n) a c over b d
  asks_next n a asked c m e over b d is one rest = inr (m, e, subst (λ (z : Bool). HasAskedOne M tally a z c m e) is one, rest)

  -- none is
  pub asks_last : (n : ℕ) (a : Account M.Body) (asked : Bool) (c : CellOf M Setup Hosted Store U) (b : Account M.Body) (d : CellOf M Setup Hosted Store U) → asked ≡ false
      → HasAskedOne M tally a asked c b d → HasAskedUpTo M tally (suc n) a c true b d
  asks_last n a asked c b d is one = inl (subst (λ (z : Bool). HasAskedOne M tally a z c b d) is one, refl)

  pub asks_together : (a : Account M.Body) (asked : Bool) (c : CellOf M Setup Hosted Store U) (over : Bool) (b : Account M.Body) (d : CellOf M Setup Hosted Store U) → asked ≡ true
      → (over ≡ true) ↔ (b.requests.waiting ≡ []) → HasTriedTogether M tally a asked c b d → HasAskedOn M tally a c over b d
  asks_together a true c over b d is none h = inl (h, none)
  asks_together a false c over b d is none h = absurd (cc is)

  pub not_together : (a : Account M.Body) (asked : Bool) (c : CellOf M Setup Hosted Store U) (b : Account M.Body) (d : CellOf M Setup Hosted Store U) → asked ≡ false
      → HasTriedTogether M tally a asked c b d → (b ≡ a) × (d ≡ c)
  not_together a true c b d is h = absurd (cc is)
  not_together a false c b d is h = h

  -- those that were not asked together are asked one by one
  pub asks_behind : (a : Account M.Body) (c : CellOf M Setup Hosted Store U) (m : Account M.Body) (e : CellOf M Setup Hosted Store U) (over : Bool) (b : Account M.Body)
      (d : CellOf M Setup Hosted Store U) → m ≡ a → e ≡ c → HasAskedEach M tally m e over b d → HasAskedOn M tally a c over b d
  asks_behind a c m e over b d is same h =
      inr (subst (λ (z : Account M.Body × CellOf M Setup Hosted Store U). HasAskedEach M tally z.0 z.1 over b d) (λ i. (is i, same i)) h)

  pub asks_none : (a : Account M.Body) (c : CellOf M Setup Hosted Store U) → HasAskedUpTo M tally zero a c false a c
  asks_none a c = (refl, refl, refl)

  -- if none waits
  pub none_waits : (waiting : List (Request M.Body)) (c : CellOf M Setup Hosted Store U) → waiting ≡ [] → HasAskedFirstOf M tally waiting false c c
  none_waits waiting c none = subst (λ (l : List (Request M.Body)). HasAskedFirstOf M tally l false c c) (sym none) (refl, refl)

  -- if one waits, and the node may not ask
  pub may_not : (waiting : List (Request M.Body)) (c d : CellOf M Setup Hosted Store U) → (waiting ≡ [] → ⊥) → MayAsk c false d → HasAskedFirstOf M tally waiting false c d
  may_not [] c d some looked = absurd (some refl)
  may_not (r ∷ waiting) c d some looked = record { may = false; seen = d; looked = looked; asks = refl }

  -- if it may
  pub may_ask : (waiting rest : List (Request M.Body)) (note : ℕ) (body : M.Body) (c b d : CellOf M Setup Hosted Store U) → waiting ≡ request note body ∷ rest → MayAsk c true b
      → HasHadTurn M tally b (input.Ask body) d → HasAskedFirstOf M tally waiting true c d
  may_ask waiting rest note body c b d is looked turned =
      subst (λ (l : List (Request M.Body)). HasAskedFirstOf M tally l true c d) (sym is) (record { may = true; seen = b; looked = looked; asks = turned })
