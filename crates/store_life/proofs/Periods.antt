-- What periods hand upstream.
use Rattle.std.proofs.Common.{◌≡◌, ℕ, zero, suc, ◌+◌, ◌-◌, ◌<◌, ◌≤◌, ◌⊎◌, inr, ⊎_elim, List, [], ◌∷◌, ◌++◌, length, slice_get, Some, sym, ap, subst, ◌∙◌, arith, append-nil, length-append}
use Rattle.irc_line.specs.Lines.{Parts}
use Rattle.wire_bytes.specs.declared.session_id.SessionId.{SessionId}
use Rattle.machine_laws.specs.Runs as machine
use Rattle.buffer_commands.specs.Settings.{Settings}
use Rattle.bouncer_tower.specs.Bodies.{TowerBody, TowerEffect, claimed, outgoing}
use Rattle.bouncer_tower.specs.Hosting.{class_of}
use Rattle.bouncer_tower.proofs.Handed.{claims_in_order}
use Rattle.raft_log.specs.declared.entry.Entry.{Entry}
use Rattle.raft_log.specs.Node.{Node}
use Rattle.raft_node.specs.Machine.{history}
use Rattle.agreement.specs.Laws.{IsAsUpToDateAs}
use Rattle.agreement.specs.World.{Begins, start}
use Rattle.world_run.specs.World.{Event, agreed, handed, left_of, outs, run}
use Rattle.world_run.specs.World as world
use Rattle.world_run.proofs.Tallies.{All}
use Rattle.world_views.specs.Openings.{restarts}
use Rattle.world_views.proofs.Histories.{outs-append}
use Rattle.world_views.proofs.Places.{get_past}
use Rattle.headline.specs.Tower.{tower}
use Rattle.headline.proofs.Hands.{handed_is_outgoing, handed_once}
use Rattle.store_life.specs.Renewed.{entries}
use Rattle.store_life.specs.Periods.{AgreedIsChosen, BegunIsAgreed, EachHandsItsLines, HandsItsLines, IsPeriod, Period, WereBegunAnew, WereNew, claimed_after, claimed_before, end_of, handed_in, opening_of}
use Rattle.store_life.proofs.Behind.{IsForeign, all_foreign}
use Rattle.store_life.proofs.Chosen.{agreed_in}
use Rattle.store_life.proofs.Claims.{claims_begin, claims_grow, claims_of_leader, line_of_longer, none_claimed}
use Rattle.store_life.proofs.Handing.{HasClaim, IsAbove, above_none, above_old, all_both, hands-append, left-append, left_claimed, numbers_above}
use Rattle.store_life.proofs.Left.{bodies_in}
use Rattle.store_life.proofs.Restarted.{agreed_begins, none_live}

pub some_below : {A : Type 0} (xs : List A) (i : ℕ) (x : A) → slice_get xs i ≡ Some x → i < length xs
some_below [] i x e = absurd (cc e)
some_below (y ∷ xs) zero x e = omega arith
some_below (y ∷ xs) (suc i) x e = let r = some_below xs i x e in omega arith

pub agreed_is_chosen : AgreedIsChosen
agreed_is_chosen p a =
    let best : IsAsUpToDateAs a.whole (end_of p) a.last.log = subst (λ (l : List (Entry TowerBody)). IsAsUpToDateAs a.whole (end_of p) l) (sym a.log_is) a.best in
    subst (λ (l : List (Entry TowerBody)). Begins (agreed (tower p.settings) p.size (p.before ++ p.events)) l) a.log_is
    (agreed_in (tower p.settings) p.size a.node (p.before ++ p.events) a.last a.there a.whole a.enough best)

pub begun_is_agreed : BegunIsAgreed
begun_is_agreed p a es =
    let same : agreed (tower p.settings) p.size (p.before ++ es) ≡ agreed (tower p.settings) (length a.boots) ((a.left_by ++ restarts (tower p.settings) (length a.boots)) ++ es) =
    λ d. agreed (tower p.settings) (a.sized d) (a.restarted d ++ es) in
    subst (λ (l : List (Entry TowerBody)). Begins (entries a.term p.begun) l) (sym same) (agreed_begins p.settings a.boots a.term p.begun a.left_by a.leaves es)

module _ (p : Period) where
  abbrev s : Settings
  s = p.settings

  -- the claims in what is agreed, whatever happens over these stores
  abbrev agreed_claims : List (Event (tower p.settings)) → List (ℕ × SessionId)
  agreed_claims es = claimed p.settings (history (agreed (tower p.settings) p.size (p.before ++ es)))

  -- what leaves in the period
  abbrev leaving : List TowerEffect
  leaving = left_of (tower p.settings) (outs (tower p.settings) p.events (opening_of p))

  none_new : WereNew p → claimed_before p ≡ 0
  none_new a = ap (λ (l : List TowerBody). length (claimed p.settings (machine.run l))) a.none_begun ∙ ap length (none_claimed p.settings)

  -- those begin with the claims of what was begun anew
  begun_claims : WereNew p ⊎ WereBegunAnew p → (es : List (Event (tower p.settings))) → (more : List (ℕ × SessionId)) × (agreed_claims es ≡ claimed p.settings (machine.run p.begun) ++ more)
  begun_claims o es =
      ⊎_elim
      (λ (a : WereNew p). (
        agreed_claims es,
        ap (λ (l : List (ℕ × SessionId)). l ++ agreed_claims es) (sym (ap (λ (l : List TowerBody). claimed p.settings (machine.run l)) a.none_begun ∙ none_claimed p.settings)),
      ))
      (λ (a : WereBegunAnew p).
      let r = claims_begin p.settings (entries a.term p.begun) (agreed (tower p.settings) p.size (p.before ++ es)) (begun_is_agreed p a es) in
      (r.0, r.1 ∙ ap (λ (l : List TowerBody). claimed p.settings (machine.run l) ++ r.0) (bodies_in a.term p.begun)))
      o

  has_claims : All (λ e. HasClaim (agreed_claims p.events) (class_of e)) leaving
  has_claims = left_claimed p.settings p.size p.before p.events

  all_of_new : WereNew p → All (λ e. IsAbove (claimed_before p) (class_of e)) leaving
  all_of_new a =
      subst (λ (k : ℕ). All (λ e. IsAbove k (class_of e)) leaving) (sym (none_new a))
      (all_both (λ (e : TowerEffect). Unit {0}) (λ e. HasClaim (agreed_claims p.events) (class_of e)) (λ e. IsAbove 0 (class_of e)) leaving
      (λ e x h. above_none p.settings (agreed_claims p.events) (λ i n id at. claims_in_order p.settings (history (agreed (tower p.settings) p.size (p.before ++ p.events))) i n id at) (class_of e) h)
      (all_trivial leaving) has_claims)
    where
      all_trivial : (es : List TowerEffect) → All (λ (e : TowerEffect). Unit {0}) es
      all_trivial [] = tt
      all_trivial (e ∷ es) = (tt, all_trivial es)

  foreign : (a : WereBegunAnew p) → All (λ e. IsForeign a.term (class_of e)) leaving
  foreign a =
      let before : List (Event (tower p.settings)) = a.left_by ++ restarts (tower p.settings) (length a.boots) in
      let f = all_foreign (tower p.settings) (length a.boots) a.term before (λ es. none_live p.settings a.boots a.term p.begun a.left_by a.leaves es) p.events [] in
      let same : opening_of p ≡ run (tower p.settings) (before ++ []) (start (length a.boots)) =
      (λ d. run (tower p.settings) (a.restarted d) (start (a.sized d))) ∙ ap (λ l. run (tower p.settings) l (start (length a.boots))) (sym (append-nil before)) in
      subst (λ (w : List (Node TowerBody)). All (λ e. IsForeign a.term (class_of e)) (left_of (tower p.settings) (outs (tower p.settings) p.events w))) (sym same) f

  all_of_begun : WereBegunAnew p → All (λ e. IsAbove (claimed_before p) (class_of e)) leaving
  all_of_begun a =
      let r = begun_claims (inr a) p.events in
      all_both (λ e. IsForeign a.term (class_of e)) (λ e. HasClaim (agreed_claims p.events) (class_of e)) (λ e. IsAbove (claimed_before p) (class_of e)) leaving
      (λ e f h. above_old p.settings a.term (claimed p.settings (machine.run p.begun)) (agreed_claims p.events) r.0 r.1 (claims_of_leader p.settings a.term _ p.begun a.anew.led)
      (λ i n id at. claims_in_order p.settings (history (agreed (tower p.settings) p.size (p.before ++ p.events))) i n id at) (class_of e) f h)
      (foreign a) has_claims

  all_above : WereNew p ⊎ WereBegunAnew p → All (λ e. IsAbove (claimed_before p) (class_of e)) leaving
  all_above o = ⊎_elim (λ (a : WereNew p). all_of_new a) (λ (a : WereBegunAnew p). all_of_begun a) o

  -- the lines of the period come after those that the events before it hand out
  abbrev earlier : List (ℕ × Parts)
  earlier = world.hands (tower p.settings) (left_of (tower p.settings) (outs (tower p.settings) p.before (start p.size)))

  parts : handed (tower p.settings) p.size (p.before ++ p.events) ≡ earlier ++ handed_in p
  parts =
      ap (λ o. world.hands (tower p.settings) (left_of (tower p.settings) o)) (outs-append (tower p.settings) p.before p.events (start p.size))
      ∙ ap (world.hands (tower p.settings)) (left-append p.settings (outs (tower p.settings) p.before (start p.size)) (outs (tower p.settings) p.events (opening_of p)))
      ∙ hands-append p.settings (left_of (tower p.settings) (outs (tower p.settings) p.before (start p.size))) leaving

  among : (i : ℕ) (h : ℕ × Parts) → slice_get (handed_in p) i ≡ Some h → slice_get (handed (tower p.settings) p.size (p.before ++ p.events)) (length earlier + i) ≡ Some h
  among i h at = ap (λ (l : List (ℕ × Parts)). slice_get l (length earlier + i)) parts ∙ get_past earlier (handed_in p) i h at

  module _ (a : IsPeriod p) where
    chosen : Begins (agreed (tower p.settings) p.size (p.before ++ p.events)) p.chosen
    chosen = agreed_is_chosen p a

    up : length (agreed_claims p.events) ≤ claimed_after p
    up = claims_grow p.settings (agreed (tower p.settings) p.size (p.before ++ p.events)) p.chosen chosen

    is_outgoing : (i n : ℕ) (line : Parts) → slice_get (handed_in p) i ≡ Some (n, line)
        → (slice_get (outgoing p.settings (history (agreed (tower p.settings) p.size (p.before ++ p.events)))) (n - 1) ≡ Some line) × ((c : ℕ) × (id : SessionId) × (slice_get (agreed_claims p.events) c ≡ Some (n, id)))
    is_outgoing i n line at = handed_is_outgoing p.settings p.size (p.before ++ p.events) (length earlier + i) n line (among i (n, line) at)

    pub hands_its_lines : HandsItsLines p
    hands_its_lines =
        record {
          above = λ i n line at. numbers_above p.settings (claimed_before p) leaving i n line (all_above a.opened) at;
          within = λ i n line at.
              let c = (is_outgoing i n line at).1 in
              let is : n ≡ c.0 + 1 = claims_in_order p.settings (history (agreed (tower p.settings) p.size (p.before ++ p.events))) c.0 n c.1 c.2 in
              let lt : c.0 < length (agreed_claims p.events) = some_below (agreed_claims p.events) c.0 (n, c.1) c.2 in
              omega (arith, is, lt, up);
          outgoing_is = λ i n line at. line_of_longer p.settings (agreed (tower p.settings) p.size (p.before ++ p.events)) p.chosen (n - 1) line chosen (is_outgoing i n line at).0;
          differ = λ i j n one other at at'.
              let e : length earlier + i ≡ length earlier + j = handed_once p.settings p.size (p.before ++ p.events) (length earlier + i) (length earlier + j) n one other (among i (n, one) at) (among j (n, other) at') in
              omega (arith, e);
          grows =
              let r = begun_claims a.opened p.events in
              let e : length (agreed_claims p.events) ≡ claimed_before p + length r.0 = ap length r.1 ∙ length-append (claimed p.settings (machine.run p.begun)) r.0 in
              omega (arith, e, up);
        }

pub each_hands_its_lines : EachHandsItsLines
each_hands_its_lines p a = hands_its_lines p a
