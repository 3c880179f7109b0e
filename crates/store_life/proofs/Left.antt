-- Some events leave what a led list begins anew.
use Rattle.std.proofs.Common.{◌≡◌, ℕ, zero, suc, ◌+◌, ◌<◌, ◌≤◌, ◌^◌, ⊎_elim, true, List, [], ◌∷◌, ◌++◌, map, length, take, get_or, slice_get, Option, Some, None, refl, sym, ap, subst, ◌∙◌, arith, append_assoc, append-nil, length-append}
use Rattle.std.proofs.lemmas.List.{map-append, take_all}
use lib.ListN.{length-map}
use Rattle.machine_laws.specs.Runs.{History, run}
use Rattle.machine_laws.proofs.Come.{came_one_more}
use Rattle.buffer_commands.specs.Settings.{Settings}
use Rattle.request_once.specs.declared.body.Body.TheVariants as body
use Rattle.bouncer_tower.specs.Bodies.{TowerBody, next_claim}
use Rattle.raft_log.specs.declared.entry.Entry.{Entry}
use Rattle.raft_log.specs.declared.node_state.Live.{Live}
use Rattle.raft_log.specs.Lists.{item, item_or}
use Rattle.raft_log.specs.Logs.{entry_limit}
use Rattle.raft_log.specs.Node.{Node}
use Rattle.raft_log.specs.Peers.{IsGroupSize}
use Rattle.raft_node.specs.Machine.{history}
use Rattle.raft_node.specs.Parts.{saved_by}
use Rattle.raft_node.specs.Steps.{Acts}
use Rattle.agreement.specs.World as core
use Rattle.world_run.specs.World as world
use Rattle.world_run.specs.World.{Event, happens}
use Rattle.headline.specs.Tower.{tower}
use Rattle.led_lists.specs.declared.leading.Leading.{Leading}
use Rattle.led_lists.specs.Led.{are_led, behind, is_blank, may_bring, new_leader}
use Rattle.store_life.specs.Renewed.{AnewIsLeft, Leaves, all_begun_anew, begun_anew, entries}
use Rattle.store_life.proofs.Adding.{Rest, appended, goes_round}
use Rattle.store_life.proofs.Bringing.{Does, appends, with_body, with_session}
use Rattle.store_life.proofs.First.{first_rest}
use Rattle.store_life.proofs.Hearing.{following, leading}
use Rattle.store_life.proofs.Lists.{both_true, no_way}
use Rattle.store_life.proofs.Reaching.{Becomes, Reaches, go_on, here, one_event, owned}
use Rattle.store_life.proofs.Rounds.{Stage}

-- the bodies of these entries
pub bodies_in : (T : ℕ) (bodies : List TowerBody) → map (λ (e : Entry TowerBody). e.body) (entries T bodies) ≡ bodies
bodies_in T [] = refl
bodies_in T (b ∷ bodies) = ap (λ (l : List TowerBody). b ∷ l) (bodies_in T bodies)

module _ (s : Settings) (size : ℕ) (boot : ℕ → ℕ) (T n : ℕ) (f : suc n ≡ size) (pos : 1 ≤ n) where
  -- Node 1 leads with these bodies as its log, and all have them.
  pub record HasLed (bodies : List TowerBody) (w : List (Node TowerBody)) : Type 0 where
    pub live : Option Live
    pub attempts : ℕ
    pub rest : Rest (tower s) size boot T n live attempts (entries T bodies) w

  entries_more : (done : List TowerBody) (b : TowerBody) → entries T done ++ record { term = T; body = b } ∷ [] ≡ entries T (done ++ b ∷ [])
  entries_more done b = sym (map-append (λ (x : TowerBody). let e : Entry TowerBody = record { term = T; body = x } in e) done (b ∷ []))

  module _ (done : List TowerBody) (live : Option Live) (attempts : ℕ) (b : TowerBody) (w : List (Node TowerBody)) (r : Rest (tower s) size boot T n live attempts (entries T done) w)
      (room : length done < entry_limit) (may : may_bring T (1, boot 1, 1) (record { live = live; attempts = attempts }) (next_claim s (run done)) b ≡ true) where
    abbrev after : Leading
    after = behind (record { live = live; attempts = attempts }) b

    -- what its machine has taken
    applied_all : history (take r.stage.lead.applied (entries T done)) ≡ run done
    applied_all =
        ap history (ap (λ (k : ℕ). take k (entries T done)) r.stage.applied_is ∙ take_all (length (entries T done)) (entries T done) (omega arith)) ∙ ap run (bodies_in T done)

    same_lead : leading (boot 1) T (entries T done) r.stage.lead ≡ with_session s (boot 1) T (entries T done) r.stage.lead live attempts
    same_lead = λ d. leading (boot 1) T (entries T done) (record r.stage.lead { live = r.stage.live_is d; attempts = r.stage.attempts_is d })

    it : Does s (boot 1) T (entries T done) r.stage.lead size (with_session s (boot 1) T (entries T done) r.stage.lead live attempts)
        (with_body s (boot 1) T (entries T done) r.stage.lead after.live after.attempts b)
    it = appends s (boot 1) T (entries T done) r.stage.lead size (let e = length-map done (λ (x : TowerBody). let y : Entry TowerBody = record { term = T; body = x } in y) in omega arith) live attempts (next_claim s (run done)) b
        (ap (next_claim s) applied_all) may

    u : List (Node TowerBody)
    u = happens (tower s) w (world.Does it.input)

    becomes : Becomes (tower s) size 1 (with_body s (boot 1) T (entries T done) r.stage.lead after.live after.attempts b) w u
    unfolding u
    becomes =
        let at : item w 1 ≡ Some (with_session s (boot 1) T (entries T done) r.stage.lead live attempts) =
        r.stage.leads ∙ ap (λ (x : Node TowerBody). let o : Option (Node TowerBody) = Some x in o) same_lead in
        let b1 = owned (tower s) size 1 w (with_session s (boot 1) T (entries T done) r.stage.lead live attempts) r.stage.long at (Acts it.act) in
        subst (λ (x : List (Node TowerBody)). Becomes (tower s) size 1 (with_body s (boot 1) T (entries T done) r.stage.lead after.live after.attempts b) w x) (sym (it.acts w))
        (subst (λ (x : Node TowerBody). Becomes (tower s) size 1 x w (world.world_by (tower s) w 1 (Acts it.act) (item w 1))) it.becomes b1)

    pub one_more : Reaches (tower s) w (Rest (tower s) size boot T n after.live after.attempts (entries T (done ++ b ∷ [])))
    unfolding u
    one_more =
        subst (λ (l : List (Entry TowerBody)). Reaches (tower s) w (Rest (tower s) size boot T n after.live after.attempts l)) (entries_more done b)
        (go_on (tower s) w (Stage (tower s) size boot T after.live after.attempts (length (entries T done)) (entries T done ++ record { term = T; body = b } ∷ []) 0)
        (Rest (tower s) size boot T n after.live after.attempts (entries T done ++ record { term = T; body = b } ∷ []))
        (one_event (tower s) w (Stage (tower s) size boot T after.live after.attempts (length (entries T done)) (entries T done ++ record { term = T; body = b } ∷ []) 0) (world.Does it.input)
        (appended (tower s) size boot T n live after.live attempts after.attempts (entries T done) (record { term = T; body = b }) w u r becomes f))
        (λ v st. goes_round (tower s) size boot T n after.live after.attempts (entries T done) (record { term = T; body = b }) v f pos refl st))

  -- the bodies that are left
  pub all_brought : (later done : List TowerBody) (live : Option Live) (attempts place : ℕ) (h : History TowerBody) (w : List (Node TowerBody)) → Rest (tower s) size boot T n live attempts (entries T done) w
      → place ≡ suc (length done) → h ≡ run done → are_led (next_claim s) T (1, boot 1, 1) (record { live = live; attempts = attempts }) place h later ≡ true → length done + length later ≤ entry_limit
      → Reaches (tower s) w (HasLed (done ++ later))
  all_brought [] done live attempts place h w r at is led few =
      here (tower s) w (HasLed (done ++ [])) record {
        live = live;
        attempts = attempts;
        rest = subst (λ (l : List TowerBody). Rest (tower s) size boot T n live attempts (entries T l) w) (sym (append-nil done)) r;
      }
  all_brought (b ∷ later) done live attempts place h w r at is led few =
      let k : Leading = record { live = live; attempts = attempts } in
      let p = both_true (may_bring T (1, boot 1, 1) k (next_claim s h) b) (are_led (next_claim s) T (1, boot 1, 1) (behind k b) (place + 1) ((place, b) ∷ h) later) led in
      let may : may_bring T (1, boot 1, 1) k (next_claim s (run done)) b ≡ true = subst (λ (g : History TowerBody). may_bring T (1, boot 1, 1) k (next_claim s g) b ≡ true) is p.0 in
      let next : place + 1 ≡ suc (length (done ++ b ∷ [])) = omega (arith, at, length-append done (b ∷ [])) in
      let last : 1 + length done ≡ place = omega (arith, at) in
      let came_b : (place, b) ∷ h ≡ run (done ++ b ∷ []) =
      ap (λ (g : History TowerBody). (place, b) ∷ g) is ∙ ap (λ (i : ℕ). (i, b) ∷ run done) (sym last) ∙ sym (came_one_more 1 done b []) in
      go_on (tower s) w (Rest (tower s) size boot T n (behind k b).live (behind k b).attempts (entries T (done ++ b ∷ []))) (HasLed (done ++ b ∷ later))
      (one_more done live attempts b w r (omega arith) may)
      (λ u q. subst (λ (l : List TowerBody). Reaches (tower s) u (HasLed l)) (append_assoc done (b ∷ []) later)
      (all_brought later (done ++ b ∷ []) (behind k b).live (behind k b).attempts (place + 1) ((place, b) ∷ h) u q next came_b p.1 (omega (arith, length-append done (b ∷ [])))))

-- lists that are the same by place
by_places : {X S : Type 0} (f : X → S) (g : ℕ → S) (w : List X) (boots : List ℕ) → length w ≡ length boots → ((k : ℕ) → k < length boots → (x : X) × (slice_get w k ≡ Some x) × (f x ≡ g (get_or boots k 1))) → map f w ≡ map g boots
by_places f g [] [] long h = refl
by_places f g [] (b ∷ boots) long h = absurd (omega arith)
by_places f g (y ∷ w) [] long h = absurd (omega arith)
by_places {X} f g (y ∷ w) (b ∷ boots) long h =
    let p = h 0 (omega arith) in
    let same : y ≡ p.0 = cc (p.1) in
    let first : f y ≡ g b = ap f same ∙ p.2 in
    let rest : map f w ≡ map g boots = by_places f g w boots (omega arith) (λ k lt. h (suc k) (omega arith)) in
    cc (first, rest)

module _ (s : Settings) (boots : List ℕ) (T n : ℕ) (f : suc n ≡ length boots) (pos : 1 ≤ n) (bodies : List TowerBody) (w : List (Node TowerBody)) where
  -- so all nodes have saved what is begun anew
  pub all_saved : HasLed s (length boots) (λ i. item_or boots i 1) T n f pos bodies w → map saved_by w ≡ all_begun_anew boots T (entries T bodies)
  all_saved h =
      by_places saved_by (λ b. begun_anew b T (entries T bodies)) w boots h.rest.stage.long (saved_at h)
    where
      saved_at : HasLed s (length boots) (λ i. item_or boots i 1) T n f pos bodies w → (k : ℕ) → k < length boots → (x : Node TowerBody) × (slice_get w k ≡ Some x) × (saved_by x ≡ begun_anew (get_or boots k 1) T (entries T bodies))
      saved_at h zero lt = (leading (get_or boots 0 1) T (entries T bodies) h.rest.stage.lead, h.rest.stage.leads, refl)
      saved_at h (suc k) lt =
          let kept = h.rest.stage.each (suc k) (omega arith) (omega arith) in
          let whole : kept.place ≡ length (entries T bodies) = kept.whole (omega arith) in (
            following (get_or boots (suc k) 1) T (take kept.place (entries T bodies)) kept.node,
            kept.there,
            ap (λ (l : List (Entry TowerBody)). begun_anew (get_or boots (suc k) 1) T l) (ap (λ (i : ℕ). take i (entries T bodies)) whole ∙ take_all (length (entries T bodies)) (entries T bodies) (omega arith)),
          )

leaves_so : (s : Settings) (boots : List ℕ) (T n : ℕ) (f : suc n ≡ length boots) (pos : 1 ≤ n) (bodies : List TowerBody) (es : List (Event (tower s)))
    → HasLed s (length boots) (λ i. item_or boots i 1) T n f pos bodies (world.run (tower s) es (core.start (length boots))) → Leaves s es boots T bodies
leaves_so s boots T n f pos bodies es h =
    record {
      saved = all_saved s boots T n f pos bodies (world.run (tower s) es (core.start (length boots))) h;
      first = leading (item_or boots 1 1) T (entries T bodies) h.rest.stage.lead;
      there = h.rest.stage.leads;
      leads = refl;
      in_term = refl;
      all_committed =
          ap (λ (k : ℕ). take k (entries T bodies)) h.rest.committed ∙ take_all (length (entries T bodies)) (entries T bodies) (omega arith);
    }

-- a body that is blank
blank_is : (b : TowerBody) → is_blank b ≡ true → b ≡ body.Blank
blank_is (body.Inner c) e = absurd (no_way e)
blank_is (body.Asked o n at action) e = absurd (no_way e)
blank_is body.Blank e = refl
blank_is (body.Mark m) e = absurd (no_way e)

-- the run of a node of the list
pub run_at : (boots : List ℕ) (i : ℕ) → 1 ≤ i → i ≤ length boots → item boots i ≡ Some (item_or boots i 1)
run_at boots zero pos h = absurd (omega arith)
run_at [] (suc i) pos h = absurd (omega arith)
run_at (b ∷ boots) (suc zero) pos h = refl
run_at (b ∷ boots) (suc (suc i)) pos h = run_at boots (suc i) (omega arith) (omega arith)

some_others : (n : ℕ) → IsGroupSize (suc n) → 1 ≤ n
some_others n g = ⊎_elim (λ e. omega arith) (λ h. ⊎_elim (λ e. omega arith) (λ e. omega arith) h) g

module _ (s : Settings) where
  from_blank : (boot : ℕ) (boots : List ℕ) (t : ℕ) (later : List TowerBody) → IsGroupSize (length (boot ∷ boots)) → ((i b : ℕ) → item (boot ∷ boots) i ≡ Some b → 1 ≤ b) → suc t ≤ 2 ^ 60
      → length (body.Blank ∷ later) ≤ entry_limit → are_led (next_claim s) (suc t) (1, boot, 1) new_leader 2 ((1, body.Blank) ∷ []) later ≡ true
      → (es : List (Event (tower s))) × Leaves s es (boot ∷ boots) (suc t) (body.Blank ∷ later)
  from_blank boot boots t later group runs high few led =
      let all : List ℕ = boot ∷ boots in
      let pos : 1 ≤ length boots = some_others (length boots) group in
      let r : Reaches (tower s) (core.start (length all)) (HasLed s (length all) (λ i. item_or all i 1) (suc t) (length boots) refl pos (body.Blank ∷ later)) =
      go_on (tower s) (core.start (length all)) (Rest (tower s) (length all) (λ i. item_or all i 1) (suc t) (length boots) None 0 (entries (suc t) (body.Blank ∷ [])))
      (HasLed s (length all) (λ i. item_or all i 1) (suc t) (length boots) refl pos (body.Blank ∷ later))
      (first_rest (tower s) (length all) (λ i. item_or all i 1) t (length boots) refl pos (λ i low within. runs i (item_or all i 1) (run_at all i low within)) high)
      (λ w q. all_brought s (length all) (λ i. item_or all i 1) (suc t) (length boots) refl pos later (body.Blank ∷ []) None 0 2 ((1, body.Blank) ∷ []) w q refl refl led (omega arith)) in
      (r.0, leaves_so s all (suc t) (length boots) refl pos (body.Blank ∷ later) r.0 r.1)

  -- what is begun anew is what some events leave
  pub left : AnewIsLeft s
  left [] T bodies a = absurd (no_group a.group)
    where
      no_group : IsGroupSize 0 → ⊥
      no_group g = ⊎_elim (λ e. omega arith) (λ h. ⊎_elim (λ e. omega arith) (λ e. omega arith) h) g
  left (boot ∷ boots) zero bodies a = absurd (let h : 1 ≤ 0 = a.above in omega arith)
  left (boot ∷ boots) (suc t) [] a = absurd (no_way a.led)
  left (boot ∷ boots) (suc t) (b ∷ later) a =
      let p = both_true (is_blank b) (are_led (next_claim s) (suc t) (1, boot, 1) new_leader 2 ((1, b) ∷ []) later) a.led in
      let is : b ≡ body.Blank = blank_is b p.0 in
      let led : are_led (next_claim s) (suc t) (1, boot, 1) new_leader 2 ((1, body.Blank) ∷ []) later ≡ true =
      subst (λ (x : TowerBody). are_led (next_claim s) (suc t) (1, boot, 1) new_leader 2 ((1, x) ∷ []) later ≡ true) is p.1 in
      subst (λ (x : TowerBody). (es : List (Event (tower s))) × Leaves s es (boot ∷ boots) (suc t) (x ∷ later)) (sym is)
      (from_blank boot boots t later a.group a.runs a.within a.few led)
