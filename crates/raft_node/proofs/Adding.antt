-- Inputs that only append, planned one after the other.
use Rattle.std.proofs.Common.{◌≡◌, ℕ, ◌+◌, ◌≤◌, true, false, List, [], ◌∷◌, ◌++◌, Option, None, Result, length, take, refl, sym, ap, subst, ◌∙◌, arith, append_assoc, append-nil, length-append}
use Rattle.std.specs.List.{AllByRecursion}
use Rattle.std.proofs.lemmas.List.{take-append-le, take_all}
use Rattle.raft_log.specs.declared.entry.Entry.{Entry}
use Rattle.raft_log.specs.declared.message.Message.{Message}
use Rattle.raft_log.specs.declared.node_state.Live.{Live}
use Rattle.raft_log.specs.declared.node_state.NodeState.{NodeState}
use Rattle.raft_log.specs.declared.node_state.Standing.{Standing}
use Rattle.raft_log.specs.declared.position.Position.{Position}
use Rattle.raft_log.specs.declared.position.Position.TheVariants as position
use Rattle.raft_log.specs.declared.role.Role.{Role}
use Rattle.raft_log.specs.declared.role.Role.TheVariants.{Leader}
use Rattle.raft_log.specs.declared.step.Step.{Step}
use Rattle.raft_log.specs.Batches.{batch_limit}
use Rattle.raft_log.specs.Logs.{entry_limit}
use Rattle.raft_log.specs.Node.{Node, is_leader}
use Rattle.raft_log.specs.Positions.{leader_of, live_of, role_of}
use Rattle.raft_log.specs.Seen.{node_of, seen}
use Rattle.raft_log.specs.Steps.{after, log_after}
use Rattle.node_steps.specs.declared.refusal.Refusal.{Refusal}
use Rattle.node_steps.specs.Plans.{CountsLines, Plan, Goes, Declines}
use Rattle.raft_node.specs.declared.input.Input.{Input}
use Rattle.raft_node.specs.declared.input.Input.TheVariants.{Timeout, Beat, Deliver, Ask, Opened, Closed, Heard, Claim, Apply}
use Rattle.raft_node.specs.declared.addition.Addition.{Addition}
use Rattle.raft_node.specs.declared.together.Together.{Together}
use Rattle.raft_node.specs.Inputs.{Bodies, input_plan, is_apply}
use Rattle.raft_node.specs.Kept.{MayStand}
use Rattle.raft_node.specs.Machine.{history}
use Rattle.raft_node.specs.Parts.{size_of}
use Rattle.raft_node.specs.Sound.{IsSound}
use Rattle.raft_node.specs.Together.{ArePlanned, IsTakenIn, OnlyAppends, addition_plan, answer, answers, leading, led, planned, planned_all}
use Rattle.raft_node.proofs.Counting.{Counted, goes_counts, more_entries}
use Rattle.raft_node.proofs.Standing.{Keeps, goes_keeps}

-- a leader knows no other leader
leads : (p : Position) → is_leader (role_of p) ≡ true → (role_of p ≡ Leader) × (leader_of p ≡ None)
leads (position.Follower leader) h = absurd cc
leads position.Candidate h = absurd cc
leads (position.Leader live) h = (refl, refl)

-- no items are left if there are none
pub none_left : {A : Type 0} (xs : List A) (n : ℕ) → n ≡ length xs → n ≡ 0 → xs ≡ []
none_left [] n long none = refl
none_left (x ∷ xs) n long none = absurd (cc (sym long ∙ none))

-- what only appends applies nothing
pub saves : {D B L : Type 0} (input : Input D B L) → OnlyAppends input → is_apply input ≡ false
saves Timeout h = refl
saves Beat h = refl
saves (Deliver m) h = refl
saves (Ask body) h = refl
saves Opened h = refl
saves Closed h = refl
saves (Heard at line) h = refl
saves Claim h = refl
saves Apply h = absurd (cc h)

-- a node is sound after its plan took effect, and what it applied stays
pub record StaysOn {B : Type 0} (size : ℕ) (s t : Node B) : Type 0 where
  pub sound : IsSound size t
  pub front : take s.applied t.log ≡ take s.applied s.log
  pub applied : t.applied ≡ s.applied
  pub counted : Counted s → Counted t

module _ {B L : Type 0} (b : Bodies B L) (next : Option ℕ) (size i : ℕ) (input : Input (Message B) B L) (h : OnlyAppends input) (s : Node B) (sound : IsSound size s) where
  stays_by : (p : Plan B) → input_plan b next size i input s ≡ p → StaysOn size s (planned s p)
  stays_by (Goes t) e =
      let k : Keeps size s t = goes_keeps b next size i input (saves input h) s t sound e in
      record { sound = k.sound; front = k.front; applied = k.applied; counted = goes_counts b next size i s (record { of = sound.2 }) input t e }
  stays_by (Declines refusal) e = record { sound = sound; front = refl; applied = refl; counted = λ c. c }

  pub stays_on : StaysOn size s (planned s (input_plan b next size i input s))
  stays_on = stays_by (input_plan b next size i input s) refl

-- What holds while inputs are planned: what is left gives the result of all, after the answers so far.
pub record IsUnderWay {A B : Type 0} (plan : A → Node B → Plan B) (fits : A → Type 0) (size : ℕ) (state : NodeState B) (inputs left : List A) (t : Together B) : Type 0 where
  pub node : (sent : List (Message B)) → planned_all plan left (led state t sent) ≡ planned_all plan inputs (seen state sent)
  pub answers_are : (sent : List (Message B)) → t.answers.items ++ answers plan left (led state t sent) ≡ answers plan inputs (seen state sent)
  pub sound : IsSound size (led state t [])
  pub counts : CountsLines t.live (length (state.log ++ t.entries.items))
  pub room : length state.log + length t.entries.items ≤ entry_limit
  pub few : length t.entries.items + length left ≤ batch_limit
  pub appends : AllByRecursion fits left

module _ {B : Type 0} (state : NodeState B) where
  led_so : (sent : List (Message B)) (r : Role) (l : Option ℕ) → r ≡ Leader → l ≡ None
      → node_of (leading state.standing (live_of state.standing.position) state.standing.attempts) state.log sent
      ≡ record (seen state sent) { role = r; leader = l }
  led_so sent r l er el = rw (er, el) refl

  led_starts : (t : Together B) → is_leader (role_of state.standing.position) ≡ true → t.live ≡ live_of state.standing.position → t.attempts ≡ state.standing.attempts → t.entries.items ≡ []
      → (sent : List (Message B)) → led state t sent ≡ seen state sent
  led_starts t h el ea ee sent =
      let k = leads state.standing.position h in
      ap (λ (x : Option Live). node_of (leading state.standing x t.attempts) (state.log ++ t.entries.items) sent) el
      ∙ (ap (λ (n : ℕ). node_of (leading state.standing (live_of state.standing.position) n) (state.log ++ t.entries.items) sent) ea
      ∙ (ap (λ (l : List (Entry B)). node_of (leading state.standing (live_of state.standing.position) state.standing.attempts) l sent) (ap (λ (l : List (Entry B)). state.log ++ l) ee ∙ append-nil state.log)
      ∙ led_so sent (role_of state.standing.position) (leader_of state.standing.position) k.0 k.1))

module _ {B L : Type 0} (b : Bodies B L) (next : Option ℕ) (i : ℕ) (state : NodeState B) (inputs : List (Input (Message B) B L)) where
  abbrev pub plan : Input (Message B) B L → Node B → Plan B
  plan = input_plan b next (size_of state) i

  abbrev pub UnderWay : List (Input (Message B) B L) → Together B → Type 0
  UnderWay = IsUnderWay plan OnlyAppends (size_of state) state inputs

  begins : (t : Together B) → is_leader (role_of state.standing.position) ≡ true → IsSound (size_of state) (seen state [])
      → CountsLines (live_of state.standing.position) (length state.log) → AllByRecursion OnlyAppends inputs → length inputs ≤ batch_limit → length state.log ≤ entry_limit
      → t.live ≡ live_of state.standing.position → t.attempts ≡ state.standing.attempts → t.entries.items ≡ [] → t.answers.items ≡ [] → UnderWay inputs t
  begins t h sound counts appends few limit el ea ee eg =
      let is : (sent : List (Message B)) → led state t sent ≡ seen state sent = led_starts state t h el ea ee in
      let none : length t.entries.items ≡ 0 = ap (λ (l : List (Entry B)). length l) ee in
      record {
        node = λ sent. ap (λ (s : Node B). planned_all plan inputs s) (is sent);
        answers_are = λ sent.
            ap (λ (g : List (Result (Unit {0}) Refusal)). g ++ answers plan inputs (led state t sent)) eg
            ∙ ap (λ (s : Node B). answers plan inputs s) (is sent);
        sound = subst (λ (s : Node B). IsSound (size_of state) s) (sym (is [])) sound;
        counts = subst (λ (s : Node B). CountsLines s.live (length s.log)) (sym (is [])) counts;
        room = omega (arith, limit, none);
        few = omega (arith, few, none);
        appends = appends;
      }

  -- the beginning
  pub sets_out : (left : List (Input (Message B) B L)) (t : Together B) → left ≡ inputs → is_leader (role_of state.standing.position) ≡ true → IsSound (size_of state) (seen state [])
      → CountsLines (live_of state.standing.position) (length state.log) → AllByRecursion OnlyAppends inputs → length inputs ≤ batch_limit → length state.log ≤ entry_limit
      → t.live ≡ live_of state.standing.position → t.attempts ≡ state.standing.attempts → t.entries.items ≡ [] → t.answers.items ≡ [] → UnderWay left t
  sets_out left t all h sound counts appends few limit el ea ee eg =
      subst (λ (l : List (Input (Message B) B L)). UnderWay l t) (sym all) (begins t h sound counts appends few limit el ea ee eg)

  -- the session's next line is not past what a log holds
  pub counts_within : (left : List (Input (Message B) B L)) (t : Together B) → UnderWay left t → (standing : Standing) → standing ≡ leading state.standing t.live t.attempts
      → CountsLines (live_of standing.position) entry_limit
  counts_within left t w standing e =
      subst (λ (x : Standing). CountsLines (live_of x.position) entry_limit) (sym e)
      (more_entries t.live _ entry_limit (omega (arith, w.room, length-append state.log t.entries.items)) w.counts)

  -- what is said of a standing and each log, of this leader
  pub said : (input : Input (Message B) B L) (added : Result (Option (Addition B)) Refusal) (t : Together B) (standing : Standing) → standing ≡ leading state.standing t.live t.attempts
      → ((log : List (Entry B)) (sent : List (Message B)) → plan input (node_of standing log sent) ≡ addition_plan added (node_of standing log sent))
      → (sent : List (Message B)) → plan input (led state t sent) ≡ addition_plan added (led state t sent)
  said input added t standing e h sent =
      subst (λ (x : Standing). plan input (node_of x (state.log ++ t.entries.items) sent) ≡ addition_plan added (node_of x (state.log ++ t.entries.items) sent)) e
      (h (state.log ++ t.entries.items) sent)

  -- one input more
  pub goes_on : (left rest : List (Input (Message B) B L)) (input : Input (Message B) B L) (p : Node B → Plan B) (t u : Together B) → UnderWay left t → left ≡ input ∷ rest
      → ((sent : List (Message B)) → plan input (led state t sent) ≡ p (led state t sent)) → IsTakenIn p state t u → UnderWay rest u
  goes_on left rest input p t u w e same taken = by (subst (λ (l : List (Input (Message B) B L)). UnderWay l t) e w)
    where
      is : (sent : List (Message B)) → led state u sent ≡ planned (led state t sent) (plan input (led state t sent))
      is sent = taken.node sent ∙ ap (λ (q : Plan B). planned (led state t sent) q) (sym (same sent))

      by : UnderWay (input ∷ rest) t → UnderWay rest u
      by w =
          let k : StaysOn (size_of state) (led state t []) (planned (led state t []) (plan input (led state t []))) = stays_on b next (size_of state) i input w.appends.0 (led state t []) w.sound in
          record {
            node = λ sent. ap (λ (s : Node B). planned_all plan rest s) (is sent) ∙ w.node sent;
            answers_are = λ sent.
                ap (λ (g : List (Result (Unit {0}) Refusal)). g ++ answers plan rest (led state u sent)) (taken.answers_are sent)
                ∙ (append_assoc t.answers.items (answer (p (led state t sent)) ∷ []) (answers plan rest (led state u sent))
                ∙ (ap (λ (q : Plan B). t.answers.items ++ answer q ∷ answers plan rest (led state u sent)) (sym (same sent))
                ∙ (ap (λ (s : Node B). t.answers.items ++ answer (plan input (led state t sent)) ∷ answers plan rest s) (is sent) ∙ w.answers_are sent)));
            sound = subst (λ (s : Node B). IsSound (size_of state) s) (sym (is [])) k.sound;
            counts = subst (λ (s : Node B). CountsLines s.live (length s.log)) (sym (is [])) (k.counted w.counts);
            room = taken.room;
            few = omega (arith, w.few, taken.few);
            appends = w.appends.1;
          }

  -- the step that results
  abbrev pub step_of : Together B → Step B → Type 0
  step_of t step = (step.standing ≡ leading state.standing t.live t.attempts) × (step.keep ≡ length state.log) × (step.entries ≡ t.entries) × (step.messages.items ≡ [])

  log_is : (t : Together B) (step : Step B) → step_of t step → log_after state.log step ≡ state.log ++ t.entries.items
  log_is t step e =
      ap (λ (n : ℕ). take n state.log ++ step.entries.items) e.1
      ∙ (ap (λ (l : List (Entry B)). l ++ step.entries.items) (take_all (length state.log) state.log (omega arith))
      ∙ ap (λ v. state.log ++ v.items) e.2)

  after_is : (t : Together B) (step : Step B) → step_of t step → (sent : List (Message B)) → seen (after state step) sent ≡ led state t sent
  after_is t step e sent =
      ap (λ (x : Standing). node_of x (log_after state.log step) sent) e.0
      ∙ ap (λ (l : List (Entry B)). node_of (leading state.standing t.live t.attempts) l sent) (log_is t step e)

  -- the end
  pub are_planned : (left : List (Input (Message B) B L)) (t : Together B) (step : Step B) → UnderWay left t → left ≡ [] → step_of t step → ArePlanned plan state inputs step t.answers.items
  are_planned left t step w e s = by (subst (λ (l : List (Input (Message B) B L)). UnderWay l t) e w)
    where
      by : UnderWay [] t → ArePlanned plan state inputs step t.answers.items
      by w =
          record {
            node = λ sent. sym (w.node sent) ∙ sym (after_is t step s sent);
            answers_are = λ sent. sym (w.answers_are sent) ∙ append-nil t.answers.items;
            sends = s.3;
          }

  pub together_may_stand : (left : List (Input (Message B) B L)) (t : Together B) (step : Step B) → IsSound (size_of state) (seen state []) → UnderWay left t → step_of t step → MayStand state step
  together_may_stand left t step sound w s =
      let long : length step.entries.items ≡ length t.entries.items = ap (λ v. length v.items) s.2 in
      let within : state.standing.applied ≤ length state.log = omega (arith, sound.0, sound.1.commit_within) in
      record {
        savable = record {
          kept = omega (arith, s.1);
          few = omega (arith, w.few, long);
          room = omega (arith, w.room, s.1, long);
          boot = ap (λ (x : Standing). x.boot) s.0;
          term = omega (arith, ap (λ (x : Standing). x.term) s.0);
        };
        sound = subst (λ (n : Node B). IsSound (size_of state) n) (sym (after_is t step s [])) w.sound;
        counts = subst (λ (n : Node B). CountsLines n.live (length n.log)) (sym (after_is t step s [])) w.counts;
        applied =
            ap (λ (n : ℕ). history (take n (log_after state.log step))) (ap (λ (x : Standing). x.applied) s.0)
            ∙ (ap (λ (l : List (Entry B)). history (take state.standing.applied l)) (log_is t step s)
            ∙ ap (λ (l : List (Entry B)). history l) (take-append-le state.standing.applied state.log t.entries.items within));
        size = ap (λ (x : Standing). x.peers.size) s.0;
      }
