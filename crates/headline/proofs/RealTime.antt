-- What was reported as done comes before all that was asked for later.
use Rattle.std.proofs.Common.{pred, take, true, false, ◌≡◌, ℕ, zero, suc, ◌+◌, ◌<◌, ◌≤◌, Bool, List, [], ◌∷◌, ◌++◌, ◌∙◌, ⊎_elim, Some, length, map, refl, sym, ap, subst, arith}
use Rattle.std.specs.Prelude.{if◌then◌else◌, slice_get}
use Rattle.std.proofs.Common.{append_assoc}
use Rattle.std.proofs.lemmas.Bool.{cases_lt}
use Rattle.wire_bytes.specs.declared.origin.Origin.{Origin}
use Rattle.machine_laws.specs.Runs.{History, all_effects, came}
use Rattle.buffer_commands.specs.Settings.{Settings}
use Rattle.raft_log.specs.Lists.{item}
use Rattle.raft_log.specs.declared.entry.Entry.{Entry}
use Rattle.request_once.specs.declared.body.Body.{Body}
use Rattle.request_once.specs.Fresh.{dones, fresh, if_stays, is_done, is_request, stays, times}
use Rattle.request_once.proofs.Stays.{stays_once}
use Rattle.request_once.proofs.Answered.{dones_stay}
use Rattle.bouncer_tower.specs.Bodies.{TowerBody, answers, claimed_effects, client}
use Rattle.raft_node.specs.Machine.{history}
use Rattle.agreement.specs.World.{Begins, start}
use Rattle.agreement.proofs.Lists.{begins_shorter, begins_take, length_take}
use Rattle.world_run.specs.World.{Event, agreed, count}
use Rattle.world_run.proofs.Holds as holds
use Rattle.headline.specs.Tower.{tower}
use Rattle.headline.specs.Promises.{OverAll, bodies, DoneIsAgreed, DoneIsBefore, IsAsked, IsRequest}
use Rattle.headline.proofs.Asking.{was_asked}
use Rattle.headline.proofs.Dones.{count_dones}

-- a longer history has what stayed in the one before

at_least : (b : Bool) (k : ℕ) → k ≤ (if b then k + 1 else k)
at_least true k = omega arith
at_least false k = omega arith

module _ {C A : Type 0} (o : Origin) (n : ℕ) where
  one_more : (b : Bool) (x : ℕ × Body C A) (kept : History (Body C A)) → times o n kept ≤ times o n (if_stays b x kept)
  one_more true x kept = at_least (is_request o n x.1) (times o n kept)
  one_more false x kept = omega arith

  more_times : (later earlier : History (Body C A)) → times o n (fresh earlier) ≤ times o n (fresh (later ++ earlier))
  unfolding fresh
  more_times [] earlier = omega arith
  more_times (x ∷ later) earlier =
      let here : times o n (fresh earlier) ≤ times o n (fresh (later ++ earlier)) = more_times later earlier in
      let next : times o n (fresh (later ++ earlier)) ≤ times o n (if_stays (stays (fresh (later ++ earlier)) x.1) x (fresh (later ++ earlier))) =
      one_more (stays (fresh (later ++ earlier)) x.1) x (fresh (later ++ earlier)) in
      omega (arith, here, next)

module _ {B : Type 0} where
  came_behind : (place : ℕ) (ys : List (Entry B)) (earlier : History B)
      → (later : History B) × (came place (map (λ (e : Entry B). e.body) ys) earlier ≡ later ++ earlier)
  came_behind place [] earlier = ([], refl)
  came_behind place (y ∷ ys) earlier =
      let r = came_behind (place + 1) ys ((place, y.body) ∷ earlier) in
      (r.0 ++ (place, y.body) ∷ [], r.1 ∙ sym (append_assoc r.0 ((place, y.body) ∷ []) earlier))

  came_more : (place : ℕ) (xs ys : List (Entry B)) (earlier : History B)
      → (later : History B)
      × (came place (map (λ (e : Entry B). e.body) (xs ++ ys)) earlier ≡ later ++ came place (map (λ (e : Entry B). e.body) xs) earlier)
  came_more place [] ys earlier = came_behind place ys earlier
  came_more place (x ∷ xs) ys earlier = came_more (place + 1) xs ys ((place, x.body) ∷ earlier)

  history_more : (xs ys : List (Entry B)) → Begins xs ys → (later : History B) × (history ys ≡ later ++ history xs)
  history_more xs ys b =
      let r = came_more 1 xs b.0 [] in (r.0, ap history (sym b.1) ∙ r.1)

  get_front : (xs rest : List (Entry B)) (k : ℕ) (e : Entry B) → k < length xs → slice_get (xs ++ rest) k ≡ Some e → slice_get xs k ≡ Some e
  get_front [] rest k e h at = absurd (omega arith)
  get_front (x ∷ xs) rest zero e h at = at
  get_front (x ∷ xs) rest (suc k) e h at = get_front xs rest k e (omega arith) at

  item_front : (xs ys : List (Entry B)) (p : ℕ) (e : Entry B) → Begins xs ys → p ≤ length xs → item ys p ≡ Some e → item xs p ≡ Some e
  item_front xs ys zero e b h at = absurd (cc at)
  item_front xs ys (suc p) e b h at = get_front xs b.0 p e h (subst (λ z. slice_get z p ≡ Some e) (sym b.1) at)

  get_in : (xs : List (Entry B)) (k : ℕ) (e : Entry B) → slice_get xs k ≡ Some e → k < length xs
  get_in [] k e at = absurd (cc at)
  get_in (x ∷ xs) zero e at = omega arith
  get_in (x ∷ xs) (suc k) e at = omega (arith, get_in xs k e at)

  item_in : (xs : List (Entry B)) (p : ℕ) (e : Entry B) → item xs p ≡ Some e → p ≤ length xs
  item_in xs zero e at = absurd (cc at)
  item_in xs (suc p) e at = omega (arith, get_in xs p e at)

module _ (s : Settings) where
  pub done_is_agreed : OverAll s DoneIsAgreed
  done_is_agreed size es o n =
      let all : dones o n (all_effects (answers s) (bodies s size es)) ≡ times o n (fresh (bodies s size es)) =
      dones_stay client (claimed_effects s) o n (bodies s size es) in
      omega (arith, holds.no_more (tower s) size es (is_done o n), count_dones o n (all_effects (answers s) (bodies s size es)), all)

  -- what no event asked for so far is agreed later after all that is agreed so far
  is_behind : (size : ℕ) (early late : List (Event (tower s))) (other : Origin) (m p : ℕ) (e : Entry TowerBody)
      → (IsAsked s (IsRequest other m) early → ⊥) → item (agreed (tower s) size (early ++ late)) p ≡ Some e → IsRequest other m e.body
      → length (agreed (tower s) size early) < p
  is_behind size early late other m p e new at is =
      ⊎_elim (λ h. h)
      (λ h.
      let here : item (agreed (tower s) size early) p ≡ Some e =
      item_front (agreed (tower s) size early) (agreed (tower s) size (early ++ late)) p e (holds.agreed_grows (tower s) size early late) (omega (arith, h)) at in
      absurd (⊎_elim (λ b. absurd (cc (subst (IsRequest other m) b is)))
      (λ b. new (was_asked s (IsRequest other m) (λ c i. absurd (cc i)) early (start size) e.body is b))
      (holds.each_brought (tower s) size early p e here)))
      (cases_lt (length (agreed (tower s) size early)) p)

  pub done_is_before : OverAll s DoneIsBefore
  done_is_before size early late o other n m p e done new at is =
      let old : List (Entry TowerBody) = agreed (tower s) size early in
      let all : List (Entry TowerBody) = agreed (tower s) size (early ++ late) in
      let behind : length old < p = is_behind size early late other m p e new at is in
      let within : p ≤ length all = item_in all p e at in
      let begins : Begins old (take (pred p) all) =
      begins_shorter old (take (pred p) all) all (holds.agreed_grows (tower s) size early late) (begins_take (pred p) all)
      (omega (arith, behind, within, length_take (pred p) all (omega (arith, within)))) in
      let more = history_more old (take (pred p) all) begins in
      let grown : times o n (fresh (history old)) ≤ times o n (fresh (history (take (pred p) all))) =
      subst (λ (h : History TowerBody). times o n (fresh (history old)) ≤ times o n (fresh h)) (sym more.1) (more_times o n more.0 (history old)) in
      omega (arith, done, done_is_agreed size early o n, grown, stays_once (history (take (pred p) all)) o n)
