-- The lines that leave after events: each has its claim in the agreed list.
use Rattle.std.proofs.Common.{◌≡◌, ℕ, zero, suc, ◌+◌, ◌<◌, ◌≤◌, ⊎_elim, List, [], ◌∷◌, ◌++◌, map, length, slice_get, Some, refl, sym, ap, subst, ◌∙◌, arith, append_assoc}
use Rattle.std.proofs.lemmas.Bool.{cases_lt}
use Rattle.irc_line.specs.Lines.{Parts}
use Rattle.wire_bytes.specs.declared.session_id.SessionId.{SessionId}
use Rattle.machine_laws.specs.Classes.{Handed, handed_by}
use Rattle.machine_laws.specs.Runs.{History, all_effects}
use Rattle.machine_laws.specs.declared.class.Class.{Class}
use Rattle.machine_laws.specs.declared.class.Class.TheVariants.{To, Hand, Rejoin, Nowhere}
use Rattle.buffer_commands.specs.Settings.{Settings}
use Rattle.bouncer_tower.specs.Bodies.{TowerBody, TowerEffect, answers, claimed}
use Rattle.bouncer_tower.specs.Hosting.{class_of, hands, handed_over}
use Rattle.bouncer_tower.proofs.Handed.{all_hands_are_claims}
use Rattle.raft_node.specs.Machine.{history}
use Rattle.raft_node.specs.Steps.{Out, effects_of}
use Rattle.agreement.specs.World.{start}
use Rattle.world_run.specs.World.{Event, agreed, left, left_of, outs, run}
use Rattle.world_run.specs.World as world
use Rattle.world_run.proofs.Answers.{leaves_of_agreed}
use Rattle.world_run.proofs.Tallies.{All}
use Rattle.world_views.proofs.Histories.{outs-append}
use Rattle.headline.specs.Tower.{tower}
use Rattle.store_life.proofs.Behind.{IsForeign}

pub left-append : (s : Settings) (xs ys : List (Out (tower s))) → left_of (tower s) (xs ++ ys) ≡ left_of (tower s) xs ++ left_of (tower s) ys
left-append s [] ys = refl
left-append s (x ∷ xs) ys = ap (λ (l : List TowerEffect). effects_of x ++ l) (left-append s xs ys) ∙ sym (append_assoc (effects_of x) (left_of (tower s) xs) (left_of (tower s) ys))

pub hands-append : (s : Settings) (xs ys : List TowerEffect) → world.hands (tower s) (xs ++ ys) ≡ world.hands (tower s) xs ++ world.hands (tower s) ys
hands-append s [] ys = refl
hands-append s (x ∷ xs) ys =
    ap (λ (l : List (ℕ × Parts)). world.hand_of (tower s) x ++ l) (hands-append s xs ys) ∙ sym (append_assoc (world.hand_of (tower s) x) (world.hands (tower s) xs) (world.hands (tower s) ys))

all_right : {A : Type 0} (P : A → Type 0) (xs ys : List A) → All P (xs ++ ys) → All P ys
all_right P [] ys h = h
all_right P (x ∷ xs) ys h = all_right P xs ys h.1

pub all_both : {A : Type 0} (P Q R : A → Type 0) (xs : List A) → ((x : A) → P x → Q x → R x) → All P xs → All Q xs → All R xs
all_both P Q R [] f a b = tt
all_both P Q R (x ∷ xs) f a b = (f x a.0 b.0, all_both P Q R xs f a.1 b.1)

-- a line that is handed out by an effect of this class has its claim there
abbrev pub HasClaim : List (ℕ × SessionId) → Class Parts → Type 0
HasClaim cs (To o) = Unit {0}
HasClaim cs (Hand id n line) = (c : ℕ) × (slice_get cs c ≡ Some (n, id))
HasClaim cs (Rejoin id line) = Unit {0}
HasClaim cs Nowhere = Unit {0}

-- and its number is above this
abbrev pub IsAbove : ℕ → Class Parts → Type 0
IsAbove k (To o) = Unit {0}
IsAbove k (Hand id n line) = k < n
IsAbove k (Rejoin id line) = Unit {0}
IsAbove k Nowhere = Unit {0}

class_above : (s : Settings) (k : ℕ) (c : Class Parts) (rest : List (ℕ × Parts)) (i n : ℕ) (line : Parts) → IsAbove k c → ((j : ℕ) → slice_get rest j ≡ Some (n, line) → k < n)
    → slice_get (map (λ h. (h.0.0, h.1)) (handed_by c) ++ rest) i ≡ Some (n, line) → k < n
class_above s k (To o) rest i n line a more at = more i at
class_above s k (Hand id m l) rest zero n line a more at =
    let pair : ◌≡◌ {A = ℕ × Parts} (m, l) (n, line) = cc at in
    let number : m ≡ n = ap (λ (p : ℕ × Parts). p.0) pair in
    subst (λ (z : ℕ). k < z) number a
class_above s k (Hand id m l) rest (suc i) n line a more at = more i at
class_above s k (Rejoin id l) rest i n line a more at = more i at
class_above s k Nowhere rest i n line a more at = more i at

-- effects hand out only lines above a number, if their lines are
pub numbers_above : (s : Settings) (k : ℕ) (es : List TowerEffect) (i n : ℕ) (line : Parts) → All (λ e. IsAbove k (class_of e)) es → slice_get (world.hands (tower s) es) i ≡ Some (n, line) → k < n
numbers_above s k [] i n line a at = absurd (cc at)
numbers_above s k (e ∷ es) i n line a at = class_above s k (class_of e) (world.hands (tower s) es) i n line a.0 (λ j b. numbers_above s k es j n line a.1 b) at

get_map : (hs : List Handed) (i : ℕ) (h : Handed) → slice_get hs i ≡ Some h → slice_get (map (λ k. k.0) hs) i ≡ Some h.0
get_map [] i h e = absurd (cc e)
get_map (k ∷ hs) zero h e = let same : k ≡ h = cc e in ap (λ (z : Handed). Some z.0) same
get_map (k ∷ hs) (suc i) h e = get_map hs i h e

module _ (cs : List (ℕ × SessionId)) where
  -- each of these lines has its claim
  abbrev Claimed : List Handed → Type 0
  Claimed hs = (i n : ℕ) (id : SessionId) (line : Parts) → slice_get hs i ≡ Some ((n, id), line) → (c : ℕ) × (slice_get cs c ≡ Some (n, id))

  by_class : (c : Class Parts) (hs : List Handed) → Claimed (handed_by c ++ hs) → HasClaim cs c × Claimed hs
  by_class (To o) hs k = (tt, k)
  by_class (Hand id n line) hs k = (k 0 n id line refl, λ i m other l e. k (suc i) m other l e)
  by_class (Rejoin id line) hs k = (tt, k)
  by_class Nowhere hs k = (tt, k)

  by_effects : (es : List TowerEffect) → Claimed (hands es) → All (λ e. HasClaim cs (class_of e)) es
  by_effects [] k = tt
  by_effects (e ∷ es) k = let r : HasClaim cs (class_of e) × Claimed (hands es) = by_class (class_of e) (hands es) k in (r.0, by_effects es r.1)

module _ (s : Settings) where
  -- all that a list brings about has its claims there
  all_claimed : (h : History TowerBody) → All (λ e. HasClaim (claimed s h) (class_of e)) (all_effects (answers s) h)
  all_claimed h =
      by_effects (claimed s h) (all_effects (answers s) h)
      (λ i n id line e. (i, ap (λ (cs : List (ℕ × SessionId)). slice_get cs i) (sym (all_hands_are_claims s h)) ∙ get_map (handed_over s h) i ((n, id), line) e))

  -- so what leaves after some events has its claims in what is agreed
  pub left_claimed : (size : ℕ) (before es : List (Event (tower s))) →
      All (λ e. HasClaim (claimed s (history (agreed (tower s) size (before ++ es)))) (class_of e)) (left_of (tower s) (outs (tower s) es (run (tower s) before (start size))))
  left_claimed size before es =
      let P : TowerEffect → Type 0 = λ e. HasClaim (claimed s (history (agreed (tower s) size (before ++ es)))) (class_of e) in
      let a : All P (left (tower s) size (before ++ es)) = leaves_of_agreed (tower s) size (before ++ es) P (all_claimed (history (agreed (tower s) size (before ++ es)))) in
      let parts : left (tower s) size (before ++ es) ≡ left_of (tower s) (outs (tower s) before (start size)) ++ left_of (tower s) (outs (tower s) es (run (tower s) before (start size))) =
      ap (left_of (tower s)) (outs-append (tower s) before es (start size)) ∙ left-append s (outs (tower s) before (start size)) (outs (tower s) es (run (tower s) before (start size))) in
      all_right P (left_of (tower s) (outs (tower s) before (start size))) (left_of (tower s) (outs (tower s) es (run (tower s) before (start size)))) (subst (All P) parts a)

  -- A claim of no session of a term is above those that all are of one.
  pub above_old : (T : ℕ) (old all more : List (ℕ × SessionId)) → all ≡ old ++ more → ((i n : ℕ) (id : SessionId) → slice_get old i ≡ Some (n, id) → id.0 ≡ T)
      → ((i n : ℕ) (id : SessionId) → slice_get all i ≡ Some (n, id) → n ≡ i + 1) → (c : Class Parts) → IsForeign T c → HasClaim all c → IsAbove (length old) c
  above_old T old all more parts of order (To o) foreign has = tt
  above_old T old all more parts of order (Rejoin id line) foreign has = tt
  above_old T old all more parts of order Nowhere foreign has = tt
  above_old T old all more parts of order (Hand id n line) foreign has =
      let at : n ≡ has.0 + 1 = order has.0 n id has.1 in
      ⊎_elim
      (λ (lt : has.0 < length old). absurd (foreign (of has.0 n id (in_front old more has.0 (n, id) lt (ap (λ (l : List (ℕ × SessionId)). slice_get l has.0) (sym parts) ∙ has.1)))))
      (λ (le : length old ≤ has.0). omega (arith, at, le))
      (cases_lt has.0 (length old))
    where
      in_front : (xs ys : List (ℕ × SessionId)) (i : ℕ) (x : ℕ × SessionId) → i < length xs → slice_get (xs ++ ys) i ≡ Some x → slice_get xs i ≡ Some x
      in_front [] ys i x lt e = absurd (omega arith)
      in_front (y ∷ xs) ys zero x lt e = e
      in_front (y ∷ xs) ys (suc i) x lt e = in_front xs ys i x (omega arith) e

  -- if nothing was claimed
  pub above_none : (all : List (ℕ × SessionId)) → ((i n : ℕ) (id : SessionId) → slice_get all i ≡ Some (n, id) → n ≡ i + 1) → (c : Class Parts) → HasClaim all c → IsAbove 0 c
  above_none all order (To o) has = tt
  above_none all order (Rejoin id line) has = tt
  above_none all order Nowhere has = tt
  above_none all order (Hand id n line) has = let at : n ≡ has.0 + 1 = order has.0 n id has.1 in omega (arith, at)
