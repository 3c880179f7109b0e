-- The claim that waits at a node, and what a call does for it.
use Rattle.std.proofs.Common.{◌≡◌, ◌∙◌, ◌++◌, inl, ℕ, ◌-◌, Bool, true, false, List, Option, Some, None, refl, sym, ap, subst, slice_get, ⊎_elim, arith}
use Rattle.std.specs.Prelude.{◌&&◌, ◌||◌, not, nat_eq, nat_le}
use Rattle.std.specs.List.{list_any}
use Rattle.std.proofs.lemmas.Bool.Decides.{nat_tests}
use Rattle.std.proofs.lemmas.List.{append_assoc, append_cancel_left}
use Rattle.std.proofs.lemmas.List.Folds.{list_any-append}
use Rattle.machine_laws.specs.Sessions.{same_session}
use Rattle.driver.specs.declared.node_monitor.standing.Claimed.{Claimed}
use Rattle.driver.specs.declared.node_monitor.NodeMonitor.{NodeMonitor}
use Rattle.driver.specs.declared.driver.Driver.{Driver}
use Rattle.driver.specs.declared.order.Order.{Order}
use Rattle.driver.specs.Claiming.{claims}
use Rattle.driver.specs.Monitors.{is_claimed, line_to_claim}
use Rattle.driver.specs.Links.{status_at, status_in}
use Rattle.driver.specs.Telling.{Ordered, ordered}
use Rattle.driver.proofs.Adding.{Adds, adds_both, nothing_adds}
use Rattle.driver.proofs.Claiming.{same_eq}
use Rattle.driver.proofs.Keeping.{IsClaimed, Keeps, Line, Result, Sound}
use Rattle.driver.proofs.Monitors.{Look, look_at, look_in}
use Rattle.driver.proofs.Quiet.{NoClaim, none_claims}

-- The last claim that a node was asked for is of this line, and may be in its log.
pub record Waits (n : ℕ) (line : Line) (driver : Driver) : Type 0 where
  pub at : Look
  pub is_at : look_at driver.monitors (n - 1) ≡ Some at
  pub claim : Claimed
  pub is_claim : at.claimed ≡ Some claim
  pub session : claim.session ≡ line.0
  pub number : claim.number ≡ line.1
  pub unsettled : claim.is_settled ≡ false

pub waits_kept : (n : ℕ) (line : Line) (old new : Driver) → look_at new.monitors (n - 1) ≡ look_at old.monitors (n - 1) → Waits n line old → Waits n line new
waits_kept n line old new same w = record {
  at = w.at;
  is_at = same ∙ w.is_at;
  claim = w.claim;
  is_claim = w.is_claim;
  session = w.session;
  number = w.number;
  unsettled = w.unsettled;
}

abbrev pub or_status : Look → Option Look → Look
or_status x None = x
or_status x (Some y) = y

-- the state of a node, by what is looked at
pub status_of : (found : Option NodeMonitor) (x : Look) → look_in found ≡ Some x → status_in found ≡ x.status
status_of None x is = absurd (cc is)
status_of (Some d) x is = ap (λ (y : Look). y.status) (ap (or_status x) is)

-- A node was asked for the claim of a line of its session, which is the last one now; if none may have been applied or
-- refused meanwhile, no claim of that line waited before.
pub record Fresh (n : ℕ) (applied : Bool) (old new : Driver) : Type 0 where
  pub line : Line
  pub is_line : line_to_claim (status_at new.monitors n) ≡ Some line
  pub waits : Waits n line new
  pub none_before : applied ≡ false → Waits n line old → ⊥

-- What a call does for the claims of a node.
pub record Outcome (n : ℕ) (applied : Bool) (old new : Driver) (told : List Order) : Type 0 where
  pub sound : Sound n new
  pub quiet : list_any (claims n) told ≡ false → applied ≡ false → (line : Line) → Waits n line old → Waits n line new
  pub claim : list_any (claims n) told ≡ true → Fresh n applied old new

pub items_same : (before after : Ordered) (one other : List Order) → after ≡ ordered before one → after ≡ ordered before other → one ≡ other
items_same before after one other first last =
    append_cancel_left before.items one other (ap (λ (orders : Ordered). orders.items) (sym first ∙ last))

pub true_false : (b : Bool) (P : Type 0) → b ≡ true → b ≡ false → P
true_false b P here not_so = absurd (cc (here, not_so))

pub session_same : (s : ℕ × ℕ) → same_session s s ≡ true
session_same s = grind (arith, nat_tests)

-- a claim that may be in the log holds back another of its line
pub held_back : (claimed : Option Claimed) (claim : Claimed) (wait now : ℕ) (line : Line) → claimed ≡ Some claim → claim.session ≡ line.0 → claim.number ≡ line.1 → claim.is_settled ≡ false → is_claimed claimed wait now line.0 line.1 ≡ true
held_back claimed claim wait now line is session number unsettled =
    let over = nat_le wait (now - claim.at.since) in
    let same : same_session claim.session line.0 ≡ true = subst (λ (s : ℕ × ℕ). same_session claim.session s ≡ true) session (session_same claim.session) in
    let equal : nat_eq claim.number line.1 ≡ true = subst (λ (k : ℕ). nat_eq claim.number k ≡ true) number (same_eq claim.number) in
    ap (λ (c : Option Claimed). is_claimed c wait now line.0 line.1) is
    ∙ ap (λ (b : Bool). b && nat_eq claim.number line.1 && not (claim.is_settled && over)) same
    ∙ ap (λ (b : Bool). b && not (claim.is_settled && over)) equal
    ∙ ap (λ (b : Bool). not (b && over)) unsettled

abbrev pub or_claim : Claimed → Option Claimed → Claimed
or_claim c None = c
or_claim c (Some d) = d

-- if the last claim of a line may be in the log, that line is not free
pub not_free : (n : ℕ) (line : Line) (driver : Driver) (before : Look) (wait now : ℕ) → Waits n line driver → look_at driver.monitors (n - 1) ≡ Some before → is_claimed before.claimed wait now line.0 line.1 ≡ false → ⊥
not_free n line driver before wait now w is free =
    let same : w.at ≡ before = ap (or_status w.at) (sym w.is_at ∙ is) in
    let held = held_back before.claimed w.claim wait now line (subst (λ (x : Look). x.claimed ≡ Some w.claim) same w.is_claim) w.session w.number w.unsettled in
    true_false (is_claimed before.claimed wait now line.0 line.1) ⊥ held free

-- the claim that a node was asked for is the last one
pub claimed_waits : (n : ℕ) (old new : Driver) → (c : IsClaimed n old new) → Waits n c.line new
claimed_waits n old new c = record {
  at = record { id = c.before.id; claimed = Some c.claim; status = c.before.status };
  is_at = c.is_claim;
  claim = c.claim;
  is_claim = refl;
  session = c.session;
  number = c.number;
  unsettled = c.unsettled;
}

-- What a call does that first keeps, or is a report, and then lets nodes tick.
pub outcome_kept : (n : ℕ) (applied : Bool) (old mid new : Driver) (told : List Order) → Adds (NoClaim n) old.orders mid.orders → (applied ≡ false → (line : Line) → Waits n line old → Waits n line mid) → Keeps n mid new → new.orders ≡ ordered old.orders told → Outcome n applied old new told
outcome_kept n applied old mid new told adds waits k is =
    let all = adds_both (NoClaim n) old.orders mid.orders new.orders adds k.adds in
    let none = ap (list_any (claims n)) (items_same old.orders new.orders told all.told is all.orders) ∙ none_claims n all.told all.all in
    record {
      sound = k.sound;
      quiet = λ _ not_applied line w. waits_kept n line mid new k.same (waits not_applied line w);
      claim = λ here. true_false (list_any (claims n) told) (Fresh n applied old new) here none;
    }

pub outcome_claimed : (n : ℕ) (applied : Bool) (old mid new : Driver) (told : List Order) → Adds (NoClaim n) old.orders mid.orders → (applied ≡ false → (line : Line) → Waits n line old → Waits n line mid) → IsClaimed n mid new → new.orders ≡ ordered old.orders told → Outcome n applied old new told
outcome_claimed n applied old mid new told adds waits c is =
    let orders =
    c.orders
    ∙ ap (λ (orders : Ordered). ordered orders c.told) adds.orders
    ∙ ap (λ (items : List Order). record old.orders { items = items }) (append_assoc old.orders.items adds.told c.told)
    in
    let has =
    ap (list_any (claims n)) (items_same old.orders new.orders told (adds.told ++ c.told) is orders)
    ∙ list_any-append (claims n) adds.told c.told
    ∙ ap (λ (b : Bool). b || list_any (claims n) c.told) (none_claims n adds.told adds.all)
    ∙ c.has
    in
    record {
      sound = c.sound;
      quiet = λ not_so. true_false (list_any (claims n) told) (applied ≡ false → (line : Line) → Waits n line old → Waits n line new) has not_so;
      claim = λ _. record {
        line = c.line;
        is_line = ap line_to_claim (status_of (slice_get new.monitors (n - 1)) (record { id = c.before.id; claimed = Some c.claim; status = c.before.status }) c.is_claim) ∙ c.is_line;
        waits = claimed_waits n mid new c;
        none_before = λ not_applied w. not_free n c.line mid c.before c.wait c.now (waits not_applied c.line w) c.is_before c.is_free;
      };
    }

pub outcome_of : (n : ℕ) (applied : Bool) (old mid new : Driver) (told : List Order) → Adds (NoClaim n) old.orders mid.orders → (applied ≡ false → (line : Line) → Waits n line old → Waits n line mid) → Result n mid new → new.orders ≡ ordered old.orders told → Outcome n applied old new told
outcome_of n applied old mid new told adds waits r is =
    ⊎_elim (λ k. outcome_kept n applied old mid new told adds waits k is) (λ c. outcome_claimed n applied old mid new told adds waits c is) r

-- for a call that keeps
pub outcome_keeps : (n : ℕ) (applied : Bool) (old new : Driver) (told : List Order) → Keeps n old new → new.orders ≡ ordered old.orders told → Outcome n applied old new told
outcome_keeps n applied old new told k is =
    outcome_of n applied old old new told (nothing_adds (NoClaim n) old.orders old.orders refl) (λ _ line w. w) (inl k) is
