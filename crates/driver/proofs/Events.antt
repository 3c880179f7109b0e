-- What each call does to a node: nothing, a shorter wait, a report of it or of another, or time.
use Rattle.std.proofs.Common.{◌≡◌, ◌∙◌, ◌++◌, ℕ, ◌-◌, ◌≤◌, Bool, true, false, List, Option, Some, refl, ap, subst, slice_get, arith}
use Rattle.std.specs.Prelude.{◌||◌, if◌then◌else◌, nat_eq, nat_le}
use Rattle.std.specs.List.{list_any}
use Rattle.std.proofs.lemmas.List.{append_assoc}
use Rattle.std.proofs.lemmas.List.Folds.{list_any-append}
use Rattle.buffer_commands.specs.declared.wire_line.WireLine.{WireLine}
use Rattle.bouncer_tower.specs.Bodies.{TowerBody}
use Rattle.node_notes.specs.declared.note.Note.{Note}
use Rattle.node_notes.specs.declared.progress.Progress.{Progress}
use Rattle.node_notes.specs.declared.status.Status.{Status}
use Rattle.driver.specs.declared.driver.Driver.{Driver}
use Rattle.driver.specs.declared.node_monitor.NodeMonitor.{NodeMonitor}
use Rattle.driver.specs.declared.order.Order.{Order}
use Rattle.driver.specs.declared.order.Order.TheVariants.{Submit}
use Rattle.driver.specs.declared.settings.Settings.{Settings}
use Rattle.driver.specs.Calls.{Call, Does, IsTold}
use Rattle.driver.specs.Calls.{Connect, Connected, Dismiss, End, Hand, Hear, Lose, Notice, Receive, ReceiveLine, Refuse, Take, Tick, Watch, WatchNodes, WatchPasswords}
use Rattle.driver.specs.Links.{node_of}
use Rattle.driver.specs.Monitors.{note_at, told}
use Rattle.driver.specs.Reports.{Hears}
use Rattle.driver.specs.Schedule.{is_tick, ran_by, tells_only, ticks_by}
use Rattle.driver.specs.Telling.{Ordered, ordered}
use Rattle.driver.proofs.Claiming.{same_eq}
use Rattle.driver.proofs.Clocks.{Clocks, TickClocks, tick_clocks}
use Rattle.driver.proofs.Clocking.{HearClocks, HearsOther, hear_clocks, hears_other}
use Rattle.driver.proofs.Growing.{by_number}
use Rattle.driver.proofs.Keeping.{Sound}
use Rattle.driver.proofs.Moves.{Found, Hastens, Rests, base, connect_rests, monitors_of, nodes_hasten, rests_same, takes_rest, watch_rests}
use Rattle.driver.proofs.Waiting.{items_same}

-- What a call does to a node with this monitor.
pub data Event (n : ℕ) (call : Call) (d : NodeMonitor) (old new : Driver) : Type 0 where
  Idle : ((ran : ℕ) → ran_by ran call ≡ ran) → is_tick call ≡ false → Rests n old new → Found n d new → Event n call d old new
  Hastened : ((ran : ℕ) → ran_by ran call ≡ ran) → is_tick call ≡ false → Hastens n d old new → Event n call d old new
  Other : (now : ℕ) → ((ran : ℕ) → ran_by ran call ≡ now) → is_tick call ≡ false → HearsOther n now d old new → Event n call d old new
  Own :
      (now : ℕ) (status : Status) (progress : Progress) → ((ran : ℕ) → ran_by ran call ≡ now) → is_tick call ≡ false
      → ((fits : Status → Progress → Bool) → tells_only fits n call ≡ true → fits status progress ≡ true)
      → ((told : List Order) → IsTold call told old.orders new.orders → new.orders ≡ ordered old.orders told)
      → HearClocks n now status progress d old new → Event n call d old new
  Passed :
      (now : ℕ) → ((ran : ℕ) → ran_by ran call ≡ now) → ((moment : ℕ) → ticks_by moment call ≡ nat_le moment now)
      → ((told : List Order) → IsTold call told old.orders new.orders → new.orders ≡ ordered old.orders told)
      → TickClocks n now d old new → Event n call d old new

pub not_passed : (moment : ℕ) (call : Call) → is_tick call ≡ false → ticks_by moment call ≡ false
not_passed moment (Connect now node) is = refl
not_passed moment (Receive bytes now at number) is = refl
not_passed moment (Lose now at number) is = refl
not_passed moment (Hand node line) is = refl
not_passed moment (Hear now at node status effects progress refused) is = refl
not_passed moment (Tick now at) is = absurd (cc is)
not_passed moment (Connected now) is = refl
not_passed moment (ReceiveLine now at bytes) is = refl
not_passed moment (End now why) is = refl
not_passed moment (Notice text) is = refl
not_passed moment (Dismiss now at) is = refl
not_passed moment Watch is = refl
not_passed moment (WatchNodes now) is = refl
not_passed moment (WatchPasswords now) is = refl
not_passed moment (Refuse number) is = refl
not_passed moment Take is = refl

if_so : (b x : Bool) → b ≡ true → (if b then x else true) ≡ true → x ≡ true
if_so true x is said = said
if_so false x is said = absurd (cc is)

idle : (n : ℕ) (call : Call) (d : NodeMonitor) (old new : Driver) → slice_get old.monitors (n - 1) ≡ Some d → ((ran : ℕ) → ran_by ran call ≡ ran) → is_tick call ≡ false → Rests n old new → Event n call d old new
idle n call d old new is ran quiet r = Idle ran quiet r (r.found d is)

pub event : (n : ℕ) (call : Call) (d : NodeMonitor) (old new : Driver) → 1 ≤ n → n ≤ 7 → Sound n old → slice_get old.monitors (n - 1) ≡ Some d → Does call old new → Event n call d old new
event n (Connect now node) d old new low high sound is (low_node, c) = idle n (Connect now node) d old new is (λ ran. refl) refl (connect_rests n now node old new c)
event n (Receive bytes now at number) d old new low high sound is s = idle n (Receive bytes now at number) d old new is (λ ran. refl) refl (rests_same n old new (ap monitors_of s.rest) (ap base s.rest))
event n (Lose now at number) d old new low high sound is s = idle n (Lose now at number) d old new is (λ ran. refl) refl (rests_same n old new (ap monitors_of s.rest) (ap base s.rest))
event n (Hand node line) d old new low high sound is h = idle n (Hand node line) d old new is (λ ran. refl) refl (rests_same n old new (ap monitors_of h) (ap base h))
event n (Hear now at node status effects progress refused) d old new low high sound is r =
    by_number node n (Event n (Hear now at node status effects progress refused) d old new)
    (λ same.
    Own now status progress (λ ran. refl) refl
    (λ fits said. if_so (nat_eq node n) (fits status progress) (subst (λ (k : ℕ). nat_eq node k ≡ true) same (same_eq node)) said)
    (λ told is. is)
    (hear_clocks n now at status effects progress refused d old new low sound is
    (subst (λ (k : ℕ). Hears now at k status effects progress refused old new) same r.hears)))
    (λ apart.
    Other now (λ ran. refl) refl
    (hears_other n now at node status effects progress refused d old new (λ e. apart (omega (arith, e, low, r.low))) is r.hears))
event n (Tick now at) d old new low high sound is t = Passed now (λ ran. refl) (λ moment. refl) (λ told is. is) (tick_clocks n now at d old new low high sound is t)
event n (Connected now) d old new low high sound is s = idle n (Connected now) d old new is (λ ran. refl) refl (rests_same n old new (ap monitors_of s.rest) (ap base s.rest))
event n (ReceiveLine now at bytes) d old new low high sound is t = idle n (ReceiveLine now at bytes) d old new is (λ ran. refl) refl (takes_rest n (node_of old.link.stage) now at bytes old new t)
event n (End now why) d old new low high sound is e = idle n (End now why) d old new is (λ ran. refl) refl (rests_same n old new (ap monitors_of e.rest) (ap base e.rest))
event n (Notice text) d old new low high sound is o = idle n (Notice text) d old new is (λ ran. refl) refl (rests_same n old new (ap monitors_of o.rest) (ap base o.rest))
event n (Dismiss now at) d old new low high sound is s = idle n (Dismiss now at) d old new is (λ ran. refl) refl (rests_same n old new (ap monitors_of s.rest) (ap base s.rest))
event n Watch d old new low high sound is w = idle n Watch d old new is (λ ran. refl) refl (watch_rests n w.leader old new w.watches)
event n (WatchNodes now) d old new low high sound is w = Hastened (λ ran. refl) refl (nodes_hasten n now d old new is w)
event n (WatchPasswords now) d old new low high sound is w = idle n (WatchPasswords now) d old new is (λ ran. refl) refl (rests_same n old new (ap monitors_of w.rest) (ap base w.rest))
event n (Refuse number) d old new low high sound is o = idle n (Refuse number) d old new is (λ ran. refl) refl (rests_same n old new (ap monitors_of o.rest) (ap base o.rest))
event n Take d old new low high sound is o = idle n Take d old new is (λ ran. refl) refl (rests_same n old new (ap monitors_of o.rest) (ap base o.rest))

-- which orders the driver gave
pub clock_orders : (n now : ℕ) (settings : Settings) (d : NodeMonitor) (old new : Driver) (given : List Order) → (c : Clocks n now settings d old new) → new.orders ≡ ordered old.orders given → given ≡ c.first.told ++ (told c.own.id (note_at c.own settings now) ++ c.last.told)
clock_orders n now settings d old new given c is =
    let own = told c.own.id (note_at c.own settings now) in
    items_same old.orders new.orders given (c.first.told ++ (own ++ c.last.told)) is
    (c.last.orders
    ∙ ap (λ (orders : Ordered). ordered (ordered orders own) c.last.told) c.first.orders
    ∙ ap (λ (items : List Order). record old.orders { items = items })
    (append_assoc (old.orders.items ++ c.first.told) own c.last.told ∙ append_assoc old.orders.items c.first.told (own ++ c.last.told)))

or_true : (b : Bool) → (b || true) ≡ true
or_true true = refl
or_true false = refl

pub any_last : (is : Order → Bool) (xs ys : List Order) → list_any is ys ≡ true → list_any is (xs ++ ys) ≡ true
any_last is xs ys here = list_any-append is xs ys ∙ ap (λ (b : Bool). list_any is xs || b) here ∙ or_true (list_any is xs)

pub any_first : (is : Order → Bool) (xs ys : List Order) → list_any is xs ≡ true → list_any is (xs ++ ys) ≡ true
any_first is xs ys here = list_any-append is xs ys ∙ ap (λ (b : Bool). b || list_any is ys) here

-- a node gets the note that is due
pub clock_tells : (n now : ℕ) (settings : Settings) (d : NodeMonitor) (old new : Driver) (given : List Order) (is : Order → Bool) (note : Note TowerBody WireLine) → (c : Clocks n now settings d old new) → new.orders ≡ ordered old.orders given → note_at c.own settings now ≡ Some note → is (Submit c.own.id note) ≡ true → list_any is given ≡ true
clock_tells n now settings d old new given is note c orders note_is so =
    ap (list_any is) (clock_orders n now settings d old new given c orders)
    ∙ any_last is c.first.told (told c.own.id (note_at c.own settings now) ++ c.last.told)
    (any_first is (told c.own.id (note_at c.own settings now)) c.last.told
    (ap (λ (came : Option (Note TowerBody WireLine)). list_any is (told c.own.id came)) note_is ∙ ap (λ (b : Bool). b || false) so))
