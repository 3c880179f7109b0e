-- The claims that a node is asked for as nodes tick, and what is known of its last claim after
-- that.
use Rattle.std.proofs.Common.{◌≡◌, ◌∙◌, inl, inr, ℕ, zero, suc, ◌+◌, ◌-◌, ◌<◌, ◌≤◌, Bool, true, false, List, [], ◌∷◌, Option, Some, None, refl, sym, ap, subst, slice_get, ⊎_elim, arith}
use Rattle.std.specs.Prelude.{◌||◌, if◌then◌else◌, nat_eq, option_map}
use Rattle.std.proofs.lemmas.Bool.{cases_Bool, eqb-true}
use Rattle.std.proofs.lemmas.Bool.Decides.{nat_tests}
use Rattle.node_notes.specs.declared.note.Note.TheVariants as note
use Rattle.driver.specs.declared.clients.Clients.{Clients}
use Rattle.driver.specs.declared.node_monitor.NodeMonitor.{NodeMonitor}
use Rattle.driver.specs.declared.driver.Driver.{Driver}
use Rattle.driver.specs.declared.order.Order.{Order}
use Rattle.driver.specs.declared.order.Order.TheVariants as order
use Rattle.driver.specs.declared.settings.Settings.{Settings}
use Rattle.driver.specs.Monitors.{claim_due, claim_if, claim_told, monitor_claimed, is_claimed, line_to_claim, told, unless_claimed}
use Rattle.driver.specs.Driving.{Claims, ServesIf, TickNodes, TicksNode, orders_of}
use Rattle.driver.specs.Leading.{is_older, is_that}
use Rattle.driver.specs.Links.{node_of}
use Rattle.driver.specs.Dropping.{drop_end}
use Rattle.driver.specs.Telling.{Ordered, ordered}
use Rattle.driver.specs.declared.driver.writing.TheConstants.{MOST_AT_ONCE}
use Rattle.driver.specs.Writing.{may_claim}
use Rattle.driver.proofs.Monitors.{Ids, changed_other, changed_own, ids_changed, look, look_at, look_in}
use Rattle.driver.proofs.Growing.{AllAre, AllGood, by_number}
use Rattle.driver.proofs.Quiet.{NoClaim}
use Rattle.driver.proofs.Keeping.{Keeps, Line, Result, Sound, connects_keep, drop_keeps, monitor_keeps, keeps_both, keeps_result, older_keep, result_keeps, same_keeps, writes_keep}

-- numbers that differ are not the same
pub apart_eq : (a b : ℕ) → (a ≡ b → ⊥) → nat_eq a b ≡ false
apart_eq a b apart = ⊎_elim (λ is. absurd (apart (eqb-true a b is))) (λ is. is) (cases_Bool (nat_eq a b))

pub same_eq : (a : ℕ) → nat_eq a a ≡ true
same_eq a = grind (arith, nat_tests)

-- a claim of another node
pub claim_apart : (n id : ℕ) (may : Bool) (due : Option Line) → nat_eq id n ≡ false → AllAre (NoClaim n) (told id (claim_if may due))
unfolding AllAre
claim_apart n id may None apart = tt
claim_apart n id true (Some line) apart = (apart, tt)
claim_apart n id false (Some line) apart = tt

pub claimed_id : (orders : Ordered) (now : ℕ) (may : Bool) (due : Option Line) (d : NodeMonitor) → (monitor_claimed orders d now may due).id ≡ d.id
claimed_id orders now may None d = refl
claimed_id orders now true (Some line) d = refl
claimed_id orders now false (Some line) d = refl

-- what a claim changes in its monitor, and orders
abbrev pub claim_change : Driver → ℕ → Bool → NodeMonitor → NodeMonitor
claim_change old now may = λ d. monitor_claimed old.orders d now may (claim_due d old.settings now)

abbrev pub claim_orders : Driver → ℕ → Bool → NodeMonitor → List Order
claim_orders old now may = λ d. told d.id (claim_if may (claim_due d old.settings now))

pub apart_orders : (n m now : ℕ) (may : Bool) (old : Driver) (found : Option NodeMonitor) → 1 ≤ n → 1 ≤ m → (m ≡ n → ⊥) → Ids old.monitors → slice_get old.monitors (m - 1) ≡ found → AllAre (NoClaim n) (orders_of (claim_orders old now may) found)
unfolding AllAre
apart_orders n m now may old None low low_m apart ids is = tt
apart_orders n m now may old (Some d) low low_m apart ids is =
    let id : d.id ≡ m - 1 + 1 = ids (m - 1) (look d) (ap look_in is) in
    claim_apart n d.id may (claim_due d old.settings now) (apart_eq d.id n (λ e. apart (omega (arith, id, e, low, low_m))))

pub claims_sound : (n now node : ℕ) (old new : Driver) → Sound n old → Claims now node old new → Sound n new
claims_sound n now node old new sound c = record {
  good = subst (λ (clients : Clients). AllGood (NoClaim n) clients) (sym (ap (λ (driver : Driver). driver.clients) c.rest)) sound.good;
  ids =
      subst (λ (monitors : List NodeMonitor). Ids monitors) (sym c.monitors)
      (ids_changed (claim_change old now (may_claim old now)) (λ d. claimed_id old.orders now (may_claim old now) (claim_due d old.settings now) d) old.monitors node sound.ids);
}

-- another node claims
pub claims_apart : (n now node : ℕ) (old new : Driver) → 1 ≤ n → 1 ≤ node → (node ≡ n → ⊥) → Sound n old → Claims now node old new → Keeps n old new
claims_apart n now node old new low low_node apart sound c =
    let change = claim_change old now (may_claim old now) in
    record {
      adds = record {
        told = orders_of (claim_orders old now (may_claim old now)) (slice_get old.monitors (node - 1));
        orders = c.orders;
        all = apart_orders n node now (may_claim old now) old (slice_get old.monitors (node - 1)) low low_node apart sound.ids refl;
      };
      sound = claims_sound n now node old new sound c;
      same =
          ap (λ (monitors : List NodeMonitor). look_at monitors (n - 1)) c.monitors
          ∙ changed_other change old.monitors node (n - 1) (λ e. apart (omega (arith, e, low, low_node)));
    }

abbrev pub or_line : Line → Option Line → Line
or_line line None = line
or_line line (Some other) = other

pub free_by : (d : NodeMonitor) (wait now : ℕ) (here line : Line) (claimed : Bool) → is_claimed d.claimed wait now here.0 here.1 ≡ claimed → (if claimed then None else Some here) ≡ Some line → (Some here ≡ Some line) × (is_claimed d.claimed wait now line.0 line.1 ≡ false)
free_by d wait now here line true is e = absurd (cc e)
free_by d wait now here line false is e =
    (e, subst (λ (x : Line). is_claimed d.claimed wait now x.0 x.1 ≡ false) (ap (or_line here) e) is)

pub unless_by : (d : NodeMonitor) (wait now : ℕ) (here : Option Line) (line : Line) → unless_claimed d wait now here ≡ Some line → (here ≡ Some line) × (is_claimed d.claimed wait now line.0 line.1 ≡ false)
unless_by d wait now None line e = absurd (cc e)
unless_by d wait now (Some here) line e = free_by d wait now here line (is_claimed d.claimed wait now here.0 here.1) refl e

pub due_is : (d : NodeMonitor) (settings : Settings) (now : ℕ) (line : Line) → claim_due d settings now ≡ Some line → (line_to_claim d.status ≡ Some line) × (is_claimed d.claimed settings.timeout_ms now line.0 line.1 ≡ false)
unfolding claim_due
due_is d settings now line e = unless_by d settings.timeout_ms now (line_to_claim d.status) line e

-- the node claims, if something is due and the pace allows it
pub own_may : (n now : ℕ) (may : Bool) (old new : Driver) (d : NodeMonitor) (line : Line) → 1 ≤ n → Sound n old → Sound n new → slice_get old.monitors (n - 1) ≡ Some d → claim_due d old.settings now ≡ Some line → look_at new.monitors (n - 1) ≡ Some (look (monitor_claimed old.orders d now may (Some line))) → new.orders ≡ ordered old.orders (told d.id (claim_if may (Some line))) → Result n old new
unfolding AllAre
own_may n now false old new d line low sound new_sound is due changed orders = inl (record {
  adds = record { told = []; orders = orders; all = tt };
  sound = new_sound;
  same = changed ∙ sym (ap look_in is);
})
own_may n now true old new d line low sound new_sound is due changed orders =
    let id : d.id ≡ n - 1 + 1 = sound.ids (n - 1) (look d) (ap look_in is) in
    let id_is : d.id ≡ n = omega (arith, id, low) in
    let (is_line, is_free) = due_is d old.settings now line due in
    inr (record {
      told = order.Submit d.id note.Claim ∷ [];
      orders = orders;
      has = ap (λ (b : Bool). b || false) (ap (λ (k : ℕ). nat_eq k n) id_is ∙ same_eq n);
      sound = new_sound;
      before = look d;
      is_before = ap look_in is;
      line = line;
      is_line = is_line;
      wait = old.settings.timeout_ms;
      now = now;
      is_free = is_free;
      claim = claim_told old.orders d now line;
      is_claim = changed;
      session = refl;
      number = refl;
      unsettled = refl;
    })

pub own_due : (n now : ℕ) (may : Bool) (old new : Driver) (d : NodeMonitor) (due : Option Line) → 1 ≤ n → Sound n old → Sound n new → slice_get old.monitors (n - 1) ≡ Some d → claim_due d old.settings now ≡ due → look_at new.monitors (n - 1) ≡ Some (look (monitor_claimed old.orders d now may due)) → new.orders ≡ ordered old.orders (told d.id (claim_if may due)) → Result n old new
unfolding AllAre
own_due n now may old new d None low sound new_sound is due changed orders = inl (record {
  adds = record { told = []; orders = orders; all = tt };
  sound = new_sound;
  same = changed ∙ sym (ap look_in is);
})
own_due n now may old new d (Some line) low sound new_sound is due changed orders = own_may n now may old new d line low sound new_sound is due changed orders

pub own_by : (n now : ℕ) (may : Bool) (old new : Driver) (found : Option NodeMonitor) → 1 ≤ n → Sound n old → Sound n new → slice_get old.monitors (n - 1) ≡ found → look_at new.monitors (n - 1) ≡ look_in (option_map (claim_change old now may) found) → new.orders ≡ ordered old.orders (orders_of (claim_orders old now may) found) → Result n old new
unfolding AllAre
own_by n now may old new None low sound new_sound is changed orders = inl (record {
  adds = record { told = []; orders = orders; all = tt };
  sound = new_sound;
  same = changed ∙ sym (ap look_in is);
})
own_by n now may old new (Some d) low sound new_sound is changed orders =
    own_due n now may old new d (claim_due d old.settings now) low sound new_sound is refl changed orders

pub claims_own : (n now : ℕ) (old new : Driver) → 1 ≤ n → Sound n old → Claims now n old new → Result n old new
claims_own n now old new low sound c =
    let may = may_claim old now in
    own_by n now may old new (slice_get old.monitors (n - 1)) low sound (claims_sound n now n old new sound c) refl
    (ap (λ (monitors : List NodeMonitor). look_at monitors (n - 1)) c.monitors ∙ changed_own (claim_change old now may) old.monitors n)
    c.orders

pub serves_own : (n : ℕ) (serves : Bool) (now : ℕ) (old new : Driver) → 1 ≤ n → Sound n old → ServesIf serves now n old new → Result n old new
serves_own n false now old new low sound same = inl (same_keeps n old new sound same)
serves_own n true now old new low sound s =
    let first = writes_keep n MOST_AT_ONCE now n old s.written sound s.writes in
    let second = claims_own n now s.written s.claimed low first.sound s.claims in
    let connects = connects_keep n now n s.claimed s.connected (claims_sound n now n s.written s.claimed first.sound s.claims) s.connects in
    let last = keeps_both n s.claimed s.connected new connects (drop_keeps n (drop_end s.connected n) s.connected new connects.sound s.ends) in
    keeps_result n old s.written new first (result_keeps n s.written s.claimed new second last)

pub serves_apart : (n : ℕ) (serves : Bool) (now node : ℕ) (old new : Driver) → 1 ≤ n → 1 ≤ node → (node ≡ n → ⊥) → Sound n old → ServesIf serves now node old new → Keeps n old new
serves_apart n false now node old new low low_node apart sound same = same_keeps n old new sound same
serves_apart n true now node old new low low_node apart sound s =
    let first = writes_keep n MOST_AT_ONCE now node old s.written sound s.writes in
    let second = claims_apart n now node s.written s.claimed low low_node apart first.sound s.claims in
    let connects = connects_keep n now node s.claimed s.connected second.sound s.connects in
    let last = keeps_both n s.claimed s.connected new connects (drop_keeps n (drop_end s.connected node) s.connected new connects.sound s.ends) in
    keeps_both n old s.written new first (keeps_both n s.written s.claimed new second last)

-- a node ticks
pub node_own : (n now : ℕ) (old new : Driver) → 1 ≤ n → Sound n old → TicksNode now n old new → Result n old new
node_own n now old new low sound t =
    let first = monitor_keeps n now n old t.told sound t.ticks in
    let left = keeps_both n old t.told t.left first (older_keep n (is_older (node_of t.told.link.stage) t.leader) now t.told t.left first.sound t.leaves) in
    keeps_result n old t.left new left (serves_own n (is_that t.leader n) now t.left new low left.sound t.serves)

pub node_apart : (n now node : ℕ) (old new : Driver) → 1 ≤ n → 1 ≤ node → (node ≡ n → ⊥) → Sound n old → TicksNode now node old new → Keeps n old new
node_apart n now node old new low low_node apart sound t =
    let first = monitor_keeps n now node old t.told sound t.ticks in
    let left = keeps_both n old t.told t.left first (older_keep n (is_older (node_of t.told.link.stage) t.leader) now t.told t.left first.sound t.leaves) in
    keeps_both n old t.left new left (serves_apart n (is_that t.leader node) now node t.left new low low_node apart left.sound t.serves)

pub node_result : (n now node : ℕ) (old new : Driver) → 1 ≤ n → 1 ≤ node → Sound n old → TicksNode now node old new → Result n old new
node_result n now node old new low low_node sound t =
    by_number node n (Result n old new)
    (λ is. node_own n now old new low sound (subst (λ (k : ℕ). TicksNode now k old new) is t))
    (λ apart. inl (node_apart n now node old new low low_node apart sound t))

-- nodes after this one tick
pub nodes_behind : (n count now node : ℕ) (old new : Driver) → 1 ≤ n → n < node → Sound n old → TickNodes count now node old new → Keeps n old new
unfolding TickNodes
nodes_behind n zero now node old new low past sound same = same_keeps n old new sound same
nodes_behind n (suc count) now node old new low past sound (behind, t, more) =
    let first = node_apart n now node old behind low (omega (arith, past)) (λ e. omega (arith, e, past)) sound t in
    keeps_both n old behind new first (nodes_behind n count now (node + 1) behind new low (omega (arith, past)) first.sound more)

pub sound_behind : (n : ℕ) (old new : Driver) → Result n old new → Sound n new
sound_behind n old new r = ⊎_elim (λ k. k.sound) (λ c. c.sound) r

-- all nodes tick
pub nodes_result : (n count now node : ℕ) (old new : Driver) → 1 ≤ n → 1 ≤ node → Sound n old → TickNodes count now node old new → Result n old new
unfolding TickNodes
nodes_result n zero now node old new low low_node sound same = inl (same_keeps n old new sound same)
nodes_result n (suc count) now node old new low low_node sound (behind, t, more) =
    by_number node n (Result n old new)
    (λ is.
    let first = node_own n now old behind low sound (subst (λ (k : ℕ). TicksNode now k old behind) is t) in
    result_keeps n old behind new first (nodes_behind n count now (node + 1) behind new low (omega (arith, is)) (sound_behind n old behind first) more))
    (λ apart.
    let first = node_apart n now node old behind low low_node apart sound t in
    keeps_result n old behind new first (nodes_result n count now (node + 1) behind new low (omega (arith)) first.sound more))
