-- What happens between two claims of a line.
use Rattle.std.proofs.Common.{◌≡◌, ◌∙◌, ◌++◌, ℕ, zero, suc, ◌+◌, ◌-◌, ◌≤◌, Bool, true, false, List, [], ◌∷◌, Option, Some, None, refl, sym, ap, subst}
use Rattle.std.specs.Prelude.{◌||◌, nat_eq}
use Rattle.std.specs.BTreeMap.{keys}
use Rattle.std.specs.List.{list_any}
use Rattle.driver.specs.Guarding.{untold}
use Rattle.driver.specs.declared.clients.Clients.{Clients}
use Rattle.driver.specs.declared.node_monitor.NodeMonitor.{NodeMonitor}
use Rattle.driver.specs.declared.driver.Driver.{Driver}
use Rattle.driver.specs.declared.order.Order.{Order}
use Rattle.driver.specs.declared.settings.Settings.{Settings}
use Rattle.driver.specs.Arriving.{IsNewDriver, new_monitors}
use Rattle.driver.specs.Calls.{Call, Does, DoesAll, IsTold, Step}
use Rattle.driver.specs.Calls.{Connect, Connected, Dismiss, End, Hand, Hear, Lose, Notice, Receive, ReceiveLine, Refuse, Take, Tick, Watch, WatchNodes, WatchPasswords}
use Rattle.driver.specs.Claiming.{Claims, OneClaimWaits, applies_all, claims, tells_claim}
use Rattle.driver.specs.Links.{node_of}
use Rattle.driver.specs.Rosters.{client_at}
use Rattle.driver.proofs.Adding.{all_written_add, written_adds}
use Rattle.driver.proofs.Keeping.{Line, Sound, ends_keep, hands_keep, orders_keep}
use Rattle.driver.proofs.Monitors.{Ids, Look, look_at}
use Rattle.driver.proofs.Growing.{AllGood, Good, none_some}
use Rattle.driver.proofs.Quiet.{NoClaim}
use Rattle.driver.proofs.Reporting.{report_outcome, tick_outcome}
use Rattle.driver.proofs.Watching.{dismissed_keep, nodes_keep}
use Rattle.driver.proofs.Waiting.{Fresh, Outcome, Waits, or_status, outcome_keeps, true_false, waits_kept}
use Rattle.driver.proofs.Calling.{stands_add, takes_keep, watch_keeps}
use Rattle.driver.proofs.ClientCalls.{connect_keeps, goes_by, orders_of_call, speaks_by, more_adds}

-- What a call does.
pub outcome : (n : ℕ) (call : Call) (told : List Order) (old new : Driver) → 1 ≤ n → Sound n old → Does call old new → IsTold call told old.orders new.orders → Outcome n (applies_all n call) old new told
outcome n (Connect now node) told old new low sound (low_node, c) is = outcome_keeps n false old new told (connect_keeps n now node old new sound c) is
outcome n (Receive bytes now at number) told old new low sound s is = outcome_keeps n false old new told (speaks_by n bytes now at number (client_at old.clients number) old new refl sound s) is
outcome n (Lose now at number) told old new low sound s is = outcome_keeps n false old new told (goes_by n now at number (client_at old.clients number) old new refl sound s) is
outcome n (Hand node line) told old new low sound h is = outcome_keeps n false old new told (hands_keep n node line old new sound h) is
outcome n (Hear now at node status effects progress refused) told old new low sound r is =
    report_outcome n now at node status effects progress refused old new told low r.low sound r.hears is
outcome n (Tick now at) told old new low sound t is = tick_outcome n now at old new told low sound t is
outcome n (Connected now) told old new low sound s is =
    outcome_keeps n false old new told
    (orders_keep n old new sound (ap (λ (driver : Driver). driver.monitors) s.rest) (ap (λ (driver : Driver). driver.clients) s.rest) (stands_add (NoClaim n) old.link.stage old.settings now old.orders new.orders new.link.stage (λ bytes. refl) s.stands))
    is
outcome n (ReceiveLine now at bytes) told old new low sound t is = outcome_keeps n false old new told (takes_keep n (node_of old.link.stage) now at bytes old new sound t) is
outcome n (End now why) told old new low sound e is = outcome_keeps n false old new told (ends_keep n now why old new sound e) is
outcome n (Notice text) told old new low sound o is =
    outcome_keeps n false old new told (orders_of_call n _ old new sound o (all_written_add (NoClaim n) (keys old.clients.all) old.clients _ old.orders new.orders sound.good o.given)) is
outcome n (Dismiss now at) told old new low sound d is = outcome_keeps n false old new told (dismissed_keep n now at old new sound d) is
outcome n Watch told old new low sound w is = outcome_keeps n false old new told (watch_keeps n w.leader old new sound w.watches) is
outcome n (WatchNodes now) told old new low sound w is = outcome_keeps n false old new told (nodes_keep n now old new sound w) is
outcome n (WatchPasswords now) told old new low sound w is =
    outcome_keeps n false old new told
    (orders_keep n old new sound (ap (λ (driver : Driver). driver.monitors) w.rest) (ap (λ (driver : Driver). driver.clients) w.rest)
    (more_adds (NoClaim n) (nat_eq (untold now old.guard) 0) (untold now old.guard) old.orders new.orders refl w.orders))
    is
outcome n (Refuse number) told old new low sound o is =
    outcome_keeps n false old new told (orders_of_call n _ old new sound o (written_adds (NoClaim n) old.clients number (client_at old.clients number) _ old.orders new.orders refl sound.good o.given)) is
outcome n Take told old new low sound o is = record {
  sound = record {
    good = subst (λ (clients : Clients). AllGood (NoClaim n) clients) (sym (ap (λ (driver : Driver). driver.clients) o.rest)) sound.good;
    ids = subst (λ (monitors : List NodeMonitor). Ids monitors) (sym (ap (λ (driver : Driver). driver.monitors) o.rest)) sound.ids;
  };
  quiet = λ _ _ line w. waits_kept n line old new (ap (λ (driver : Driver). look_at driver.monitors (n - 1)) o.rest) w;
  claim = λ here. true_false (list_any (claims n) told) (Fresh n false old new) here (ap (list_any (claims n)) is);
}

-- A new driver.

pub new_ids : (settings : Settings) (now i : ℕ) (x : Look) → look_at (new_monitors settings now) i ≡ Some x → x.id ≡ i + 1
new_ids settings now zero x is = ap (λ (y : Look). y.id) (ap (or_status x) (sym is))
new_ids settings now (suc zero) x is = ap (λ (y : Look). y.id) (ap (or_status x) (sym is))
new_ids settings now (suc (suc zero)) x is = ap (λ (y : Look). y.id) (ap (or_status x) (sym is))
new_ids settings now (suc (suc (suc zero))) x is = ap (λ (y : Look). y.id) (ap (or_status x) (sym is))
new_ids settings now (suc (suc (suc (suc zero)))) x is = ap (λ (y : Look). y.id) (ap (or_status x) (sym is))
new_ids settings now (suc (suc (suc (suc (suc zero))))) x is = ap (λ (y : Look). y.id) (ap (or_status x) (sym is))
new_ids settings now (suc (suc (suc (suc (suc (suc zero)))))) x is = ap (λ (y : Look). y.id) (ap (or_status x) (sym is))
new_ids settings now (suc (suc (suc (suc (suc (suc (suc i))))))) x is = absurd (cc is)

pub new_sound : (n : ℕ) (settings : Settings) (now : ℕ) (driver : Driver) → IsNewDriver settings now driver → Sound n driver
new_sound n settings now driver new = record {
  good = λ number c found. none_some c (Good (NoClaim n) c) (sym (new.clients number) ∙ found);
  ids = subst (λ (monitors : List NodeMonitor). Ids monitors) (sym new.monitors) (new_ids settings now);
}

pub led_sound : (n : ℕ) (steps : List Step) (old new : Driver) → 1 ≤ n → Sound n old → DoesAll steps old new → Sound n new
unfolding DoesAll
led_sound n [] old new low sound same = subst (λ (driver : Driver). Sound n driver) (sym same) sound
led_sound n (step ∷ more) old new low sound (behind, does, rest) =
    led_sound n more behind new low (outcome n step.call step.told old behind low sound does.does does.told).sound rest

abbrev pub or_line : Line → Option Line → Line
or_line line None = line
or_line line (Some other) = other

-- Between the claims.

abbrev pub applies_some : (n : ℕ) → List Step → Bool
applies_some n steps = list_any (λ (step : Step). applies_all n step.call) steps

pub last_applies : (n : ℕ) (line : Line) (step : Step) (old new : Driver) (applied : Bool) → applies_all n step.call ≡ applied → Sound n old → Waits n line old → Claims n line step old new → applied ≡ true
last_applies n line step old new true is sound w c = refl
last_applies n line step old new false is sound w c =
    let o = outcome n step.call step.told old new c.low sound c.does.does c.does.told in
    let f = o.claim c.told in
    let same : f.line ≡ line = ap (or_line f.line) (sym f.is_line ∙ c.is_line) in
    absurd (f.none_before is (subst (λ (line : Line). Waits n line old) (sym same) w))

pub first_none : (a b : Bool) → (a || b) ≡ false → a ≡ false
first_none true b is = is
first_none false b is = refl

pub rest_none : (a b : Bool) → (a || b) ≡ false → b ≡ false
rest_none true b is = absurd (cc is)
rest_none false b is = is

pub or_rest : (applied rest : Bool) → (applied ≡ false → rest ≡ true) → (applied || rest) ≡ true
or_rest true rest more = refl
or_rest false rest more = more refl

pub between_by : (n : ℕ) (line : Line) (between : List Step) (last : Step) (old next new : Driver) → Sound n old → Waits n line old → DoesAll between old next → list_any (tells_claim n) between ≡ false → Claims n line last next new → applies_some n (between ++ last ∷ []) ≡ true
unfolding DoesAll
between_by n line [] last old next new sound w same none c =
    let here = subst (λ (driver : Driver). Sound n driver) (sym same) sound in
    let waits = subst (λ (driver : Driver). Waits n line driver) (sym same) w in
    ap (λ (b : Bool). b || false) (last_applies n line last next new (applies_all n last.call) refl here waits c)
between_by n line (step ∷ more) last old next new sound w (behind, does, rest) none c =
    or_rest (applies_all n step.call) (applies_some n (more ++ last ∷ []))
    (λ apart.
    let o = outcome n step.call step.told old behind c.low sound does.does does.told in
    let quiet = first_none (tells_claim n step) (list_any (tells_claim n) more) none in
    between_by n line more last behind next new o.sound (o.quiet quiet apart line w) rest (rest_none (tells_claim n step) (list_any (tells_claim n) more) none) c)

pub one_waits : OneClaimWaits
one_waits node line earlier between first last before told next new led c does none d =
    let sound = led_sound node earlier led.first before c.low (new_sound node led.settings led.now led.first led.is_new) led.calls in
    let o = outcome node first.call first.told before told c.low sound c.does.does c.does.told in
    let f = o.claim c.told in
    let same : f.line ≡ line = ap (or_line f.line) (sym f.is_line ∙ c.is_line) in
    between_by node line between last told next new o.sound (subst (λ (line : Line). Waits node line told) same f.waits) does none d
