-- What time does to a client that registered and is not leaving: it is asked for word, and closed for its silence.
use Rattle.std.proofs.Common.{◌≡◌, ◌∙◌, ◌++◌, inl, inr, ℕ, Bool, true, false, not, ◌&&◌, ◌||◌, List, [], ◌∷◌, Option, Some, None, refl, sym, ap, subst}
use Rattle.std.specs.Prelude.{if◌then◌else◌, is_some, nat_eq}
use Rattle.std.specs.Global.{Vec}
use Rattle.std.specs.List.{list_any}
use Rattle.std.proofs.lemmas.List.{append-nil}
use Rattle.wire_bytes.specs.declared.moment.Moment.{Moment}
use Rattle.wire_bytes.specs.declared.origin.Origin.{Origin}
use Rattle.client_gate.specs.declared.request.Request.{Request}
use Rattle.client_gate.specs.declared.settings.Settings.{Settings}
use Rattle.client_gate.specs.Calls.{Call, Stands, gate}
use Rattle.client_gate.specs.Gates.{last_request}
use Rattle.driver.specs.declared.client.Client.{Client}
use Rattle.driver.specs.declared.order.Order.{Order}
use Rattle.driver.specs.declared.order.Order.TheVariants.{Write}
use Rattle.driver.specs.declared.timer.Timer.{Timer}
use Rattle.driver.specs.Asking.{held_if, is_stuck, may_be_lost, now_asked}
use Rattle.driver.specs.Clients.{due_answer, is_leaving, is_shut, last_asks, left_news, parting_unless}
use Rattle.driver.specs.Crowds.{Ticks}
use Rattle.driver.specs.Farewells.{WritesJust, bytes_to, closes, written_to}
use Rattle.driver.specs.Leaving.{is_overdue}
use Rattle.driver.specs.Monitors.{at, is_over}
use Rattle.driver.specs.Once.{Dismissed, Event, Goes, HappenAll, Happening, Happens, Learns, Speaks, Waits, Words}
use Rattle.driver.specs.Serving.{is_done}
use Rattle.driver.specs.Silence.{IsKept, IsPing, IsSentOff, is_silent, is_to_go, is_too_slow, last_line, last_line_by, late_line, waited}
use Rattle.driver.specs.SilentClients.{Silence, SilentAreClosed, WritesAndCloses, is_asked, is_closed, read_until, silence_after, silence_behind, silence_words}
use Rattle.driver.specs.Telling.{Ordered, ordered}
use Rattle.driver.proofs.Claiming.{same_eq}
use Rattle.driver.proofs.GoneClients.{again_writes, not_both, waited_origin, writes_both}
use Rattle.driver.proofs.Heard.{then_orders}
use Rattle.driver.proofs.Owning.{effect_own, event_own}
use Rattle.driver.proofs.SilentClients.{Is, Knows, anew_same, dismissed_stays, fed_stays, held_same, late_none, lost_shut, parts_shut, parts_stay, same_both, same_same, shut_none, spoke_knows, stays_both, stays_knows, waited_attached, waited_shut, where_read}

-- It is asked for word.

ask_by : (pinged leaves over : Bool) → leaves ≡ false → not (pinged || leaves || not over) ≡ (not pinged && over)
ask_by true leaves over is = refl
ask_by false true over is = absurd (cc is)
ask_by false false true is = refl
ask_by false false false is = refl

silent_is : (c : Client) (silence : Silence) (now : ℕ) → Is c silence → is_leaving c ≡ false → is_silent c now ≡ is_asked now silence
silent_is c silence now is leaves =
    ask_by c.is_pinged (is_leaving c) (is_over c.heard 120000 now) leaves
    ∙ ap (λ (pinged : Bool). not pinged && is_over c.heard 120000 now) is.pinged
    ∙ ap (λ (heard : Timer). not silence.asked && is_over heard 120000 now) is.heard

if_same : (b : Bool) (xs : List ℕ) → b ≡ true → (if b then xs else []) ≡ xs
if_same true xs is = refl
if_same false xs is = absurd (cc is)

one_written : (client : ℕ) (bytes : Vec ℕ) (more : List Order) → written_to client more ≡ [] → written_to client (Write client bytes ∷ more) ≡ bytes.items
one_written client bytes more none =
    ap (λ (rest : List ℕ). bytes_to client (Write client bytes) ++ rest) none
    ∙ append-nil (bytes_to client (Write client bytes))
    ∙ if_same (nat_eq client client) bytes.items (same_eq client)

ping_writes : (silent : Bool) (client : ℕ) (orders : List Order) (before after : Ordered) → IsPing silent client orders → after ≡ ordered before orders → WritesJust client (silence_words false silent) before after
ping_writes false client orders before after same is = record {
  told = orders;
  orders = is;
  written = ap (written_to client) same;
  is_open = ap (list_any (closes client)) same;
}
ping_writes true client orders before after (bytes, are, same) is = record {
  told = orders;
  orders = is;
  written = ap (written_to client) same ∙ one_written client bytes [] refl ∙ are;
  is_open = ap (list_any (closes client)) same;
}

kept_words : (timeout now : ℕ) (at : Moment) (s : Settings) (calls : List Call) (c new : Client) (before after : Ordered) → IsKept timeout now at s calls c before new after → WritesJust c.origin.2 (silence_words false (is_silent c now)) before after
kept_words timeout now at s calls c new before after k =
    let words = silence_words false (is_silent c now) in
    let ping = ping_writes (is_silent c now) c.origin.2 k.asked.ping before k.told k.asked.is_ping k.asked.orders in
    let again = again_writes c.origin.2 (is_stuck timeout now c) c.origin at (gate s calls).waiting k.told after k.orders in
    subst (λ (words : List ℕ). WritesJust c.origin.2 words before after) (append-nil words)
    (writes_both c.origin.2 words [] before k.told after ping again)

-- It is closed.

parting_writes : (client : ℕ) (gone attached : Bool) (origin : Origin) (at : Moment) (last : Option Request) → written_to client (parting_unless gone attached origin at last) ≡ []
unfolding parting_unless
parting_writes client true attached origin at last = refl
parting_writes client false true origin at None = refl
parting_writes client false true origin at (Some request) = refl
parting_writes client false false origin at None = refl
parting_writes client false false origin at (Some request) = refl

parting_closes : (gone attached : Bool) (origin : Origin) (at : Moment) (last : Option Request) → gone ≡ false → list_any (closes origin.2) (parting_unless gone attached origin at last) ≡ true
unfolding parting_unless
parting_closes true attached origin at last is = absurd (cc is)
parting_closes false attached origin at last is = ap (λ (b : Bool). b || list_any (closes origin.2) (left_news attached origin ++ last_asks origin at last)) (same_eq origin.2)

go_by : (leaves : Bool) (answer : Option (List ℕ)) (slow : Bool) → leaves ≡ false → answer ≡ None → (if leaves then false else (is_some answer || slow)) ≡ slow
go_by true answer slow is none = absurd (cc is)
go_by false (Some line) slow is none = absurd (cc none)
go_by false None slow is none = refl

no_answer : (c : Client) (now : ℕ) → c.refused ≡ None → due_answer c.refused now ≡ None
no_answer c now none = ap (λ refused. due_answer refused now) none

-- a client that is not shut is not leaving
not_leaving : (c : Client) → is_shut c ≡ false → is_leaving c ≡ false
not_leaving c opened =
    let (here, stays, none) = shut_none c.is_gone c.leaving c.refused opened in
    ap (λ (gone : Bool). gone || is_some c.leaving) here ∙ ap (λ (leaving : Option Timer). is_some leaving) stays

go_is : (c : Client) (silence : Silence) (now : ℕ) → c.is_attached ≡ true → is_shut c ≡ false → Is c silence → is_to_go c now ≡ is_closed now silence
go_is c silence now attached opened is =
    let (here, stays, none) = shut_none c.is_gone c.leaving c.refused opened in
    go_by (is_leaving c) (due_answer c.refused now) (is_too_slow c now) (not_leaving c opened) (no_answer c now none)
    ∙ ap (λ (attached : Bool). if attached then c.is_pinged && is_over c.heard 240000 now else is_over c.since 10000 now) attached
    ∙ ap (λ (pinged : Bool). pinged && is_over c.heard 240000 now) is.pinged
    ∙ ap (λ (heard : Timer). silence.asked && is_over heard 240000 now) is.heard

line_is : (c : Client) (now : ℕ) → c.is_attached ≡ true → c.refused ≡ None → last_line c now ≡ late_line true
line_is c now attached none = ap (λ (answer : Option (List ℕ)). last_line_by c.is_attached answer) (no_answer c now none) ∙ ap late_line attached

sent_words : (now : ℕ) (at : Moment) (s : Settings) (calls : List Call) (c new : Client) (before after : Ordered) → c.is_attached ≡ true → is_shut c ≡ false → IsSentOff now at s calls c before new after → WritesAndCloses c.origin.2 (late_line true) true before after
sent_words now at s calls c new before after attached opened o =
    let (here, stays, none) = shut_none c.is_gone c.leaving c.refused opened in
    let last = last_request (gate s calls) in
    let parting = parting_unless c.is_gone c.is_attached c.origin at last in
    record {
      told = Write c.origin.2 o.line ∷ parting;
      orders = then_orders before (ordered before (Write c.origin.2 o.line ∷ [])) after (Write c.origin.2 o.line ∷ []) parting refl o.lost.orders;
      written =
          one_written c.origin.2 o.line parting (parting_writes c.origin.2 c.is_gone c.is_attached c.origin at last)
          ∙ o.says
          ∙ line_is c now attached none;
      closed = parting_closes c.is_gone c.is_attached c.origin at last here;
    }

-- Time passes for a client that is not shut.
tick_by : (closed : Bool) (timeout now : ℕ) (at : Moment) (s : Settings) (calls : List Call) (c new : Client) (silence : Silence) (before after : Ordered) → is_closed now silence ≡ closed → c.is_attached ≡ true → is_shut c ≡ false → Is c silence → (is_to_go c now ≡ true → IsSentOff now at s calls c before new after) → (is_to_go c now ≡ false → IsKept timeout now at s calls c before new after) → WritesAndCloses c.origin.2 (silence_words closed (is_asked now silence)) closed before after
tick_by true timeout now at s calls c new silence before after closed attached opened is slow kept =
    sent_words now at s calls c new before after attached opened (slow (go_is c silence now attached opened is ∙ closed))
tick_by false timeout now at s calls c new silence before after closed attached opened is slow kept =
    let w = kept_words timeout now at s calls c new before after (kept (go_is c silence now attached opened is ∙ closed)) in
    record {
      told = w.told;
      orders = w.orders;
      written = w.written ∙ ap (silence_words false) (silent_is c silence now is (not_leaving c opened));
      closed = w.is_open;
    }

ticks_words : (reads : Bool) (timeout now : ℕ) (at : Moment) (s : Settings) (calls : List Call) (old new : Client) (silence : Silence) (before after : Ordered) → old.is_attached ≡ true → is_shut old ≡ false → Is old silence → Ticks reads timeout now at s calls old before new after → let counted = read_until reads now silence in WritesAndCloses old.origin.2 (silence_words (is_closed now counted) (is_asked now counted)) (is_closed now counted) before after
ticks_words reads timeout now at s calls old new silence before after attached opened is t =
    let counted = read_until reads now silence in
    let w = waited reads now old in
    let (here, stays, none) = shut_none old.is_gone old.leaving old.refused opened in
    let early = late_none old now stays in
    subst (λ (origin : Origin). WritesAndCloses origin.2 (silence_words (is_closed now counted) (is_asked now counted)) (is_closed now counted) before after)
    (waited_origin reads now old)
    (tick_by (is_closed now counted) timeout now at s calls w new counted before after refl
    (waited_attached reads now old ∙ attached) (waited_shut reads now old ∙ opened) (where_read reads now old silence attached is) (t.slow early) (t.kept early))

-- Its silence, as it is known after each event.

kept_knows : (reads : Bool) (timeout now : ℕ) (at : Moment) (s : Settings) (calls : List Call) (old new : Client) (silence : Silence) (before after : Ordered) → Knows old silence → IsKept timeout now at s calls (waited reads now old) before new after → Knows new (silence_behind (Waits reads timeout) now silence)
kept_knows reads timeout now at s calls old new silence before after knows k attached opened =
    let w = waited reads now old in
    let counted = read_until reads now silence in
    let same = same_both k.pinged _ new (anew_same (is_stuck timeout now w) (now_asked k.told now w) k.pinged) (same_same _ new k.client) in
    let was : w.is_attached ≡ true = sym (ap (λ (c : Client). c.is_attached) k.asked.is_known) ∙ sym same.attached ∙ attached in
    let up : is_shut w ≡ false = sym (ap (λ (c : Client). is_shut c) k.asked.is_known) ∙ same.opened opened in
    let attached_before = sym (waited_attached reads now old) ∙ was in
    let is = where_read reads now old silence attached_before (knows attached_before (sym (waited_shut reads now old) ∙ up)) in
    record {
      heard = same.heard ∙ ap (λ (c : Client). c.heard) k.asked.is_known ∙ is.heard;
      pinged =
          same.pinged
          ∙ ap (λ (c : Client). c.is_pinged) k.asked.is_known
          ∙ ap (λ (pinged : Bool). pinged || is_silent w now) is.pinged
          ∙ ap (λ (silent : Bool). counted.asked || silent) (silent_is w counted now is (not_leaving w up));
    }

ticks_by : (overdue slow reads : Bool) (timeout now : ℕ) (at : Moment) (s : Settings) (calls : List Call) (old new : Client) (silence : Silence) (before after : Ordered) → is_overdue old now ≡ overdue → is_to_go (waited reads now old) now ≡ slow → Knows old silence → Ticks reads timeout now at s calls old before new after → Knows new (silence_behind (Waits reads timeout) now silence)
ticks_by true slow reads timeout now at s calls old new silence before after late go knows t attached opened =
    not_both (is_shut new) (Is new _) (lost_shut old.is_gone now at s calls old new before after refl (t.overdue late)) opened
ticks_by false true reads timeout now at s calls old new silence before after late go knows t attached opened =
    let w = waited reads now old in
    let o = t.slow late go in
    not_both (is_shut new) (Is new _) (lost_shut w.is_gone now at s calls w new _ after refl o.lost) opened
ticks_by false false reads timeout now at s calls old new silence before after late go knows t attached opened =
    kept_knows reads timeout now at s calls old new silence before after knows (t.kept late go) attached opened

event_knows : (event : Event) (now : ℕ) (at : Moment) (s : Settings) (calls : List Call) (old new : Client) (silence : Silence) (before after : Ordered) → Happens event now at old before new after → Stands s calls old.gate → Knows old silence → Knows new (silence_behind event now silence)
event_knows (Speaks bytes due) now at s calls old new silence before after h stands knows =
    spoke_knows (is_shut old) bytes now at due s calls old new before after refl (h s calls stands)
event_knows (Learns effect nick) now at s calls old new silence before after h stands knows =
    let e = h s calls stands in
    let o = effect_own effect nick now at s calls old e.told before e.orders e.hears in
    let parts = e.parts o.behind o.stands in
    let done = is_done (gate s o.behind).waiting e.told in
    stays_knows old new silence
    (stays_both old e.told new (fed_stays effect nick now at s calls old e.told before e.orders e.hears)
    (parts_shut done s o.behind at e.told new e.orders after parts) (parts_stay done s o.behind at e.told new e.orders after parts))
    knows
event_knows Goes now at s calls old new silence before after h stands knows =
    stays_knows old new silence (inl (lost_shut old.is_gone now at s calls old new before after refl (h s calls stands))) knows
event_knows Dismissed now at s calls old new silence before after h stands knows =
    stays_knows old new silence (dismissed_stays (is_leaving old) now at s calls old new before after refl h stands) knows
event_knows (Words lost refused) now at s calls old new silence before after h stands knows =
    let w = h s calls stands in
    let held = held_if refused (gate s calls).waiting old in
    stays_knows old new silence
    (inr (same_both old held new (held_same refused (gate s calls).waiting old)
    (same_both held _ new (anew_same (may_be_lost lost old) (now_asked before now old) held) (same_same _ new w.client))))
    knows
event_knows (Waits reads timeout) now at s calls old new silence before after h stands knows =
    ticks_by (is_overdue old now) (is_to_go (waited reads now old) now) reads timeout now at s calls old new silence before after refl refl knows (h s calls stands)

-- a client's gate has had some calls, and its silence is known
record After (s : Settings) (c : Client) (silence : Silence) : Type 0 where
  calls : List Call
  stands : Stands s calls c.gate
  knows : Knows c silence

all_know : (happenings : List Happening) (s : Settings) (calls : List Call) (old new : Client) (silence : Silence) (before after : Ordered) → HappenAll happenings old before new after → Stands s calls old.gate → Knows old silence → After s new (silence_after happenings silence)
unfolding HappenAll silence_after
all_know [] s calls old new silence before after (same, none) stands knows =
    subst (λ (c : Client). After s c silence) (sym same) (record { calls = calls; stands = stands; knows = knows })
all_know (h ∷ more) s calls old new silence before after (client, orders, happens, rest) stands knows =
    let own = event_own h.event h.now h.at s calls old client before orders happens stands in
    all_know more s own.behind client new (silence_behind h.event h.now silence) orders after rest own.stands
    (event_knows h.event h.now h.at s calls old client silence before orders happens stands knows)

pub silent_closed : SilentAreClosed
silent_closed origin held nick began s first old new before orders after happenings reads timeout now at is_new stands happen ticks attached opened =
    let from : Silence = record { since = began; asked = false } in
    let knows : Knows first from = λ registered _. not_both first.is_attached (Is first from) registered is_new.is_not_attached in
    let a = all_know happenings s [] first old from before orders happen stands knows in
    ticks_words reads timeout now at s a.calls old new (silence_after happenings from) orders after attached opened (a.knows attached opened) (ticks s a.calls a.stands)
