-- Nodes that hang, a group that is too small, and clients that are to leave: what is ordered, and the state of nodes
-- afterwards.
use Rattle.std.proofs.Common.{◌≡◌, ◌∙◌, ℕ, zero, suc, ◌+◌, ◌-◌, Bool, true, false, List, [], ◌∷◌, Option, Some, None, refl, sym, ap, subst, slice_get}
use Rattle.std.specs.Prelude.{is_some}
use Rattle.std.specs.BTreeMap.{keys}
use Rattle.std.proofs.lemmas.Option.{slice_get-map}
use Rattle.wire_bytes.specs.declared.moment.Moment.{Moment}
use Rattle.driver.specs.declared.absence.Absence.TheVariants as absence
use Rattle.driver.specs.declared.driver.Driver.{Driver}
use Rattle.driver.specs.declared.node_monitor.NodeMonitor.{NodeMonitor}
use Rattle.driver.specs.declared.node_monitor.standing.Outage.{Outage}
use Rattle.driver.specs.declared.order.Order.TheVariants as order
use Rattle.driver.specs.Absences.{CutsBy, HangNodes, HangsIf, TellsGroupIf, WatchesNodes, begins_in, goes_on, group_news, hang_limit, hanging, hangs_news, hastened, hastened_if, is_new, is_short, shortened}
use Rattle.driver.specs.Monitors.{is_over}
use Rattle.driver.specs.Crowds.{told}
use Rattle.driver.specs.Driving.{Dismisses, orders_at, orders_of, told_of}
use Rattle.driver.specs.Telling.{ordered}
use Rattle.driver.proofs.Adding.{Adds, adds_both, all_written_add, nothing_adds, one_adds}
use Rattle.driver.proofs.Growing.{AllAre, cuts_grow, dismisses_grow}
use Rattle.driver.proofs.Keeping.{Keeps, Sound, keeps_both, orders_keep, same_keeps}
use Rattle.driver.proofs.Monitors.{changed_same, ids_kept, look_at, mapped_same}
use Rattle.driver.proofs.Quiet.{NoClaim}
use Rattle.driver.proofs.Reporting.{grows_keep}
use Rattle.driver.proofs.Restarts.{Plain}
use Rattle.driver.proofs.Staying.{StandsAs, Stays, Steady, as_kept, changed_as, grows_stay, orders_stay, same_stays, stays_both}

-- Clients are to leave.

pub dismissed_stay : (n now : ℕ) (at : Moment) (down : Bool) (old new : Driver) → Steady n down old → Dismisses now at old new → Stays n down old new
dismissed_stay n now at down old new steady d =
    grows_stay n down old new steady (ap (λ (driver : Driver). driver.monitors) d.rest)
    (dismisses_grow (Plain n down) at now (keys old.clients.all) (told_of old) (told_of new) steady.good d.clients)

pub dismissed_keep : (n now : ℕ) (at : Moment) (old new : Driver) → Sound n old → Dismisses now at old new → Keeps n old new
dismissed_keep n now at old new sound d =
    grows_keep n old new sound (ap (λ (driver : Driver). driver.monitors) d.rest)
    (dismisses_grow (NoClaim n) at now (keys old.clients.all) (told_of old) (told_of new) sound.good d.clients)

-- Nodes that are down are started again soon.

shortened_down : (down : Option Outage) → is_some (shortened down) ≡ is_some down
shortened_down None = refl
shortened_down (Some outage) = refl

hastened_as : (n : ℕ) (down short : Bool) (monitors : List NodeMonitor) → StandsAs down (slice_get monitors (n - 1)) → StandsAs down (slice_get (hastened_if short monitors) (n - 1))
hastened_as n down false monitors at = at
hastened_as n down true monitors at =
    subst (λ (found : Option NodeMonitor). StandsAs down found) (sym (slice_get-map hastened monitors (n - 1)))
    (as_kept down hastened (slice_get monitors (n - 1)) (λ d. (shortened_down d.down, refl)) at)

hastened_same : (short : Bool) (monitors : List NodeMonitor) (j : ℕ) → look_at (hastened_if short monitors) j ≡ look_at monitors j
hastened_same false monitors j = refl
hastened_same true monitors j = mapped_same hastened (λ d. refl) monitors j

hastened_stay : (n : ℕ) (down short : Bool) (old new : Driver) → Steady n down old → new ≡ record old { monitors = hastened_if short old.monitors } → Stays n down old new
hastened_stay n down short old new steady is = record {
  adds = nothing_adds (Plain n down) old.orders new.orders (ap (λ (driver : Driver). driver.orders) is);
  steady =
      subst (λ (driver : Driver). Steady n down driver) (sym is)
      (record {
        good = steady.good;
        ids = ids_kept old.monitors (hastened_if short old.monitors) (hastened_same short old.monitors) steady.ids;
        at = hastened_as n down short old.monitors steady.at;
      });
}

hastened_keep : (n : ℕ) (short : Bool) (old new : Driver) → Sound n old → new ≡ record old { monitors = hastened_if short old.monitors } → Keeps n old new
hastened_keep n short old new sound is = record {
  adds = nothing_adds (NoClaim n) old.orders new.orders (ap (λ (driver : Driver). driver.orders) is);
  sound =
      subst (λ (driver : Driver). Sound n driver) (sym is)
      (record { good = sound.good; ids = ids_kept old.monitors (hastened_if short old.monitors) (hastened_same short old.monitors) sound.ids });
  same = ap (λ (driver : Driver). look_at driver.monitors (n - 1)) is ∙ hastened_same short old.monitors (n - 1);
}

-- Clients of a node that hangs are cut off.

hangs_plain : (n : ℕ) (down : Bool) (found : Option NodeMonitor) → AllAre (Plain n down) (orders_of hangs_news found)
unfolding AllAre
hangs_plain n down None = tt
hangs_plain n down (Some d) = ((tt, refl), tt)

hangs_quiet : (n : ℕ) (found : Option NodeMonitor) → AllAre (NoClaim n) (orders_of hangs_news found)
unfolding AllAre
hangs_quiet n None = tt
hangs_quiet n (Some d) = (refl, tt)

hang_stays : (n now node : ℕ) (down : Bool) (hangs : Option ℕ) (old new : Driver) → Steady n down old → HangsIf hangs now node old new → Stays n down old new
hang_stays n now node down None old new steady same = same_stays n down old new steady same
hang_stays n now node down (Some boot) old new steady h =
    let news = orders_at hangs_news old.monitors node in
    let said = ordered old.orders news in
    let first : Adds (Plain n down) old.orders said = record { told = news; orders = refl; all = hangs_plain n down (slice_get old.monitors (node - 1)) } in
    let g = cuts_grow (Plain n down) absence.Hanging node (keys old.clients.all) (told old.clients said) (told_of new) steady.good h.cut in
    record {
      adds = adds_both (Plain n down) old.orders said new.orders first (record { told = g.told; orders = g.orders; all = g.all });
      steady = record {
        good = g.good;
        ids = ids_kept old.monitors new.monitors (λ j. ap (λ (monitors : List NodeMonitor). look_at monitors j) h.monitors ∙ changed_same (hanging boot) (λ d. refl) old.monitors node j) steady.ids;
        at =
            subst (λ (monitors : List NodeMonitor). StandsAs down (slice_get monitors (n - 1))) (sym h.monitors)
            (changed_as n node down (hanging boot) old.monitors (λ d. (refl, refl)) steady.at);
      };
    }

hang_keeps : (n now node : ℕ) (hangs : Option ℕ) (old new : Driver) → Sound n old → HangsIf hangs now node old new → Keeps n old new
hang_keeps n now node None old new sound same = same_keeps n old new sound same
hang_keeps n now node (Some boot) old new sound h =
    let news = orders_at hangs_news old.monitors node in
    let said = ordered old.orders news in
    let first : Adds (NoClaim n) old.orders said = record { told = news; orders = refl; all = hangs_quiet n (slice_get old.monitors (node - 1)) } in
    let g = cuts_grow (NoClaim n) absence.Hanging node (keys old.clients.all) (told old.clients said) (told_of new) sound.good h.cut in
    let same = λ (j : ℕ). ap (λ (monitors : List NodeMonitor). look_at monitors j) h.monitors ∙ changed_same (hanging boot) (λ d. refl) old.monitors node j in
    record {
      adds = adds_both (NoClaim n) old.orders said new.orders first (record { told = g.told; orders = g.orders; all = g.all });
      sound = record { good = g.good; ids = ids_kept old.monitors new.monitors same sound.ids };
      same = same (n - 1);
    }

abbrev pub begins_at : Driver → ℕ → ℕ → Option ℕ
begins_at driver now node = begins_in driver.settings.timeout_ms now (slice_get driver.monitors (node - 1))

hang_all_stay : (n count now node : ℕ) (down : Bool) (old new : Driver) → Steady n down old → HangNodes count now node old new → Stays n down old new
unfolding HangNodes
hang_all_stay n zero now node down old new steady same = same_stays n down old new steady same
hang_all_stay n (suc count) now node down old new steady (behind, first, more) =
    let s = hang_stays n now node down (begins_at old now node) old behind steady first in
    stays_both n down old behind new s (hang_all_stay n count now (node + 1) down behind new s.steady more)

hang_all_keep : (n count now node : ℕ) (old new : Driver) → Sound n old → HangNodes count now node old new → Keeps n old new
unfolding HangNodes
hang_all_keep n zero now node old new sound same = same_keeps n old new sound same
hang_all_keep n (suc count) now node old new sound (behind, first, more) =
    let k = hang_keeps n now node (begins_at old now node) old behind sound first in
    keeps_both n old behind new k (hang_all_keep n count now (node + 1) behind new k.sound more)

-- The nodes are looked at, and people are told.

cuts_stay : (n now : ℕ) (down going long : Bool) (old new : Driver) → Steady n down old → CutsBy going long now old new → Stays n down old new
cuts_stay n now down false long old new steady is =
    orders_stay n down old new steady (ap (λ (driver : Driver). driver.monitors) is) (ap (λ (driver : Driver). driver.clients) is)
    (nothing_adds (Plain n down) old.orders new.orders (ap (λ (driver : Driver). driver.orders) is))
cuts_stay n now down true false old new steady same = same_stays n down old new steady same
cuts_stay n now down true true old new steady all = hang_all_stay n 7 now 1 down old new steady all

cuts_keep : (n now : ℕ) (going long : Bool) (old new : Driver) → Sound n old → CutsBy going long now old new → Keeps n old new
cuts_keep n now false long old new sound is =
    orders_keep n old new sound (ap (λ (driver : Driver). driver.monitors) is) (ap (λ (driver : Driver). driver.clients) is)
    (nothing_adds (NoClaim n) old.orders new.orders (ap (λ (driver : Driver). driver.orders) is))
cuts_keep n now true false old new sound same = same_keeps n old new sound same
cuts_keep n now true true old new sound all = hang_all_keep n 7 now 1 old new sound all

group_plain : (n : ℕ) (down short : Bool) → Plain n down (order.Log (group_news short))
group_plain n down true = (tt, refl)
group_plain n down false = (tt, refl)

told_stay : (n : ℕ) (down tells short : Bool) (old new : Driver) → Steady n down old → TellsGroupIf tells short old new → Stays n down old new
told_stay n down false short old new steady same = same_stays n down old new steady same
told_stay n down true short old new steady t =
    orders_stay n down old new steady (ap (λ (driver : Driver). driver.monitors) t.rest) (ap (λ (driver : Driver). driver.clients) t.rest)
    (adds_both (Plain n down) old.orders (ordered old.orders (order.Log (group_news short) ∷ [])) new.orders
    (one_adds (Plain n down) (order.Log (group_news short)) old.orders _ refl (group_plain n down short))
    (all_written_add (Plain n down) (keys old.clients.all) old.clients _ _ new.orders steady.good t.written))

told_keep : (n : ℕ) (tells short : Bool) (old new : Driver) → Sound n old → TellsGroupIf tells short old new → Keeps n old new
told_keep n false short old new sound same = same_keeps n old new sound same
told_keep n true short old new sound t =
    orders_keep n old new sound (ap (λ (driver : Driver). driver.monitors) t.rest) (ap (λ (driver : Driver). driver.clients) t.rest)
    (adds_both (NoClaim n) old.orders (ordered old.orders (order.Log (group_news short) ∷ [])) new.orders
    (one_adds (NoClaim n) (order.Log (group_news short)) old.orders _ refl refl)
    (all_written_add (NoClaim n) (keys old.clients.all) old.clients _ _ new.orders sound.good t.written))

abbrev pub has_gone_on : Driver → ℕ → Bool
has_gone_on driver now = is_over driver.going_on (hang_limit driver.settings.timeout_ms) now

pub nodes_stay : (n now : ℕ) (down : Bool) (old new : Driver) → Steady n down old → WatchesNodes now old new → Stays n down old new
nodes_stay n now down old new steady w =
    let first = hastened_stay n down (is_short old now) old w.hastens steady w.is_hastened in
    let next = cuts_stay n now down (goes_on w.hastens now) (has_gone_on w.hastens now) w.hastens w.seen first.steady w.cuts in
    let last = told_stay n down (is_new (is_short old now) w.seen.is_short) (is_short old now) w.seen new next.steady w.tells in
    stays_both n down old w.seen new (stays_both n down old w.hastens w.seen first next) last

pub nodes_keep : (n now : ℕ) (old new : Driver) → Sound n old → WatchesNodes now old new → Keeps n old new
nodes_keep n now old new sound w =
    let first = hastened_keep n (is_short old now) old w.hastens sound w.is_hastened in
    let next = cuts_keep n now (goes_on w.hastens now) (has_gone_on w.hastens now) w.hastens w.seen first.sound w.cuts in
    let last = told_keep n (is_new (is_short old now) w.seen.is_short) (is_short old now) w.seen new next.sound w.tells in
    keeps_both n old w.seen new (keeps_both n old w.hastens w.seen first next) last

-- The connection to the server stays.

hang_link : (hangs : Option ℕ) (now node : ℕ) (old new : Driver) → HangsIf hangs now node old new → new.link ≡ old.link
hang_link None now node old new same = ap (λ (driver : Driver). driver.link) same
hang_link (Some boot) now node old new h = ap (λ (driver : Driver). driver.link) h.rest

hang_all_link : (count now node : ℕ) (old new : Driver) → HangNodes count now node old new → new.link ≡ old.link
unfolding HangNodes
hang_all_link zero now node old new same = ap (λ (driver : Driver). driver.link) same
hang_all_link (suc count) now node old new (behind, first, more) =
    hang_all_link count now (node + 1) behind new more ∙ hang_link (begins_at old now node) now node old behind first

cuts_link : (now : ℕ) (going long : Bool) (old new : Driver) → CutsBy going long now old new → new.link ≡ old.link
cuts_link now false long old new is = ap (λ (driver : Driver). driver.link) is
cuts_link now true false old new same = ap (λ (driver : Driver). driver.link) same
cuts_link now true true old new all = hang_all_link 7 now 1 old new all

told_link : (tells short : Bool) (old new : Driver) → TellsGroupIf tells short old new → new.link ≡ old.link
told_link false short old new same = ap (λ (driver : Driver). driver.link) same
told_link true short old new t = ap (λ (driver : Driver). driver.link) t.rest

pub nodes_link : (now : ℕ) (old new : Driver) → WatchesNodes now old new → new.link ≡ old.link
nodes_link now old new w =
    told_link (is_new (is_short old now) w.seen.is_short) (is_short old now) w.seen new w.tells
    ∙ cuts_link now (goes_on w.hastens now) (has_gone_on w.hastens now) w.hastens w.seen w.cuts
    ∙ ap (λ (driver : Driver). driver.link) w.is_hastened
