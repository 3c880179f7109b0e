-- What a client that connects, and its bytes, do for the claims of a node.
use Rattle.std.proofs.Common.{◌≡◌, ◌∙◌, ℕ, ◌-◌, Bool, true, false, List, [], ◌∷◌, Option, Some, None, refl, sym, ap, subst, slice_get}
use Rattle.std.specs.Prelude.{◌^◌, if◌then◌else◌, nat_lt, IfSome, is_some}
use Rattle.wire_bytes.specs.declared.moment.Moment.{Moment}
use Rattle.client_gate.specs.Calls.{Held, Stands as GateStands}
use Rattle.client_gate.specs.Made.{made}
use Rattle.wire_bytes.specs.declared.origin.Origin.{Origin}
use Rattle.driver.specs.Absent.{Missed, absent_text}
use Rattle.driver.specs.Nicks.{AreMissed}
use Rattle.driver.specs.declared.guard.Guard.{Guard}
use Rattle.driver.specs.Guarding.{NotesIf, due_at, is_first}
use Rattle.driver.specs.Coming.{Comes}
use Rattle.driver.specs.declared.client.Client.{Client}
use Rattle.driver.specs.declared.clients.Clients.{Clients}
use Rattle.driver.specs.declared.node_monitor.NodeMonitor.{NodeMonitor}
use Rattle.driver.specs.declared.driver.Driver.{Driver}
use Rattle.driver.specs.declared.news.News.TheVariants.{TurnedAway, WrongPassword, WrongPasswords}
use Rattle.driver.specs.declared.order.Order.{Order}
use Rattle.driver.specs.declared.order.Order.TheVariants as order
use Rattle.driver.specs.Arriving.{ArrivesBy, boot_at, next_number, turned_away_by, visited}
use Rattle.driver.specs.Calls.{ConnectsTo, Goes, Orders, Speaks}
use Rattle.driver.specs.Crowds.{told as crowd}
use Rattle.driver.specs.Driving.{orders_of, told_of}
use Rattle.driver.specs.Retiring.{with_seen}
use Rattle.driver.specs.Hearing.{turned_away, turned_away_news}
use Rattle.driver.specs.Nicks.{IsGreeted, IsToldOf, IsWarned, Warned, nick_in, warned}
use Rattle.driver.specs.Clients.{is_shut}
use Rattle.driver.specs.Rosters.{AreOthersSame, client_at, is_attached_in, refused_in}
use Rattle.driver.specs.Telling.{Ordered, ordered}
use Rattle.driver.proofs.Answered.{answers_add_if}
use Rattle.driver.proofs.Adding.{Adds, adds_both, named_adds, nothing_adds, one_adds, written_adds}
use Rattle.driver.proofs.Keeping.{Keeps, Sound, orders_keep}
use Rattle.driver.proofs.Monitors.{changed_same, ids_kept, look_at}
use Rattle.driver.proofs.Growing.{AllAre, AllGood, Good, by_number, one_grows}
use Rattle.driver.proofs.Owning.{lost_own, reads_own}
use Rattle.driver.proofs.Quiet.{NoClaim, quiet_client}
use Rattle.driver.proofs.Reporting.{grows_keep}

-- A client connects.

abbrev pub or_client : Client → Option Client → Client
or_client c None = c
or_client c (Some d) = d

pub arrived_good : (n node boot number : ℕ) (password nick : List ℕ) (now : ℕ) (old new : Clients) → AllGood (NoClaim n) old → AreOthersSame number old new → ArrivesBy (Some boot) (Some number) node password nick now old new → AllGood (NoClaim n) new
arrived_good n node boot number password nick now old new good others a k c found =
    by_number number k (Good (NoClaim n) c)
    (λ same.
    let here = subst (λ (k : ℕ). client_at new k ≡ Some c) (sym same) found in
    let is : a.client ≡ c = ap (or_client a.client) (sym a.is_there ∙ here) in
    let client : Good (NoClaim n) a.client = record {
      settings = made (node, boot, number) password nick;
      calls = [];
      stands = subst (λ (held : Held). GateStands (made (node, boot, number) password nick) [] held) (sym a.is_new.gate_is) a.is_made;
      fits = λ o own. quiet_client n a.client.origin o own;
    } in
    subst (λ (c : Client). Good (NoClaim n) c) is client)
    (λ apart. good k c (sym (others k apart) ∙ found))

pub arrive_good : (n node : ℕ) (boot number : Option ℕ) (password nick : List ℕ) (now : ℕ) (old new : Clients) → AllGood (NoClaim n) old → IfSome number (λ number. AreOthersSame number old new) → ArrivesBy boot number node password nick now old new → AllGood (NoClaim n) new
arrive_good n node None number password nick now old new good others same = subst (λ (clients : Clients). AllGood (NoClaim n) clients) (sym same) good
arrive_good n node (Some boot) None password nick now old new good others same = subst (λ (clients : Clients). AllGood (NoClaim n) clients) (sym same) good
arrive_good n node (Some boot) (Some number) password nick now old new good others a = arrived_good n node boot number password nick now old new good others a

pub visited_look : (boot : Option ℕ) (taken : Bool) (monitors : List NodeMonitor) (node j : ℕ) → look_at (visited boot taken monitors node) j ≡ look_at monitors j
visited_look None taken monitors node j = changed_same turned_away (λ d. refl) monitors node j
visited_look (Some boot) true monitors node j = changed_same (with_seen boot) (λ d. refl) monitors node j
visited_look (Some boot) false monitors node j = refl

pub away_quiet : (n : ℕ) (away : Bool) (id : ℕ) → AllAre (NoClaim n) (if away then [] else order.Log (TurnedAway id) ∷ [])
unfolding AllAre
away_quiet n true id = tt
away_quiet n false id = (refl, tt)

pub turned_quiet : (n : ℕ) (found : Option NodeMonitor) → AllAre (NoClaim n) (orders_of turned_away_news found)
unfolding AllAre
turned_quiet n None = tt
turned_quiet n (Some d) = away_quiet n d.visitors.has_turned_away d.id

pub turned_by : (n : ℕ) (boot : Option ℕ) (monitors : List NodeMonitor) (node : ℕ) → AllAre (NoClaim n) (turned_away_by boot monitors node)
unfolding AllAre
turned_by n None monitors node = turned_quiet n (slice_get monitors (node - 1))
turned_by n (Some boot) monitors node = tt

pub connect_keeps : (n now node : ℕ) (old new : Driver) → Sound n old → ConnectsTo now node old new → Keeps n old new
connect_keeps n now node old new sound c =
    let boot = boot_at old.monitors node in
    let same = λ (j : ℕ). ap (λ (monitors : List NodeMonitor). look_at monitors j) c.monitors ∙ visited_look boot (nat_lt old.numbered (2 ^ 60)) old.monitors node j in
    record {
      adds = record { told = turned_away_by boot old.monitors node; orders = c.orders; all = turned_by n boot old.monitors node };
      sound = record {
        good = arrive_good n node boot (next_number old.monitors node old.numbered) old.settings.password.items (nick_in old) now old.clients new.clients sound.good c.others c.arrived;
        ids = ids_kept old.monitors new.monitors same sound.ids;
      };
      same = same (n - 1);
    }

-- A client's bytes come.

warned_adds : (P : Order → Type 0) (short : Bool) (clients : Clients) (number : ℕ) (nick : List ℕ) (before after : Ordered) → AllGood P clients → IsWarned short (client_at clients number) nick before after → Adds P before after
warned_adds P false clients number nick before after good none = nothing_adds P before after none
warned_adds P true clients number nick before after good warned = written_adds P clients number (client_at clients number) _ before after refl good warned

told_adds : (P : Order → Type 0) (text : Option (List ℕ)) (clients : Clients) (number : ℕ) (nick : List ℕ) (before after : Ordered) → AllGood P clients → IsToldOf text (client_at clients number) nick before after → Adds P before after
told_adds P None clients number nick before after good none = nothing_adds P before after none
told_adds P (Some text) clients number nick before after good told = written_adds P clients number (client_at clients number) _ before after refl good told

missed_add : (P : Order → Type 0) (channels : List Missed) (clients : Clients) (number : ℕ) (nick : List ℕ) (before after : Ordered) → AllGood P clients → AreMissed channels (client_at clients number) nick before after → Adds P before after
unfolding AreMissed
missed_add P [] clients number nick before after good none = nothing_adds P before after none
missed_add P (missed ∷ more) clients number nick before after good (behind, first, rest) =
    adds_both P before behind after
    (told_adds P (absent_text missed) clients number nick before behind good first) (missed_add P more clients number nick behind after good rest)

pub greeted_adds : (P : Order → Type 0) (was : Bool) (warned : Warned) (clients : Clients) (number : ℕ) (nick : List ℕ) (before after : Ordered) → AllGood P clients → IsGreeted was warned (client_at clients number) nick before after → Adds P before after
greeted_adds P true warned clients number nick before after good none = nothing_adds P before after none
greeted_adds P false warned clients number nick before after good g =
    adds_both P before g.ended after
    (adds_both P before g.named g.ended
    (named_adds P clients number (client_at clients number) nick before g.named refl good g.names)
    (written_adds P clients number (client_at clients number) _ g.named g.ended refl good g.ends))
    (adds_both P g.ended g.missed after
    (adds_both P g.ended g.short g.missed
    (warned_adds P warned.short clients number nick g.ended g.short good g.warns)
    (told_adds P warned.missing clients number nick g.short g.missed good g.misses))
    (missed_add P warned.absent clients number nick g.missed after good g.absent))

-- a wrong password may be logged
first_adds : (P : Order → Type 0) (first : Bool) (origin : Origin) (before after : Ordered) → P (order.Log (WrongPassword origin)) → after ≡ ordered before (if first then order.Log (WrongPassword origin) ∷ [] else []) → Adds P before after
unfolding AllAre
first_adds P true origin before after good is = one_adds P (order.Log (WrongPassword origin)) before after is good
first_adds P false origin before after good is = record { told = []; orders = is; all = tt }

pub noted_adds : (P : Order → Type 0) (was : Bool) (found : Option Origin) (now : ℕ) (guard new : Guard) (before after : Ordered) → ((origin : Origin) → P (order.Log (WrongPassword origin))) → NotesIf was found now guard before new after → Adds P before after
noted_adds P true found now guard new before after good (same, none) = nothing_adds P before after none
noted_adds P false None now guard new before after good (same, none) = nothing_adds P before after none
noted_adds P false (Some origin) now guard new before after good (same, is) = first_adds P (is_first guard) origin before after (good origin) is

pub more_adds : (P : Order → Type 0) (none : Bool) (count : ℕ) (before after : Ordered) → P (order.Log (WrongPasswords count)) → after ≡ ordered before (if none then [] else order.Log (WrongPasswords count) ∷ []) → Adds P before after
unfolding AllAre
more_adds P true count before after good is = record { told = []; orders = is; all = tt }
more_adds P false count before after good is = one_adds P (order.Log (WrongPasswords count)) before after is good

-- what a client's bytes do besides
pub comes_add : (P : Order → Type 0) (bytes : List ℕ) (now : ℕ) (at : Moment) (number : ℕ) (old new : Driver) → AllGood P new.clients → ((origin : Origin) → P (order.Log (WrongPassword origin))) → (c : Comes bytes now at number old new) → Adds P c.told new.orders
comes_add P bytes now at number old new good log c =
    adds_both P c.told c.greeted new.orders
    (greeted_adds P (is_attached_in (client_at old.clients number)) (warned old now) new.clients number (nick_in old) c.told c.greeted good c.greets)
    (adds_both P c.greeted c.answered new.orders
    (answers_add_if P (is_attached_in (client_at new.clients number)) c.words now number _ _ (λ d is line. (good number d is).fits (order.Write d.origin.2 line) refl) c.answers)
    (noted_adds P (is_some (refused_in (client_at old.clients number))) (refused_in (client_at new.clients number)) now old.guard new.guard c.answered new.orders log c.notes))

pub speaks_by : (n : ℕ) (bytes : List ℕ) (now : ℕ) (at : Moment) (number : ℕ) (found : Option Client) (old new : Driver) → client_at old.clients number ≡ found → Sound n old → Speaks bytes now at number old new → Keeps n old new
speaks_by n bytes now at number None old new is sound s =
    let (clients, orders) = s.nobody is in
    orders_keep n old new sound (ap (λ (driver : Driver). driver.monitors) s.rest) clients (nothing_adds (NoClaim n) old.orders new.orders orders)
speaks_by n bytes now at number (Some c) old new is sound s =
    let behind = crowd new.clients s.comes.told in
    let g =
    one_grows (NoClaim n) number _ _ (told_of old) behind c is is sound.good s.others s.comes.served
    (λ gs calls client stands h. reads_own (is_shut c) bytes now at (due_at old.guard now) gs calls c client old.orders s.comes.told refl stands h.receives)
    in
    let greeted = comes_add (NoClaim n) bytes now at number old new g.good (λ origin. refl) s.comes in
    let all = adds_both (NoClaim n) old.orders s.comes.told new.orders (record { told = g.told; orders = g.orders; all = g.all }) greeted in
    grows_keep n old new sound (ap (λ (driver : Driver). driver.monitors) s.rest) (record { told = all.told; orders = all.orders; all = all.all; good = g.good })

pub goes_by : (n now : ℕ) (at : Moment) (number : ℕ) (found : Option Client) (old new : Driver) → client_at old.clients number ≡ found → Sound n old → Goes now at number old new → Keeps n old new
goes_by n now at number None old new is sound s =
    let (clients, orders) = s.nobody is in
    orders_keep n old new sound (ap (λ (driver : Driver). driver.monitors) s.rest) clients (nothing_adds (NoClaim n) old.orders new.orders orders)
goes_by n now at number (Some c) old new is sound s =
    grows_keep n old new sound (ap (λ (driver : Driver). driver.monitors) s.rest)
    (one_grows (NoClaim n) number _ _ (told_of old) (told_of new) c is is sound.good s.others s.served
    (λ gs calls client stands h. lost_own c.is_gone now at gs calls c client old.orders new.orders refl stands h))

-- Only orders are given.
pub orders_of_call : (n : ℕ) (gives : Ordered → Ordered → Type 0) (old new : Driver) → Sound n old → (o : Orders gives old new) → Adds (NoClaim n) old.orders new.orders → Keeps n old new
orders_of_call n gives old new sound o adds =
    orders_keep n old new sound (ap (λ (driver : Driver). driver.monitors) o.rest) (ap (λ (driver : Driver). driver.clients) o.rest) adds
