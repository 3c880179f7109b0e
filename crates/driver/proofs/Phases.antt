-- What orders, and each part of a call, do to the phase of a session.
use Rattle.std.proofs.Common.{◌≡◌, ◌∙◌, ◌++◌, ℕ, Bool, true, false, List, [], ◌∷◌, Some, refl, sym, ap, subst}
use Rattle.std.specs.List.{list_any}
use Rattle.bouncer_tower.specs.Bodies.{TowerBody}
use Rattle.buffer_commands.specs.declared.wire_line.WireLine.{WireLine}
use Rattle.node_notes.specs.declared.note.Note.{Note}
use Rattle.node_notes.specs.declared.note.Note.TheVariants as note
use Rattle.uplink.specs.declared.input.UplinkInput.{UplinkInput}
use Rattle.uplink.specs.Calls.{IsAfter, inputs_of, is_end}
use Rattle.uplink.specs.Calls as uplink
use Rattle.wire_bytes.specs.declared.origin.Origin.{Origin}
use Rattle.driver.specs.declared.clients.Clients.{Clients}
use Rattle.driver.specs.declared.driver.Driver.{Driver}
use Rattle.driver.specs.declared.link.Session.{Session}
use Rattle.driver.specs.declared.link.Stage.{Stage}
use Rattle.driver.specs.declared.link.Stage.TheVariants.{Closing, Connecting, Idle, Open}
use Rattle.driver.specs.declared.news.News.{News}
use Rattle.driver.specs.declared.news.News.TheVariants as news
use Rattle.driver.specs.declared.order.Order.{Order}
use Rattle.driver.specs.declared.order.Order.TheVariants as order
use Rattle.driver.specs.Driving.{told_of}
use Rattle.driver.specs.Once.{IsFor}
use Rattle.driver.specs.Ordering.{Asked, Ended, Given, Gone, Leads, Phase, behind, kept}
use Rattle.driver.specs.Telling.{ordered}
use Rattle.driver.proofs.Adding.{Adds, adds_grow, nothing_adds}
use Rattle.driver.proofs.Growing.{AllAre, AllGood, Grows}
use Rattle.driver.proofs.Heard.{then_orders}
use Rattle.driver.proofs.Quitting.{InnerNews, inner_client}

-- An order that concerns no session.

abbrev pub CalmNote : Note TowerBody WireLine → Type 0
CalmNote note.Opened = ⊥
CalmNote (note.Heard at line) = ⊥
CalmNote note.Closed = ⊥
CalmNote came = Unit {0}

abbrev pub Calm : Order → Type 0
Calm order.Connect = ⊥
Calm (order.Submit node came) = CalmNote came
Calm (order.Log said) = InnerNews said
Calm o = Unit {0}

note_kept : (node : ℕ) (came : Note TowerBody WireLine) (phase : Phase) → CalmNote came → behind (order.Submit node came) phase ≡ Some (kept phase)
note_kept node note.Opened phase is = absurd is
note_kept node (note.Heard at line) phase is = absurd is
note_kept node note.Closed phase is = absurd is
note_kept node (note.Timeout contacts) phase is = refl
note_kept node note.Beat phase is = refl
note_kept node (note.Ask body) phase is = refl
note_kept node note.Claim phase is = refl
note_kept node note.Wake phase is = refl
note_kept node note.Restart phase is = refl
note_kept node note.End phase is = refl

news_kept : (said : News) (phase : Phase) → InnerNews said → behind (order.Log said) phase ≡ Some (kept phase)
news_kept (news.Attached origin name) phase is = refl
news_kept (news.Left origin) phase is = refl
news_kept (news.Evicted origin why) phase is = refl
news_kept (news.NotJoined node number) phase is = refl
news_kept (news.Elected node term) phase is = refl
news_kept (news.Opened node) phase is = refl
news_kept (news.Unopened node why) phase is = absurd is
news_kept (news.Closed node why) phase is = absurd is
news_kept (news.Down node cause) phase is = refl
news_kept (news.Up node boot) phase is = refl
news_kept (news.Hangs node) phase is = refl
news_kept (news.Answers node) phase is = refl
news_kept news.TooFew phase is = refl
news_kept news.Enough phase is = refl
news_kept (news.TurnedAway node) phase is = refl
news_kept (news.LogFills node level) phase is = refl
news_kept (news.WrongPassword origin) phase is = refl
news_kept (news.WrongPasswords count) phase is = refl

pub calm_kept : (o : Order) (phase : Phase) → Calm o → behind o phase ≡ Some (kept phase)
calm_kept (order.Submit node came) phase is = note_kept node came phase is
calm_kept (order.Write client bytes) phase is = refl
calm_kept (order.Close client) phase is = refl
calm_kept order.Connect phase is = absurd is
calm_kept (order.Send bytes) phase is = refl
calm_kept order.Disconnect phase is = refl
calm_kept (order.Log said) phase is = news_kept said phase is

-- an order of a client does not
client_note : (node : ℕ) (origin : Origin) (came : Note TowerBody WireLine) → IsFor origin (order.Submit node came) → CalmNote came
client_note node origin note.Opened (same, is) = absurd is
client_note node origin (note.Heard at line) (same, is) = absurd is
client_note node origin note.Closed (same, is) = absurd is
client_note node origin (note.Timeout contacts) is = tt
client_note node origin note.Beat is = tt
client_note node origin (note.Ask body) is = tt
client_note node origin note.Claim is = tt
client_note node origin note.Wake is = tt
client_note node origin note.Restart is = tt
client_note node origin note.End is = tt

pub calm_client : (origin : Origin) (o : Order) → IsFor origin o → Calm o
calm_client origin (order.Submit node came) is = client_note node origin came is
calm_client origin (order.Write client bytes) is = tt
calm_client origin (order.Close client) is = tt
calm_client origin order.Connect is = absurd is
calm_client origin (order.Send bytes) is = absurd is
calm_client origin order.Disconnect is = absurd is
calm_client origin (order.Log said) is = inner_client origin (order.Log said) is

-- The phase, as the driver has it.

-- there is no connection
abbrev pub IsOver : Phase → Type 0
IsOver Gone = Unit {0}
IsOver Asked = ⊥
IsOver (Given own) = ⊥
IsOver (Ended own) = Unit {0}

-- something was given
abbrev pub has_given : List UplinkInput → Bool
has_given [] = false
has_given (input ∷ inputs) = true

-- the phase of a session that the server gave or did not give yet
abbrev pub phase_by : Bool → ℕ → Phase
phase_by false node = Asked
phase_by true node = Given node

-- The uplink of a session has had some calls, and not its end; what is left of all that it gave was not told yet.
pub record Has (left : List UplinkInput) (phase : Phase) (session : Session) : Type 0 where
  pub nick : List ℕ
  pub calls : List uplink.Call
  pub after : IsAfter session.uplink nick calls
  pub is_live : list_any is_end calls ≡ false
  pub done : List UplinkInput
  pub all : done ++ left ≡ inputs_of nick calls
  pub opened : session.is_opened ≡ has_given done
  pub phase_is : phase ≡ phase_by session.is_opened session.node

abbrev pub StandsAs : Phase → Stage → Type 0
StandsAs phase (Idle since wait) = IsOver phase
StandsAs phase (Closing since wait) = IsOver phase
StandsAs phase (Connecting node) = phase ≡ Asked
StandsAs phase (Open session) = Has [] phase session

pub kept_over : (phase : Phase) → IsOver phase → IsOver (kept phase)
kept_over Gone is = tt
kept_over Asked is = absurd is
kept_over (Given own) is = absurd is
kept_over (Ended own) is = tt

by_kept : (given : Bool) (node : ℕ) → kept (phase_by given node) ≡ phase_by given node
by_kept true node = refl
by_kept false node = refl

pub kept_has : (left : List UplinkInput) (phase : Phase) (session : Session) → Has left phase session → kept phase ≡ phase
kept_has left phase session has = ap kept has.phase_is ∙ by_kept session.is_opened session.node ∙ sym has.phase_is

kept_stands : (phase : Phase) (stage : Stage) → StandsAs phase stage → StandsAs (kept phase) stage
kept_stands phase (Idle since wait) is = kept_over phase is
kept_stands phase (Closing since wait) is = kept_over phase is
kept_stands phase (Connecting node) is = ap kept is
kept_stands phase (Open session) is = subst (λ (phase : Phase). Has [] phase session) (sym (kept_has [] phase session is)) is

-- A call, or a part of it: what it orders may be ordered, and the phase is what it has to be.
pub record Goes (phase : Phase) (old new : Driver) : Type 0 where
  pub last : Phase
  pub told : List Order
  pub orders : new.orders ≡ ordered old.orders told
  pub leads : Leads phase told last
  pub stands : StandsAs last new.link.stage
  pub good : AllGood Calm new.clients

pub leads_both : (phase between last : Phase) (xs ys : List Order) → Leads phase xs between → Leads between ys last → Leads phase (xs ++ ys) last
unfolding Leads
leads_both phase between last [] ys same more = subst (λ (phase : Phase). Leads phase ys last) same more
leads_both phase between last (x ∷ xs) ys (next, is, first) more = (next, is, leads_both next between last xs ys first more)

pub goes_both : (phase : Phase) (old mid new : Driver) → (first : Goes phase old mid) → Goes first.last mid new → Goes phase old new
goes_both phase old mid new first last = record {
  last = last.last;
  told = first.told ++ last.told;
  orders = then_orders old.orders mid.orders new.orders first.told last.told first.orders last.orders;
  leads = leads_both phase first.last last.last first.told last.told first.leads last.leads;
  stands = last.stands;
  good = last.good;
}

-- orders that concern no session lead on
pub record Kept (phase : Phase) (told : List Order) : Type 0 where
  pub last : Phase
  pub leads : Leads phase told last
  pub stands : (stage : Stage) → StandsAs phase stage → StandsAs last stage

pub calm_leads : (phase : Phase) (told : List Order) → AllAre Calm told → Kept phase told
unfolding AllAre Leads
calm_leads phase [] all = record { last = phase; leads = refl; stands = λ stage is. is }
calm_leads phase (o ∷ more) (is, all) =
    let rest = calm_leads (kept phase) more all in
    record {
      last = rest.last;
      leads = (kept phase, calm_kept o phase is, rest.leads);
      stands = λ stage is. rest.stands stage (kept_stands phase stage is);
    }

-- if the phase stays as it is
pub calm_same : (phase : Phase) (told : List Order) → kept phase ≡ phase → AllAre Calm told → Leads phase told phase
unfolding AllAre Leads
calm_same phase [] same all = refl
calm_same phase (o ∷ more) same (is, all) = (phase, calm_kept o phase is ∙ ap Some same, calm_same phase more same all)

-- a part that orders nothing of a session, and stands afterwards if it did before
pub moved_goes : (phase : Phase) (old new : Driver) → StandsAs phase old.link.stage → ((next : Phase) → StandsAs next old.link.stage → StandsAs next new.link.stage) → Grows Calm (told_of old) (told_of new) → Goes phase old new
moved_goes phase old new stands moves g =
    let k = calm_leads phase g.told g.all in
    record {
      last = k.last;
      told = g.told;
      orders = g.orders;
      leads = k.leads;
      stands = moves k.last (k.stands old.link.stage stands);
      good = g.good;
    }

pub calm_goes : (phase : Phase) (old new : Driver) → StandsAs phase old.link.stage → new.link.stage ≡ old.link.stage → Grows Calm (told_of old) (told_of new) → Goes phase old new
calm_goes phase old new stands same g =
    moved_goes phase old new stands (λ next is. subst (λ (stage : Stage). StandsAs next stage) (sym same) is) g

pub adds_goes : (phase : Phase) (old new : Driver) → StandsAs phase old.link.stage → AllGood Calm old.clients → new.link.stage ≡ old.link.stage → new.clients ≡ old.clients → Adds Calm old.orders new.orders → Goes phase old new
adds_goes phase old new stands good same clients adds =
    calm_goes phase old new stands same (adds_grow Calm (told_of old) (told_of new) good clients adds)

pub same_goes : (phase : Phase) (old new : Driver) → StandsAs phase old.link.stage → AllGood Calm old.clients → new ≡ old → Goes phase old new
same_goes phase old new stands good same =
    adds_goes phase old new stands good (ap (λ (driver : Driver). driver.link.stage) same) (ap (λ (driver : Driver). driver.clients) same)
    (nothing_adds Calm old.orders new.orders (ap (λ (driver : Driver). driver.orders) same))

-- a part that orders one thing of the session
pub one_goes : (phase next : Phase) (o : Order) (old new : Driver) → behind o phase ≡ Some next → new.orders ≡ ordered old.orders (o ∷ []) → new.clients ≡ old.clients → StandsAs next new.link.stage → AllGood Calm old.clients → Goes phase old new
unfolding Leads
one_goes phase next o old new is orders clients stands good = record {
  last = next;
  told = o ∷ [];
  orders = orders;
  leads = (next, is, refl);
  stands = stands;
  good = subst (λ (clients : Clients). AllGood Calm clients) (sym clients) good;
}
