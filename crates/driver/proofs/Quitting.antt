-- What orders, and each part of a call, do to the connection to the server.
use Rattle.std.proofs.Common.{◌≡◌, ◌++◌, ℕ, false, List, [], ◌∷◌, Some, refl, sym, ap, subst}
use Rattle.wire_bytes.specs.declared.origin.Origin.{Origin}
use Rattle.driver.specs.declared.clients.Clients.{Clients}
use Rattle.driver.specs.declared.driver.Driver.{Driver}
use Rattle.driver.specs.declared.link.Link.{Link}
use Rattle.driver.specs.declared.link.Stage.{Stage}
use Rattle.driver.specs.declared.link.Stage.TheVariants.{Closing, Connecting, Idle, Open}
use Rattle.driver.specs.declared.news.News.{News}
use Rattle.driver.specs.declared.news.News.TheVariants as news
use Rattle.driver.specs.declared.order.Order.{Order}
use Rattle.driver.specs.declared.order.Order.TheVariants as order
use Rattle.driver.specs.Driving.{told_of}
use Rattle.driver.specs.Links.{is_open}
use Rattle.driver.specs.Once.{IsFor}
use Rattle.driver.specs.Outgoing.{nothing_waits}
use Rattle.driver.specs.Quitting.{Connection, Gone, Leads, Over, Told, Used, behind, kept}
use Rattle.driver.specs.Telling.{ordered}
use Rattle.driver.proofs.Adding.{Adds, adds_grow, nothing_adds}
use Rattle.driver.proofs.Growing.{AllAre, AllGood, Grows}
use Rattle.driver.proofs.Heard.{then_orders}

-- An order that does not concern the connection.

abbrev pub InnerNews : News → Type 0
InnerNews (news.Unopened node why) = ⊥
InnerNews (news.Closed node why) = ⊥
InnerNews said = Unit {0}

abbrev pub Inner : Order → Type 0
Inner order.Connect = ⊥
Inner (order.Send bytes) = ⊥
Inner order.Disconnect = ⊥
Inner (order.Log said) = InnerNews said
Inner o = Unit {0}

news_kept : (now : ℕ) (said : News) (c : Connection) → InnerNews said → behind now (order.Log said) c ≡ Some (kept c)
news_kept now (news.Attached origin name) c is = refl
news_kept now (news.Left origin) c is = refl
news_kept now (news.Evicted origin why) c is = refl
news_kept now (news.NotJoined node number) c is = refl
news_kept now (news.Elected node term) c is = refl
news_kept now (news.Opened node) c is = refl
news_kept now (news.Unopened node why) c is = absurd is
news_kept now (news.Closed node why) c is = absurd is
news_kept now (news.Down node cause) c is = refl
news_kept now (news.Up node boot) c is = refl
news_kept now (news.Hangs node) c is = refl
news_kept now (news.Answers node) c is = refl
news_kept now news.TooFew c is = refl
news_kept now news.Enough c is = refl
news_kept now (news.TurnedAway node) c is = refl
news_kept now (news.LogFills node level) c is = refl
news_kept now (news.WrongPassword origin) c is = refl
news_kept now (news.WrongPasswords count) c is = refl

inner_kept : (now : ℕ) (o : Order) (c : Connection) → Inner o → behind now o c ≡ Some (kept c)
inner_kept now (order.Submit node came) c is = refl
inner_kept now (order.Write client bytes) c is = refl
inner_kept now (order.Close client) c is = refl
inner_kept now order.Connect c is = absurd is
inner_kept now (order.Send bytes) c is = absurd is
inner_kept now order.Disconnect c is = absurd is
inner_kept now (order.Log said) c is = news_kept now said c is

-- an order of a client does not
client_news : (origin : Origin) (said : News) → IsFor origin (order.Log said) → InnerNews said
client_news origin (news.Attached other name) is = tt
client_news origin (news.Left other) is = tt
client_news origin (news.Evicted other why) is = tt
client_news origin (news.NotJoined node number) is = absurd is
client_news origin (news.Elected node term) is = absurd is
client_news origin (news.Opened node) is = absurd is
client_news origin (news.Unopened node why) is = absurd is
client_news origin (news.Closed node why) is = absurd is
client_news origin (news.Down node cause) is = absurd is
client_news origin (news.Up node boot) is = absurd is
client_news origin (news.Hangs node) is = absurd is
client_news origin (news.Answers node) is = absurd is
client_news origin news.TooFew is = absurd is
client_news origin news.Enough is = absurd is
client_news origin (news.TurnedAway node) is = absurd is
client_news origin (news.LogFills node level) is = absurd is
client_news origin (news.WrongPassword other) is = absurd is
client_news origin (news.WrongPasswords count) is = absurd is

pub inner_client : (origin : Origin) (o : Order) → IsFor origin o → Inner o
inner_client origin (order.Submit node came) is = tt
inner_client origin (order.Write client bytes) is = tt
inner_client origin (order.Close client) is = tt
inner_client origin order.Connect is = absurd is
inner_client origin (order.Send bytes) is = absurd is
inner_client origin order.Disconnect is = absurd is
inner_client origin (order.Log said) is = client_news origin said is

-- The state of the connection, as the driver has it.

abbrev pub IsUsed : Connection → Type 0
IsUsed Gone = ⊥
IsUsed Used = Unit {0}
IsUsed Told = Unit {0}
IsUsed (Over since) = ⊥

abbrev pub StandsAs : Connection → Stage → Type 0
StandsAs c (Idle since wait) = c ≡ Gone
StandsAs c (Closing since wait) = c ≡ Over since.since
StandsAs c (Connecting node) = IsUsed c
StandsAs c (Open session) = IsUsed c

kept_used : (c : Connection) → IsUsed c → IsUsed (kept c)
kept_used Gone is = is
kept_used Used is = tt
kept_used Told is = tt
kept_used (Over since) is = is

kept_stands : (c : Connection) (stage : Stage) → StandsAs c stage → StandsAs (kept c) stage
kept_stands c (Idle since wait) is = ap kept is
kept_stands c (Closing since wait) is = ap kept is
kept_stands c (Connecting node) is = kept_used c is
kept_stands c (Open session) is = kept_used c is

-- and what waits: nothing if there is no session
pub record Fits (c : Connection) (link : Link) : Type 0 where
  pub stands : StandsAs c link.stage
  pub empty : is_open link.stage ≡ false → link.waiting ≡ nothing_waits

-- A call, or a part of it: what it orders may be ordered, and the state of the connection is what
-- it has to be.
pub record Goes (now : ℕ) (c : Connection) (old new : Driver) : Type 0 where
  pub last : Connection
  pub told : List Order
  pub orders : new.orders ≡ ordered old.orders told
  pub leads : Leads now c told last
  pub fits : Fits last new.link
  pub good : AllGood Inner new.clients

pub leads_both : (now : ℕ) (c between last : Connection) (xs ys : List Order) → Leads now c xs between → Leads now between ys last → Leads now c (xs ++ ys) last
unfolding Leads
leads_both now c between last [] ys same more = subst (λ (c : Connection). Leads now c ys last) same more
leads_both now c between last (x ∷ xs) ys (next, is, first) more = (next, is, leads_both now next between last xs ys first more)

pub goes_both : (now : ℕ) (c : Connection) (old mid new : Driver) → (first : Goes now c old mid) → Goes now first.last mid new → Goes now c old new
goes_both now c old mid new first last = record {
  last = last.last;
  told = first.told ++ last.told;
  orders = then_orders old.orders mid.orders new.orders first.told last.told first.orders last.orders;
  leads = leads_both now c first.last last.last first.told last.told first.leads last.leads;
  fits = last.fits;
  good = last.good;
}

-- orders that do not concern the connection lead from it to itself
record Kept (now : ℕ) (c : Connection) (told : List Order) : Type 0 where
  last : Connection
  leads : Leads now c told last
  stands : (stage : Stage) → StandsAs c stage → StandsAs last stage

inner_leads : (now : ℕ) (c : Connection) (told : List Order) → AllAre Inner told → Kept now c told
unfolding AllAre Leads
inner_leads now c [] all = record { last = c; leads = refl; stands = λ stage is. is }
inner_leads now c (o ∷ more) (is, all) =
    let rest = inner_leads now (kept c) more all in
    record {
      last = rest.last;
      leads = (kept c, inner_kept now o c is, rest.leads);
      stands = λ stage is. rest.stands stage (kept_stands c stage is);
    }

-- a part that orders nothing for the connection, and fits afterwards if it did before
pub moved_goes : (now : ℕ) (c : Connection) (old new : Driver) → Fits c old.link → ((d : Connection) → Fits d old.link → Fits d new.link) → Grows Inner (told_of old) (told_of new) → Goes now c old new
moved_goes now c old new fits moves g =
    let k = inner_leads now c g.told g.all in
    record {
      last = k.last;
      told = g.told;
      orders = g.orders;
      leads = k.leads;
      fits = moves k.last (record { stands = k.stands old.link.stage fits.stands; empty = fits.empty });
      good = g.good;
    }

pub same_fits : (c : Connection) (old new : Link) → new ≡ old → Fits c old → Fits c new
same_fits c old new same fits = subst (λ (link : Link). Fits c link) (sym same) fits

pub inner_goes : (now : ℕ) (c : Connection) (old new : Driver) → Fits c old.link → new.link ≡ old.link → Grows Inner (told_of old) (told_of new) → Goes now c old new
inner_goes now c old new fits same g = moved_goes now c old new fits (λ d is. same_fits d old.link new.link same is) g

pub adds_goes : (now : ℕ) (c : Connection) (old new : Driver) → Fits c old.link → AllGood Inner old.clients → new.link ≡ old.link → new.clients ≡ old.clients → Adds Inner old.orders new.orders → Goes now c old new
adds_goes now c old new fits good same clients adds =
    inner_goes now c old new fits same (adds_grow Inner (told_of old) (told_of new) good clients adds)

pub same_goes : (now : ℕ) (c : Connection) (old new : Driver) → Fits c old.link → AllGood Inner old.clients → new ≡ old → Goes now c old new
same_goes now c old new fits good same =
    adds_goes now c old new fits good (ap (λ (driver : Driver). driver.link) same) (ap (λ (driver : Driver). driver.clients) same)
    (nothing_adds Inner old.orders new.orders (ap (λ (driver : Driver). driver.orders) same))

-- a part that orders one thing for the connection
pub one_goes : (now : ℕ) (c next : Connection) (o : Order) (old new : Driver) → behind now o c ≡ Some next → new.orders ≡ ordered old.orders (o ∷ []) → new.clients ≡ old.clients → Fits next new.link → AllGood Inner old.clients → Goes now c old new
unfolding Leads
one_goes now c next o old new is orders clients fits good = record {
  last = next;
  told = o ∷ [];
  orders = orders;
  leads = (next, is, refl);
  fits = fits;
  good = subst (λ (clients : Clients). AllGood Inner clients) (sym clients) good;
}
