-- What a node that is down, or up, may get, and how orders lead from one state to the other.
use Rattle.std.proofs.Common.{◌≡◌, ◌++◌, ℕ, Bool, true, false, not, List, [], ◌∷◌, refl, sym, ap, subst}
use Rattle.std.specs.Prelude.{◌&&◌, ◌||◌, nat_eq}
use Rattle.std.specs.List.{list_any}
use Rattle.bouncer_tower.specs.Bodies.{TowerBody}
use Rattle.buffer_commands.specs.declared.wire_line.WireLine.{WireLine}
use Rattle.node_notes.specs.declared.note.Note.{Note}
use Rattle.node_notes.specs.declared.note.Note.TheVariants as note
use Rattle.raft_node.specs.declared.node_fault.Cause.{Cause}
use Rattle.wire_bytes.specs.declared.origin.Origin.{Origin}
use Rattle.driver.specs.declared.client.Client.{Client}
use Rattle.driver.specs.declared.news.News.{News}
use Rattle.driver.specs.declared.news.News.TheVariants as news
use Rattle.driver.specs.declared.order.Order.{Order}
use Rattle.driver.specs.declared.order.Order.TheVariants as order
use Rattle.driver.specs.Downtime.{tells_up}
use Rattle.driver.specs.Once.{IsFor}
use Rattle.driver.proofs.Claiming.{same_eq}
use Rattle.driver.proofs.Growing.{AllAre, Good}

-- a node of its own gets only restarts while it is down
abbrev pub OnlyRestart : Bool → Bool → Note TowerBody WireLine → Type 0
OnlyRestart true true came = came ≡ note.Restart
OnlyRestart true false came = Unit {0}
OnlyRestart false own came = Unit {0}

abbrev pub Fits : ℕ → Bool → Order → Type 0
Fits n down (order.Submit other came) = OnlyRestart down (nat_eq other n) came
Fits n down other = Unit {0}

-- whether the node is down after a log line, and after an order
abbrev pub down_said : ℕ → Bool → News → Bool
down_said n down (news.Down other cause) = down || nat_eq other n
down_said n down (news.Up other boot) = down && not (nat_eq other n)
down_said n down other = down

abbrev pub down_by : ℕ → Bool → Order → Bool
down_by n down (order.Log said) = down_said n down said
down_by n down other = down

-- all orders fit, and lead from one to the other
unfoldable pub Follows : ℕ → Bool → List Order → Bool → Type 0
Follows n down [] last = down ≡ last
Follows n down (o ∷ more) last = Fits n down o × Follows n (down_by n down o) more last

-- an order that fits, and after which the node has the same state
abbrev pub Plain : ℕ → Bool → Order → Type 0
Plain n down o = Fits n down o × (down_by n down o ≡ down)

pub follows_all : (n : ℕ) (down : Bool) (told : List Order) → AllAre (Plain n down) told → Follows n down told down
unfolding AllAre Follows
follows_all n down [] all = refl
follows_all n down (o ∷ more) ((fits, same), all) =
    (fits, subst (λ (b : Bool). Follows n b more down) (sym same) (follows_all n down more all))

pub follows_both : (n : ℕ) (down between last : Bool) (xs ys : List Order) → Follows n down xs between → Follows n between ys last → Follows n down (xs ++ ys) last
unfolding Follows
follows_both n down between last [] ys same more = subst (λ (b : Bool). Follows n b ys last) (sym same) more
follows_both n down between last (x ∷ xs) ys (fits, first) more = (fits, follows_both n (down_by n down x) between last xs ys first more)

-- what follows the first orders
pub record Behind (n : ℕ) (ys : List Order) (last : Bool) : Type 0 where
  pub down : Bool
  pub follows : Follows n down ys last

pub follows_behind : (n : ℕ) (down last : Bool) (xs ys : List Order) → Follows n down (xs ++ ys) last → Behind n ys last
unfolding Follows
follows_behind n down last [] ys follows = record { down = down; follows = follows }
follows_behind n down last (x ∷ xs) ys (fits, more) = follows_behind n (down_by n down x) last xs ys more

-- a node that was down is down after an order that does not log that it is up
said_still : (n : ℕ) (said : News) → tells_up n (order.Log said) ≡ false → down_said n true said ≡ true
said_still n (news.Attached origin name) is = refl
said_still n (news.Left origin) is = refl
said_still n (news.Evicted origin why) is = refl
said_still n (news.NotJoined node number) is = refl
said_still n (news.Elected node term) is = refl
said_still n (news.Opened node) is = refl
said_still n (news.Unopened node why) is = refl
said_still n (news.Closed node why) is = refl
said_still n (news.Down node cause) is = refl
said_still n (news.Up node boot) is = ap (λ (b : Bool). not b) is
said_still n (news.Hangs node) is = refl
said_still n (news.Answers node) is = refl
said_still n news.TooFew is = refl
said_still n news.Enough is = refl
said_still n (news.TurnedAway node) is = refl
said_still n (news.LogFills node level) is = refl
said_still n (news.WrongPassword origin) is = refl
said_still n (news.WrongPasswords count) is = refl

still_down : (n : ℕ) (o : Order) → tells_up n o ≡ false → down_by n true o ≡ true
still_down n (order.Submit other came) is = refl
still_down n (order.Write client bytes) is = refl
still_down n (order.Close client) is = refl
still_down n order.Connect is = refl
still_down n (order.Send bytes) is = refl
still_down n order.Disconnect is = refl
still_down n (order.Log said) is = said_still n said is

first_false : (a b : Bool) → (a || b) ≡ false → a ≡ false
first_false true b is = is
first_false false b is = refl

last_false : (a b : Bool) → (a || b) ≡ false → b ≡ false
last_false true b is = absurd (cc is)
last_false false b is = is

pub follows_down : (n : ℕ) (last : Bool) (xs ys : List Order) → list_any (tells_up n) xs ≡ false → Follows n true (xs ++ ys) last → Follows n true ys last
unfolding Follows
follows_down n last [] ys none follows = follows
follows_down n last (x ∷ xs) ys none (fits, more) =
    let own = first_false (tells_up n x) (list_any (tells_up n) xs) none in
    let rest = last_false (tells_up n x) (list_any (tells_up n) xs) none in
    follows_down n last xs ys rest (subst (λ (b : Bool). Follows n b (xs ++ ys) last) (still_down n x own) more)

or_true : (down b : Bool) → b ≡ true → (down || b) ≡ true
or_true true b is = refl
or_true false b is = is

-- Between the news that a node is down and the next that it is up, its notes are to start again.
pub restarts_between : (n : ℕ) (cause : Cause) (came : Note TowerBody WireLine) (last : Bool) (before between behind : List Order) → Follows n false (before ++ (order.Log (news.Down n cause) ∷ (between ++ (order.Submit n came ∷ behind)))) last → list_any (tells_up n) between ≡ false → came ≡ note.Restart
unfolding Follows
restarts_between n cause came last before between behind follows none =
    let rest = between ++ (order.Submit n came ∷ behind) in
    let b = follows_behind n false last before (order.Log (news.Down n cause) ∷ rest) follows in
    let (fits, more) = b.follows in
    let down : Follows n true rest last = subst (λ (d : Bool). Follows n d rest last) (or_true b.down (nat_eq n n) (same_eq n)) more in
    let (told, end) = follows_down n last between (order.Submit n came ∷ behind) none down in
    subst (λ (own : Bool). OnlyRestart true own came) (same_eq n) told

-- Orders that fit.

pub told_only : (down own : Bool) (came : Note TowerBody WireLine) → ((down && own) ≡ true → came ≡ note.Restart) → OnlyRestart down own came
told_only true true came is = is refl
told_only true false came is = tt
told_only false own came is = tt

-- a note to a node that is up, or another one
pub told_apart : (down own : Bool) (came : Note TowerBody WireLine) → (down && own) ≡ false → OnlyRestart down own came
told_apart true true came is = absurd (cc is)
told_apart true false came is = tt
told_apart false own came is = tt

pub both_false : (down own : Bool) → (own ≡ true → down ≡ false) → (down && own) ≡ false
both_false true true up = up refl
both_false true false up = refl
both_false false own up = refl

-- an order of a client whose node is up, or another one
client_news : (n : ℕ) (down : Bool) (origin : Origin) (said : News) → IsFor origin (order.Log said) → down_said n down said ≡ down
client_news n down origin (news.Attached other name) is = refl
client_news n down origin (news.Left other) is = refl
client_news n down origin (news.Evicted other why) is = refl
client_news n down origin (news.NotJoined node number) is = absurd is
client_news n down origin (news.Elected node term) is = absurd is
client_news n down origin (news.Opened node) is = absurd is
client_news n down origin (news.Unopened node why) is = absurd is
client_news n down origin (news.Closed node why) is = absurd is
client_news n down origin (news.Down node cause) is = absurd is
client_news n down origin (news.Up node boot) is = absurd is
client_news n down origin (news.Hangs node) is = absurd is
client_news n down origin (news.Answers node) is = absurd is
client_news n down origin news.TooFew is = absurd is
client_news n down origin news.Enough is = absurd is
client_news n down origin (news.TurnedAway node) is = absurd is
client_news n down origin (news.LogFills node level) is = absurd is
client_news n down origin (news.WrongPassword other) is = absurd is
client_news n down origin (news.WrongPasswords count) is = absurd is

pub client_plain : (n : ℕ) (down : Bool) (origin : Origin) (o : Order) → (down && nat_eq origin.0 n) ≡ false → IsFor origin o → Plain n down o
client_plain n down origin (order.Submit other came) apart (is, own) =
    (told_apart down (nat_eq other n) came (subst (λ (k : ℕ). (down && nat_eq k n) ≡ false) (sym is) apart), refl)
client_plain n down origin (order.Write client bytes) apart is = (tt, refl)
client_plain n down origin (order.Close client) apart is = (tt, refl)
client_plain n down origin order.Connect apart is = absurd is
client_plain n down origin (order.Send bytes) apart is = absurd is
client_plain n down origin order.Disconnect apart is = absurd is
client_plain n down origin (order.Log said) apart is = (tt, client_news n down origin said is)

pub apart_good : (n : ℕ) (down : Bool) (P : Order → Type 0) (c : Client) → (down && nat_eq c.origin.0 n) ≡ false → Good P c → Good (Plain n down) c
apart_good n down P c apart good = record {
  settings = good.settings;
  calls = good.calls;
  stands = good.stands;
  fits = λ o own. client_plain n down c.origin o apart own;
}
