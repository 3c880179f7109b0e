-- The clients of a node that serves nobody: none stays.
use Rattle.std.proofs.Common.{◌≡◌, ◌∙◌, ◌++◌, ℕ, Bool, true, false, List, [], ◌∷◌, Option, Some, None, refl, sym, ap, subst}
use Rattle.std.specs.Prelude.{is_some}
use Rattle.std.specs.List.{All}
use Rattle.std.specs.BTreeMap.{keys}
use Rattle.std.proofs.lemmas.Cmp.{nat_cmp_total}
use Rattle.std.proofs.lemmas.List.{append_assoc, append-nil}
use Rattle.std.proofs.lemmas.List.Elements.{All-cons, All-contains, All-nil}
use Rattle.std.proofs.lemmas.Map.Lookups.{exact_unsigned}
use Rattle.std.proofs.lemmas.Map.Views.{btree_map_contains_key_iff}
use Rattle.wire_bytes.specs.declared.origin.Origin.{Origin}
use Rattle.driver.specs.declared.absence.Absence.{Absence}
use Rattle.driver.specs.declared.client.Client.{Client}
use Rattle.driver.specs.declared.clients.Clients.{Clients}
use Rattle.driver.specs.declared.order.Order.{Order}
use Rattle.driver.specs.declared.order.Order.TheVariants.{Close, Write}
use Rattle.driver.specs.Clients.{left_news}
use Rattle.driver.specs.Crowds.{CutEach, CutsClient, IsSame, Told, is_of}
use Rattle.driver.specs.Outages.{IsToldIf}
use Rattle.driver.specs.Rosters.{AreOthersSame, client_at}
use Rattle.driver.specs.Telling.{Ordered, ordered}
use Rattle.driver.proofs.Growing.{AllAre, AllGood, Grows, all_append, by_number, none_some}
use Rattle.driver.proofs.Restarts.{Plain, apart_good}

-- a client of this number is one of another node, if there is one
abbrev pub IsAway : ℕ → Clients → ℕ → Type 0
IsAway node clients number = (c : Client) → client_at clients number ≡ Some c → is_of c.origin node ≡ false

-- each client is one that was there before
abbrev pub AreOld : Clients → Clients → Type 0
AreOld old new = (number : ℕ) (c : Client) → client_at new number ≡ Some c → client_at old number ≡ Some c

-- Clients of a node were told that it is down: the orders send the node nothing, and those of these numbers that stay
-- belong to other nodes.
pub record Cuts (node : ℕ) (numbers : List ℕ) (old new : Told) : Type 0 where
  pub told : List Order
  pub orders : new.orders ≡ ordered old.orders told
  pub all : AllAre (Plain node true) told
  pub left : AreOld old.clients new.clients
  pub away : All (IsAway node new.clients) numbers

-- what one of them was told, and who stays
pub record Cut (node number : ℕ) (old new : Told) : Type 0 where
  pub told : List Order
  pub orders : new.orders ≡ ordered old.orders told
  pub all : AllAre (Plain node true) told
  pub left : AreOld old.clients new.clients
  pub away : IsAway node new.clients number

same_cut : (node number : ℕ) (old new : Told) → IsAway node old.clients number → IsSame old new → Cut node number old new
unfolding AllAre
same_cut node number old new away (same, none) = record {
  told = [];
  orders = none ∙ sym (ap (λ (items : List Order). record old.orders { items = items }) (append-nil old.orders.items));
  all = tt;
  left = λ number c is. subst (λ (clients : Clients). client_at clients number ≡ Some c) same is;
  away = subst (λ (clients : Clients). IsAway node clients number) (sym same) away;
}

-- one that is gone now
gone_old : (number : ℕ) (old new : Clients) → AreOthersSame number old new → client_at new number ≡ None → AreOld old new
gone_old number old new others gone n c is =
    by_number number n (client_at old n ≡ Some c)
    (λ same. none_some c (client_at old n ≡ Some c) (sym (subst (λ (k : ℕ). client_at new k ≡ None) same gone) ∙ is))
    (λ apart. sym (others n apart) ∙ is)

-- nor does a client that left say that a node is up or down
left_plain : (node : ℕ) (attached : Bool) (origin : Origin) → AllAre (Plain node true) (left_news attached origin)
unfolding AllAre
left_plain node true origin = ((tt, refl), tt)
left_plain node false origin = tt

told_cut : (why : Absence) (node number : ℕ) (gone : Bool) (c : Client) (old new : Told) → AreOld old.clients new.clients → client_at new.clients number ≡ None → IsToldIf gone why c old.orders new.orders → Cut node number old new
unfolding AllAre
told_cut why node number true c old new left none same = record {
  told = [];
  orders = same ∙ sym (ap (λ (items : List Order). record old.orders { items = items }) (append-nil old.orders.items));
  all = tt;
  left = left;
  away = λ d is. none_some d (is_of d.origin node ≡ false) (sym none ∙ is);
}
told_cut why node number false c old new left none (line, says, orders) = record {
  told = Write c.origin.2 line ∷ Close c.origin.2 ∷ left_news c.is_attached c.origin;
  orders = orders;
  all = ((tt, refl), ((tt, refl), left_plain node c.is_attached c.origin));
  left = left;
  away = λ d is. none_some d (is_of d.origin node ≡ false) (sym none ∙ is);
}

abbrev pub or_that : Client → Option Client → Client
or_that c None = c
or_that c (Some d) = d

cut_of : (why : Absence) (node number : ℕ) (c : Client) (own : Bool) (old new : Told) → client_at old.clients number ≡ Some c → is_of c.origin node ≡ own → CutsClient why node number old new → Cut node number old new
cut_of why node number c false old new is own u =
    same_cut node number old new
    (λ d found. subst (λ (x : Client). is_of x.origin node ≡ false) (ap (or_that c) (sym is ∙ found)) own)
    (u.stays c is own)
cut_of why node number c true old new is own u =
    let gone = u.leaves c is own in
    told_cut why node number c.is_gone c old new (gone_old number old.clients new.clients u.others gone) gone (u.told c is own)

cut_by : (why : Absence) (node number : ℕ) (found : Option Client) (old new : Told) → client_at old.clients number ≡ found → CutsClient why node number old new → Cut node number old new
cut_by why node number None old new is u =
    same_cut node number old new (λ d found. none_some d (is_of d.origin node ≡ false) (sym is ∙ found)) (u.nobody is)
cut_by why node number (Some c) old new is u = cut_of why node number c (is_of c.origin node) old new is refl u

cuts_each : (why : Absence) (node : ℕ) (numbers : List ℕ) (old new : Told) → CutEach why node numbers old new → Cuts node numbers old new
unfolding CutEach AllAre
cuts_each why node [] old new same = record {
  told = [];
  orders = ap (λ (told : Told). told.orders) same ∙ sym (ap (λ (items : List Order). record old.orders { items = items }) (append-nil old.orders.items));
  all = tt;
  left = λ number c is. subst (λ (told : Told). client_at told.clients number ≡ Some c) same is;
  away = All-nil (IsAway node new.clients);
}
cuts_each why node (number ∷ numbers) old new (behind, cuts, more) =
    let first = cut_by why node number (client_at old.clients number) old behind refl cuts in
    let last = cuts_each why node numbers behind new more in
    record {
      told = first.told ++ last.told;
      orders =
          last.orders
          ∙ ap (λ (orders : Ordered). ordered orders last.told) first.orders
          ∙ ap (λ (items : List Order). record old.orders { items = items }) (append_assoc old.orders.items first.told last.told);
      all = all_append (Plain node true) first.told last.told first.all last.all;
      left = λ number c is. first.left number c (last.left number c is);
      away = All-cons (IsAway node new.clients) number numbers (λ c is. first.away c (last.left number c is)) last.away;
    }

-- Once all were told, each client that stays belongs to another node.
pub cuts_all : (P : Order → Type 0) (why : Absence) (node : ℕ) (old new : Told) → AllGood P old.clients → CutEach why node (keys old.clients.all) old new → Grows (Plain node true) old new
cuts_all P why node old new good cuts =
    let c = cuts_each why node (keys old.clients.all) old new cuts in
    record {
      told = c.told;
      orders = c.orders;
      all = c.all;
      good = λ number client found.
          let was = c.left number client found in
          let (known, other) = btree_map_contains_key_iff nat_cmp_total exact_unsigned old.clients.all number in
          let here = known (ap (λ (o : Option Client). is_some o) was) in
          let away = All-contains (IsAway node new.clients) (keys old.clients.all) number c.away here client found in
          apart_good node true P client away (good number client was);
    }
