-- Which of the nodes looked at so far leads in the greatest term.
use Rattle.std.proofs.Common.{◌≡◌, ◌∙◌, if◌then◌else◌, ◌<◌, ◌≤◌, ℕ, suc, Bool, true, false, List, Option, Some, None, ⊎_elim, refl, sym, ap, subst, arith}
use Rattle.std.proofs.lemmas.Bool.{cases_lt, ltb-true, ltb-false}
use Rattle.std.specs.Prelude.{nat_lt}
use Rattle.driver.specs.declared.node_monitor.NodeMonitor.{NodeMonitor}
use Rattle.driver.specs.declared.leader.Leader.{Leader}
use Rattle.driver.specs.Leading.{IsBest, IsLeader, LeadsMost, NoneLeads, NoneLeadsAbove, better, term_at}
use Rattle.wire_bytes.specs.Limits.{node_limit}

-- none of the nodes up to this one leads above a term, nor does the next one: so none of those up to the next one does
none_above : (monitors : List NodeMonitor) (i : ℕ) (low high : ℕ) → low ≤ high → NoneLeadsAbove monitors i low → ((t : ℕ) → term_at monitors (suc i) ≡ Some t → t ≤ high) → NoneLeadsAbove monitors (suc i) high
none_above monitors i low high le upto own other t first within leads =
    ⊎_elim
    (λ h. let most : t ≤ low = upto other t first (omega (arith, h)) leads in omega (arith, most, le))
    (λ h. own t (subst (λ n. term_at monitors n ≡ Some t) (omega (arith, h, within)) leads))
    (cases_lt other (suc i))

-- the first that leads
first_best : (monitors : List NodeMonitor) (i term : ℕ) → NoneLeads monitors i → term_at monitors (suc i) ≡ Some term → LeadsMost monitors (suc i) (suc i) term
first_best monitors i term none leads = record {
  low = omega arith;
  high = omega arith;
  leads = leads;
  none_above =
      none_above monitors i 0 term (omega arith) (λ other t first h is. absurd (cc (none other first h, is)))
      (λ t is. let same : t ≡ term = cc (is, leads) in omega (arith, same));
  is_first = λ other t first before is. absurd (cc (none other first (omega (arith, before)), is));
}

-- one that leads, after a best one
next_best : (monitors : List NodeMonitor) (i term : ℕ) (best : Leader) (less : Bool) → nat_lt best.term term ≡ less → IsBest monitors i (Some best) → term_at monitors (suc i) ≡ Some term → IsBest monitors (suc i) (if less then Some (record { node = suc i; term = term }) else Some best)
next_best monitors i term best true is so own =
    let below : best.term < term = ltb-true best.term term is in
    record {
      low = omega arith;
      high = omega arith;
      leads = own;
      none_above =
          none_above monitors i best.term term (omega (arith, below)) so.none_above
          (λ t at. let same : t ≡ term = cc (at, own) in omega (arith, same));
      is_first = λ other t first before leads.
          let most : t ≤ best.term = so.none_above other t first (omega (arith, before)) leads in
          omega (arith, most, below);
    }
next_best monitors i term best false is so own =
    let most : term ≤ best.term = ltb-false best.term term is in
    let within : best.node ≤ i = so.high in
    record {
      low = so.low;
      high = omega (arith, within);
      leads = so.leads;
      none_above =
          none_above monitors i best.term best.term (omega arith) so.none_above
          (λ t at. let same : t ≡ term = cc (at, own) in omega (arith, same, most));
      is_first = so.is_first;
    }

-- one that does not lead, after a best one
kept_best : (monitors : List NodeMonitor) (i : ℕ) (best : Leader) → IsBest monitors i (Some best) → term_at monitors (suc i) ≡ None → IsBest monitors (suc i) (Some best)
kept_best monitors i best so is =
    let within : best.node ≤ i = so.high in
    record {
      low = so.low;
      high = omega (arith, within);
      leads = so.leads;
      none_above = none_above monitors i best.term best.term (omega arith) so.none_above (λ t at. absurd (cc (at, is)));
      is_first = so.is_first;
    }

-- the best with one more node
best_by : (monitors : List NodeMonitor) (i : ℕ) (best : Option Leader) (own : Option ℕ) → term_at monitors (suc i) ≡ own → IsBest monitors i best → IsBest monitors (suc i) (better best (suc i) own)
best_by monitors i None None is none =
    λ other first within.
    ⊎_elim
    (λ h. none other first (omega (arith, h)))
    (λ h. subst (λ n. term_at monitors n ≡ None) (omega (arith, h, within)) is)
    (cases_lt other (suc i))
best_by monitors i (Some best) None is so = kept_best monitors i best so is
best_by monitors i None (Some term) is none = first_best monitors i term none is
best_by monitors i (Some best) (Some term) is so = next_best monitors i term best (nat_lt best.term term) refl so is

pub best_more : (monitors : List NodeMonitor) (i : ℕ) (best : Option Leader) → IsBest monitors i best → IsBest monitors (suc i) (better best (suc i) (term_at monitors (suc i)))
best_more monitors i best is = best_by monitors i best (term_at monitors (suc i)) refl is

-- the best of all seven is the leader
pub leader_is : (monitors : List NodeMonitor) (best : Leader) → IsBest monitors node_limit (Some best) → IsLeader monitors (Some best.node)
leader_is monitors best so = (best.term, so)

-- among the same nodes there is only one such leader
same_leader : (monitors : List NodeMonitor) (last n m s t : ℕ) → LeadsMost monitors last n s → LeadsMost monitors last m t → m ≡ n
same_leader monitors last n m s t a b =
    let most : t ≤ s = a.none_above m t b.low b.high b.leads in
    let least : s ≤ t = b.none_above n s a.low a.high a.leads in
    ⊎_elim
    (λ before. let less : t < s = a.is_first m t b.low before b.leads in absurd (omega (arith, less, least)))
    (λ behind.
    ⊎_elim
    (λ before. let less : s < t = b.is_first n s a.low before a.leads in absurd (omega (arith, less, most)))
    (λ above. omega (arith, behind, above))
    (cases_lt n m))
    (cases_lt m n)

pub only_leader : (monitors : List NodeMonitor) (leader : Option ℕ) (n : ℕ) → IsLeader monitors (Some n) → IsLeader monitors leader → leader ≡ Some n
only_leader monitors None n (term, own) none = absurd (cc (none n own.low own.high, own.leads))
only_leader monitors (Some m) n (term, own) (other, so) = ap Some (same_leader monitors node_limit n m term other own so)

-- a change that keeps which nodes lead, and in which terms, keeps the leader
pub leader_kept : (monitors changed : List NodeMonitor) (leader : Option ℕ) → ((other : ℕ) → term_at changed other ≡ term_at monitors other) → IsLeader monitors leader → IsLeader changed leader
leader_kept monitors changed None same none = λ other low high. same other ∙ none other low high
leader_kept monitors changed (Some node) same (term, own) = (
  term,
  record {
    low = own.low;
    high = own.high;
    leads = same node ∙ own.leads;
    none_above = λ other t low high leads. own.none_above other t low high (sym (same other) ∙ leads);
    is_first = λ other t low before leads. own.is_first other t low before (sym (same other) ∙ leads);
  },
)
