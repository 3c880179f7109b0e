-- What a renewal writes may be begun anew, and continues with what waits.
use Rattle.std.proofs.Common.{◌≡◌, ◌⊎◌, ℕ, zero, suc, ◌+◌, ◌≤◌, ◌^◌, List, [], ◌∷◌, length, map, take, Some, slice_get, refl, sym, ap, subst, ◌∙◌, arith, length-take, ⊎_elim}
use Rattle.std.proofs.lemmas.List.{length-map}
use Rattle.machine_laws.specs.Runs as machine
use Rattle.wire_bytes.specs.declared.origin.Origin.{Origin}
use Rattle.raft_log.specs.declared.entry.Entry.{Entry}
use Rattle.raft_log.specs.Lists.{item}
use Rattle.raft_log.specs.Logs.{entry_limit}
use Rattle.raft_log.specs.Peers.{IsGroupSize}
use Rattle.bouncer_tower.specs.Bodies.{TowerBody}
use Rattle.led_lists.specs.Led.{IsLed}
use Rattle.renewal.specs.Lists as lists
use Rattle.renewal.specs.Lists.{IsRenewal, bodies_of, floors_of, waiting}
use Rattle.store_life.specs.Renewed.{IsAnew, client_of}
use Rattle.store_life.specs.Periods.{Follows, Period}
use Rattle.store_life.specs.Renewals.{RenewedFollows, RenewedIsAnew, runs_behind}

-- each of these runs is one above another
one_above : (nodes : ℕ) (greatest : List ℕ) (i boot : ℕ) → slice_get (runs_behind nodes greatest) i ≡ Some boot → 1 ≤ boot
one_above zero greatest i boot e = absurd (cc e)
one_above (suc nodes) [] i boot e = absurd (cc e)
one_above (suc nodes) (b ∷ bs) zero boot e = let same : b + 1 ≡ boot = cc e in omega arith
one_above (suc nodes) (b ∷ bs) (suc i) boot e = one_above nodes bs i boot e

at_place : (nodes : ℕ) (greatest : List ℕ) (i boot : ℕ) → item (runs_behind nodes greatest) i ≡ Some boot → 1 ≤ boot
at_place nodes greatest zero boot e = absurd (cc e)
at_place nodes greatest (suc i) boot e = one_above nodes greatest i boot e

-- the client of the renewal is of node 1 in its run
same_client : (nodes : ℕ) (greatest : List ℕ) → 1 ≤ nodes → client_of (runs_behind nodes greatest) ≡ lists.client_of greatest
same_client zero greatest le = absurd (omega arith)
same_client (suc nodes) [] le = refl
same_client (suc nodes) (b ∷ bs) le = refl

some_nodes : (nodes : ℕ) → IsGroupSize nodes → 1 ≤ nodes
some_nodes nodes g = ⊎_elim (λ e. omega arith) (λ more. ⊎_elim (λ e. omega arith) (λ e. omega arith) more) g

pub renewed_is_anew : RenewedIsAnew
renewed_is_anew s t forgotten greatest term nodes old new r group le within few =
    let count : length (runs_behind nodes greatest) ≡ nodes = rw (length-take, length-map) (omega arith) in
    let many : length (bodies_of new) ≡ length new = rw length-map refl in (
      record {
        group = subst IsGroupSize (sym count) group;
        runs = λ i boot e. at_place nodes greatest i boot e;
        above = omega arith;
        within = within;
        few = subst (λ (n : ℕ). n ≤ entry_limit) (sym many) few;
        led = subst (λ (o : Origin). IsLed t (term + 1) o (bodies_of new)) (sym (same_client nodes greatest (some_nodes nodes group))) r.begun.led;
      },
      r.terms,
    )

pub renewed_follows : RenewedFollows
renewed_follows p q forgotten greatest term new r e = record {
  floors = floors_of greatest;
  waits = ap (λ (bodies : List TowerBody). waiting q.settings (machine.run bodies)) e ∙ r.begun.waits;
}
