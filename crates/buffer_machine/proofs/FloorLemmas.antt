-- The floors and the clients of a history.
use Rattle.std.proofs.Common.{◌≡◌, ◌≢◌, ℕ, zero, suc, ◌<◌, ◌≤◌, Bool, true, false, List, [], ◌∷◌, length, refl, ap, ◌∙◌, sym, arith, subst, get_or-set_other, get_or-set_same}
use Rattle.std.proofs.Math.ListN.{length-set}
use Rattle.std.specs.Prelude.{if◌then◌else◌, ◌==◌, nat_lt, max, replicate, slice_index, slice_set}
use Rattle.std.proofs.lemmas.Bool.Decides.{nat_tests}
use Rattle.buffer_commands.specs.Settings.{Settings}
use Rattle.buffer_machine.specs.Crowd.{attached, attached_after, floor, floor_after, ids, is_taken, takes}
use Rattle.buffer_machine.proofs.Unnamed.{attached-more}
use Rattle.buffer_machine.specs.Steps.{IsWithinLimits}
use Rattle.buffer_machine.specs.FloorSteps.{raised, floors_after, floor_for}
use Rattle.buffer_machine.specs.Held.{AreFloors}
use Rattle.buffer_commands.specs.declared.command.Action.TheVariants.{Attach, Leave, Say, Join, Part, Detach, Reattach, Play, Clear, ClearChannels, ClearQueries, ClearAll, SetBuffer, Pass}
use Rattle.buffer_commands.specs.declared.command.Command.{Command}
use Rattle.buffer_commands.specs.declared.command.Command.TheVariants.{Client, Upstream, NodeGone, Up, Down}
use Rattle.buffer_machine.proofs.AnyChannel.{floor_now}

floor-none : (node : ℕ) → floor [] node ≡ 0
unfolding floor
floor-none node = refl

floor-more : (x : Command) (earlier : List Command) (node : ℕ) → floor (x ∷ earlier) node ≡ floor_after (floor earlier node) node x
unfolding floor
floor-more x earlier node = refl

zeros : (count node : ℕ) → slice_index (replicate count 0) node ≡ 0
zeros zero node = refl
zeros (suc count) zero = refl
zeros (suc count) (suc node) = zeros count node

pub floors-new : AreFloors (replicate 8 0) []
floors-new = record { count = refl; each = λ node h. zeros 8 node ∙ sym (floor-none node) }

floors-same : (floors : List ℕ) (earlier : List Command) (x : Command) → AreFloors floors earlier → ((node : ℕ) → floor_after (floor earlier node) node x ≡ floor earlier node) → AreFloors floors (x ∷ earlier)
floors-same floors earlier x f h = record { count = f.count; each = λ node lt. f.each node lt ∙ sym (floor-more x earlier node ∙ h node) }

raised-count_by : (n floor : ℕ) (floors : List ℕ) (b : Bool) → length (if b then slice_set floors n floor else floors) ≡ length floors
raised-count_by n floor floors true = length-set floors n floor
raised-count_by n floor floors false = refl

raised-count : (n boot : ℕ) (floors : List ℕ) → length (raised n boot floors) ≡ length floors
raised-count n boot floors = raised-count_by n (max (slice_index floors n) boot) floors (nat_lt n (length floors))

raised-each_by : (n boot node : ℕ) (floors : List ℕ) (within same : Bool) → nat_lt n (length floors) ≡ within → (n == node) ≡ same → node < length floors
    → slice_index (if within then slice_set floors n (max (slice_index floors n) boot) else floors) node ≡ (if same then max (slice_index floors node) boot else slice_index floors node)
raised-each_by n boot node floors true true e f h =
    let here : n ≡ node = grind (arith, nat_tests) in
    let lt : n < length floors = omega arith in
    subst (λ k. slice_index (slice_set floors n (max (slice_index floors n) boot)) k ≡ max (slice_index floors k) boot) here (get_or-set_same floors n (max (slice_index floors n) boot) 0 lt)
raised-each_by n boot node floors true false e f h =
    let other : n ≢ node = grind (arith, nat_tests) in
    let ne : node ≢ n = omega arith in
    rw get_or-set_other refl
raised-each_by n boot node floors false true e f h = absurd (let here : n ≡ node = grind (arith, nat_tests) in let past : length floors ≤ n = grind (arith, nat_tests) in omega arith)
raised-each_by n boot node floors false false e f h = refl

raised-each : (n boot node : ℕ) (floors : List ℕ) → node < length floors → slice_index (raised n boot floors) node ≡ (if n == node then max (slice_index floors node) boot else slice_index floors node)
raised-each n boot node floors h = raised-each_by n boot node floors (nat_lt n (length floors)) (n == node) refl refl h

pub floors-step : (floors : List ℕ) (earlier : List Command) (x : Command) → AreFloors floors earlier → AreFloors (floors_after floors x) (x ∷ earlier)
floors-step floors earlier (Client o at action) f = floors-same floors earlier (Client o at action) f (λ node. refl)
floors-step floors earlier (Upstream at line) f = floors-same floors earlier (Upstream at line) f (λ node. refl)
floors-step floors earlier Up f = floors-same floors earlier Up f (λ node. refl)
floors-step floors earlier Down f = floors-same floors earlier Down f (λ node. refl)
floors-step floors earlier (NodeGone n boot) f = record {
  count = raised-count n boot floors ∙ f.count;
  each = λ node h.
      let len = f.count in
      raised-each n boot node floors (omega arith)
      ∙ (ap (λ v. if n == node then max v boot else v) (f.each node h) ∙ sym (floor-more (NodeGone n boot) earlier node));
}

-- the machine holds the floor of the node of a command's client
pub floor-is : (floors : List ℕ) (earlier : List Command) (x : Command) → AreFloors floors earlier → IsWithinLimits x → floor_for floors x ≡ floor_now earlier x
floor-is floors earlier (Client o at action) f h = f.each o.0 h
floor-is floors earlier (Upstream at line) f h = refl
floor-is floors earlier (NodeGone n boot) f h = refl
floor-is floors earlier Up f h = refl
floor-is floors earlier Down f h = refl

-- whether a command is an Attach that is taken depends only on the floor of its client's node
pub one_floor : (s : Settings) (earlier : List Command) (x : Command) → is_taken (λ _. floor_now earlier x) (attached s earlier) (ids s earlier) x ≡ takes s earlier x
one_floor s earlier (Client o at (Attach id)) = refl
one_floor s earlier (Client o at Leave) = refl
one_floor s earlier (Client o at (Say verb name text)) = refl
one_floor s earlier (Client o at (Join c)) = refl
one_floor s earlier (Client o at (Part c)) = refl
one_floor s earlier (Client o at (Detach c)) = refl
one_floor s earlier (Client o at (Reattach c)) = refl
one_floor s earlier (Client o at (Play name)) = refl
one_floor s earlier (Client o at (Clear name)) = refl
one_floor s earlier (Client o at ClearChannels) = refl
one_floor s earlier (Client o at ClearQueries) = refl
one_floor s earlier (Client o at ClearAll) = refl
one_floor s earlier (Client o at (SetBuffer name n)) = refl
one_floor s earlier (Client o at (Pass line)) = refl
one_floor s earlier (Upstream at line) = refl
one_floor s earlier (NodeGone n boot) = refl
one_floor s earlier Up = refl
one_floor s earlier Down = refl

pub attached-step : (s : Settings) (earlier : List Command) (x : Command)
    → attached_after s.many_clients (is_taken (λ _. floor_now earlier x) (attached s earlier) (ids s earlier) x) (attached s earlier) x ≡ attached s (x ∷ earlier)
attached-step s earlier x = ap (λ b. attached_after s.many_clients b (attached s earlier) x) (one_floor s earlier x) ∙ sym (attached-more s x earlier)
