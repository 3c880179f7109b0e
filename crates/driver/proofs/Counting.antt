-- How many notes a node was sent: as many as are in its orders.
use Rattle.std.proofs.Common.{◌≡◌, ◌∙◌, ◌++◌, ℕ, zero, suc, ◌+◌, ◌-◌, ◌<◌, ◌≤◌, Bool, true, false, List, [], ◌∷◌, length, refl, sym, ap, subst, set, slice_index, arith}
use Rattle.std.specs.Prelude.{◌^◌, min, nat_eq, if◌then◌else◌}
use Rattle.std.proofs.lemmas.List.{get_or-set_same, get_or-set_other, length-set}
use Rattle.driver.specs.declared.driver.Driver.{Driver}
use Rattle.driver.specs.declared.order.Order.{Order}
use Rattle.driver.specs.declared.order.Order.TheVariants as order
use Rattle.driver.specs.Calls.{Call, Does, DoesAll, IsTold, Step}
use Rattle.driver.specs.Calls.{Connect, Connected, Dismiss, End, Hand, Hear, Lose, Notice, Receive, ReceiveLine, Refuse, Take, Tick, Watch, WatchNodes, WatchPasswords}
use Rattle.driver.specs.Counting.{NotesAreCounted, all_told, notes_in, notes_told}
use Rattle.driver.specs.Telling.{Ordered, counted, counts, none_told, one_more, ordered, told_to}
use Rattle.driver.proofs.Claiming.{apart_eq, same_eq}
use Rattle.driver.proofs.Growing.{by_number}

abbrev pub most : ℕ
most = 2 ^ 64 - 1

-- a count that is one more, or the same, and after that more
raised_more : (count more : ℕ) → min (min (count + 1) most + more) most ≡ min (count + (1 + more)) most
raised_more count more = omega (arith)

raised_none : (count more : ℕ) → min (count + more) most ≡ min (count + (0 + more)) most
raised_none count more = omega (arith)

-- nothing, and then more
raised_zero : (more : ℕ) → min more most ≡ min (0 + more) most
raised_zero more = omega (arith)

pub counted_length : (told : List ℕ) (o : Order) → length (counted told o) ≡ length told
counted_length told (order.Submit other note) = length-set told (other - 1) _
counted_length told (order.Write client bytes) = refl
counted_length told (order.Close client) = refl
counted_length told order.Connect = refl
counted_length told (order.Send bytes) = refl
counted_length told order.Disconnect = refl
counted_length told (order.Log news) = refl

-- the count of a node after an order
pub record Counts (node : ℕ) (told : List ℕ) (o : Order) (more : ℕ) : Type 0 where
  pub small : slice_index (counted told o) (node - 1) ≤ most
  pub same : min (slice_index (counted told o) (node - 1) + more) most ≡ min (slice_index told (node - 1) + (notes_in node o + more)) most

counts_none : (node : ℕ) (told : List ℕ) (o : Order) (more : ℕ) → slice_index told (node - 1) ≤ most → slice_index (counted told o) (node - 1) ≡ slice_index told (node - 1) → notes_in node o ≡ 0 → Counts node told o more
counts_none node told o more small same none = record {
  small = subst (λ (k : ℕ). k ≤ most) (sym same) small;
  same =
      ap (λ (k : ℕ). min (k + more) most) same
      ∙ raised_none (slice_index told (node - 1)) more
      ∙ ap (λ (k : ℕ). min (slice_index told (node - 1) + (k + more)) most) (sym none);
}

if_one : (b : Bool) (k : ℕ) → b ≡ true → (if b then k else 0) ≡ k
if_one true k is = refl
if_one false k is = absurd (cc is)

if_none : (b : Bool) (k : ℕ) → b ≡ false → (if b then k else 0) ≡ 0
if_none true k is = absurd (cc is)
if_none false k is = refl

counts_one : (node : ℕ) (told : List ℕ) (o : Order) (more : ℕ) → node - 1 < length told → slice_index told (node - 1) ≤ most → Counts node told o more
counts_one node told (order.Submit other note) more within small =
    by_number (other - 1) (node - 1) (Counts node told (order.Submit other note) more)
    (λ same.
    let count = slice_index told (node - 1) in
    let raised : slice_index (counted told (order.Submit other note)) (node - 1) ≡ one_more count =
    subst (λ (k : ℕ). slice_index (set told k (one_more (slice_index told k))) (node - 1) ≡ one_more count) (sym same)
    (get_or-set_same told (node - 1) (one_more count) 0 within)
    in
    let one : notes_in node (order.Submit other note) ≡ 1 = if_one (nat_eq (other - 1) (node - 1)) 1 (subst (λ (k : ℕ). nat_eq k (node - 1) ≡ true) (sym same) (same_eq (node - 1))) in
    record {
      small = subst (λ (k : ℕ). k ≤ most) (sym raised) (omega (arith));
      same =
          ap (λ (k : ℕ). min (k + more) most) raised
          ∙ raised_more count more
          ∙ ap (λ (k : ℕ). min (count + (k + more)) most) (sym one);
    })
    (λ apart.
    counts_none node told (order.Submit other note) more small
    (get_or-set_other told (other - 1) (node - 1) _ 0 (λ e. apart (sym e)))
    (if_none (nat_eq (other - 1) (node - 1)) 1 (apart_eq (other - 1) (node - 1) apart)))
counts_one node told (order.Write client bytes) more within small = counts_none node told (order.Write client bytes) more small refl refl
counts_one node told (order.Close client) more within small = counts_none node told (order.Close client) more small refl refl
counts_one node told order.Connect more within small = counts_none node told order.Connect more small refl refl
counts_one node told (order.Send bytes) more within small = counts_none node told (order.Send bytes) more small refl refl
counts_one node told order.Disconnect more within small = counts_none node told order.Disconnect more small refl refl
counts_one node told (order.Log news) more within small = counts_none node told (order.Log news) more small refl refl

small_is : (count : ℕ) → count ≤ most → count ≡ min (count + 0) most
small_is count small = omega (arith, small)

pub counts_all : (node : ℕ) (items : List Order) (told : List ℕ) → node - 1 < length told → slice_index told (node - 1) ≤ most → slice_index (counts told items) (node - 1) ≡ min (slice_index told (node - 1) + notes_told node items) most
unfolding counts notes_told
counts_all node [] told within small = small_is (slice_index told (node - 1)) small
counts_all node (o ∷ items) told within small =
    let one = counts_one node told o (notes_told node items) within small in
    let inside = subst (λ (k : ℕ). node - 1 < k) (sym (counted_length told o)) within in
    counts_all node items (counted told o) inside one.small ∙ one.same

pub counts_append : (told : List ℕ) (xs ys : List Order) → counts told (xs ++ ys) ≡ counts (counts told xs) ys
unfolding counts
counts_append told [] ys = refl
counts_append told (x ∷ xs) ys = counts_append (counted told x) xs ys

-- what was sent in all
abbrev pub in_all : Ordered → List ℕ
in_all orders = counts orders.before orders.items

ordered_all : (before after : Ordered) (told : List Order) → after ≡ ordered before told → in_all after ≡ counts (in_all before) told
ordered_all before after told is = ap in_all is ∙ counts_append before.before before.items told

pub step_all : (call : Call) (told : List Order) (old new : Driver) → Does call old new → IsTold call told old.orders new.orders → in_all new.orders ≡ counts (in_all old.orders) told
unfolding counts
step_all (Connect now node) told old new does is = ordered_all old.orders new.orders told is
step_all (Receive bytes now at number) told old new does is = ordered_all old.orders new.orders told is
step_all (Lose now at number) told old new does is = ordered_all old.orders new.orders told is
step_all (Hand node line) told old new does is = ordered_all old.orders new.orders told is
step_all (Hear now at node status effects progress refused) told old new does is = ordered_all old.orders new.orders told is
step_all (Tick now at) told old new does is = ordered_all old.orders new.orders told is
step_all (Connected now) told old new does is = ordered_all old.orders new.orders told is
step_all (ReceiveLine now at bytes) told old new does is = ordered_all old.orders new.orders told is
step_all (End now why) told old new does is = ordered_all old.orders new.orders told is
step_all (Notice text) told old new does is = ordered_all old.orders new.orders told is
step_all (Dismiss now at) told old new does is = ordered_all old.orders new.orders told is
step_all Watch told old new does is = ordered_all old.orders new.orders told is
step_all (WatchNodes now) told old new does is = ordered_all old.orders new.orders told is
step_all (WatchPasswords now) told old new does is = ordered_all old.orders new.orders told is
step_all (Refuse number) told old new does is = ordered_all old.orders new.orders told is
step_all Take told old new does is = ap in_all does.given ∙ ap (counts (in_all old.orders)) (sym is)

steps_all : (steps : List Step) (old new : Driver) → DoesAll steps old new → in_all new.orders ≡ counts (in_all old.orders) (all_told steps)
unfolding DoesAll all_told counts
steps_all [] old new same = ap (λ (driver : Driver). in_all driver.orders) same
steps_all (step ∷ more) old new (behind, does, rest) =
    steps_all more behind new rest
    ∙ ap (λ (told : List ℕ). counts told (all_told more)) (step_all step.call step.told old behind does.does does.told)
    ∙ sym (counts_append (in_all old.orders) step.told (all_told more))

none_at : (i : ℕ) → slice_index none_told.before i ≡ 0
none_at zero = refl
none_at (suc zero) = refl
none_at (suc (suc zero)) = refl
none_at (suc (suc (suc zero))) = refl
none_at (suc (suc (suc (suc zero)))) = refl
none_at (suc (suc (suc (suc (suc zero))))) = refl
none_at (suc (suc (suc (suc (suc (suc zero)))))) = refl
none_at (suc (suc (suc (suc (suc (suc (suc i))))))) = refl

-- no node was sent anything at first
first_none : (node : ℕ) → slice_index none_told.before (node - 1) ≡ 0
first_none node = none_at (node - 1)

pub notes_counted : NotesAreCounted
unfolding counts told_to
notes_counted node steps driver low high led =
    let zeros = none_told.before in
    let within : node - 1 < 7 = omega (arith, low, high) in
    let none = first_none node in
    let small : slice_index zeros (node - 1) ≤ most = subst (λ (k : ℕ). k ≤ most) (sym none) (omega (arith)) in
    ap (λ (told : List ℕ). slice_index told (node - 1)) (steps_all steps led.first driver led.calls ∙ ap (λ (orders : Ordered). counts (in_all orders) (all_told steps)) led.is_new.orders)
    ∙ counts_all node (all_told steps) zeros within small
    ∙ ap (λ (k : ℕ). min (k + notes_told node (all_told steps)) most) none
    ∙ sym (raised_zero (notes_told node (all_told steps)))
