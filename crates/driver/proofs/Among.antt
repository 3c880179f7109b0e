-- The numbers of requests that wait at a gate.
use Rattle.std.proofs.Common.{◌≡◌, ◌∙◌, ◌++◌, ℕ, Bool, true, false, List, [], ◌∷◌, refl, sym, ap, subst}
use Rattle.std.specs.Prelude.{◌||◌, option_to_list, if◌then◌else◌, nat_eq, nat_le}
use Rattle.std.specs.List.{list_any}
use Rattle.std.proofs.lemmas.List.{append_assoc, append-nil, map-append}
use Rattle.std.proofs.lemmas.List.Folds.{list_any-append}
use Rattle.wire_bytes.specs.declared.moment.Moment.{Moment}
use Rattle.wire_bytes.specs.declared.origin.Origin.{Origin}
use Rattle.machine_laws.specs.Origins.{same_origin}
use Rattle.buffer_commands.specs.declared.effect.Effect.TheVariants as effect
use Rattle.session_fence.specs.declared.effect.FenceEffect.TheVariants as fence
use Rattle.upstream_claim.specs.declared.effect.ClaimsEffect.TheVariants as claims
use Rattle.request_once.specs.declared.answer.Answer.TheVariants as answer
use Rattle.client_gate.specs.declared.phase.Phase.{Phase}
use Rattle.client_gate.specs.declared.phase.Phase.TheVariants.{Arriving, Attached, Left}
use Rattle.client_gate.specs.declared.request.Request.{Request}
use Rattle.client_gate.specs.declared.settings.Settings.{Settings}
use Rattle.client_gate.specs.Calls.{Call, End, Feed, Hear, Refused, fed_answer, gate, items_brought}
use Rattle.client_gate.specs.Gates.{Gate, GateEffect, after_effect, answered, begun, behind_number, ended as gate_ended, given, kept, last_request, leave_of, nothing, shut}
use Rattle.client_gate.specs.Serving.{all_fed}
use Rattle.client_gate.specs.Turns.{Progress}
use Rattle.driver.specs.Clients.{parting_unless}
use Rattle.driver.specs.Lost.{AreAmong, is_among}
use Rattle.driver.specs.Once.{numbers_of, numbers_told}
use Rattle.driver.specs.Serving.{ended, ended_if}
use Rattle.driver.proofs.AskedOnce.{told_last}

-- Numbers among numbers.

or_left : (a b : Bool) → a ≡ true → (a || b) ≡ true
or_left true b is = refl
or_left false b is = absurd (cc is)

or_right : (a b : Bool) → b ≡ true → (a || b) ≡ true
or_right true b is = refl
or_right false b is = is

pub among_all : (xs : List ℕ) → AreAmong xs xs
among_all xs number is = is

pub among_then : (xs ys zs : List ℕ) → AreAmong xs ys → AreAmong ys zs → AreAmong xs zs
among_then xs ys zs first last number is = last number (first number is)

pub among_left : (xs ys : List ℕ) → AreAmong xs (xs ++ ys)
among_left xs ys number is = list_any-append (nat_eq number) xs ys ∙ or_left (list_any (nat_eq number) xs) (list_any (nat_eq number) ys) is

pub among_right : (xs ys : List ℕ) → AreAmong ys (xs ++ ys)
among_right xs ys number is = list_any-append (nat_eq number) xs ys ∙ or_right (list_any (nat_eq number) xs) (list_any (nat_eq number) ys) is

or_either : (a b c : Bool) → (a ≡ true → c ≡ true) → (b ≡ true → c ≡ true) → (a || b) ≡ true → c ≡ true
or_either true b c first last is = first refl
or_either false b c first last is = last is

pub among_either : (xs ys zs : List ℕ) → AreAmong xs zs → AreAmong ys zs → AreAmong (xs ++ ys) zs
among_either xs ys zs first last number is =
    or_either (list_any (nat_eq number) xs) (list_any (nat_eq number) ys) (is_among number zs) (first number) (last number)
    (sym (list_any-append (nat_eq number) xs ys) ∙ is)

pub among_as : (xs ys zs : List ℕ) → ys ≡ zs → AreAmong xs ys → AreAmong xs zs
among_as xs ys zs is some = subst (λ (all : List ℕ). AreAmong xs all) is some

pub from_as : (xs ys zs : List ℕ) → ys ≡ xs → AreAmong xs zs → AreAmong ys zs
from_as xs ys zs is some = subst (λ (all : List ℕ). AreAmong all zs) (sym is) some

-- what waits after two stretches was waiting at first, or was sent in one of them
pub among_both : (w w1 w2 t1 t2 : List ℕ) → AreAmong w1 (w ++ t1) → AreAmong w2 (w1 ++ t2) → AreAmong w2 (w ++ (t1 ++ t2))
among_both w w1 w2 t1 t2 first last =
    among_as w2 ((w ++ t1) ++ t2) (w ++ (t1 ++ t2)) (append_assoc w t1 t2)
    (among_then w2 (w1 ++ t2) ((w ++ t1) ++ t2) last
    (among_either w1 t2 ((w ++ t1) ++ t2) (among_then w1 (w ++ t1) ((w ++ t1) ++ t2) first (among_left (w ++ t1) t2)) (among_right (w ++ t1) t2)))

-- What waits at a gate.

abbrev pub waiting_of : Settings → List Call → List ℕ
waiting_of s calls = numbers_of (gate s calls).waiting

numbers_both : (xs ys : List Request) → numbers_of (xs ++ ys) ≡ numbers_of xs ++ numbers_of ys
numbers_both xs ys = map-append (λ (request : Request). request.number) xs ys

fed_by : (closed : Bool) (g : Gate) (p : Progress) → numbers_of (if closed then g else kept g p).waiting ≡ numbers_of g.waiting ++ numbers_of (if closed then nothing else given p).requests
fed_by true g p = sym (append-nil (numbers_of g.waiting))
fed_by false g p = numbers_both g.waiting p.requests

pub feed_waiting : (s : Settings) (calls : List Call) (bytes : List ℕ) → waiting_of s (Feed bytes ∷ calls) ≡ waiting_of s calls ++ numbers_of (fed_answer s calls bytes).requests
unfolding gate fed_answer
feed_waiting s calls bytes = fed_by (gate s calls).closed (gate s calls) (all_fed s (begun (gate s calls)) (items_brought calls bytes))

among_more : (x : ℕ) (ys : List ℕ) → AreAmong ys (x ∷ ys)
among_more x ys number is = or_right (nat_eq number x) (list_any (nat_eq number) ys) is

fewer_by : (b : Bool) (r : Request) (some rs : List Request) → AreAmong (numbers_of some) (numbers_of rs) → AreAmong (numbers_of (if b then some else r ∷ rs)) (numbers_of (r ∷ rs))
fewer_by true r some rs less = among_then (numbers_of some) (numbers_of rs) (numbers_of (r ∷ rs)) less (among_more r.number (numbers_of rs))
fewer_by false r some rs less = among_all (numbers_of (r ∷ rs))

behind_fewer : (n : ℕ) (rs : List Request) → AreAmong (numbers_of (behind_number n rs)) (numbers_of rs)
behind_fewer n [] = among_all []
behind_fewer n (r ∷ rs) = fewer_by (nat_le r.number n) r (behind_number n rs) rs (behind_fewer n rs)

answered_fewer : (b : Bool) (n : ℕ) (g : Gate) → AreAmong (numbers_of (if b then answered n g else g).waiting) (numbers_of g.waiting)
answered_fewer true n g = behind_fewer n g.waiting
answered_fewer false n g = among_all (numbers_of g.waiting)

shut_same : (b : Bool) (g : Gate) → AreAmong (numbers_of (if b then shut g else g).waiting) (numbers_of g.waiting)
shut_same true g = among_all (numbers_of g.waiting)
shut_same false g = among_all (numbers_of g.waiting)

effect_fewer : (s : Settings) (g : Gate) (e : GateEffect) → AreAmong (numbers_of (after_effect s g e).waiting) (numbers_of g.waiting)
effect_fewer s g (answer.Effect (claims.Inner (fence.Inner (effect.Close o)))) = shut_same (same_origin s.origin o) g
effect_fewer s g (answer.Effect (claims.Inner (fence.Inner (effect.Show o x)))) = among_all (numbers_of g.waiting)
effect_fewer s g (answer.Effect (claims.Inner (fence.Inner (effect.Send o x)))) = among_all (numbers_of g.waiting)
effect_fewer s g (answer.Effect (claims.Inner (fence.Inner (effect.Rejoin x)))) = among_all (numbers_of g.waiting)
effect_fewer s g (answer.Effect (claims.Inner (fence.Rejoin id x))) = among_all (numbers_of g.waiting)
effect_fewer s g (answer.Effect (claims.Busy o)) = among_all (numbers_of g.waiting)
effect_fewer s g (answer.Effect (claims.Hand id n x)) = among_all (numbers_of g.waiting)
effect_fewer s g (answer.Done o n) = answered_fewer (same_origin s.origin o) n g
effect_fewer s g (answer.Repeat o n) = answered_fewer (same_origin s.origin o) n g
effect_fewer s g (answer.Gap o n) = among_all (numbers_of g.waiting)
effect_fewer s g (answer.Marked m) = among_all (numbers_of g.waiting)

pub hear_waiting : (s : Settings) (calls : List Call) (e : GateEffect) → AreAmong (waiting_of s (Hear e ∷ calls)) (waiting_of s calls)
unfolding gate
hear_waiting s calls e = effect_fewer s (gate s calls) e

end_by : (phase : Phase) (g : Gate) → numbers_of (gate_ended phase g).waiting ≡ numbers_of g.waiting ++ numbers_of (option_to_list (leave_of phase g.numbered))
end_by (Arriving arrival) g = sym (append-nil (numbers_of g.waiting))
end_by Attached g = numbers_both g.waiting (option_to_list (leave_of Attached g.numbered))
end_by Left g = sym (append-nil (numbers_of g.waiting))

pub end_waiting : (s : Settings) (calls : List Call) → waiting_of s (End ∷ calls) ≡ waiting_of s calls ++ numbers_of (option_to_list (last_request (gate s calls)))
unfolding gate
end_waiting s calls = end_by (gate s calls).phase (gate s calls)

pub refused_waiting : (s : Settings) (calls : List Call) → waiting_of s (Refused ∷ calls) ≡ waiting_of s calls
unfolding gate
refused_waiting s calls = refl

-- a gate that is ended waits for what the parting sends
pub ended_told : (gone attached : Bool) (s : Settings) (calls : List Call) (origin : Origin) (at : Moment) → AreAmong (waiting_of s (ended gone calls)) (waiting_of s calls ++ numbers_told (parting_unless gone attached origin at (last_request (gate s calls))))
ended_told true attached s calls origin at = among_left (waiting_of s calls) _
ended_told false attached s calls origin at =
    let last = last_request (gate s calls) in
    let all = waiting_of s calls ++ numbers_told (parting_unless false attached origin at last) in
    from_as all (waiting_of s (End ∷ calls)) all
    (end_waiting s calls ∙ ap (λ (numbers : List ℕ). waiting_of s calls ++ numbers) (sym (told_last attached origin at last)))
    (among_all all)

pub closed_told : (close gone attached : Bool) (s : Settings) (calls : List Call) (origin : Origin) (at : Moment) → AreAmong (waiting_of s (ended_if close gone calls)) (waiting_of s calls ++ numbers_told (if close then parting_unless gone attached origin at (last_request (gate s calls)) else []))
closed_told false gone attached s calls origin at = among_left (waiting_of s calls) _
closed_told true gone attached s calls origin at = ended_told gone attached s calls origin at
