-- Requests are numbered from 1 on.
use Rattle.std.proofs.Common.{◌≡◌, ℕ, ◌+◌, Bool, true, false, List, [], ◌∷◌, ◌++◌, length, refl, subst, arith, length-append}
use Rattle.std.specs.Prelude.{if◌then◌else◌, option_to_list}
use Rattle.machine_laws.specs.Origins.{same_origin}
use Rattle.irc_line.specs.declared.item.Item.{Item}
use Rattle.buffer_commands.specs.declared.command.Action.{Action}
use Rattle.buffer_commands.specs.declared.command.Action.TheVariants as action
use Rattle.buffer_commands.specs.declared.effect.Effect.TheVariants as effect
use Rattle.session_fence.specs.declared.effect.FenceEffect.TheVariants as fence
use Rattle.upstream_claim.specs.declared.effect.ClaimsEffect.TheVariants as claims
use Rattle.request_once.specs.declared.answer.Answer.TheVariants as answer
use Rattle.client_gate.specs.declared.request.Request.{Request}
use Rattle.client_gate.specs.declared.settings.Settings.{Settings}
use Rattle.client_gate.specs.declared.phase.Phase.{Phase}
use Rattle.client_gate.specs.declared.phase.Phase.TheVariants.{Arriving, Attached, Left}
use Rattle.client_gate.specs.Turns.{Deed, Ask, Leave, Note, Write, Move, Close, Progress, all_done, asked, done, has_room, numbered_next, request}
use Rattle.client_gate.specs.Serving.{all_fed, fed, item_deeds}
use Rattle.client_gate.specs.Gates.{Gate, Given, GateEffect, after_effect, after_items, answered, begun, ended, given_items, leave_of, shut}
use Rattle.client_gate.specs.Calls.{Call, Feed, Hear, End, Refused, fed_answer, gate, items_brought}
use Rattle.client_gate.specs.Numbers.{AreNumberedFrom, all_requests}

-- followed by more requests
are_more : (n : ℕ) (xs ys : List Request) → AreNumberedFrom n xs → AreNumberedFrom (n + length xs) ys → AreNumberedFrom n (xs ++ ys)
are_more n [] ys h i = let e : n + 0 ≡ n = omega arith in subst (λ (k : ℕ). AreNumberedFrom k ys) e i
are_more n (x ∷ xs) ys h i =
    let e : n + length (x ∷ xs) ≡ (n + 1) + length xs = omega arith in
    (h.0, are_more (n + 1) xs ys h.1 (subst (λ (k : ℕ). AreNumberedFrom k ys) e i))

-- one more
are_one_more : (n k : ℕ) (xs : List Request) (a : Action) → AreNumberedFrom n xs → k ≡ n + length xs → AreNumberedFrom n (xs ++ request k a ∷ [])
are_one_more n k xs a h e = are_more n xs (request k a ∷ []) h (e, tt)

-- a call that began after the number m has numbered its requests from there on
record Counted (m : ℕ) (p : Progress) : Type 0 where
  count : p.numbered ≡ m + length p.requests
  are : AreNumberedFrom (m + 1) p.requests

counted_next : (m : ℕ) (a : Action) (p : Progress) → Counted m p → Counted m (numbered_next a p)
counted_next m a p h =
    let e = h.count in
    record {
      count = omega (arith, e, length-append {A = Request});
      are = are_one_more (m + 1) (p.numbered + 1) p.requests a h.are (omega (arith, e));
    }

counted_asked : (m : ℕ) (nick : List ℕ) (a : Action) (p : Progress) (b : Bool) → has_room p ≡ b → Counted m p → Counted m (asked nick a p)
counted_asked m nick a p true e h = rw e (counted_next m a p h)
counted_asked m nick a p false e h = rw e (record { count = h.count; are = h.are })

counted_done : (m : ℕ) (nick : List ℕ) (p : Progress) (d : Deed) → Counted m p → Counted m (done nick p d)
counted_done m nick p (Ask a) h = counted_asked m nick a p (has_room p) refl h
counted_done m nick p Leave h = let n = counted_next m action.Leave p h in record { count = n.count; are = n.are }
counted_done m nick p (Write bytes) h = record { count = h.count; are = h.are }
counted_done m nick p (Note word) h = record { count = h.count; are = h.are }
counted_done m nick p (Move phase) h = record { count = h.count; are = h.are }
counted_done m nick p Close h = record { count = h.count; are = h.are }

counted_all_done : (m : ℕ) (nick : List ℕ) (p : Progress) (ds : List Deed) → Counted m p → Counted m (all_done nick p ds)
counted_all_done m nick p [] h = h
counted_all_done m nick p (d ∷ ds) h = counted_all_done m nick (done nick p d) ds (counted_done m nick p d h)

counted_either : (m : ℕ) (p q : Progress) (b : Bool) → Counted m p → Counted m q → Counted m (if b then p else q)
counted_either m p q true h i = h
counted_either m p q false h i = i

counted_fed : (m : ℕ) (s : Settings) (p : Progress) (item : Item) → Counted m p → Counted m (fed s p item)
unfolding fed
counted_fed m s p item h =
    counted_either m p (all_done s.nick p (item_deeds s p.phase item)) p.close h (counted_all_done m s.nick p (item_deeds s p.phase item) h)

counted_all_fed : (m : ℕ) (s : Settings) (p : Progress) (items : List Item) → Counted m p → Counted m (all_fed s p items)
unfolding all_fed
counted_all_fed m s p [] h = h
counted_all_fed m s p (item ∷ items) h = counted_all_fed m s (fed s p item) items (counted_fed m s p item h)

-- The requests that a call adds to those before it

-- the requests so far are numbered from 1 on, and the gate knows the last number
record Told (rs : List Request) (g : Gate) : Type 0 where
  count : g.numbered ≡ length rs
  are : AreNumberedFrom 1 rs

-- and those that a call adds follow them
record Adds (g : Gate) (more : List Request) (new : Gate) : Type 0 where
  count : new.numbered ≡ g.numbered + length more
  are : AreNumberedFrom (g.numbered + 1) more

told_more : (rs more : List Request) (g new : Gate) → Told rs g → Adds g more new → Told (rs ++ more) new
told_more rs more g new t a =
    let e = t.count in
    let f = a.count in
    let one : g.numbered + 1 ≡ 1 + length rs = omega (arith, e) in
    record {
      count = omega (arith, e, f, length-append rs more);
      are = are_more 1 rs more t.are (subst (λ (k : ℕ). AreNumberedFrom k more) one a.are);
    }

adds_none : (g new : Gate) → new.numbered ≡ g.numbered → Adds g [] new
adds_none g new e = record { count = omega (arith, e); are = tt }

adds_by_items : (s : Settings) (g : Gate) (items : List Item) (b : Bool) → Adds g (if b then [] else (all_fed s (begun g) items).requests) (if b then g else record { phase = (all_fed s (begun g) items).phase; waiting = g.waiting ++ (all_fed s (begun g) items).requests; numbered = (all_fed s (begun g) items).numbered; closed = (all_fed s (begun g) items).close })
adds_by_items s g items true = adds_none g g refl
adds_by_items s g items false =
    let c = counted_all_fed g.numbered s (begun g) items (record { count = omega arith; are = tt }) in
    record { count = c.count; are = c.are }

if_requests : (b : Bool) (x y : Given) → (if b then x else y).requests ≡ (if b then x.requests else y.requests)
if_requests true x y = refl
if_requests false x y = refl

adds_items : (s : Settings) (g : Gate) (items : List Item) → Adds g (given_items s g items).requests (after_items s g items)
adds_items s g items = rw (if_requests g.closed) (adds_by_items s g items g.closed)

same_number : (g x : Gate) (b : Bool) → x.numbered ≡ g.numbered → (if b then x else g).numbered ≡ g.numbered
same_number g x true e = e
same_number g x false e = refl

effect_adds_none : (s : Settings) (g : Gate) (e : GateEffect) → (after_effect s g e).numbered ≡ g.numbered
effect_adds_none s g (answer.Effect (claims.Inner (fence.Inner (effect.Close o)))) = same_number g (shut g) (same_origin s.origin o) refl
effect_adds_none s g (answer.Effect (claims.Inner (fence.Inner (effect.Show o x)))) = refl
effect_adds_none s g (answer.Effect (claims.Inner (fence.Inner (effect.Send o x)))) = refl
effect_adds_none s g (answer.Effect (claims.Inner (fence.Inner (effect.Rejoin x)))) = refl
effect_adds_none s g (answer.Effect (claims.Inner (fence.Rejoin id x))) = refl
effect_adds_none s g (answer.Effect (claims.Busy o)) = refl
effect_adds_none s g (answer.Effect (claims.Hand id n x)) = refl
effect_adds_none s g (answer.Done o n) = same_number g (answered n g) (same_origin s.origin o) refl
effect_adds_none s g (answer.Repeat o n) = same_number g (answered n g) (same_origin s.origin o) refl
effect_adds_none s g (answer.Gap o n) = refl
effect_adds_none s g (answer.Marked m) = refl

end_adds : (phase : Phase) (g : Gate) → Adds g (option_to_list (leave_of phase g.numbered)) (ended phase g)
end_adds (Arriving arrival) g = adds_none g (shut g) refl
end_adds Attached g = record { count = refl; are = (refl, tt) }
end_adds Left g = adds_none g (shut g) refl

told : (s : Settings) (calls : List Call) → Told (all_requests s calls) (gate s calls)
unfolding all_requests gate fed_answer
told s [] = record { count = refl; are = tt }
told s (Feed bytes ∷ earlier) =
    told_more (all_requests s earlier) _ (gate s earlier) _ (told s earlier) (adds_items s (gate s earlier) (items_brought earlier bytes))
told s (Hear e ∷ earlier) =
    told_more (all_requests s earlier) [] (gate s earlier) _ (told s earlier) (adds_none (gate s earlier) (after_effect s (gate s earlier) e) (effect_adds_none s (gate s earlier) e))
told s (End ∷ earlier) =
    told_more (all_requests s earlier) _ (gate s earlier) _ (told s earlier) (end_adds (gate s earlier).phase (gate s earlier))
told s (Refused ∷ earlier) =
    told_more (all_requests s earlier) [] (gate s earlier) (shut (gate s earlier)) (told s earlier) (adds_none (gate s earlier) (shut (gate s earlier)) refl)

pub all_are_numbered : (s : Settings) (calls : List Call) → AreNumberedFrom 1 (all_requests s calls)
all_are_numbered s calls = (told s calls).are
