-- A gate is in the state to which its calls lead.
use Rattle.std.proofs.Common.{◌≡◌, ℕ, Bool, true, false, List, [], ◌∷◌, ◌++◌, length, drop, refl, ap, sym, subst, ◌∙◌}
use Rattle.std.specs.Prelude.{if◌then◌else◌}
use Rattle.std.proofs.Math.Seq.{drop-append_seam}
use Rattle.machine_laws.specs.Origins.{same_origin}
use Rattle.irc_line.specs.declared.item.Item.{Item}
use Rattle.irc_line.specs.Splitting.{items}
use Rattle.irc_line.specs.Splitting as splitting
use Rattle.buffer_commands.specs.declared.effect.Effect.TheVariants as effect
use Rattle.session_fence.specs.declared.effect.FenceEffect.TheVariants as fence
use Rattle.upstream_claim.specs.declared.effect.ClaimsEffect.TheVariants as claims
use Rattle.request_once.specs.declared.answer.Answer.TheVariants as answer
use Rattle.client_gate.specs.declared.request.Request.{Request}
use Rattle.client_gate.specs.declared.settings.Settings.{Settings}
use Rattle.client_gate.specs.declared.phase.Phase.{Phase}
use Rattle.client_gate.specs.declared.phase.Phase.TheVariants.{Arriving, Attached, Left}
use Rattle.client_gate.specs.Gates.{Gate, Given, GateEffect, after_effect, after_end, after_items, answered, ended, fresh, given_items, nothing, shut}
use Rattle.client_gate.specs.Calls.{Call, Feed, Hear, End, Refused, Held, KeepsGate, Stands, Takes, all_bytes, fed_answer, gate, items_brought}

-- what follows the front of a list
behind_front : (a b whole : List Item) → a ++ b ≡ whole → b ≡ drop (length a) whole
behind_front a b whole e = sym (drop-append_seam a b) ∙ ap (drop (length a)) e

-- nothing waits at first
pub fresh_is : (w : List Request) → w ≡ [] → record fresh { waiting = w } ≡ fresh
fresh_is w e = ap (λ (x : List Request). record fresh { waiting = x }) e

-- the first of two values
pub first_of_two : {A : Type 0} (b : Bool) (x y : A) → b ≡ true → x ≡ (if b then x else y)
first_of_two true x y e = refl
first_of_two false x y e = cc

-- the second of two values
pub second_of_two : {A : Type 0} (b : Bool) (x y : A) → b ≡ false → y ≡ (if b then x else y)
second_of_two true x y e = cc
second_of_two false x y e = refl

-- a closed gate does not change
pub closed_stays : (s : Settings) (g : Gate) (got : List Item) → g.closed ≡ true → after_items s g got ≡ g
closed_stays s g got e = sym (first_of_two g.closed g _ e)

-- and answers nothing
pub closed_says : (s : Settings) (g : Gate) (got : List Item) → g.closed ≡ true → nothing ≡ given_items s g got
closed_says s g got e = first_of_two g.closed nothing _ e

-- no gate is both closed and open
not_both : (b : Bool) → b ≡ true → b ≡ false → ⊥
not_both b t f = cc

pub closed_stands : (s : Settings) (calls : List Call) (h : Held) (bytes : List ℕ) → h.gate.closed ≡ true → Stands s calls h → Stands s (Feed bytes ∷ calls) h
unfolding gate
closed_stands s calls h bytes closed st =
    record {
      made = st.made;
      led = st.led ∙ sym (closed_stays s (gate s calls) (items_brought calls bytes) (ap (λ (g : Gate). g.closed) (sym st.led) ∙ closed));
      split = λ stays_open. absurd (not_both h.gate.closed closed stays_open);
    }

pub closed_answer : (s : Settings) (calls : List Call) (h : Held) (bytes : List ℕ) → h.gate.closed ≡ true → Stands s calls h → nothing ≡ fed_answer s calls bytes
unfolding fed_answer
closed_answer s calls h bytes closed st =
    closed_says s (gate s calls) (items_brought calls bytes) (ap (λ (g : Gate). g.closed) (sym st.led) ∙ closed)

-- the items that were received are those that the bytes brought
got_is : (s : Settings) (calls : List Call) (old new : Held) (bytes : List ℕ) (fed : Given) → old.gate.closed ≡ false → Stands s calls old → (t : Takes old bytes fed new) → t.got ≡ items_brought calls bytes
got_is s calls old new bytes fed was_open st t =
    behind_front (items (all_bytes calls)) t.got (items (all_bytes calls ++ bytes)) (t.brings (all_bytes calls) (st.split was_open))

pub takes_stands : (s : Settings) (calls : List Call) (old new : Held) (bytes : List ℕ) (fed : Given) → old.gate.closed ≡ false → Stands s calls old → Takes old bytes fed new → Stands s (Feed bytes ∷ calls) new
unfolding gate
takes_stands s calls old new bytes fed was_open st t =
    record {
      made = t.settings ∙ st.made;
      led =
          t.gate ∙ ap (λ (x : Settings). after_items x old.gate t.got) st.made ∙ ap (λ (x : Gate). after_items s x t.got) st.led
          ∙ ap (λ (x : List Item). after_items s (gate s calls) x) (got_is s calls old new bytes fed was_open st t);
      split = λ stays_open. t.behind (all_bytes calls) (st.split was_open);
    }

pub takes_answer : (s : Settings) (calls : List Call) (old new : Held) (bytes : List ℕ) (fed : Given) → old.gate.closed ≡ false → Stands s calls old → Takes old bytes fed new → fed ≡ fed_answer s calls bytes
unfolding fed_answer
takes_answer s calls old new bytes fed was_open st t =
    t.answer ∙ ap (λ (x : Settings). given_items x old.gate t.got) st.made ∙ ap (λ (x : Gate). given_items s x t.got) st.led
    ∙ ap (λ (x : List Item). given_items s (gate s calls) x) (got_is s calls old new bytes fed was_open st t)

true_false : (b : Bool) → b ≡ true → b ≡ false → ⊥
true_false b t f = cc

-- a call that runs out of memory closes the gate
pub refused_stands : (s : Settings) (calls : List Call) (old kept new : Held) → Stands s calls old → KeepsGate old kept → new ≡ record kept { gate = shut kept.gate } → Stands s (Refused ∷ calls) new
unfolding gate
refused_stands s calls old kept new st k e =
    record {
      made = ap (λ (h : Held). h.settings) e ∙ k.settings ∙ st.made;
      led = ap (λ (h : Held). h.gate) e ∙ ap shut (k.gate ∙ st.led);
      split = λ stays_open. absurd (true_false new.gate.closed (ap (λ (h : Held). h.gate.closed) e) stays_open);
    }

-- An effect

shut_by : (g : Gate) (b : Bool) → (if b then shut g else g).closed ≡ false → g.closed ≡ false
shut_by g true e = cc
shut_by g false e = e

answered_by : (g : Gate) (n : ℕ) (b : Bool) → (if b then answered n g else g).closed ≡ false → g.closed ≡ false
answered_by g n true e = e
answered_by g n false e = e

-- no effect opens a gate
was_open_before : (s : Settings) (g : Gate) (e : GateEffect) → (after_effect s g e).closed ≡ false → g.closed ≡ false
was_open_before s g (answer.Effect (claims.Inner (fence.Inner (effect.Close o)))) h = shut_by g (same_origin s.origin o) h
was_open_before s g (answer.Effect (claims.Inner (fence.Inner (effect.Show o x)))) h = h
was_open_before s g (answer.Effect (claims.Inner (fence.Inner (effect.Send o x)))) h = h
was_open_before s g (answer.Effect (claims.Inner (fence.Inner (effect.Rejoin x)))) h = h
was_open_before s g (answer.Effect (claims.Inner (fence.Rejoin id x))) h = h
was_open_before s g (answer.Effect (claims.Busy o)) h = h
was_open_before s g (answer.Effect (claims.Hand id n x)) h = h
was_open_before s g (answer.Done o n) h = answered_by g n (same_origin s.origin o) h
was_open_before s g (answer.Repeat o n) h = answered_by g n (same_origin s.origin o) h
was_open_before s g (answer.Gap o n) h = h
was_open_before s g (answer.Marked m) h = h

pub heard_stands : (s : Settings) (calls : List Call) (old new : Held) (e : GateEffect) → Stands s calls old → new ≡ record old { gate = after_effect old.settings old.gate e } → Stands s (Hear e ∷ calls) new
unfolding gate
heard_stands s calls old new e st is =
    record {
      made = ap (λ (h : Held). h.settings) is ∙ st.made;
      led =
          ap (λ (h : Held). h.gate) is ∙ ap (λ (x : Settings). after_effect x old.gate e) st.made ∙ ap (λ (x : Gate). after_effect s x e) st.led;
      split = λ stays_open.
          subst (λ (b : List ℕ). splitting.Stands b (all_bytes calls)) (ap (λ (h : Held). h.bytes) (sym is)) (st.split (was_open_before old.settings old.gate e (ap (λ (h : Held). h.gate.closed) (sym is) ∙ stays_open)));
    }

-- The end

ended_closes : (phase : Phase) (g : Gate) → (ended phase g).closed ≡ true
ended_closes (Arriving arrival) g = refl
ended_closes Attached g = refl
ended_closes Left g = refl

pub ended_stands : (s : Settings) (calls : List Call) (old new : Held) → Stands s calls old → new ≡ record old { gate = after_end old.gate } → Stands s (End ∷ calls) new
unfolding gate
ended_stands s calls old new st is =
    record {
      made = ap (λ (h : Held). h.settings) is ∙ st.made;
      led = ap (λ (h : Held). h.gate) is ∙ ap after_end st.led;
      split = λ stays_open.
          absurd (true_false new.gate.closed (ap (λ (h : Held). h.gate.closed) is ∙ ended_closes old.gate.phase old.gate) stays_open);
    }
