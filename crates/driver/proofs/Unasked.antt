-- A client's requests go in the same note, to the same node, whatever effects come.
use Rattle.std.proofs.Common.{◌≡◌, ◌∙◌, ℕ, Bool, true, false, List, ◌∷◌, refl, ap, ⊎_elim}
use Rattle.wire_bytes.specs.declared.moment.Moment.{Moment}
use Rattle.client_gate.specs.declared.fed.Fed.{Fed}
use Rattle.client_gate.specs.declared.settings.Settings.{Settings}
use Rattle.client_gate.specs.Calls.{Call, Feed, Hear, Refused, gate}
use Rattle.client_gate.specs.Gates.{GateEffect, Given, given_effect, is_turned_down}
use Rattle.driver.specs.declared.client.Client.{Client}
use Rattle.driver.specs.Asking.{begun, now_asked}
use Rattle.driver.specs.Clients.{is_shut}
use Rattle.driver.specs.Serving.{HasPassed, HearsEffect, IsParted, PartsIf, Receives, TakesBy}
use Rattle.driver.specs.Telling.{Ordered}

-- A client's requests go in the same note, to the same node.
pub record IsOf (c new : Client) : Type 0 where
  pub asked : new.asked ≡ c.asked
  pub origin : new.origin ≡ c.origin

pub of_both : (c mid new : Client) → IsOf c mid → IsOf mid new → IsOf c new
of_both c mid new first last = record { asked = last.asked ∙ first.asked; origin = last.origin ∙ first.origin }

pub of_same : (c new : Client) → new ≡ c → IsOf c new
of_same c new same = record { asked = ap (λ (c : Client). c.asked) same; origin = ap (λ (c : Client). c.origin) same }

pub of_rest : (c d new : Client) → new ≡ d → d.asked ≡ c.asked → d.origin ≡ c.origin → IsOf c new
of_rest c d new same asked origin = record { asked = ap (λ (c : Client). c.asked) same ∙ asked; origin = ap (λ (c : Client). c.origin) same ∙ origin }

passed_of : (s : Settings) (behind : List Call) (answer : Given) (now : ℕ) (at : Moment) (c new : Client) (before after : Ordered) → HasPassed s behind answer now at c before new after → IsOf c new
passed_of s behind answer now at c new before after h = of_rest c _ new h.stands.rest refl refl

parted_of : (s : Settings) (behind : List Call) (at : Moment) (c new : Client) (before after : Ordered) → IsParted at s behind c before new after → IsOf c new
parted_of s behind at c new before after h = of_rest c _ new h.stands.rest refl refl

pub parts_of : (parts : Bool) (at : Moment) (s : Settings) (calls : List Call) (old new : Client) (before after : Ordered) → PartsIf parts at s calls old before new after → IsOf old new
parts_of false at s calls old new before after (same, none) = of_same old new same
parts_of true at s calls old new before after h = parted_of s calls at old new before after h

takes_of : (wrong : Bool) (s : Settings) (behind : List Call) (fed : Fed) (now : ℕ) (at : Moment) (due : ℕ) (c new : Client) (before after : Ordered) → TakesBy wrong s behind fed now at due c before new after → IsOf c new
takes_of false s behind fed now at due c new before after (orders, stands) = of_rest c _ new stands.rest refl refl
takes_of true s behind fed now at due c new before after (orders, stands) = of_rest c _ new stands.rest refl refl

-- what a client becomes when something begins to wait
abbrev pub first_of : Ordered → ℕ → Settings → List Call → Client → Client
first_of before now s calls old = begun (now_asked before now old) (gate s calls).waiting old

pub reads_of : (bytes : List ℕ) (now : ℕ) (at : Moment) (due : ℕ) (s : Settings) (calls : List Call) (old new : Client) (before after : Ordered) → is_shut old ≡ false → Receives bytes now at due s calls old before new after → IsOf (first_of before now s calls old) new
reads_of bytes now at due s calls old new before after unshut h =
    ⊎_elim
    (λ p.
    let t = takes_of (is_turned_down (gate s (Feed bytes ∷ calls)).phase) s (Feed bytes ∷ calls) p.fed now at due _ new before after p.takes in
    record { asked = t.asked; origin = t.origin })
    (λ p. let t = parted_of s (Refused ∷ calls) at _ new before after p in record { asked = t.asked; origin = t.origin })
    (h.hears unshut)

pub effect_of : (e : GateEffect) (nick : List ℕ) (now : ℕ) (at : Moment) (s : Settings) (calls : List Call) (old new : Client) (before after : Ordered) → HearsEffect e nick now at s calls old before new after → IsOf (first_of before now s calls old) new
effect_of e nick now at s calls old new before after h =
    ⊎_elim
    (λ p. let t = passed_of s (Hear e ∷ calls) (given_effect s e) now at _ new before after p in record { asked = t.asked; origin = t.origin })
    (λ p. let t = parted_of s (Refused ∷ calls) at _ new before after p in record { asked = t.asked; origin = t.origin })
    h
