-- Only a request for it brings a mark, so a mark is above all that was committed before it was asked for.
use Rattle.std.proofs.Common.{ℕ, ◌≡◌, List, refl}
use Rattle.wire_bytes.specs.declared.mark.Mark as mark
use Rattle.buffer_commands.specs.Settings.{Settings}
use Rattle.agreement.specs.World.{start}
use Rattle.request_once.specs.declared.body.Body.TheVariants.{Blank, Mark}
use Rattle.bouncer_tower.specs.Bodies.{TowerBody}
use Rattle.world_run.specs.World.{Event, Brought}
use Rattle.world_run.proofs.Above as above
use Rattle.headline.specs.Tower.{tower}
use Rattle.headline.specs.Promises.{OverAll, IsAsked, IsMark, MarksAreAbove, AppliedMarks, ConfirmedLooks}
use Rattle.headline.proofs.Asking.{was_asked}

not_blank : (m : mark.Mark) → ◌≡◌ {A = TowerBody} (Mark m) Blank → ⊥
not_blank m e = absurd (cc e)

module _ (s : Settings) where
  asked_of : (m : mark.Mark) (size : ℕ) (es : List (Event (tower s))) → Brought (tower s) es (start size) (Mark m) → IsAsked s (IsMark m) es
  asked_of m size es h = was_asked s (IsMark m) (λ c e. absurd (cc e)) es (start size) (Mark m) refl h

  pub marks_are_above : OverAll s MarksAreAbove
  marks_are_above size early late m p e new at is k a =
      above.later_is_above (tower s) size early late (Mark m) p e (not_blank m) (λ h. new (asked_of m size early h)) at is k a

  pub applied_marks : OverAll s AppliedMarks
  applied_marks size early late m j c p n e new there at is k a =
      above.applied_has (tower s) size early late (Mark m) j c p n e (not_blank m) (λ h. new (asked_of m size early h)) there at is k a

  pub confirmed_looks : OverAll s ConfirmedLooks
  confirmed_looks size early late m p e j i from place target lines new at is le asked told k a =
      above.look_has (tower s) size early late (Mark m) p e j i from place target lines (not_blank m) (λ h. new (asked_of m size early h)) at is le asked told k a
