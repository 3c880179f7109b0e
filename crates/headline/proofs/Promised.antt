-- All promises, of these events.
use Rattle.std.proofs.Common.{ℕ, List, take}
use Rattle.std.specs.Prelude.{Result, Ok, Err, IfOk}
use Rattle.buffer_commands.specs.Settings.{Settings}
use Rattle.world_run.specs.World.{Event}
use Rattle.world_run.proofs.Onward.{agreed_of, faithful_of, apart_of}
use Rattle.headline.specs.Tower.{tower}
use Rattle.headline.specs.Promises.{IsHeadline}
use Rattle.headline.proofs.Dones as dones
use Rattle.headline.proofs.Hands as hands
use Rattle.headline.proofs.Marks as marks
use Rattle.headline.proofs.RealTime as real_time

pub headline_of : (s : Settings) (size : ℕ) (es : List (Event (tower s))) → IsHeadline s size es
headline_of s size es =
    record {
      agreed = agreed_of (tower s) size es;
      faithful = faithful_of (tower s) size es;
      apart = apart_of (tower s) size es;
      acts_once = dones.requests_act_once s size es;
      others_change_nothing = dones.others_change_nothing s size es;
      done_once = dones.done_once s size es;
      done_is_agreed = real_time.done_is_agreed s size es;
      done_is_before = λ k. real_time.done_is_before s size (take k es);
      handed_once = hands.handed_once s size es;
      outgoing = hands.handed_is_outgoing s size es;
      marks = λ k. marks.marks_are_above s size (take k es);
      applied_marks = λ k. marks.applied_marks s size (take k es);
      confirmed = λ k. marks.confirmed_looks s size (take k es);
    }

-- what holds anyway holds if there is a result
pub if_any : {V E : Type 0} {P : Type 0} (r : Result V E) → P → IfOk r (λ _. P)
if_any (Ok v) p = p
if_any (Err e) p = tt
