-- What a worker does with its node's cell, step by step.
use Rattle.std.proofs.Common.{◌≡◌, ℕ, zero, suc, Bool, true, false, List, [], ◌∷◌, ◌++◌, Option, None, Some, option_map, refl, sym, subst}
use Rattle.wire_bytes.specs.declared.mark.Mark.{Mark}
use Rattle.raft_node.specs.Machine.{Machine}
use Rattle.world_views.specs.Inputs.{NodeInput}
use Rattle.raft_node.specs.declared.input.Input.TheVariants as input
use Rattle.node_cells.specs.Turns.{CellOf}
use Rattle.node_cells.specs.Upstreams.{Tally}
use Rattle.node_notes.specs.declared.note.Note.{Note}
use Rattle.node_notes.specs.declared.note.Note.TheVariants as note
use Rattle.node_threads.specs.declared.job.Job.{Job}
use Rattle.node_threads.specs.declared.job.Job.TheVariants as job
use Rattle.node_threads.specs.Homes.{IsSameHome}
use Rattle.node_threads.specs.Forwarding.{is_left}
use Rattle.node_threads.specs.Waiting.{Account}
use Rattle.node_threads.specs.Work.{Deed, Does, HasDeed, HasDone, HasDoneNote, IsTimedOutBy, HasGoneRound, HasHadTurn, HasLookedIn, HasTaken, HasTakenBut, HasTimedOut, HasTurnedIn, applies, takes_but, takes_unless}
use Rattle.node_threads.specs.Work.Deed.{Takes, Turns}
use Rattle.node_threads.proofs.Home.{home_after_input, home_after_look, home_after_restart, home_after_take, same_home, same_home_still}
use Rattle.node_threads.proofs.Seen.{home_asked, home_before, home_left}
use Rattle.node_threads.proofs.HomeMarked.{home_after_mark, home_after_waiting}

module _ (M : Machine) {Setup Hosted Store U : Type 0} (tally : U → Tally) where
  home_after_turning : (next : Option (NodeInput M.Body M.Line)) (c d : CellOf M Setup Hosted Store U) → HasTurnedIn M tally next c d → IsSameHome c d
  home_after_turning None c d h = same_home c d h
  home_after_turning (Some x) c d h = home_after_input M tally c x d h

  -- what was taken was processed
  pub looked_in : (c : CellOf M Setup Hosted Store U) (from : ℕ) (next : Option (NodeInput M.Body M.Line)) (b d : CellOf M Setup Hosted Store U) → HasTaken M c from next b → HasTurnedIn M tally next b d
      → HasLookedIn M tally c from d
  looked_in c from next b d h turned =
      record { came = h.came; between = b; taken = h.taken; turned = subst (λ (o : Option (NodeInput M.Body M.Line)). HasTurnedIn M tally o b d) h.next_is turned }

  pub home_after_looking : (c : CellOf M Setup Hosted Store U) (from : ℕ) (d : CellOf M Setup Hosted Store U) → HasLookedIn M tally c from d → IsSameHome c d
  home_after_looking c from d h =
      same_home_still c h.between d (home_after_take c from h.came h.between h.taken) (home_after_turning (option_map input.Deliver h.came) h.between d h.turned)

  home_after_deed : (e : Deed M.Body M.Line) (c d : CellOf M Setup Hosted Store U) → HasDeed M tally e c d → IsSameHome c d
  home_after_deed (Takes from) c d h = home_after_looking c from d h
  home_after_deed (Turns x) c d h = home_after_input M tally c x d h

  pub home_after : (es : List (Deed M.Body M.Line)) (c d : CellOf M Setup Hosted Store U) → Does M tally es c d → IsSameHome c d
  home_after [] c d h = same_home c d h
  home_after (e ∷ es) c d h = same_home_still c h.0 d (home_after_deed e c h.0 h.1) (home_after es h.0 d h.2)

  does_both : (es more : List (Deed M.Body M.Line)) (c b d : CellOf M Setup Hosted Store U) → Does M tally es c b → Does M tally more b d → Does M tally (es ++ more) c d
  does_both [] more c b d h k = subst (λ (z : CellOf M Setup Hosted Store U). Does M tally more z d) h k
  does_both (e ∷ es) more c b d h k = (h.0, h.1, does_both es more h.0 b d h.2 k)

  -- one more mailbox is taken, or left
  pub takes_next : (left : Option ℕ) (n m : ℕ) (is_it : Bool) (c b d : CellOf M Setup Hosted Store U) → m ≡ suc n → is_it ≡ is_left left n → Does M tally (takes_but left n) c b
      → Does M tally (takes_unless is_it n) b d → Does M tally (takes_but left m) c d
  takes_next left n m is_it c b d next is h k =
      subst (λ (z : ℕ). Does M tally (takes_but left z) c d) (sym next)
      (does_both (takes_but left n) (takes_unless (is_left left n) n) c b d h (subst (λ (x : Bool). Does M tally (takes_unless x n) b d) is k))

  pub takes_one : (c d : CellOf M Setup Hosted Store U) (from : ℕ) (is_it : Bool) → is_it ≡ false → HasLookedIn M tally c from d → Does M tally (takes_unless is_it from) c d
  takes_one c d from is_it is h = subst (λ (x : Bool). Does M tally (takes_unless x from) c d) (sym is) (d, h, refl)

  pub takes_none : (c : CellOf M Setup Hosted Store U) (from : ℕ) (is_it : Bool) → is_it ≡ true → Does M tally (takes_unless is_it from) c c
  takes_none c from is_it is = subst (λ (x : Bool). Does M tally (takes_unless x from) c c) (sym is) refl

  pub home_after_taking : (left : Option ℕ) (c d : CellOf M Setup Hosted Store U) → HasTakenBut M tally left c d → IsSameHome c d
  home_after_taking left c d h = home_after (takes_but left c.ether.size) c d h

  -- one more place is applied
  applies_end : (n : ℕ) (c b d : CellOf M Setup Hosted Store U) → Does M tally (applies n) c b → HasHadTurn M tally b input.Apply d → Does M tally (applies (suc n)) c d
  applies_end zero c b d h turned = (d, subst (λ (z : CellOf M Setup Hosted Store U). HasHadTurn M tally z input.Apply d) h turned, refl)
  applies_end (suc n) c b d h turned = (h.0, h.1, applies_end n h.0 b d h.2 turned)

  pub applies_next : (n m : ℕ) (c b d : CellOf M Setup Hosted Store U) → m ≡ suc n → Does M tally (applies n) c b → HasHadTurn M tally b input.Apply d → Does M tally (applies m) c d
  applies_next n m c b d next h turned = subst (λ (z : ℕ). Does M tally (applies z) c d) (sym next) (applies_end n c b d h turned)

  home_after_timeout : (few : Bool) (c d : CellOf M Setup Hosted Store U) → HasTimedOut M tally few c d → IsSameHome c d
  home_after_timeout few c d h = same_home_still c h.between d (home_after_taking None c h.between h.taken) (home_after _ h.between d h.turned)

  home_after_note : (n : Note M.Body M.Line) (c d : CellOf M Setup Hosted Store U) → HasDoneNote M tally n c d → IsSameHome c d
  home_after_note (note.Timeout contacts) c d h = home_after_timeout h.0 c d h.1
  home_after_note note.Beat c d h = home_after_input M tally c _ d h
  home_after_note (note.Ask body) c d h = same_home c d h
  home_after_note note.Opened c d h = home_after_input M tally c _ d h
  home_after_note note.Closed c d h = home_after_input M tally c _ d h
  home_after_note (note.Heard at line) c d h = home_after_input M tally c _ d h
  home_after_note note.Claim c d h = home_after_input M tally c _ d h
  home_after_note note.Wake c d h = same_home c d h
  home_after_note note.Restart c d h = home_after_restart M c h.0 d h.1
  home_after_note note.End c d h = same_home c d h

  pub home_after_round : (forwarded : Option ℕ) (a : Account M.Body) (c : CellOf M Setup Hosted Store U) (leaves : Bool) (b : Account M.Body) (d : CellOf M Setup Hosted Store U)
      → HasGoneRound M tally forwarded a c leaves b d → IsSameHome c d
  home_after_round forwarded a c leaves b d h =
      same_home_still c h.first d (home_before M tally _ a c h.account_first h.first h.asks_before)
      (same_home_still h.first h.seen d (home_left _ h.first h.left h.seen h.leaves)
      (same_home_still h.seen h.heard d (home_after_taking h.left h.seen h.heard h.takes)
      (same_home_still h.heard h.asked d (home_asked M tally h.account_heard h.heard h.all_asked h.account_asked h.asked h.asks)
      (same_home_still h.asked h.applied d (home_after _ h.asked h.applied h.applies_on.1) (home_after _ h.applied d h.beats)))))

  -- a note that is this one was done
  pub note_as : (n m : Note M.Body M.Line) (c d : CellOf M Setup Hosted Store U) → n ≡ m → HasDoneNote M tally m c d → HasDoneNote M tally n c d
  note_as n m c d is h = subst (λ (z : Note M.Body M.Line). HasDoneNote M tally z c d) (sym is) h

  pub timed_as : (heard : ℕ) (n m : Note M.Body M.Line) (c d : CellOf M Setup Hosted Store U) → n ≡ m → IsTimedOutBy M tally heard m c d → IsTimedOutBy M tally heard n c d
  timed_as heard n m c d is h = subst (λ (z : Note M.Body M.Line). IsTimedOutBy M tally heard z c d) (sym is) h

  module _ (marked : M.Body → Option Mark) (mark : Mark → M.Body) {Action : Type 0} where
    pub home_after_job : (j : Job Hosted Action M.Line M.Target M.Played Setup M.Body M.Effect) (c d : CellOf M Setup Hosted Store U) → HasDone M tally marked mark j c d → IsSameHome c d
    home_after_job (job.Note n) c d h = home_after_note n c d h
    home_after_job (job.Look place target reply) c d h = home_after_look M tally c place target h.0 d h.1
    home_after_job (job.Mark reply) c d h = home_after_mark M tally marked mark c h.0 d h.1
    home_after_job (job.LookAfter number target reply) c d h = home_after_waiting M tally marked c number target h.0 d h.1
    home_after_job (job.Restart reply) c d h = home_after_restart M c h.0 d h.1
    home_after_job (job.Status reply) c d h = same_home c d h

    -- a job that is this one was done
    pub done_as : (j k : Job Hosted Action M.Line M.Target M.Played Setup M.Body M.Effect) (c d : CellOf M Setup Hosted Store U) → j ≡ k → HasDone M tally marked mark k c d → HasDone M tally marked mark j c d
    done_as j k c d is h = subst (λ (z : Job Hosted Action M.Line M.Target M.Played Setup M.Body M.Effect). HasDone M tally marked mark z c d) (sym is) h
