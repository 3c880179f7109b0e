-- A node of a majority applies all that was settled, and a look there is played.
use Rattle.std.proofs.Common.{◌≡◌, ℕ, zero, suc, ◌≤◌, Bool, ltb, List, [], ◌∷◌, length, take, Some, sym, ap, subst, ◌∙◌, arith}
use Rattle.std.proofs.Math.Seq.{take-length}
use Rattle.std.proofs.lemmas.Bool.{cond-false, cond_both, le-ltb}
use Rattle.raft_log.specs.declared.entry.Entry.{Entry}
use Rattle.raft_log.specs.Lists.{item}
use Rattle.raft_log.specs.Node.{Node}
use Rattle.raft_node.specs.Machine.{Machine, history}
use Rattle.raft_node.specs.Steps.{Turn, Acts, Looks, Looked}
use Rattle.agreement.specs.World.{Begins, committed}
use Rattle.agreement.specs.Laws.{IsIn, IsMajority, longer, longest_now}
use Rattle.agreement.proofs.Lists.{begins_none, begins_trans}
use Rattle.world_run.specs.World.{World, Event, Does, Look, happens, run, out_by, out_of, longest_over}
use Rattle.progress.specs.Plans.{greatest_term, log_of, unapplied, lead_events, play_events, candidate, lead, apply_all, play}
use Rattle.progress.specs.Laws.{HasRoom}
use Rattle.progress.specs.Looks.{IsPlayed}
use Rattle.progress.proofs.Stepping.{Leads, leads_append}
use Rattle.progress.proofs.Sane.{Sane}
use Rattle.progress.proofs.Standing.{Stands, stands}
use Rattle.progress.proofs.Lengths.{then_long, apply_long}
use Rattle.progress.proofs.Applying.{Upto, applies_all}
use Rattle.progress.proofs.Sums.{add}
use Rattle.progress.proofs.Through.{is_by}
use Rattle.progress.proofs.Ruling as ruling

-- the longest committed list of any node at any moment is in a log that has each

module _ {B : Type 0} where
  longer_in : (xs ys l : List (Entry B)) → Begins xs l → Begins ys l → Begins (longer xs ys) l
  longer_in xs ys l a b = cond_both (ltb (length xs) (length ys)) ys xs (λ z. Begins z l) (λ h. b) (λ h. a)

  now_in : (l : List (Entry B)) (w : List (Node B)) → ((a : ℕ) → Begins (committed w a) l) → Begins (longest_now w) l
  now_in l [] h = begins_none l
  now_in l (s ∷ w) h = longer_in (take s.commit s.log) (longest_now w) l (h 1) (now_in l w later)
    where
      later : (a : ℕ) → Begins (committed w a) l
      later zero = begins_none l
      later (suc a) = h (suc (suc a))

module _ (M : Machine) where
  pub longest_in : (l : List (Entry M.Body)) (es : List (Event M)) (w : World M) → ((k a : ℕ) → k ≤ length es → Begins (committed (run M (take k es) w) a) l) → Begins (longest_over M es w) l
  longest_in l [] w h = now_in l w (λ a. h 0 a (omega arith))
  longest_in l (e ∷ es) w h =
      longer_in (longest_now w) (longest_over M es (happens M w e)) l (now_in l w (λ a. h 0 a (omega arith))) (longest_in l es (happens M w e) (λ k a le. h (suc k) a (omega arith)))

  -- a look from a place that was applied is played
  look_played : (w : World M) (a : ℕ) (s : Node M.Body) (from_place : ℕ) (target : M.Target) → item w a ≡ Some s → s.applied ≡ length s.log → from_place ≤ length s.log
      → out_of M w (Does (Look a from_place target)) ≡ Looked (length s.log) (M.playback (history s.log) target)
  look_played w a s from_place target at all le =
      ap (λ z. out_by M w a (Acts (Looks from_place target)) z) at
      ∙ (ap (λ (z : Turn M). z.out) (cond-false (ltb s.applied from_place) _ _ (le-ltb s.applied from_place (omega (arith, all))))
      ∙ (ap (λ z. Looked z (M.playback (history (take z s.log)) target)) all
      ∙ ap (λ z. Looked (length s.log) (M.playback (history z) target)) (take-length s.log)))

  module _ (set : List Bool) (n i : ℕ) (w : World M) (onward : (es : List (Event M)) → Sane n (run M es w)) (size : length w ≡ n) (two : 2 ≤ n) (most : IsMajority n set) (in_i : IsIn set i) (room : HasRoom M set w) (a : ℕ) (in_a : IsIn set a) where
    abbrev c : ℕ
    c = candidate set w

    abbrev then_world : World M
    then_world = run M (lead M set w) w

    leads : Leads M set w (lead M set w) (ruling.Reign M set n i w onward size two most in_i room)
    leads = ruling.leads M set n i w onward size two most in_i room

    abbrev reign : ruling.Reign M set n i w onward size two most in_i room (run M (lead M set w) w)
    reign = leads.ends

    abbrev Now : World M → Type 0
    Now x = Stands M set n c reign.T reign.L reign.boots reign.high most (ruling.in_c M set n i w onward size two most in_i room) reign.known.ends reign.known.some a in_a x

    now : Now then_world
    now = stands M set n c reign.T reign.L reign.boots reign.high most (ruling.in_c M set n i w onward size two most in_i room) reign.known.ends reign.known.some a in_a then_world reign.led

    abbrev Applied : World M → Type 0
    Applied v = Upto M a then_world now.node now.node.commit v

    applies : Leads M set then_world (apply_all M a then_world) Applied
    applies = applies_all M set a then_world now.node in_a now.at (omega (arith, now.applied_in, reign.known.high_in, now.commit_is)) (omega (arith, now.commit_is, ap length now.log_is))

    whole : Leads M set w (play M set a w) Applied
    whole = leads_append M set w (lead M set w) (apply_all M a then_world) (ruling.Reign M set n i w onward size two most in_i room) Applied leads (λ h. applies)

    entries_is : length (log_of (item w c)) ≡ length (ruling.found M set n i w onward size two most in_i room).0.log
    entries_is = ap (λ z. length (log_of z)) (ruling.found M set n i w onward size two most in_i room).1

    few : length (play M set a w) ≤ play_events n (greatest_term w) (length (log_of (item w c)))
    few =
        let left : unapplied (item then_world a) ≡ unapplied (Some now.node) = ap unapplied now.at in
        add (length (lead M set w)) (length (apply_all M a then_world)) (lead_events n (greatest_term w) (length (log_of (item w c)))) (suc (length (log_of (item w c)))) (length (play M set a w))
        (ruling.lead_few M set n i w onward size two most in_i room)
        (omega (arith, apply_long M a then_world, now.commit_is, reign.known.long, entries_is))
        (then_long M w (lead M set) (apply_all M a))

    pub is_played : IsPlayed M set a w (play M set a w)
    is_played =
        record {
          by = is_by M set (play_events (length w) (greatest_term w) (length (log_of (item w c)))) w (play M set a w) whole.within
              (subst (λ z. length (play M set a w) ≤ play_events z (greatest_term w) (length (log_of (item w c)))) (sym size) few);
          node = record now.node { applied = now.node.commit };
          at = whole.ends.here;
          boot_is = now.boot_is ∙ reign.known.boots_are a in_a;
          has = now.log_is ∙ (sym reign.led.leading.log_is ∙ sym (ap log_of reign.led.at));
          plays = λ from_place target le. look_played (run M (play M set a w) w) a (record now.node { applied = now.node.commit }) from_place target whole.ends.here (now.commit_is ∙ sym (ap length now.log_is)) le;
        }

    -- what the candidate had is in what is played
    pub front_played : (l : List (Entry M.Body)) → Begins l (log_of (item w c)) → Begins l (log_of (item (run M (play M set a w) w) a))
    front_played l b =
        let s : Node M.Body = (ruling.found M set n i w onward size two most in_i room).0 in
        let one : Begins l (ruling.found M set n i w onward size two most in_i room).0.log = subst (λ z. Begins l z) (ap log_of (ruling.found M set n i w onward size two most in_i room).1) b in
        let two' : Begins l reign.L = begins_trans l (ruling.found M set n i w onward size two most in_i room).0.log reign.L one reign.known.front in
        subst (λ z. Begins l z) (sym (ap log_of whole.ends.here ∙ now.log_is)) two'
