-- Events that leave what is begun anew, and a restart of every node: what is agreed from then on, and which sessions are live.
use Rattle.std.proofs.Common.{◌≡◌, ℕ, suc, ◌≤◌, List, ◌++◌, map, length, take, Some, sym, ap, subst, ◌∙◌, arith, append_assoc, length-append}
use Rattle.std.proofs.Math.Seq.{take-append_seam}
use Rattle.std.proofs.lemmas.List.{take_all}
use Rattle.buffer_commands.specs.Settings.{Settings}
use Rattle.bouncer_tower.specs.Bodies.{TowerBody}
use Rattle.raft_log.specs.declared.entry.Entry.{Entry}
use Rattle.raft_log.specs.Lists.{item}
use Rattle.raft_log.specs.Node.{Node}
use Rattle.raft_node.specs.Raft.{restarted}
use Rattle.agreement.specs.World.{Begins, committed_of, start}
use Rattle.world_run.specs.World.{Event, agreed, moment, run}
use Rattle.world_run.proofs.Answers.{applied_stays}
use Rattle.world_run.proofs.Holds.{fine_at, in_agreed, one_leader, whole}
use Rattle.world_views.specs.Openings.{restarts}
use Rattle.world_views.proofs.Histories.{run-append}
use Rattle.world_views.proofs.Openings.{restarts_all, world_length}
use Rattle.headline.specs.Tower.{tower}
use Rattle.store_life.specs.Renewed.{Leaves, entries}
use Rattle.store_life.proofs.Behind.{HasNone}
use Rattle.store_life.proofs.Opened.{make_at}

module _ (s : Settings) (boots : List ℕ) (term : ℕ) (bodies : List TowerBody) (es0 : List (Event (tower s))) (l : Leaves s es0 boots term bodies) where
  abbrev pub size : ℕ
  size = length boots

  -- and a restart of every node
  abbrev pub before : List (Event (tower s))
  before = es0 ++ restarts (tower s) (length boots)

  module _ (es : List (Event (tower s))) where
    abbrev all : List (Event (tower s))
    all = before ++ es

    first_part : take (length es0) all ≡ es0
    first_part = ap (take (length es0)) (append_assoc es0 (restarts (tower s) (length boots)) es) ∙ take-append_seam es0 (restarts (tower s) (length boots) ++ es)

    -- the node that led at the end of the first events
    led_at : item (moment (tower s) size all (length es0)) 1 ≡ Some l.first
    led_at = ap (λ (x : List (Event (tower s))). item (run (tower s) x (start size)) 1) first_part ∙ l.there

    -- what is agreed begins with what was begun anew
    pub agreed_begins : Begins (entries term bodies) (agreed (tower s) size all)
    agreed_begins =
        let is : committed_of (item (moment (tower s) size all (length es0)) 1) ≡ entries term bodies = ap committed_of led_at ∙ l.all_committed in
        subst (λ (x : List (Entry TowerBody)). Begins x (agreed (tower s) size all)) is (in_agreed (tower s) size all (length es0) 1)

    restarted_world : run (tower s) before (start size) ≡ map (restarted size) (run (tower s) es0 (start size))
    restarted_world = run-append (tower s) es0 (restarts (tower s) size) (start size) ∙ restarts_all (tower s) size (run (tower s) es0 (start size)) (world_length (tower s) size es0)

    -- it began its next run after them
    again_at : item (moment (tower s) size all (length before)) 1 ≡ Some (restarted size l.first)
    again_at =
        ap (λ (x : List (Event (tower s))). item (run (tower s) x (start size)) 1) (take-append_seam before es)
        ∙ ap (λ (w : List (Node TowerBody)). item w 1) restarted_world ∙ make_at (restarted size) (run (tower s) es0 (start size)) 0 l.first l.there

    now : moment (tower s) size all (length all) ≡ run (tower s) all (start size)
    now = ap (λ x. run (tower s) x (start size)) (take_all (length all) all (omega arith))

    -- no session of the term is live from then on
    pub none_live : HasNone (tower s) size term (run (tower s) all (start size))
    none_live a x live at has same =
        let there : item (moment (tower s) size all (length all)) a ≡ Some x = ap (λ (w : List (Node TowerBody)). item w a) now ∙ at in
        let of = (fine_at (tower s) size all (whole (tower s) size all) (length all) a x there).lives.of live has in
        let terms : l.first.term ≡ x.term = l.in_term ∙ sym same ∙ of.1 in
        let one = one_leader (tower s) size all (length es0) (length all) 1 a l.first x led_at there l.leads of.0 terms in
        let here : item (moment (tower s) size all (length all)) 1 ≡ Some x = subst (λ (k : ℕ). item (moment (tower s) size all (length all)) k ≡ Some x) (sym one.0) there in
        let later = applied_stays (tower s) size all (length before) (length all) 1 (restarted size l.first) x (omega (arith, length-append before es)) again_at here in
        let up : suc l.first.boot ≤ x.boot = later.0 in
        absurd (omega (arith, up, one.1))
