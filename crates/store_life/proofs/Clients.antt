-- What goes to clients goes to those of the runs that nodes make.
use Rattle.std.proofs.Common.{◌≡◌, ℕ, zero, suc, ◌<◌, ◌≤◌, ◌==◌, true, List, [], ◌∷◌, ◌++◌, map, length, slice_get, Option, Some, None, refl, sym, ap, subst, ◌∙◌, arith, append_assoc, append-nil, length-append}
use Rattle.std.proofs.Math.Seq.{take-append_seam}
use Rattle.std.proofs.lemmas.List.{take_all}
use Rattle.irc_line.specs.Lines.{Parts}
use Rattle.wire_bytes.specs.declared.origin.Origin.{Origin}
use Rattle.machine_laws.specs.declared.class.Class.{Class}
use Rattle.machine_laws.specs.declared.class.Class.TheVariants.{To, Hand, Rejoin, Nowhere}
use Rattle.buffer_commands.specs.Settings.{Settings}
use Rattle.bouncer_tower.specs.Bodies.{TowerBody, TowerEffect}
use Rattle.bouncer_tower.specs.Hosting.{class_of}
use Rattle.raft_log.specs.declared.node_state.Live.{Live}
use Rattle.raft_log.specs.Lists.{item, item_or}
use Rattle.raft_log.specs.Node.{Node}
use Rattle.raft_node.specs.Machine.{Machine}
use Rattle.stable_store.specs.declared.saved.Saved.{Saved}
use Rattle.raft_node.specs.Parts.{saved_by}
use Rattle.raft_node.specs.Raft.{restarted}
use Rattle.raft_node.specs.Steps.{Own, Turn, effects_of, applied_history, leaves, own}
use Rattle.raft_node.proofs.Fares.{Applied, GoesOn, InRun, Lives, NewRun, Step, own_step}
use Rattle.agreement.specs.World.{start}
use Rattle.world_run.specs.World.{Event, happens, left_of, moment, out_by, out_of, outs, own_of, run, stepper}
use Rattle.world_run.proofs.Answers.{applied_stays}
use Rattle.world_run.proofs.Holds.{fine_at, whole}
use Rattle.world_run.proofs.Tallies.{All}
use Rattle.world_views.proofs.Histories.{run-append}
use Rattle.headline.specs.Tower.{tower}
use Rattle.world_views.specs.Openings.{restarts}
use Rattle.world_views.proofs.Openings.{restarts_all, world_length}
use Rattle.world_views.proofs.Places.{below, got, got_back, there}
use Rattle.store_life.specs.Clients.{NobodyToldInBoth, ToldInItsRun, ToldInNewRuns, client_of_class, clients_of, told_in}
use Rattle.store_life.specs.Periods.{Period, end_of, opening_of}
use Rattle.store_life.specs.Renewed.{Leaves, begun_anew, entries}
use Rattle.store_life.proofs.Opened.{make_at}
use Rattle.store_life.proofs.Behind.{all_join, all_passing}
use Rattle.store_life.proofs.Lists.{both_true, same_numbers}

-- this holds for the run of the client that an effect of this class goes to, by its node
abbrev pub OfRuns : (ℕ → ℕ → Type 0) → Class Parts → Type 0
OfRuns B (To o) = B o.0 o.1
OfRuns B (Hand id n line) = Unit {0}
OfRuns B (Rejoin id line) = Unit {0}
OfRuns B Nowhere = Unit {0}

leaves_of_run : (B : ℕ → ℕ → Type 0) (i boot : ℕ) (live : Option Live) (c : Class Parts) → B i boot → leaves i boot live c ≡ true → OfRuns B c
leaves_of_run B i boot live (To o) b e =
    let p = both_true (o.0 == i) (o.1 == boot) e in
    subst (λ (n : ℕ). B n o.1) (sym (same_numbers o.0 i p.0)) (subst (λ (n : ℕ). B i n) (sym (same_numbers o.1 boot p.1)) b)
leaves_of_run B i boot live (Hand id n line) b e = tt
leaves_of_run B i boot live (Rejoin id line) b e = tt
leaves_of_run B i boot live Nowhere b e = tt

module _ (M : Machine) (size : ℕ) (B : ℕ → ℕ → Type 0) (all : List (Event M)) where
  -- on the way to the end, from these events on, it holds for each node's run
  abbrev pub HoldsFrom : List (Event M) → Type 0
  HoldsFrom before = (es later : List (Event M)) → (before ++ es) ++ later ≡ all → (a : ℕ) (s : Node M.Body) → item (run M (before ++ es) (start size)) a ≡ Some s → B a s.boot

  step_told : (j : ℕ) (s : Node M.Body) (u : Turn M) → B j s.boot → Step M j s u → All (λ e. OfRuns B (M.class e)) (effects_of u.out)
  step_told j s u h (InRun (GoesOn g e)) = subst (All (λ e. OfRuns B (M.class e))) (sym e) tt
  step_told j s u h (InRun (Applied x lt at e)) =
      subst (λ (z : Turn M). All (λ e. OfRuns B (M.class e)) (effects_of z.out)) (sym e)
      (all_passing (λ y. OfRuns B (M.class y)) (λ y. leaves j s.boot s.live (M.class y)) (M.effects (applied_history M s) (suc s.applied) x.body) (λ y k. leaves_of_run B j s.boot s.live (M.class y) h k))
  step_told j s u h (NewRun bo ap' li e) = subst (All (λ e. OfRuns B (M.class e))) (sym e) tt

  module _ (before : List (Event M)) (holds : HoldsFrom before) where
    out_told : (es later : List (Event M)) → (before ++ es) ++ later ≡ all → (i : ℕ) (o : Own M) (z : Option (Node M.Body)) → item (run M (before ++ es) (start size)) i ≡ z
        → All (λ e. OfRuns B (M.class e)) (effects_of (out_by M (run M (before ++ es) (start size)) i o z))
    out_told es later parts i o None at = tt
    out_told es later parts i o (Some s) at =
        let w : List (Node M.Body) = run M (before ++ es) (start size) in
        let now : moment M size (before ++ es) (length (before ++ es)) ≡ w = ap (λ l. run M l (start size)) (take_all (length (before ++ es)) (before ++ es) (omega arith)) in
        let there : item (moment M size (before ++ es) (length (before ++ es))) i ≡ Some s = ap (λ (v : List (Node M.Body)). item v i) now ∙ at in
        let lives : Lives s = (fine_at M size (before ++ es) (whole M size (before ++ es)) (length (before ++ es)) i s there).lives in
        step_told i s (own M (length w) i o s) (holds es later parts i s at) (own_step M (length w) i s lives o)

    -- what leaves on the way goes to clients of such runs
    pub all_told : (later es : List (Event M)) → (before ++ es) ++ later ≡ all → All (λ e. OfRuns B (M.class e)) (left_of M (outs M later (run M (before ++ es) (start size))))
    all_told [] es parts = tt
    all_told (e ∷ later) es parts =
        let w : List (Node M.Body) = run M (before ++ es) (start size) in
        let more : (before ++ es) ++ e ∷ [] ≡ before ++ (es ++ e ∷ []) = append_assoc before es (e ∷ []) in
        let next : happens M w e ≡ run M (before ++ (es ++ e ∷ [])) (start size) = sym (run-append M (before ++ es) (e ∷ []) (start size)) ∙ ap (λ l. run M l (start size)) more in
        let rest : (before ++ (es ++ e ∷ [])) ++ later ≡ all = ap (λ (l : List (Event M)). l ++ later) (sym more) ∙ append_assoc (before ++ es) (e ∷ []) later ∙ parts in
        all_join (λ y. OfRuns B (M.class y)) (effects_of (out_of M w e)) (left_of M (outs M later (happens M w e)))
        (out_told es (e ∷ later) parts (stepper M w e) (own_of M w e) (item w (stepper M w e)) refl)
        (subst (λ (v : List (Node M.Body)). All (λ y. OfRuns B (M.class y)) (left_of M (outs M later v))) (sym next) (all_told later (es ++ e ∷ []) rest))

-- a node's run does not sink
pub boots_rise : (M : Machine) (size : ℕ) (done later : List (Event M)) (a : ℕ) (s t : Node M.Body) → item (run M done (start size)) a ≡ Some s → item (run M (done ++ later) (start size)) a ≡ Some t → s.boot ≤ t.boot
boots_rise M size done later a s t at_s at_t =
    let all : List (Event M) = done ++ later in
    let then : moment M size all (length done) ≡ run M done (start size) = ap (λ l. run M l (start size)) (take-append_seam done later) in
    let now : moment M size all (length all) ≡ run M all (start size) = ap (λ l. run M l (start size)) (take_all (length all) all (omega arith)) in
    (applied_stays M size all (length done) (length all) a s t (omega (arith, length-append done later)) (ap (λ (w : List (Node M.Body)). item w a) then ∙ at_s) (ap (λ (w : List (Node M.Body)). item w a) now ∙ at_t)).0

class_told : (B : ℕ → ℕ → Type 0) (c : Class Parts) (rest : List Origin) (k : ℕ) (o : Origin) → OfRuns B c → ((j : ℕ) → slice_get rest j ≡ Some o → B o.0 o.1) → slice_get (client_of_class c ++ rest) k ≡ Some o → B o.0 o.1
class_told B (To p) rest zero o b more at = let same : p ≡ o = cc at in subst (λ (x : Origin). B x.0 x.1) same b
class_told B (To p) rest (suc k) o b more at = more k at
class_told B (Hand id n line) rest k o b more at = more k at
class_told B (Rejoin id line) rest k o b more at = more k at
class_told B Nowhere rest k o b more at = more k at

-- each client that these effects go to is of such a run
clients_told : (B : ℕ → ℕ → Type 0) (es : List TowerEffect) (k : ℕ) (o : Origin) → All (λ e. OfRuns B (class_of e)) es → slice_get (clients_of es) k ≡ Some o → B o.0 o.1
clients_told B [] k o a at = absurd (cc at)
clients_told B (e ∷ es) k o a at = class_told B (class_of e) (clients_of es) k o a.0 (λ j b. clients_told B es j o a.1 b) at

module _ (p : Period) (B : ℕ → ℕ → Type 0) (holds : HoldsFrom (tower p.settings) p.size B (p.before ++ p.events) p.before) where
  told_so : (k : ℕ) (o : Origin) → slice_get (told_in p) k ≡ Some o → B o.0 o.1
  told_so k o at =
      let none : p.before ++ [] ≡ p.before = append-nil p.before in
      let a = all_told (tower p.settings) p.size B (p.before ++ p.events) p.before holds p.events [] (ap (λ (l : List (Event (tower p.settings))). l ++ p.events) none) in
      clients_told B (left_of (tower p.settings) (outs (tower p.settings) p.events (opening_of p))) k o
      (subst (λ (l : List (Event (tower p.settings))). All (λ e. OfRuns B (class_of e)) (left_of (tower p.settings) (outs (tower p.settings) p.events (run (tower p.settings) l (start p.size))))) none a) at

-- a node of a world is in the world after more events
stands_on : (s : Settings) (size : ℕ) (done more : List (Event (tower s))) (a : ℕ) (x : Node TowerBody) → item (run (tower s) done (start size)) a ≡ Some x
    → (y : Node TowerBody) × (item (run (tower s) (done ++ more) (start size)) a ≡ Some y)
stands_on s size done more zero x at = absurd (cc at)
stands_on s size done more (suc i) x at =
    let one : length (run (tower s) done (start size)) ≡ size = world_length (tower s) size done in
    let two : length (run (tower s) (done ++ more) (start size)) ≡ size = world_length (tower s) size (done ++ more) in
    let lt : i < length (run (tower s) done (start size)) = below (run (tower s) done (start size)) i x (got_back (run (tower s) done (start size)) i x at) in
    let r = there (run (tower s) (done ++ more) (start size)) i (omega (arith, one, two, lt)) in
    (r.0, got (run (tower s) (done ++ more) (start size)) i r.0 r.1)

pub told_in_its_run : ToldInItsRun
told_in_its_run p k o at =
    told_so p (λ a b. (x : Node TowerBody) × (item (end_of p) a ≡ Some x) × (b ≤ x.boot))
    (λ es later parts a s at_s.
    let y = stands_on p.settings p.size (p.before ++ es) later a s at_s in
    let at_end : item (end_of p) a ≡ Some y.0 = ap (λ l. item (run (tower p.settings) l (start p.size)) a) (sym parts) ∙ y.1 in
    (y.0, at_end, boots_rise (tower p.settings) p.size (p.before ++ es) later a s y.0 at_s y.1))
    k o at

run_of : (boots : List ℕ) (i : ℕ) → i < length boots → slice_get boots i ≡ Some (item_or boots (suc i) 0)
run_of [] i h = absurd (omega arith)
run_of (b ∷ boots) zero h = refl
run_of (b ∷ boots) (suc i) h = run_of boots i (omega arith)

module _ (s : Settings) (boots : List ℕ) (term : ℕ) (bodies : List TowerBody) (es0 : List (Event (tower s))) (l : Leaves s es0 boots term bodies) where
  saved_run : (i : ℕ) (y : Node TowerBody) → i < length boots → slice_get (run (tower s) es0 (start (length boots))) i ≡ Some y → y.boot ≡ item_or boots (suc i) 0
  saved_run i y lt at =
      let f : ℕ → Saved TowerBody = λ b. begun_anew b term (entries term bodies) in
      let one : slice_get (map saved_by (run (tower s) es0 (start (length boots)))) i ≡ Some (saved_by y) = make_at saved_by (run (tower s) es0 (start (length boots))) i y at in
      let two : slice_get (map f boots) i ≡ Some (f (item_or boots (suc i) 0)) = make_at f boots i (item_or boots (suc i) 0) (run_of boots i lt) in
      let same : saved_by y ≡ f (item_or boots (suc i) 0) = cc (sym one ∙ ap (λ (v : List (Saved TowerBody)). slice_get v i) l.saved ∙ two) in
      ap (λ (v : Saved TowerBody). v.boot) same

  abbrev opening : List (Event (tower s))
  opening = es0 ++ restarts (tower s) (length boots)

  -- every node is of a run after the one with which its store was begun
  pub runs_behind : (es : List (Event (tower s))) (a : ℕ) (x : Node TowerBody) → item (run (tower s) (opening ++ es) (start (length boots))) a ≡ Some x → item_or boots a 0 < x.boot
  runs_behind es zero x at = absurd (cc at)
  runs_behind es (suc i) x at =
      let size : ℕ = length boots in
      let last : List (Node TowerBody) = run (tower s) (opening ++ es) (start size) in
      let first : List (Node TowerBody) = run (tower s) es0 (start size) in
      let lt : i < length last = below last i x (got_back last i x at) in
      let one : length last ≡ size = world_length (tower s) size (opening ++ es) in
      let two : length first ≡ size = world_length (tower s) size es0 in
      let y = there first i (omega (arith, one, two, lt)) in
      let is : y.0.boot ≡ item_or boots (suc i) 0 = saved_run i y.0 (omega (arith, one, lt)) (got first i y.0 y.1) in
      let again : run (tower s) opening (start size) ≡ map (restarted size) first = run-append (tower s) es0 (restarts (tower s) size) (start size) ∙ restarts_all (tower s) size first two in
      let opened : item (run (tower s) opening (start size)) (suc i) ≡ Some (restarted size y.0) =
      ap (λ (w : List (Node TowerBody)). slice_get w i) again ∙ make_at (restarted size) first i y.0 (got first i y.0 y.1) in
      let up : suc y.0.boot ≤ x.boot = boots_rise (tower s) size opening es (suc i) (restarted size y.0) x opened at in
      omega (arith, is, up)

pub told_in_new_runs : ToldInNewRuns
told_in_new_runs p a k o at =
    told_so p (λ i b. item_or a.boots i 0 < b)
    (λ es later parts i x at_x.
    let same : run (tower p.settings) (p.before ++ es) (start p.size) ≡ run (tower p.settings) ((a.left_by ++ restarts (tower p.settings) (length a.boots)) ++ es) (start (length a.boots)) =
    λ d. run (tower p.settings) (a.restarted d ++ es) (start (a.sized d)) in
    runs_behind p.settings a.boots a.term p.begun a.left_by a.leaves es i x (ap (λ (w : List (Node TowerBody)). item w i) (sym same) ∙ at_x))
    k o at

pub nobody_told_in_both : NobodyToldInBoth
nobody_told_in_both p q a follow k l o one two =
    let x = told_in_its_run p k o one in
    let low : item_or a.boots o.0 0 < o.1 = told_in_new_runs q a l o two in
    let up : x.0.boot ≤ item_or a.boots o.0 0 = follow o.0 x.0 x.1 in
    omega (arith, low, up, x.2)
