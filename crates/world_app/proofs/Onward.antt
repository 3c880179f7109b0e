-- A diagram, event by event.
use Rattle.std.proofs.Common.{◌≡◌, ℕ, suc, ◌+◌, ◌<◌, ◌≤◌, List, [], ◌∷◌, ◌++◌, append_assoc, append-nil, length, drop, get_or, refl, sym, ap, subst, ◌∙◌, arith}
use Rattle.std.proofs.lemmas.List.{drop_all}
use Rattle.std.specs.Global.{Vec}
use Rattle.raft_log.specs.Node.{Node}
use Rattle.raft_node.specs.Machine.{Machine}
use Rattle.agreement.specs.World.{start}
use Rattle.world_events.specs.declared.event.Event.{Event}
use Rattle.world_events.specs.declared.event.Event.TheVariants.{Does, Restart, StopIn}
use Rattle.world_events.specs.declared.event.Input.{Input}
use Rattle.world_events.specs.declared.event.Input.TheVariants.{Timeout, Beat, Deliver, Ask, Opened, Closed, Heard, Claim, Apply, Look}
use Rattle.world_run.specs.Told.{event_of, input_of}
use Rattle.world_run.specs.World.{actor, happens, stepper}
use Rattle.world_run.proofs.Onward.{first_of}
use Rattle.world_app.specs.declared.diagram.Arrow.{Arrow}
use Rattle.world_app.specs.declared.diagram.Row.{Row}
use Rattle.world_app.specs.Delivered.{node_in, node_of}
use Rattle.world_app.specs.Diagrams.{arrow_by, arrows_from, row_between, rows_from}
use Rattle.world_app.specs.Kinds.{delivery_of}
use Rattle.world_app.specs.SendingRows.{AreNoted}
use Rattle.world_app.proofs.Known.{AreKnown, all_more}

module _ (M : Machine) where
  -- the node to which an event happens is that of the definition
  actor_is : (w : List (Node M.Body)) (x : Input M.Body M.Line M.Target) → node_in w x ≡ actor M w (input_of M x)
  actor_is w (Timeout i) = refl
  actor_is w (Beat i) = refl
  actor_is w (Deliver j k) = refl
  actor_is w (Ask i body) = refl
  actor_is w (Opened i) = refl
  actor_is w (Closed i) = refl
  actor_is w (Heard i at line) = refl
  actor_is w (Claim i) = refl
  actor_is w (Apply i) = refl
  actor_is w (Look i from_place target) = refl

  pub stepper_is : (w : List (Node M.Body)) (e : Event M.Body M.Line M.Target) → node_of w e ≡ stepper M w (event_of M e)
  stepper_is w (Does x) = actor_is w x
  stepper_is w (Restart i) = refl
  stepper_is w (StopIn x after) = actor_is w x

  -- one more row
  pub rows_on : (es : List (Event M.Body M.Line M.Target)) (k : ℕ) (e : Event M.Body M.Line M.Target) (w w' : List (Node M.Body)) (row : Row) (rows rows' all : List Row)
      → k < length es → e ≡ get_or es k e → w' ≡ happens M w (event_of M e) → row ≡ row_between (k + 1) e (node_of w e) w w' → rows' ≡ rows ++ row ∷ []
      → rows ++ rows_from M (suc k) (drop k es) w ≡ all → rows' ++ rows_from M (suc (k + 1)) (drop (k + 1) es) w' ≡ all
  rows_on es k e w w' row rows rows' all lt at new is more was =
      let next : suc k ≡ k + 1 = omega arith in
      let made : row ≡ row_between (suc k) e (stepper M w (event_of M e)) w (happens M w (event_of M e)) =
      is ∙ ap (λ (n : ℕ). row_between n e (node_of w e) w w') (sym next)
      ∙ ap (λ (i : ℕ). row_between (suc k) e i w w') (stepper_is w e)
      ∙ ap (λ (v : List (Node M.Body)). row_between (suc k) e (stepper M w (event_of M e)) w v) new in
      let rest = rows_from M (suc (suc k)) (drop (k + 1) es) (happens M w (event_of M e)) in
      ap (λ (rs : List Row). rs ++ rows_from M (suc (k + 1)) (drop (k + 1) es) w') more
      ∙ append_assoc rows (row ∷ []) (rows_from M (suc (k + 1)) (drop (k + 1) es) w')
      ∙ ap (λ (n : ℕ). rows ++ row ∷ rows_from M (suc n) (drop (k + 1) es) w') (sym next)
      ∙ ap (λ (v : List (Node M.Body)). rows ++ row ∷ rows_from M (suc (suc k)) (drop (k + 1) es) v) new
      ∙ ap (λ (r : Row). rows ++ r ∷ rest) made
      ∙ ap (λ (l : List (Event M.Body M.Line M.Target)). rows ++ rows_from M (suc k) l w) (sym (first_of es k e lt at))
      ∙ was

  -- the arrow of one more event, if it has one
  pub arrows_on : (sent : ℕ → ℕ → ℕ) (es : List (Event M.Body M.Line M.Target)) (k : ℕ) (e : Event M.Body M.Line M.Target) (w w' : List (Node M.Body)) (here arrows arrows' all : List Arrow)
      → k < length es → e ≡ get_or es k e → w' ≡ happens M w (event_of M e) → here ≡ arrow_by sent (k + 1) w (delivery_of e) → arrows' ≡ arrows ++ here
      → arrows ++ arrows_from M sent (suc k) (drop k es) w ≡ all → arrows' ++ arrows_from M sent (suc (k + 1)) (drop (k + 1) es) w' ≡ all
  arrows_on sent es k e w w' here arrows arrows' all lt at new is more was =
      let next : suc k ≡ k + 1 = omega arith in
      let made : here ≡ arrow_by sent (suc k) w (delivery_of e) = is ∙ ap (λ (n : ℕ). arrow_by sent n w (delivery_of e)) (sym next) in
      let rest = arrows_from M sent (suc (suc k)) (drop (k + 1) es) (happens M w (event_of M e)) in
      ap (λ (found : List Arrow). found ++ arrows_from M sent (suc (k + 1)) (drop (k + 1) es) w') more
      ∙ append_assoc arrows here (arrows_from M sent (suc (k + 1)) (drop (k + 1) es) w')
      ∙ ap (λ (n : ℕ). arrows ++ (here ++ arrows_from M sent (suc n) (drop (k + 1) es) w')) (sym next)
      ∙ ap (λ (v : List (Node M.Body)). arrows ++ (here ++ arrows_from M sent (suc (suc k)) (drop (k + 1) es) v)) new
      ∙ ap (λ (found : List Arrow). arrows ++ (found ++ rest)) made
      ∙ ap (λ (l : List (Event M.Body M.Line M.Target)). arrows ++ arrows_from M sent (suc k) l w) (sym (first_of es k e lt at))
      ∙ was

  -- at first all is to come
  pub rows_begin : (es : List (Event M.Body M.Line M.Target)) (size : ℕ) (w : List (Node M.Body)) (rows : List Row) → w ≡ start size → rows ≡ [] → rows ++ rows_from M 1 es w ≡ rows_from M 1 es (start size)
  rows_begin es size w rows new none =
      ap (λ (rs : List Row). rs ++ rows_from M 1 es w) none ∙ ap (λ (v : List (Node M.Body)). rows_from M 1 es v) new

  pub arrows_begin : (sent : ℕ → ℕ → ℕ) (es : List (Event M.Body M.Line M.Target)) (size : ℕ) (w : List (Node M.Body)) (arrows : List Arrow) → w ≡ start size → arrows ≡ []
      → arrows ++ arrows_from M sent 1 es w ≡ arrows_from M sent 1 es (start size)
  arrows_begin sent es size w arrows new none =
      ap (λ (found : List Arrow). found ++ arrows_from M sent 1 es w) none ∙ ap (λ (v : List (Node M.Body)). arrows_from M sent 1 es v) new

  -- the rows are known after one more event
  pub known_next : (size : ℕ) (es : List (Event M.Body M.Line M.Target)) (k : ℕ) (e : Event M.Body M.Line M.Target) (w w' : List (Node M.Body)) (rows rows' : List (Vec ℕ))
      → k < length es → e ≡ get_or es k e → w' ≡ happens M w (event_of M e) → AreNoted (k + 1) w' rows rows'
      → AreKnown M size es k (drop k es) w rows → AreKnown M size es (k + 1) (drop (k + 1) es) w' rows'
  known_next size es k e w w' rows rows' lt at new now was =
      let next : suc k ≡ k + 1 = omega arith in
      let here : AreKnown M size es k (e ∷ drop (k + 1) es) w rows = subst (λ (l : List (Event M.Body M.Line M.Target)). AreKnown M size es k l w rows) (first_of es k e lt at) was in
      let noted_here : AreNoted (suc k) w' rows rows' = subst (λ (n : ℕ). AreNoted n w' rows rows') (sym next) now in
      subst (λ (n : ℕ). AreKnown M size es n (drop (k + 1) es) w' rows') next (all_more M size es k e (drop (k + 1) es) w w' rows rows' new noted_here here)

  -- in the end nothing is to come
  pub rows_end : (es : List (Event M.Body M.Line M.Target)) (k : ℕ) (w : List (Node M.Body)) (rows all : List Row) → length es ≤ k → rows ++ rows_from M (suc k) (drop k es) w ≡ all → rows ≡ all
  rows_end es k w rows all past was =
      sym (append-nil rows) ∙ (ap (λ (l : List (Event M.Body M.Line M.Target)). rows ++ rows_from M (suc k) l w) (sym (drop_all k es past)) ∙ was)

  pub arrows_end : (sent : ℕ → ℕ → ℕ) (es : List (Event M.Body M.Line M.Target)) (k : ℕ) (w : List (Node M.Body)) (arrows all : List Arrow) → length es ≤ k
      → arrows ++ arrows_from M sent (suc k) (drop k es) w ≡ all → arrows ≡ all
  arrows_end sent es k w arrows all past was =
      sym (append-nil arrows) ∙ (ap (λ (l : List (Event M.Body M.Line M.Target)). arrows ++ arrows_from M sent (suc k) l w) (sym (drop_all k es past)) ∙ was)
