-- That the rows that are noted are those in which the messages were sent.
use Rattle.std.proofs.Common.{◌≡◌, ◌⊎◌, inl, inr, ⊎_elim, ℕ, zero, suc, ◌+◌, ◌-◌, ◌<◌, ◌≤◌, List, [], ◌∷◌, ◌++◌, length, replicate, get_or, refl, sym, ap, subst, ◌∙◌, arith}
use Rattle.std.proofs.lemmas.Bool.{cond-true, cond-false, le-ltb, lt-ltb}
use Rattle.std.proofs.lemmas.List.{get_or_append_left, get_or-append_right, get_or-replicate, length-append, length-replicate}
use Rattle.std.proofs.lemmas.Option.{slice_get-get_or, slice_get_within}
use Rattle.std.specs.Global.{Vec}
use Rattle.std.specs.Prelude.{Option, Some, None, option_map, slice_get}
use Rattle.raft_log.specs.declared.message.Message.{Message}
use Rattle.raft_log.specs.Lists.{item}
use Rattle.raft_log.specs.Node.{Node}
use Rattle.raft_node.specs.Machine.{Machine}
use Rattle.raft_node.specs.Raft.{newborn}
use Rattle.agreement.specs.World.{sent_of, start}
use Rattle.world_events.specs.declared.event.Event.{Event}
use Rattle.world_run.specs.Told.{event_of}
use Rattle.world_run.specs.World.{happens}
use Rattle.world_app.specs.Delivered.{arrow_from, arrow_in, arrow_to, arrows_of, delivery_by}
use Rattle.world_app.specs.Diagrams.{arrow_by, arrow_for, count_of, first_with, sent_count, sent_in}
use Rattle.world_app.specs.Kinds.{delivery_of}
use Rattle.world_app.specs.SendingRows.{AreEmpty, AreNoted, noted, row_in, rows_at}

-- a number is below another, or is not
pub lt_or_le : (k n : ℕ) → (k < n) ⊎ (n ≤ k)
lt_or_le k zero = inr (omega arith)
lt_or_le zero (suc n) = inl (omega arith)
lt_or_le (suc k) (suc n) = ⊎_elim (λ h. inl (omega (arith, h))) (λ h. inr (omega (arith, h))) (lt_or_le k n)

-- Over a machine, the size of a group and all events of a run:
module _ (M : Machine) (size : ℕ) (all : List (Event M.Body M.Line M.Target)) where
  -- These are the rows of all messages that a node has sent after this row; the events that follow it bring the further
  -- ones.
  pub record IsKnown (row : ℕ) (rest : List (Event M.Body M.Line M.Target)) (w : List (Node M.Body)) (node : ℕ) (rows : List ℕ) : Type 0 where
    pub known : (k : ℕ) → k < length rows → get_or rows k 0 ≡ sent_in M size all node (suc k)
    pub ahead : (k : ℕ) → length rows ≤ k → first_with M node (suc k) row rest w ≡ sent_in M size all node (suc k)
    pub within : sent_count w node ≤ length rows

  -- the same for all nodes
  pub record AreKnown (row : ℕ) (rest : List (Event M.Body M.Line M.Target)) (w : List (Node M.Body)) (rows : List (Vec ℕ)) : Type 0 where
    pub length_is : length rows ≡ size
    pub each : (index : ℕ) → index < size → IsKnown row rest w (suc index) (rows_at rows index)

  -- a node over a new store sent nothing
  newborn_sent : (n count k : ℕ) → (let w : List (Node M.Body) = replicate count (newborn n) in count_of (slice_get w k)) ≡ 0
  newborn_sent n zero k = refl
  newborn_sent n (suc count) zero = refl
  newborn_sent n (suc count) (suc k) = newborn_sent n count k

  pub at_first : (w : List (Node M.Body)) (rows : List (Vec ℕ)) → w ≡ start size → AreEmpty size rows → AreKnown 0 all w rows
  at_first w rows new none =
      record {
        length_is = none.length_is;
        each = λ index lt.
            let empty : rows_at rows index ≡ [] = none.none index in
            let nothing : length (rows_at rows index) ≡ 0 = ap length empty in
            let unsent : sent_count w (suc index) ≡ 0 = ap (λ (v : List (Node M.Body)). sent_count v (suc index)) new ∙ newborn_sent size size index in
            record {
              known = λ k less. absurd (omega (arith, less, nothing));
              ahead = λ k more. ap (λ (v : List (Node M.Body)). first_with M (suc index) (suc k) 0 all v) new;
              within = omega (arith, unsent);
            };
      }

  -- for what is sent in the last event of all, and for what is sent before others, the row is this one
  here : (row node k : ℕ) (rest : List (Event M.Body M.Line M.Target)) (w : List (Node M.Body)) → k < sent_count w node → first_with M node (suc k) row rest w ≡ row
  here row node k [] w lt = refl
  here row node k (e ∷ rest) w lt = cond-false _ _ _ (le-ltb _ _ lt)

  onward : (row node k : ℕ) (e : Event M.Body M.Line M.Target) (rest : List (Event M.Body M.Line M.Target)) (w : List (Node M.Body)) → sent_count w node ≤ k
      → first_with M node (suc k) row (e ∷ rest) w ≡ first_with M node (suc k) (suc row) rest (happens M w (event_of M e))
  onward row node k e rest w le =
      let less : sent_count w node < suc k = omega (arith, le) in
      cond-true _ _ _ (lt-ltb (sent_count w node) (suc k) less)

  -- after one more event, whose row is noted for what was sent further
  one_more : (row node : ℕ) (e : Event M.Body M.Line M.Target) (rest : List (Event M.Body M.Line M.Target)) (w : List (Node M.Body)) (rows : List ℕ)
      → IsKnown row (e ∷ rest) w node rows
      → (let w' = happens M w (event_of M e) in IsKnown (suc row) rest w' node (noted (suc row) (sent_count w' node) rows))
  one_more row node e rest w rows was =
      let w' = happens M w (event_of M e) in
      let count = sent_count w' node in
      let more = replicate (count - length rows) (suc row) in
      let long : length (rows ++ more) ≡ length rows + (count - length rows) = length-append rows more ∙ ap (λ n. length rows + n) (length-replicate (count - length rows) (suc row)) in
      let onto : (k : ℕ) → length rows ≤ k → first_with M node (suc k) (suc row) rest w' ≡ sent_in M size all node (suc k) =
      λ k le. sym (onward row node k e rest w (omega (arith, le, was.within))) ∙ was.ahead k le in
      record {
        known = λ k lt. ⊎_elim
            (λ less. get_or_append_left rows more 0 k less ∙ was.known k less)
            (λ le. get_or-append_right rows more (length rows) k 0 refl le
            ∙ (get_or-replicate (count - length rows) (k - length rows) (suc row) 0 (omega (arith, lt, long, le))
            ∙ (sym (here (suc row) node k rest w' (omega (arith, lt, long, le))) ∙ onto k le)))
            (lt_or_le k (length rows));
        ahead = λ k le. onto k (omega (arith, le, long));
        within = omega (arith, long);
      }

  pub all_more : (row : ℕ) (e : Event M.Body M.Line M.Target) (rest : List (Event M.Body M.Line M.Target)) (w w' : List (Node M.Body)) (rows rows' : List (Vec ℕ))
      → w' ≡ happens M w (event_of M e) → AreNoted (suc row) w' rows rows' → AreKnown row (e ∷ rest) w rows → AreKnown (suc row) rest w' rows'
  all_more row e rest w w' rows rows' new now was =
      record {
        length_is = now.length_is ∙ was.length_is;
        each = λ index lt.
            let at : index < length rows = omega (arith, lt, was.length_is) in
            let P : List (Node M.Body) → Type 0 = λ v. IsKnown (suc row) rest v (suc index) (noted (suc row) (sent_count v (suc index)) (rows_at rows index)) in
            let is : P w' = subst P (sym new) (one_more row (suc index) e rest w (rows_at rows index) (was.each index lt)) in
            subst (λ (rs : List ℕ). IsKnown (suc row) rest w' (suc index) rs) (sym (now.each index at)) is;
      }

  of_number : (row : ℕ) (rest : List (Event M.Body M.Line M.Target)) (w : List (Node M.Body)) (rows : List (Vec ℕ)) (i number : ℕ) (m : Message M.Body) (s : Node M.Body)
      → length w ≡ size → AreKnown row rest w rows → slice_get w i ≡ Some s → item s.sent number ≡ Some m → row_in rows (suc i) number ≡ Some (sent_in M size all (suc i) number)
  of_number row rest w rows i zero m s long was at sent = absurd (cc sent)
  of_number row rest w rows i (suc k) m s long was at sent =
      let lt : i < size = omega (arith, slice_get_within w i s at, long) in
      let is = was.each i lt in
      let count : sent_count w (suc i) ≡ length s.sent = ap (λ (o : Option (Node M.Body)). count_of o) at in
      let less : k < length (rows_at rows i) = omega (arith, slice_get_within s.sent k m sent, count, is.within) in
      slice_get-get_or (rows_at rows i) k 0 less ∙ ap (λ (n : ℕ). Some n) (is.known k less)

  of_sender : (row : ℕ) (rest : List (Event M.Body M.Line M.Target)) (w : List (Node M.Body)) (rows : List (Vec ℕ)) (i number : ℕ) (m : Message M.Body) (o : Option (Node M.Body))
      → length w ≡ size → AreKnown row rest w rows → slice_get w i ≡ o → sent_of o number ≡ Some m → row_in rows (suc i) number ≡ Some (sent_in M size all (suc i) number)
  of_sender row rest w rows i number m None long was at sent = absurd (cc sent)
  of_sender row rest w rows i number m (Some s) long was at sent = of_number row rest w rows i number m s long was at sent

  -- if a message was sent, its row is known
  row_known : (row : ℕ) (rest : List (Event M.Body M.Line M.Target)) (w : List (Node M.Body)) (rows : List (Vec ℕ)) (sender number : ℕ) (m : Message M.Body)
      → length w ≡ size → AreKnown row rest w rows → sent_of (item w sender) number ≡ Some m → row_in rows sender number ≡ Some (sent_in M size all sender number)
  row_known row rest w rows zero number m long was sent = absurd (cc sent)
  row_known row rest w rows (suc i) number m long was sent = of_sender row rest w rows i number m (slice_get w i) long was refl sent

  arrow_known : (row next : ℕ) (rest : List (Event M.Body M.Line M.Target)) (w : List (Node M.Body)) (rows : List (Vec ℕ)) (sender number : ℕ) (o : Option (Message M.Body))
      → length w ≡ size → AreKnown row rest w rows → sent_of (item w sender) number ≡ o
      → arrows_of (arrow_from next sender number (option_map delivery_by o) (row_in rows sender number)) ≡ arrow_for (sent_in M size all) next sender number o
  arrow_known row next rest w rows sender number None long was sent = refl
  arrow_known row next rest w rows sender number (Some m) long was sent =
      ap (λ (o : Option ℕ). arrows_of (arrow_from next sender number (Some (delivery_by m)) o)) (row_known row rest w rows sender number m long was sent)

  arrow_of_delivery : (row next : ℕ) (rest : List (Event M.Body M.Line M.Target)) (w : List (Node M.Body)) (rows : List (Vec ℕ)) (d : Option (ℕ × ℕ))
      → length w ≡ size → AreKnown row rest w rows → arrows_of (arrow_to w rows next d) ≡ arrow_by (sent_in M size all) next w d
  arrow_of_delivery row next rest w rows None long was = refl
  arrow_of_delivery row next rest w rows (Some d) long was = arrow_known row next rest w rows d.0 d.1 (sent_of (item w d.0) d.1) long was refl

  -- the arrow that is looked up is that of the definition
  pub arrow_is : (row next : ℕ) (rest : List (Event M.Body M.Line M.Target)) (w : List (Node M.Body)) (rows : List (Vec ℕ)) (e : Event M.Body M.Line M.Target)
      → length w ≡ size → AreKnown row rest w rows → arrows_of (arrow_in w rows next e) ≡ arrow_by (sent_in M size all) next w (delivery_of e)
  arrow_is row next rest w rows e long was = arrow_of_delivery row next rest w rows (delivery_of e) long was
