-- Records that are converted one by one.
use Rattle.std.proofs.Common.{◌≡◌, ◌∙◌, ◌++◌, List, [], ◌∷◌, ap, subst, sym}
use Rattle.std.proofs.lemmas.List.{append-nil, append_assoc}
use Rattle.node_cells.specs.declared.record.NodeRecord.{NodeRecord}
use Rattle.records.specs.declared.record.Record.{Record}
use Rattle.world_events.specs.declared.event.Event.{Event}
use Rattle.world_run.specs.declared.outcome.Outcome.{Outcome}
use Rattle.records.specs.Converting.{IsRecordOf}
use Rattle.records.specs.RunText.{AreRecordsOf}

module _ {B L T E P : Type 0} where
  -- if what was converted and whatever the rest gives are all, so it is with one more record
  pub one_more : (nodes before after : List (NodeRecord B L T E P)) (all more : List (Record (Event B L T) (Outcome E P)))
      (r : NodeRecord B L T E P) (s : Record (Event B L T) (Outcome E P))
      → before ≡ r ∷ after → more ≡ all ++ s ∷ [] → IsRecordOf r s
      → ((ss : List (Record (Event B L T) (Outcome E P))) → AreRecordsOf before ss → AreRecordsOf nodes (all ++ ss))
      → (ss : List (Record (Event B L T) (Outcome E P))) → AreRecordsOf after ss → AreRecordsOf nodes (more ++ ss)
  one_more nodes before after all more r s is pushed one done ss h =
      subst (AreRecordsOf nodes) (sym (ap (λ xs. xs ++ ss) pushed ∙ append_assoc all (s ∷ []) ss))
      (done (s ∷ ss) (subst (λ ns. AreRecordsOf ns (s ∷ ss)) (sym is) (one, h)))

  -- and if nothing is left, what was converted is all
  pub none_left : (nodes rest : List (NodeRecord B L T E P)) (all : List (Record (Event B L T) (Outcome E P)))
      → rest ≡ []
      → ((ss : List (Record (Event B L T) (Outcome E P))) → AreRecordsOf rest ss → AreRecordsOf nodes (all ++ ss))
      → AreRecordsOf nodes all
  none_left nodes rest all nil done =
      subst (AreRecordsOf nodes) (append-nil all) (done [] (subst (λ ns. AreRecordsOf ns []) (sym nil) tt))
