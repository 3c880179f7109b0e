-- A message of one node is delivered to another, and the answer to the first.
use Rattle.std.proofs.Common.{◌≡◌, ℕ, suc, ◌+◌, ◌≤◌, Bool, List, [], ◌∷◌, ◌++◌, length, map, Some, sym, ap, subst, ◌∙◌, arith}
use Rattle.raft_log.specs.declared.message.Message.{Message}
use Rattle.raft_log.specs.Lists.{item, others}
use Rattle.raft_log.specs.Node.{Node}
use Rattle.node_steps.specs.Messages.{on_message}
use Rattle.raft_node.specs.Machine.{Machine}
use Rattle.agreement.specs.Laws.{IsIn}
use Rattle.world_run.specs.World.{World, Event, Does, Deliver, stepper, happens}
use Rattle.progress.specs.Plans.{place_among, count_sent, answered}
use Rattle.progress.proofs.Places.{other_at, item_append, get_map}
use Rattle.progress.proofs.Stepping.{Stepped, deliver_stepped, Leads, leads_first, leads_event}

-- what was sent to each other node is at its place
pub sent_to : {B : Type 0} (n c j : ℕ) (sent : List (Message B)) (f : ℕ → Message B) → 1 ≤ c → 1 ≤ j → j ≤ n → (j ≡ c → ⊥)
    → item (sent ++ map f (others n c)) (length sent + place_among c j) ≡ Some (f j)
sent_to n c j sent f lc lj le ne =
    let r = other_at n c j lc lj le ne in
    let e : length sent + place_among c j ≡ length sent + suc r.0 = ap (λ z. length sent + z) r.1 in
    item_append sent (map f (others n c)) (length sent + place_among c j) r.0 e ∙ get_map f (others n c) r.0 j r.2

module _ (M : Machine) where
  -- two nodes changed
  pub record Exchanged (w v : World M) (c j : ℕ) (s t : Node M.Body) : Type 0 where
    pub at_c : item v c ≡ Some s
    pub at_j : item v j ≡ Some t
    pub else : (k : ℕ) → (k ≡ c → ⊥) → (k ≡ j → ⊥) → item v k ≡ item w k
    pub long : length v ≡ length w

  module _ (w : World M) (c j base : ℕ) where
    abbrev there : Event M
    there = Does (Deliver c (base + place_among c j))

    abbrev back_again : Event M
    back_again = Does (Deliver j (suc (count_sent (item w j))))

    abbrev between : World M
    between = happens M w there

  pub exchanged : (set : List Bool) (w : World M) (c j base : ℕ) (s u s' u' : Node M.Body) (m a : Message M.Body)
      → IsIn set c → IsIn set j → (j ≡ c → ⊥) → item w c ≡ Some s → item w j ≡ Some u
      → item s.sent (base + place_among c j) ≡ Some m → m.to ≡ j → on_message M.blank (length w) j u m ≡ u'
      → u'.sent ≡ u.sent ++ a ∷ [] → a.to ≡ c → on_message M.blank (length w) c s a ≡ s'
      → Leads M set w (answered M c base j w) (λ v. Exchanged w v c j s' u')
  exchanged set w c j base s u s' u' m a in_c in_j ne at_c at_j sent to takes answers back gets =
      let one : (stepper M w (there w c j base) ≡ j) × Stepped M w (between w c j base) j (on_message M.blank (length w) j u m) =
      deliver_stepped M w c (base + place_among c j) j s u m at_c sent to at_j in
      let here : item (between w c j base) j ≡ Some u' = one.1.here ∙ ap Some takes in
      let same : count_sent (item w j) ≡ length u.sent = ap count_sent at_j in
      let number : suc (count_sent (item w j)) ≡ length u.sent + suc 0 = omega arith in
      let stands : item u'.sent (suc (count_sent (item w j))) ≡ Some a =
      ap (λ z. item z (suc (count_sent (item w j)))) answers ∙ item_append u.sent (a ∷ []) (suc (count_sent (item w j))) 0 number in
      let two : (stepper M (between w c j base) (back_again w c j base) ≡ c) × Stepped M (between w c j base) (happens M (between w c j base) (back_again w c j base)) c (on_message M.blank (length (between w c j base)) c s a) =
      deliver_stepped M (between w c j base) j (suc (count_sent (item w j))) c u' s a here stands back (one.1.else c (λ e. ne (sym e)) ∙ at_c) in
      leads_first M set w (there w c j base) (back_again w c j base ∷ []) (λ v. Exchanged w v c j s' u') (subst (λ z. IsIn set z) (sym one.0) in_j) in_c
      (leads_event M set (between w c j base) (back_again w c j base) (λ v. Exchanged w v c j s' u') (subst (λ z. IsIn set z) (sym two.0) in_c) in_j
      (record {
        at_c = two.1.here ∙ ap Some (ap (λ z. on_message M.blank z c s a) one.1.long ∙ gets);
        at_j = two.1.else j ne ∙ here;
        else = λ k nc nj. two.1.else k nc ∙ one.1.else k nj;
        long = two.1.long ∙ one.1.long;
      }))
