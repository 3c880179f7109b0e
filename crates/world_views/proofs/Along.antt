-- In the merged list each event happens at the state to which its node's own earlier turns lead. So what comes out of
-- it is what came out by the view.
use Rattle.std.proofs.Common.{◌≡◌, ◌≢◌, ℕ, zero, suc, ◌⊎◌, inl, inr, ⊎_elim, Bool, true, false, cond, eqb, List, [], ◌∷◌, ◌++◌, length, set, refl, sym, ap, ◌∙◌, subst, arith, append-nil, eq-eqb, ne_eqb}
use Rattle.std.proofs.lemmas.Bool.{eqb-true}
use mathlib.Core.Option.{some, some-injective, some-ne-none}
use lib.ListN.{get_elem?, length-map}
use Rattle.raft_log.specs.Node.{Node}
use Rattle.raft_node.specs.Machine.{Machine}
use Rattle.raft_node.specs.Steps.{Out}
use Rattle.world_run.specs.World.{Event, outs, happens, out_of}
use Rattle.world_views.specs.Own.{TurnOf, own_state, own_out}
use Rattle.world_views.specs.Own as own
use Rattle.world_views.specs.Merged.{PlacedOf, Leads, still, on, turns_of}
use Rattle.world_views.specs.Openings.{event_in, events_in}
use Rattle.world_views.specs.Outputs.{outs_along, outs_at}
use Rattle.world_views.proofs.Tickets.{turns-append}
use Rattle.world_views.proofs.Runs.{run-append}
use Rattle.world_views.proofs.Histories.{onto, leads_length, leads_run, events-append, outs-append, comes_so}

module _ {A : Type 0} where
  at_set : (l : List A) (i j : ℕ) (a b : A) → get_elem? (set l i a) j ≡ some b → ((j ≡ i) × (a ≡ b)) ⊎ ((j ≢ i) × (get_elem? l j ≡ some b))
  at_set [] i j a b e = absurd (some-ne-none b (sym e))
  at_set (x ∷ xs) zero zero a b e = inl (refl, some-injective a b e)
  at_set (x ∷ xs) zero (suc j) a b e = inr ((λ h. omega arith), e)
  at_set (x ∷ xs) (suc i) zero a b e = inr ((λ h. omega arith), e)
  at_set (x ∷ xs) (suc i) (suc j) a b e = ⊎_elim (λ t. inl (ap suc t.0, t.1)) (λ t. let n = t.0 in inr ((λ h. n (omega arith)), t.1)) (at_set xs i j a b e)

module _ (M : Machine) where
  -- a node's state is the one to which its own turns lead
  pub own_run : (w : List (Node M.Body)) (es : List (PlacedOf M)) (v : List (Node M.Body)) → Leads M w es v
      → (i : ℕ) (s0 s : Node M.Body) → get_elem? w i ≡ some s0 → get_elem? v i ≡ some s → s ≡ own.run M (length w) (suc i) s0 (turns_of i es)
  own_run w es v still i s0 s h k = some-injective s s0 (sym k ∙ h)
  own_run w fs u (on {es = es} {v = v} e l st) i s0 s h k =
      let t = st.1.0 in
      ⊎_elim
      (λ (here : (i ≡ e.0) × (own_state M (length v) (suc e.0) t e.1.1 ≡ s)).
      let before : t ≡ own.run M (length w) (suc i) s0 (turns_of i es) = own_run w es v l i s0 t h (subst (λ (j : ℕ). get_elem? v j ≡ some t) (sym here.0) st.1.1) in
      sym here.1 ∙ (λ d. own_state M (leads_length M w es v l d) (suc (sym here.0 d)) (before d) e.1.1)
      ∙ sym (ap (own.run M (length w) (suc i) s0) (turns-append i es (e ∷ []) ∙ ap (λ (b : Bool). turns_of i es ++ cond b (e.1 ∷ []) []) (eq-eqb e.0 i (sym here.0)))
      ∙ run-append M (length w) (suc i) s0 (turns_of i es) (e.1 ∷ [])))
      (λ (there : (i ≢ e.0) × (get_elem? v i ≡ some s)).
      own_run w es v l i s0 s h there.1
      ∙ sym (ap (own.run M (length w) (suc i) s0) (turns-append i es (e ∷ []) ∙ ap (λ (b : Bool). turns_of i es ++ cond b (e.1 ∷ []) []) (ne_eqb e.0 i (λ z. there.0 (sym z))) ∙ append-nil (turns_of i es))))
      (at_set v e.0 i (own_state M (length v) (suc e.0) t e.1.1) s (subst (λ (x : List (Node M.Body)). get_elem? x i ≡ some s) st.1.2 k))

  along-append : (n i : ℕ) (s : Node M.Body) (xs ys : List (TurnOf M)) → outs_along M n i s (xs ++ ys) ≡ outs_along M n i s xs ++ outs_along M n i (own.run M n i s xs) ys
  along-append n i s [] ys = refl
  along-append n i s (x ∷ xs) ys = ap (λ (l : List (Out M)). own_out M n i s x.1 ∷ l) (along-append n i (own_state M n i s x.1) xs ys)

  outs_by : (b : Bool) (o : Out M) (xs ys : List (Out M)) → cond b (o ∷ (xs ++ ys)) (xs ++ ys) ≡ cond b (o ∷ xs) xs ++ ys
  outs_by true o xs ys = refl
  outs_by false o xs ys = refl

  at-append : (i : ℕ) (es : List (PlacedOf M)) (e : PlacedOf M) (outs : List (Out M)) (o : Out M) → length outs ≡ length es
      → outs_at M i (es ++ e ∷ []) (outs ++ o ∷ []) ≡ outs_at M i es outs ++ cond (eqb e.0 i) (o ∷ []) []
  at-append i [] e [] o long = refl
  at-append i [] e (x ∷ outs) o long = absurd (omega arith)
  at-append i (f ∷ es) e [] o long = absurd (omega arith)
  at-append i (f ∷ es) e (x ∷ outs) o long =
      ap (λ (l : List (Out M)). cond (eqb f.0 i) (x ∷ l) l) (at-append i es e outs o (omega arith))
      ∙ outs_by (eqb f.0 i) x (outs_at M i es outs) (cond (eqb e.0 i) (o ∷ []) [])

  pub outs_length : (es : List (Event M)) (w : List (Node M.Body)) → length (outs M es w) ≡ length es
  outs_length [] w = refl
  outs_length (e ∷ es) w = ap suc (outs_length es (happens M w e))

  -- what comes out at a node is what comes out along its own turns
  pub outs_so : (w0 w : List (Node M.Body)) (es : List (PlacedOf M)) (v : List (Node M.Body)) → length w0 ≡ length w → Leads M w es v
      → (i : ℕ) (s0 : Node M.Body) → get_elem? w i ≡ some s0 → outs_at M i es (outs M (events_in M w0 es) (onto w0 w)) ≡ outs_along M (length w) (suc i) s0 (turns_of i es)
  outs_so w0 w es v long still i s0 h = refl
  outs_so w0 w fs u long (on {es = es} {v = v} e l st) i s0 h =
      let t = st.1.0 in let o : Out M = own_out M (length v) (suc e.0) t e.1.1 in
      let came : List (Out M) = outs M (events_in M w0 es) (onto w0 w) in
      let all : outs M (events_in M w0 (es ++ e ∷ [])) (onto w0 w) ≡ came ++ o ∷ [] =
      ap (λ (ys : List (Event M)). outs M ys (onto w0 w)) (events-append M w0 es (e ∷ []))
      ∙ outs-append M (events_in M w0 es) (events_in M w0 (e ∷ [])) (onto w0 w)
      ∙ ap (λ (x : List (Node M.Body)). came ++ out_of M x (event_in M w0 (suc e.0) e.1.1) ∷ []) (leads_run M w0 w es v long l)
      ∙ ap (λ (x : Out M). came ++ x ∷ []) (comes_so M w0 v (long ∙ sym (leads_length M w es v l)) e.0 t st.1.1 e.1.1 st.0) in
      ap (outs_at M i (es ++ e ∷ [])) all
      ∙ at-append i es e came o (outs_length (events_in M w0 es) (onto w0 w) ∙ length-map es _)
      ∙ ap (λ (l : List (Out M)). l ++ cond (eqb e.0 i) (o ∷ []) []) (outs_so w0 w es v long l i s0 h)
      ∙ ends_so (eqb e.0 i) refl
      ∙ sym (ap (outs_along M (length w) (suc i) s0) (turns-append i es (e ∷ [])) ∙ along-append (length w) (suc i) s0 (turns_of i es) (cond (eqb e.0 i) (e.1 ∷ []) []))
    where
      ends_so : (b : Bool) → eqb e.0 i ≡ b
          → outs_along M (length w) (suc i) s0 (turns_of i es) ++ cond b (own_out M (length v) (suc e.0) st.1.0 e.1.1 ∷ []) []
          ≡ outs_along M (length w) (suc i) s0 (turns_of i es) ++ outs_along M (length w) (suc i) (own.run M (length w) (suc i) s0 (turns_of i es)) (cond b (e.1 ∷ []) [])
      ends_so true q =
          let same : e.0 ≡ i = eqb-true e.0 i q in
          let before : st.1.0 ≡ own.run M (length w) (suc i) s0 (turns_of i es) = own_run w es v l i s0 st.1.0 h (subst (λ (j : ℕ). get_elem? v j ≡ some st.1.0) same st.1.1) in
          (λ d. outs_along M (length w) (suc i) s0 (turns_of i es) ++ own_out M (leads_length M w es v l d) (suc (same d)) (before d) e.1.1 ∷ [])
      ends_so false q = refl

  -- two ways to cut one list
  cuts : {A : Type 0} (es : List A) (e : A) (xs ys : List A) → es ++ e ∷ [] ≡ xs ++ ys → ((ys ≡ []) × (xs ≡ es ++ e ∷ [])) ⊎ ((zs : List A) × (es ≡ xs ++ zs))
  cuts es e [] ys h = inr (es, refl)
  cuts [] e (x ∷ xs) ys h = inl (nothing xs ys (cc h), ap (λ l. x ∷ l) (nothing_before xs ys (cc h)) ∙ cc h)
    where
      nothing : {A : Type 0} (xs ys : List A) → [] ≡ xs ++ ys → ys ≡ []
      nothing [] ys h = sym h
      nothing (x ∷ xs) ys h = absurd (cc h)

      nothing_before : {A : Type 0} (xs ys : List A) → [] ≡ xs ++ ys → xs ≡ []
      nothing_before [] ys h = refl
      nothing_before (x ∷ xs) ys h = absurd (cc h)
  cuts (a ∷ es) e (x ∷ xs) ys h =
      ⊎_elim
      (λ one. inl (one.0, cc (h, one.1)))
      (λ two. inr (two.0, cc (h, two.1)))
      (cuts es e xs ys (cc h))

  -- each front of the list leads somewhere
  pub fronts : (w : List (Node M.Body)) (fs : List (PlacedOf M)) (u : List (Node M.Body)) → Leads M w fs u → (xs ys : List (PlacedOf M)) → fs ≡ xs ++ ys → (v : List (Node M.Body)) × Leads M w xs v
  fronts w fs u still [] ys h = (w, still)
  fronts w fs u still (x ∷ xs) ys h = absurd (cc h)
  fronts w fs u (on {es = es} {v = v} e l st) xs ys h =
      ⊎_elim
      (λ (all : (ys ≡ []) × (xs ≡ es ++ e ∷ [])). (u, subst (λ (l : List (PlacedOf M)). Leads M w l u) (sym all.1) (on e l st)))
      (λ (part : (zs : List (PlacedOf M)) × (es ≡ xs ++ zs)). fronts w es v l xs part.0 part.1)
      (cuts es e xs ys h)
