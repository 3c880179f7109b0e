-- How many events the given lists have.
use Rattle.std.proofs.Common.{◌≡◌, ℕ, zero, suc, ◌+◌, ◌-◌, ◌*◌, ◌≤◌, Bool, true, false, eqb, List, [], ◌∷◌, length, refl, sym, ap, subst, ◌∙◌, arith, length-append}
use Rattle.std.proofs.Math.ListN.{length-replicate}
use Rattle.std.proofs.Math.Nat.{mul-le-mul_right}
use Rattle.std.proofs.lemmas.Bool.{cond_both}
use Rattle.raft_log.specs.Lists.{item, without}
use Rattle.raft_node.specs.Machine.{Machine}
use Rattle.world_run.specs.World.{World, Does, Timeout, Ask, Apply, Deliver, run}
use Rattle.progress.specs.Plans.{Plan, count_sent, term_of, log_of, unapplied, greatest_term, members_from, peers, elect_events, settle_events, and_then, times, for_each, answered, rise, canvass, elect, exchange, rounds, catch_up, confirm, settle, ask_through, apply_all}

members_few : (a : ℕ) (set : List Bool) → length (members_from a set) ≤ length set
members_few a [] = omega arith
members_few a (true ∷ set) = let r = members_few (suc a) set in omega arith
members_few a (false ∷ set) = let r = members_few (suc a) set in omega arith

without_few : (c : ℕ) (js : List ℕ) → length (without c js) ≤ length js
without_few c [] = omega arith
without_few c (j ∷ js) =
    let r = without_few c js in
    cond_both (eqb j c) (without c js) (j ∷ without c js) (λ z. length z ≤ suc (length js)) (λ e. omega arith) (λ e. omega arith)

pub peers_few : (set : List Bool) (c : ℕ) → length (peers set c) ≤ length set
peers_few set c = let a = without_few c (members_from 1 set) in let b = members_few 1 set in omega arith

module _ (M : Machine) where
  pub then_long : (w : World M) (p q : Plan M) → length (and_then M p q w) ≡ length (p w) + length (q (run M (p w) w))
  then_long w p q = length-append (p w) (q (run M (p w) w))

  times_long : (p : Plan M) (k : ℕ) → ((v : World M) → length (p v) ≡ k) → (r : ℕ) (w : World M) → length (times M r p w) ≡ r * k
  times_long p k each zero w = let e : 0 * k ≡ 0 = omega arith in sym e
  times_long p k each (suc r) w =
      let e : suc r * k ≡ k + r * k = omega arith in
      let s = times_long p k each r (run M (p w) w) in
      then_long w p (times M r p) ∙ (ap (λ z. z + length (times M r p (run M (p w) w))) (each w) ∙ (ap (λ z. k + z) s ∙ sym e))

  each_long : (f : ℕ → Plan M) (k : ℕ) → ((j : ℕ) (v : World M) → length (f j v) ≡ k) → (js : List ℕ) (w : World M) → length (for_each M f js w) ≡ length js * k
  each_long f k each [] w = let e : 0 * k ≡ 0 = omega arith in sym e
  each_long f k each (j ∷ js) w =
      let e : suc (length js) * k ≡ k + length js * k = omega arith in
      let s = each_long f k each js (run M (f j w) w) in
      then_long w (f j) (for_each M f js) ∙ (ap (λ z. z + length (for_each M f js (run M (f j w) w))) (each j w) ∙ (ap (λ z. k + z) s ∙ sym e))

  pub elect_long : (c : ℕ) (js : List ℕ) (w : World M) (n : ℕ) → length js ≤ n → length (elect M c js w) ≤ elect_events n (greatest_term w)
  elect_long c js w n few =
      let v : World M = run M (rise M c w) w in
      let a : length (rise M c w) ≡ greatest_term w - term_of (item w c) = length-replicate (greatest_term w - term_of (item w c)) (Does (Timeout c)) in
      let b : length (for_each M (answered M c (count_sent (item v c))) js (run M (Does (Timeout c) ∷ []) v)) ≡ length js * 2 =
      each_long (answered M c (count_sent (item v c))) 2 (λ j x. refl) js (run M (Does (Timeout c) ∷ []) v) in
      let d = then_long w (rise M c) (canvass M c js) in
      omega arith

  pub settle_long : (c : ℕ) (js : List ℕ) (w : World M) (n entries : ℕ) → length js ≤ n → length (log_of (item w c)) ≡ entries → length (settle M c js w) ≤ settle_events n entries
  settle_long c js w n entries few is =
      let v : World M = run M (catch_up M c js w) w in
      let r : ℕ = suc (entries + entries) in
      let same : rounds M c w ≡ suc (entries + entries) = ap (λ z. suc (z + z)) is in
      let a : length (catch_up M c js w) ≡ length js * (rounds M c w * 3) =
      each_long (λ j. times M (rounds M c w) (exchange M c j)) (rounds M c w * 3) (λ j x. times_long (exchange M c j) 3 (λ y. refl) (rounds M c w) x) js w in
      let b : length js * (rounds M c w * 3) ≡ length js * (3 * suc (entries + entries)) = ap (λ z. length js * (z * 3)) same ∙ ap (λ z. length js * z) (omega arith) in
      let d : length js * (3 * suc (entries + entries)) ≤ n * (3 * suc (entries + entries)) = mul-le-mul_right (3 * suc (entries + entries)) few in
      let e = confirm_long js v in
      let f = then_long w (catch_up M c js) (confirm M c js) in
      let g : length (catch_up M c js w) ≤ n * (3 * suc (entries + entries)) = subst (λ z. z ≤ n * (3 * suc (entries + entries))) (sym (a ∙ b)) d in
      over (length (catch_up M c js w)) (length (confirm M c js v)) (n * (3 * suc (entries + entries))) g e f
    where
      confirm_long : (js : List ℕ) (v : World M) → length (confirm M c js v) ≤ 3 + 3 * length js
      confirm_long [] v = omega arith
      confirm_long (j ∷ js) v =
          let a = then_long v (exchange M c j) (for_each M (exchange M c) (j ∷ js)) in
          let b = each_long (exchange M c) 3 (λ i x. refl) (j ∷ js) (run M (exchange M c j v) v) in
          omega arith

      over : (x y z : ℕ) → x ≤ z → y ≤ 3 + 3 * length js → length (settle M c js w) ≡ x + y → length (settle M c js w) ≤ z + (3 + 3 * n)
      over x y z p q e = omega arith

  pub ask_long : (c a : ℕ) (body : M.Body) (w : World M) → length (ask_through M c a body w) ≤ 2
  ask_long c a body w =
      cond_both (eqb a c) (Does (Ask a body) ∷ []) (Does (Ask a body) ∷ Does (Deliver a (suc (count_sent (item w a)))) ∷ []) (λ z. length z ≤ 2) (λ e. omega arith) (λ e. omega arith)

  pub apply_long : (a : ℕ) (w : World M) → length (apply_all M a w) ≡ unapplied (item w a)
  apply_long a w = length-replicate (unapplied (item w a)) (Does (Apply a))
