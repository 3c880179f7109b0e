-- Each line of a session is taken once, in its order.
use Rattle.std.proofs.Common.{◌≡◌, ◌≢◌, ℕ, suc, ◌+◌, Bool, true, false, List, [], ◌∷◌, ◌++◌, refl, ap, ◌∙◌, sym, arith}
use Rattle.std.specs.Prelude.{◌&&◌, ◌==◌, if◌then◌else◌}
use Rattle.machine_laws.specs.Runs.{History}
use Rattle.machine_laws.specs.Sessions.{same_session, is_that}
use Rattle.wire_bytes.specs.declared.session_id.SessionId.{SessionId}
use Rattle.session_fence.specs.declared.command.FenceCommand.{FenceCommand}
use Rattle.session_fence.specs.declared.command.FenceCommand.TheVariants.{Inner, Opened, Shut, Heard}
use Rattle.session_fence.specs.Sessions.{session, lines_taken, numbers_taken, numbers_to, commands}
use Rattle.session_fence.proofs.Ids.{same-is}
use Rattle.irc_line.proofs.Booleans.{and_false, and_left, and_right}
use Rattle.irc_line.proofs.Numbers.{eq_of, of_ne}

-- one more number
one_more : (taken : List ℕ) (k n : ℕ) → taken ≡ numbers_to k → n ≡ k + 1 → taken ++ n ∷ [] ≡ numbers_to (k + 1)
one_more taken k n e f =
    let s : k + 1 ≡ suc k = omega arith in
    rw (s, e) (ap (λ (m : ℕ). numbers_to k ++ m ∷ []) (f ∙ s))

module _ {C L : Type 0} where
  next_number : (h : History (FenceCommand C L)) (i id : SessionId) (n : ℕ) → (same_session i id && (is_that (session h) i && n == lines_taken h i + 1)) ≡ true → n ≡ lines_taken h id + 1
  next_number h i id n e =
      let a : i ≡ id = same-is i id (and_left _ _ e) in
      let b : n ≡ lines_taken h i + 1 = eq_of n _ (and_right (is_that (session h) i) _ (and_right (same_session i id) _ e)) in
      b ∙ ap (λ (j : SessionId). lines_taken h j + 1) a

  heard_by : (h : History (FenceCommand C L)) (i id : SessionId) (n : ℕ) (b : Bool) → (same_session i id && (is_that (session h) i && n == lines_taken h i + 1)) ≡ b → numbers_taken h id ≡ numbers_to (lines_taken h id)
      → (if b then numbers_taken h id ++ n ∷ [] else numbers_taken h id) ≡ numbers_to (if b then lines_taken h id + 1 else lines_taken h id)
  heard_by h i id n true e ih = one_more (numbers_taken h id) (lines_taken h id) n ih (next_number h i id n e)
  heard_by h i id n false e ih = ih

  -- the lines of a session that were taken have the numbers from 1 on
  pub taken_in_order : (h : History (FenceCommand C L)) (id : SessionId) → numbers_taken h id ≡ numbers_to (lines_taken h id)
  unfolding numbers_taken lines_taken
  taken_in_order [] id = refl
  taken_in_order ((p, Inner c) ∷ h) id = taken_in_order h id
  taken_in_order ((p, Opened i) ∷ h) id = taken_in_order h id
  taken_in_order ((p, Shut i) ∷ h) id = taken_in_order h id
  taken_in_order ((p, Heard i n at l) ∷ h) id = heard_by h i id n (same_session i id && (is_that (session h) i && n == lines_taken h i + 1)) refl (taken_in_order h id)

  -- a line that is not the next of its session gives no command
  pub not_next_gives_nothing : (up down : C) (heard : ℕ → L → C) (h : History (FenceCommand C L)) (id : SessionId) (n at : ℕ) (l : L) → n ≢ lines_taken h id + 1 → commands up down heard h (Heard id n at l) ≡ []
  unfolding commands
  not_next_gives_nothing up down heard h id n at l e = rw (of_ne n (lines_taken h id + 1) e, and_false (is_that (session h) id))

  -- nor does one of a session that is not in force
  pub not_now_gives_nothing : (up down : C) (heard : ℕ → L → C) (h : History (FenceCommand C L)) (id : SessionId) (n at : ℕ) (l : L) → is_that (session h) id ≡ false → commands up down heard h (Heard id n at l) ≡ []
  unfolding commands
  not_now_gives_nothing up down heard h id n at l e = rw e
