-- What is kept about the sessions follows what came.
use Rattle.std.proofs.Common.{◌≡◌, ℕ, ◌+◌, Bool, true, false, [], ◌∷◌, Option, Some, None, refl, ap, ◌∙◌, sym}
use Rattle.std.specs.Prelude.{◌&&◌, ◌||◌, ◌==◌, if◌then◌else◌, Result, Ok, Err, OnOk}
use Rattle.machine_laws.specs.Runs.{History}
use Rattle.machine_laws.specs.Sessions.{same_session, is_that}
use Rattle.wire_bytes.specs.declared.session_id.SessionId.{SessionId}
use Rattle.session_fence.specs.declared.command.FenceCommand.{FenceCommand}
use Rattle.session_fence.specs.declared.command.FenceCommand.TheVariants.{Inner, Opened, Shut, Heard}
use Rattle.session_fence.specs.declared.session.Session.{Session}
use Rattle.session_fence.specs.declared.session.Session.TheVariants.{Never, InForce, Over}
use Rattle.session_fence.specs.Sessions.{is_new, greatest, was_opened, was_shut, unless_shut, session, lines_taken, given, commands}
use Rattle.session_fence.specs.States.{top_of, now_of, taken_of, next_of, IsKept}
use Rattle.session_fence.proofs.Ids.{same-is, same-itself, same-turned, below-not_same, new-above, that-is}
use Rattle.irc_line.proofs.Booleans.{and_false, and_left, and_right, or_both_false, or_right_false, or_true}
use Rattle.irc_line.proofs.Numbers.{eq_of}

is_some_not_none : {A : Type 0} (x : A) → Some x ≡ None → ⊥
is_some_not_none x e = cc

differs_by : (top : Option SessionId) (i j : SessionId) (b : Bool) → same_session i j ≡ b → is_new top i ≡ false → is_new top j ≡ true → same_session i j ≡ false
differs_by top i j true h e new = let f : is_new top j ≡ false = ap (is_new top) (sym (same-is i j h)) ∙ e in cc
differs_by top i j false h e new = h

opened-by : (top : Option SessionId) (i j : SessionId) (was b : Bool) → is_new top i ≡ b → (is_new top j ≡ true → was ≡ false)
    → is_new (if b then Some i else top) j ≡ true → (same_session i j || was) ≡ false
opened-by top i j was true e ih new = or_both_false (same_session i j) was (below-not_same i j new) (ih (new-above top i j e new))
opened-by top i j was false e ih new = or_both_false (same_session i j) was (differs_by top i j (same_session i j) refl e new) (ih new)

greatest-by : (top : Option SessionId) (i g : SessionId) (was b : Bool) → is_new top i ≡ b → (top ≡ Some g → was ≡ true) → (if b then Some i else top) ≡ Some g → (same_session i g || was) ≡ true
greatest-by top i g was true e ih k = let s : i ≡ g = cc in let t : same_session i g ≡ true = ap (same_session i) (sym s) ∙ same-itself i in rw t
greatest-by top i g was false e ih k = ap (λ b. same_session i g || b) (ih k) ∙ or_true (same_session i g)

unless_by : (g id : SessionId) (b : Bool) → (if b then None else Some g) ≡ Some id → Some g ≡ Some id
unless_by g id true e = absurd (is_some_not_none id (sym e))
unless_by g id false e = e

module _ {C L : Type 0} where
  -- an id that is above all that were opened was not opened
  pub new-not_opened : (h : History (FenceCommand C L)) (j : SessionId) → is_new (greatest h) j ≡ true → was_opened h j ≡ false
  new-not_opened [] j e = refl
  new-not_opened ((p, Inner c) ∷ h) j e = new-not_opened h j e
  new-not_opened ((p, Opened i) ∷ h) j e = opened-by (greatest h) i j (was_opened h j) (is_new (greatest h) i) refl (new-not_opened h j) e
  new-not_opened ((p, Shut i) ∷ h) j e = new-not_opened h j e
  new-not_opened ((p, Heard i n at l) ∷ h) j e = new-not_opened h j e

  -- a session that was not opened was not shut after it
  pub not_opened-not_shut : (h : History (FenceCommand C L)) (j : SessionId) → was_opened h j ≡ false → was_shut h j ≡ false
  not_opened-not_shut [] j e = refl
  not_opened-not_shut ((p, Inner c) ∷ h) j e = not_opened-not_shut h j e
  not_opened-not_shut ((p, Opened i) ∷ h) j e = not_opened-not_shut h j (or_right_false (same_session i j) (was_opened h j) e)
  not_opened-not_shut ((p, Shut i) ∷ h) j e =
      or_both_false (same_session i j && was_opened h j) (was_shut h j) (ap (λ b. same_session i j && b) e ∙ and_false (same_session i j)) (not_opened-not_shut h j e)
  not_opened-not_shut ((p, Heard i n at l) ∷ h) j e = not_opened-not_shut h j e

  -- the greatest id that was opened was opened
  pub greatest-opened : (h : History (FenceCommand C L)) (g : SessionId) → greatest h ≡ Some g → was_opened h g ≡ true
  greatest-opened [] g e = absurd (is_some_not_none g (sym e))
  greatest-opened ((p, Inner c) ∷ h) g e = greatest-opened h g e
  greatest-opened ((p, Opened i) ∷ h) g e = greatest-by (greatest h) i g (was_opened h g) (is_new (greatest h) i) refl (greatest-opened h g) e
  greatest-opened ((p, Shut i) ∷ h) g e = greatest-opened h g e
  greatest-opened ((p, Heard i n at l) ∷ h) g e = greatest-opened h g e

  unless-is : (h : History (FenceCommand C L)) (top : Option SessionId) (id : SessionId) → unless_shut h top ≡ Some id → top ≡ Some id
  unless-is h None id e = e
  unless-is h (Some g) id e = unless_by g id (was_shut h g) e

  -- the session in force was opened
  pub session-opened : (h : History (FenceCommand C L)) (id : SessionId) → session h ≡ Some id → was_opened h id ≡ true
  unfolding session
  session-opened h id e = greatest-opened h id (unless-is h (greatest h) id e)

  -- a line of a session that was not opened is not counted
  uncounted_by : (h : History (FenceCommand C L)) (i j : SessionId) (a b c : Bool) → same_session i j ≡ a → is_that (session h) i ≡ b → was_opened h j ≡ false → (a && (b && c)) ≡ false
  uncounted_by h i j true true c s t e =
      let o : was_opened h i ≡ true = session-opened h i (that-is (session h) i t) in
      let k : was_opened h j ≡ true = ap (was_opened h) (sym (same-is i j s)) ∙ o in
      cc
  uncounted_by h i j true false c s t e = refl
  uncounted_by h i j false b c s t e = refl

  -- no line was taken of a session that was not opened
  pub not_opened-no_lines : (h : History (FenceCommand C L)) (j : SessionId) → was_opened h j ≡ false → lines_taken h j ≡ 0
  unfolding lines_taken
  not_opened-no_lines [] j e = refl
  not_opened-no_lines ((p, Inner c) ∷ h) j e = not_opened-no_lines h j e
  not_opened-no_lines ((p, Opened i) ∷ h) j e = not_opened-no_lines h j (or_right_false (same_session i j) (was_opened h j) e)
  not_opened-no_lines ((p, Shut i) ∷ h) j e = not_opened-no_lines h j e
  not_opened-no_lines ((p, Heard i n at l) ∷ h) j e =
      let f = uncounted_by h i j (same_session i j) (is_that (session h) i) (n == lines_taken h i + 1) refl refl e in
      rw f (not_opened-no_lines h j e)

-- ---- one more command

over_by : (a b : Bool) (i : SessionId) → None ≡ (if b then None else Some i) → None ≡ (if a || b then None else Some i)
over_by a true i k = rw (or_true a)
over_by a false i k = absurd (is_some_not_none i (sym k))

some_is : (a b : SessionId) → Some a ≡ Some b → a ≡ b
some_is a b e = cc

-- the session in force is the greatest
top-now : (q : Session) (id : SessionId) → now_of q ≡ Some id → Some id ≡ top_of q
top-now Never id e = absurd (is_some_not_none id (sym e))
top-now (InForce i n) id e = sym e
top-now (Over i) id e = absurd (is_some_not_none id (sym e))

-- the next line of the session in force, by what is kept
next_by : (q : Session) (id : SessionId) (n m : ℕ) (b : Bool) → is_that (now_of q) id ≡ b → (now_of q ≡ Some id → taken_of q ≡ m) → (is_that (now_of q) id && n == taken_of q + 1) ≡ (is_that (now_of q) id && n == m + 1)
next_by q id n m true e taken = ap (λ k. is_that (now_of q) id && n == k + 1) (taken (that-is (now_of q) id e))
next_by q id n m false e taken = rw e

module _ {C L : Type 0} where
  next-kept : (q : Session) (h : History (FenceCommand C L)) (id : SessionId) (n : ℕ) → IsKept q h → (is_that (now_of q) id && n == taken_of q + 1) ≡ (is_that (session h) id && n == lines_taken h id + 1)
  next-kept q h id n k = next_by q id n (lines_taken h id) (is_that (now_of q) id) refl (k.taken id) ∙ ap (λ s. is_that s id && n == lines_taken h id + 1) k.now

  -- what the machine below gets depends on what is kept
  pub given-kept : (up down : C) (heard : ℕ → L → C) (q : Session) (h : History (FenceCommand C L)) (x : FenceCommand C L) → IsKept q h
      → given up down heard (top_of q) (now_of q) (λ _. taken_of q) x ≡ commands up down heard h x
  unfolding commands
  given-kept up down heard q h (Inner c) k = refl
  given-kept up down heard q h (Opened id) k = rw (k.top, k.now)
  given-kept up down heard q h (Shut id) k = rw k.now
  given-kept up down heard q h (Heard id n at l) k = ap (λ b. if b then heard at l ∷ [] else []) (next-kept q h id n k)

  pub nothing_kept : IsKept {C = C} {L = L} Never []
  unfolding session lines_taken
  nothing_kept = record { top = refl; now = refl; taken = λ id e. refl }

  kept-inner : (q : Session) (h : History (FenceCommand C L)) (place : ℕ) (c : C) → IsKept q h → IsKept q ((place, Inner c) ∷ h)
  unfolding session lines_taken
  kept-inner q h place c k = record { top = k.top; now = k.now; taken = k.taken }

  kept-opened : (q : Session) (h : History (FenceCommand C L)) (place : ℕ) (id : SessionId) (b : Bool) → is_new (top_of q) id ≡ b → IsKept q h → IsKept (if b then InForce id 0 else q) ((place, Opened id) ∷ h)
  unfolding session lines_taken
  kept-opened q h place id true e k =
      let f : is_new (greatest h) id ≡ true = ap (λ t. is_new t id) (sym k.top) ∙ e in
      let o : was_opened h id ≡ false = new-not_opened h id f in
      let s : was_shut h id ≡ false = not_opened-not_shut h id o in
      let z : lines_taken h id ≡ 0 = not_opened-no_lines h id o in
      record { top = rw f; now = rw (f, s); taken = λ j j_is. let i : id ≡ j = cc in sym (ap (lines_taken h) (sym i) ∙ z) }
  kept-opened q h place id false e k =
      let f : is_new (greatest h) id ≡ false = ap (λ t. is_new t id) (sym k.top) ∙ e in
      record { top = rw f k.top; now = rw f k.now; taken = k.taken }

  kept-shut-now : (q : Session) (h : History (FenceCommand C L)) (place : ℕ) (id : SessionId) → is_that (now_of q) id ≡ true → IsKept q h → IsKept (Over id) ((place, Shut id) ∷ h)
  unfolding session lines_taken
  kept-shut-now Never h place id e k = cc
  kept-shut-now (Over i) h place id e k = cc
  kept-shut-now (InForce i n) h place id e k =
      let i_is : i ≡ id = same-is i id e in
      let g : greatest h ≡ Some id = sym k.top ∙ ap (λ (x : SessionId). Some x) i_is in
      let o : was_opened h id ≡ true = greatest-opened h id g in
      let s : same_session id id ≡ true = same-itself id in
      record { top = sym g; now = rw (g, s, o); taken = λ j j_is. absurd (is_some_not_none j (sym j_is)) }

  -- a Shut of another session does not change which session is in force, by what is kept
  unless-other : (q : Session) (h : History (FenceCommand C L)) (place : ℕ) (id : SessionId) → is_that (now_of q) id ≡ false → now_of q ≡ unless_shut h (top_of q) → now_of q ≡ unless_shut ((place, Shut id) ∷ h) (top_of q)
  unless-other Never h place id e k = refl
  unless-other (InForce i n) h place id e k = let s : same_session id i ≡ false = same-turned i id e in rw s k
  unless-other (Over i) h place id e k = over_by (same_session id i && was_opened h i) (was_shut h i) i k

  kept-shut : (q : Session) (h : History (FenceCommand C L)) (place : ℕ) (id : SessionId) (b : Bool) → is_that (now_of q) id ≡ b → IsKept q h → IsKept (if b then Over id else q) ((place, Shut id) ∷ h)
  unfolding session lines_taken
  kept-shut q h place id true e k = kept-shut-now q h place id e k
  kept-shut q h place id false e k =
      let f : now_of q ≡ unless_shut h (top_of q) = k.now ∙ ap (unless_shut h) (sym k.top) in
      record { top = k.top; now = unless-other q h place id e f ∙ ap (unless_shut ((place, Shut id) ∷ h)) k.top; taken = k.taken }

  -- a line that is not the next one of the session in force is not counted
  uncounted-by : (q : Session) (h : History (FenceCommand C L)) (id j : SessionId) (n : ℕ) (a : Bool) → same_session id j ≡ a → (is_that (session h) id && n == lines_taken h id + 1) ≡ false
      → (if same_session id j && (is_that (session h) id && n == lines_taken h id + 1) then lines_taken h j + 1 else lines_taken h j) ≡ lines_taken h j
  uncounted-by q h id j n a s e = rw (e, and_false (same_session id j))

  counted : (id j : SessionId) (n : ℕ) (h : History (FenceCommand C L)) → n ≡ lines_taken h id + 1 → (is_that (session h) id && n == lines_taken h id + 1) ≡ true → id ≡ j
      → n ≡ (if same_session id j && (is_that (session h) id && n == lines_taken h id + 1) then lines_taken h j + 1 else lines_taken h j)
  counted id j n h m f i =
      let s : same_session id j ≡ true = ap (same_session id) (sym i) ∙ same-itself id in
      let k : lines_taken h id ≡ lines_taken h j = ap (lines_taken h) i in
      rw (s, f) (m ∙ ap (λ (x : ℕ). x + 1) k)

  kept-heard : (q : Session) (h : History (FenceCommand C L)) (place : ℕ) (id : SessionId) (n at : ℕ) (l : L) (b : Bool) → (is_that (now_of q) id && n == taken_of q + 1) ≡ b → IsKept q h
      → IsKept (if b then InForce id n else q) ((place, Heard id n at l) ∷ h)
  unfolding session lines_taken
  kept-heard q h place id n at l false e k =
      let f : (is_that (session h) id && n == lines_taken h id + 1) ≡ false = sym (next-kept q h id n k) ∙ e in
      record { top = k.top; now = k.now; taken = λ j j_is. k.taken j j_is ∙ sym (uncounted-by q h id j n (same_session id j) refl f) }
  kept-heard q h place id n at l true e k =
      let f : (is_that (session h) id && n == lines_taken h id + 1) ≡ true = sym (next-kept q h id n k) ∙ e in
      let t : is_that (now_of q) id ≡ true = and_left _ _ e in
      let i : now_of q ≡ Some id = that-is (now_of q) id t in
      let m : n ≡ lines_taken h id + 1 = eq_of n _ (and_right (is_that (session h) id) _ f) in
      record { top = top-now q id i ∙ k.top; now = sym i ∙ k.now; taken = λ j j_is. counted id j n h m f (some_is id j j_is) }

  -- what is kept after a command
  pub kept-next : (q : Session) (h : History (FenceCommand C L)) (place : ℕ) (x : FenceCommand C L) → IsKept q h → IsKept (next_of q x) ((place, x) ∷ h)
  kept-next q h place (Inner c) k = kept-inner q h place c k
  kept-next q h place (Opened id) k = kept-opened q h place id (is_new (top_of q) id) refl k
  kept-next q h place (Shut id) k = kept-shut q h place id (is_that (now_of q) id) refl k
  kept-next q h place (Heard id n at l) k = kept-heard q h place id n at l (is_that (now_of q) id && n == taken_of q + 1) refl k

-- ---- what holds after a success

pub ok_both : {A E : Type 0} (r : Result A E) (P Q R : Type 0) → (P → Q → R) → OnOk r P → OnOk r Q → OnOk r R
ok_both (Ok v) P Q R make p q = make p q
ok_both (Err e) P Q R make p q = tt
