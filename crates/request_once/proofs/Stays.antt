-- Each request takes effect once.
use Rattle.std.proofs.Common.{◌≡◌, ℕ, ◌+◌, ◌<◌, ◌≤◌, Bool, true, false, List, [], ◌∷◌, ◌++◌, refl, ap, subst, ◌∙◌, sym, arith}
use Rattle.std.specs.Prelude.{if◌then◌else◌, ◌==◌, ◌&&◌, map}
use Rattle.std.proofs.lemmas.Bool.Decides.{nat_tests}
use Rattle.wire_bytes.specs.declared.origin.Origin.{Origin}
use Rattle.machine_laws.specs.Runs.{History}
use Rattle.request_once.specs.declared.body.Body.{Body}
use Rattle.request_once.specs.declared.body.Body.TheVariants.{Inner, Asked, Blank, Mark}
use Rattle.machine_laws.specs.Origins.{same_origin}
use Rattle.request_once.specs.declared.answer.Answer.{Answer}
use Rattle.request_once.specs.declared.answer.Answer.TheVariants.{Effect, Done}
use Rattle.request_once.specs.Fresh.{asked, stays, if_stays, fresh, last, plain, plain_of, refused, answers, is_blank_or_mark, times}
use Rattle.machine_laws.proofs.Origins.{same_origin-is}

-- how many requests there are past the last number, by whether one more is from that origin
past_by : (b : Bool) (k n m t : ℕ) → m ≡ k + 1 → (if b then k + 1 else k) < n → (k < n → t ≡ 0) → (if b && m == n then t + 1 else t) ≡ 0
past_by true k n m t e lt ih = let f : (m == n) ≡ false = grind (arith, nat_tests) in rw f (ih (omega arith))
past_by false k n m t e lt ih = ih lt

-- a request that stays is the only one with its number
once_by : (b c : Bool) (m n k t : ℕ) → (m == n) ≡ c → m ≡ k + 1 → (k < n → t ≡ 0) → t ≤ 1 → (if b && c then t + 1 else t) ≤ 1
once_by true true m n k t f e past le = let m_is : m ≡ n = grind (arith, nat_tests) in let z : t ≡ 0 = past (omega arith) in omega arith
once_by true false m n k t f e past le = le
once_by false c m n k t f e past le = le

number_of : (m k : ℕ) → (m == k + 1) ≡ true → m ≡ k + 1
number_of m k e = grind (arith, nat_tests)

asked-same : {C A : Type 0} (kept : History (Body C A)) (o p : Origin) (b : Bool) → same_origin o p ≡ b → (m : ℕ) → m ≡ asked p kept + 1 → b ≡ true → m ≡ asked o kept + 1
asked-same kept o p b s m e t = e ∙ ap (λ (q : Origin). asked q kept + 1) (sym (same_origin-is o p (s ∙ t)))

module _ {C A : Type 0} where
  -- no request stays with a number past how many of its origin's requests stay
  past-step : (kept : History (Body C A)) (place : ℕ) (o p : Origin) (m at n : ℕ) (a : A) (b s : Bool) → same_origin o p ≡ s → (m == asked p kept + 1) ≡ b → (asked o kept < n → times o n kept ≡ 0)
      → asked o (if_stays b (place, Asked p m at a) kept) < n → times o n (if_stays b (place, Asked p m at a) kept) ≡ 0
  past-step kept place o p m at n a true true e f ih lt =
      let m_is : m ≡ asked o kept + 1 = asked-same kept o p true e m (number_of m (asked p kept) f) refl in
      let l = (rw e at lt) in
      rw e (past_by true (asked o kept) n m (times o n kept) m_is l ih)
  past-step kept place o p m at n a true false e f ih lt = let l = (rw e at lt) in rw e (ih l)
  past-step kept place o p m at n a false s e f ih lt = ih lt

  pub past : (bodies : History (Body C A)) (o : Origin) (n : ℕ) → asked o (fresh bodies) < n → times o n (fresh bodies) ≡ 0
  unfolding fresh
  past [] o n lt = refl
  past ((place, Inner c) ∷ earlier) o n lt = past earlier o n lt
  past ((place, Blank) ∷ earlier) o n lt = past earlier o n lt
  past ((place, Mark m) ∷ earlier) o n lt = past earlier o n lt
  past ((place, Asked p m at a) ∷ earlier) o n lt = past-step (fresh earlier) place o p m at n a (m == asked p (fresh earlier) + 1) (same_origin o p) refl refl (past earlier o n) lt

  once-step : (kept : History (Body C A)) (place : ℕ) (o p : Origin) (m at n : ℕ) (a : A) (b s : Bool) → same_origin o p ≡ s → (m == asked p kept + 1) ≡ b → (asked o kept < n → times o n kept ≡ 0) → times o n kept ≤ 1
      → times o n (if_stays b (place, Asked p m at a) kept) ≤ 1
  once-step kept place o p m at n a true true e f past le =
      let m_is : m ≡ asked o kept + 1 = asked-same kept o p true e m (number_of m (asked p kept) f) refl in
      rw e (once_by true (m == n) m n (asked o kept) (times o n kept) refl m_is past le)
  once-step kept place o p m at n a true false e f past le = rw e le
  once-step kept place o p m at n a false s e f past le = le

  -- no two of the requests that stay have the same origin and number
  pub stays_once : (bodies : History (Body C A)) (o : Origin) (n : ℕ) → times o n (fresh bodies) ≤ 1
  unfolding fresh
  stays_once [] o n = omega arith
  stays_once ((place, Inner c) ∷ earlier) o n = stays_once earlier o n
  stays_once ((place, Blank) ∷ earlier) o n = stays_once earlier o n
  stays_once ((place, Mark m) ∷ earlier) o n = stays_once earlier o n
  stays_once ((place, Asked p m at a) ∷ earlier) o n =
      once-step (fresh earlier) place o p m at n a (m == asked p (fresh earlier) + 1) (same_origin o p) refl refl (past earlier o n) (stays_once earlier o n)

  -- a body that does not stay changes nothing, as if it had not come
  pub fresh_without : (later earlier : History (Body C A)) (x : ℕ × Body C A) → stays (fresh earlier) x.1 ≡ false → fresh (later ++ x ∷ earlier) ≡ fresh (later ++ earlier)
  unfolding fresh
  fresh_without [] earlier x e = ap (λ b. if_stays b x (fresh earlier)) e
  fresh_without (y ∷ later) earlier x e = ap (λ (kept : History (Body C A)). if_stays (stays kept y.1) y kept) (fresh_without later earlier x e)

  pub plain_without : (client : Origin → ℕ → A → C) (later earlier : History (Body C A)) (place : ℕ) (o : Origin) (n at : ℕ) (a : A) → stays (fresh earlier) (Asked o n at a) ≡ false
      → plain client (later ++ (place, Asked o n at a) ∷ earlier) ≡ plain client (later ++ earlier)
  unfolding plain
  plain_without client later earlier place o n at a e = ap (plain_of client) (fresh_without later earlier (place, Asked o n at a) e)

-- two lists of bodies that stay, with the same number of requests from each origin and the same commands
record Alike {C A : Type 0} (client : Origin → ℕ → A → C) (one other : History (Body C A)) : Type 0 where
  asks : (o : Origin) → asked o one ≡ asked o other
  commands : plain_of client one ≡ plain_of client other

module _ {C A : Type 0} (client : Origin → ℕ → A → C) where
  alike_first : (kept : History (Body C A)) (place : ℕ) (x : Body C A) → is_blank_or_mark x ≡ true → Alike client (if_stays (stays kept x) (place, x) kept) kept
  alike_first kept place (Inner c) e = absurd (cc e)
  alike_first kept place (Asked o n at a) e = absurd (cc e)
  alike_first kept place Blank e = record { asks = λ o. refl; commands = refl }
  alike_first kept place (Mark m) e = record { asks = λ o. refl; commands = refl }

  alike_asked : (one other : History (Body C A)) (place : ℕ) (o : Origin) (n at : ℕ) (a : A) (b : Bool) → Alike client one other → Alike client (if_stays b (place, Asked o n at a) one) (if_stays b (place, Asked o n at a) other)
  alike_asked one other place o n at a true l =
      record {
        asks = λ p. ap (λ k. if same_origin p o then k + 1 else k) (l.asks p);
        commands = ap (λ (h : History C). (place, client o at a) ∷ h) l.commands;
      }
  alike_asked one other place o n at a false l = l

  alike_next : (one other : History (Body C A)) (y : ℕ × Body C A) → Alike client one other → Alike client (if_stays (stays one y.1) y one) (if_stays (stays other y.1) y other)
  alike_next one other (place, Inner c) l = record { asks = l.asks; commands = ap (λ (h : History C). (place, c) ∷ h) l.commands }
  alike_next one other (place, Blank) l = record { asks = l.asks; commands = l.commands }
  alike_next one other (place, Mark m) l = record { asks = l.asks; commands = l.commands }
  alike_next one other (place, Asked o n at a) l =
      subst (λ k. Alike client (if_stays (n == k + 1) (place, Asked o n at a) one) (if_stays (n == asked o other + 1) (place, Asked o n at a) other)) (sym (l.asks o))
      (alike_asked one other place o n at a (n == asked o other + 1) l)

  alike : (later earlier : History (Body C A)) (place : ℕ) (x : Body C A) → is_blank_or_mark x ≡ true → Alike client (fresh (later ++ (place, x) ∷ earlier)) (fresh (later ++ earlier))
  unfolding fresh
  alike [] earlier place x e = alike_first (fresh earlier) place x e
  alike (y ∷ later) earlier place x e = alike_next (fresh (later ++ (place, x) ∷ earlier)) (fresh (later ++ earlier)) y (alike later earlier place x e)

  -- a blank or a mark changes nothing, as if it had not come: neither the commands, nor the last requests, nor any
  -- later answer
  pub same_commands : (later earlier : History (Body C A)) (place : ℕ) (x : Body C A) → is_blank_or_mark x ≡ true → plain client (later ++ (place, x) ∷ earlier) ≡ plain client (later ++ earlier)
  unfolding plain
  same_commands later earlier place x e = (alike later earlier place x e).commands

  pub same_last : (later earlier : History (Body C A)) (place : ℕ) (x : Body C A) → is_blank_or_mark x ≡ true → (o : Origin) → last (later ++ (place, x) ∷ earlier) o ≡ last (later ++ earlier) o
  unfolding last
  same_last later earlier place x e o = (alike later earlier place x e).asks o

  -- what a body is answered, by the commands and the last request before it
  abbrev asked_of : {E : Type 0} → (History C → ℕ → C → List E) → ℕ → Origin → ℕ → ℕ → A → History C → ℕ → List (Answer E)
  asked_of effects place o n at a commands was = if n == was + 1 then map Effect (effects commands place (client o at a)) ++ Done o n ∷ [] else refused o n was ∷ []

  pub same_answers : {E : Type 0} (effects : History C → ℕ → C → List E) (later earlier : History (Body C A)) (place : ℕ) (x : Body C A) → is_blank_or_mark x ≡ true
      → (at : ℕ) (y : Body C A) → answers client effects (later ++ (place, x) ∷ earlier) at y ≡ answers client effects (later ++ earlier) at y
  unfolding answers
  same_answers effects later earlier place x e at (Inner c) = ap (λ h. map Effect (effects h at c)) (same_commands later earlier place x e)
  same_answers effects later earlier place x e at (Asked o n when a) =
      ap (λ h. asked_of effects at o n when a h (last (later ++ (place, x) ∷ earlier) o)) (same_commands later earlier place x e)
      ∙ ap (asked_of effects at o n when a (plain client (later ++ earlier))) (same_last later earlier place x e o)
  same_answers effects later earlier place x e at Blank = refl
  same_answers effects later earlier place x e at (Mark m) = refl
