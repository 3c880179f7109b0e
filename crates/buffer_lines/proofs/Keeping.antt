-- What is kept is what a ring of the present size keeps of what it kept before and of what comes in.
use Rattle.std.proofs.Common.{◌≡◌, ℕ, ◌+◌, ◌-◌, ◌<◌, Bool, true, false, not, ◌&&◌, List, [], ◌∷◌, ◌++◌, length, refl, ap, ◌∙◌, sym, subst, arith, append_assoc, inl, inr, length-append}
use Rattle.std.specs.Prelude.{Option, Some, None, is_some, if◌then◌else◌, nat_lt, ◌⊎◌}
use Rattle.std.proofs.lemmas.List.{drop-append-le, drop_all, append-nil}
use Rattle.circular_buffer.specs.Buffer.{keep_last}
use Rattle.buffer_lines.specs.Keeping.{if_kept, one_if, stored_by, stays, kept_since, kept}
use Rattle.irc_line.proofs.Booleans.{and_both, and_left, and_right}
use Rattle.irc_line.proofs.Numbers.{ge_of, lt_of, of_lt}

true_or_false : (b : Bool) → (b ≡ true) ⊎ (b ≡ false)
true_or_false true = inl refl
true_or_false false = inr refl

false_from : (b : Bool) → (b ≡ true → true ≡ false) → b ≡ false
false_from true h = h refl
false_from false h = refl

pub keep_last-nil : {K : Type 0} (n : ℕ) → keep_last {X = K} n [] ≡ []
keep_last-nil {K} n = drop_all {X = K} (0 - n) [] (omega arith)

-- one more line at the end
keep_last-more_by : {K : Type 0} (t n : ℕ) (xs : List K) (k : K) (b : Bool) → nat_lt t n ≡ b → keep_last (n - (t + 1)) xs ++ if_kept b (Some k) ≡ keep_last (n - t) (xs ++ k ∷ [])
keep_last-more_by t n xs k true e =
    let lt = lt_of t n e in
    let len = length-append xs (k ∷ []) in
    let same : length (xs ++ k ∷ []) - (n - t) ≡ length xs - (n - (t + 1)) = omega arith in
    rw (same, drop-append-le (length xs - (n - (t + 1))) xs (k ∷ []) (omega arith))
keep_last-more_by t n xs k false e =
    let le = ge_of t n e in
    let len = length-append xs (k ∷ []) in
    append-nil _ ∙ drop_all (length xs - (n - (t + 1))) xs (omega arith) ∙ sym (drop_all (length (xs ++ k ∷ []) - (n - t)) (xs ++ k ∷ []) (omega arith))

keep_last-more : {K : Type 0} (t n : ℕ) (xs : List K) (k : K) → keep_last (n - (t + 1)) xs ++ if_kept (nat_lt t n) (Some k) ≡ keep_last (n - t) (xs ++ k ∷ [])
keep_last-more t n xs k = keep_last-more_by t n xs k (nat_lt t n) refl

-- one more of the earlier lines: it is kept where it was kept, the target is not emptied, and there is room
step : {K : Type 0} (s e : Bool) (t n : ℕ) (xs : List K) (o : Option K) → (s ≡ false → is_some o ≡ true → xs ≡ [])
    → (if e then [] else keep_last (n - (t + one_if (is_some o))) xs) ++ if_kept (s && not e && nat_lt t n) o
    ≡ (if e then [] else keep_last (n - t) (xs ++ if_kept s o))
step true true t n xs None dead = refl
step true true t n xs (Some k) dead = refl
step false true t n xs None dead = refl
step false true t n xs (Some k) dead = refl
step s false t n xs None dead =
    let z : t + 0 ≡ t = omega arith in
    rw (z, append-nil xs) (append-nil _)
step true false t n xs (Some k) dead = keep_last-more t n xs k
step false false t n xs (Some k) dead = rw (dead refl refl) (append-nil _ ∙ keep_last-nil (n - (t + 1)) ∙ sym (keep_last-nil (n - t)))

if_kept-false : {K : Type 0} (o : Option K) → if_kept false o ≡ []
if_kept-false None = refl
if_kept-false (Some k) = refl

same_nothing : {K : Type 0} (b : Bool) → ◌≡◌ {A = List K} [] (if b then [] else [])
same_nothing true = refl
same_nothing false = refl

-- the line of the last command itself
last_step : {K : Type 0} (e : Bool) (n : ℕ) (xs : List K) (o : Option K) → (if e then [] else keep_last (n - one_if (is_some o)) xs) ++ if_kept (nat_lt 0 n) o
    ≡ keep_last n ((if e then [] else xs) ++ if_kept true o)
last_step true n xs None = sym (keep_last-nil n)
last_step false n xs None =
    let z : n - 0 ≡ n = omega arith in
    rw (z, append-nil xs) (append-nil _)
last_step true n xs (Some k) =
    let z : n - 0 ≡ n = omega arith in
    let m = rw z at (keep_last-more 0 n [] k) in
    ap (λ ys. ys ++ if_kept (nat_lt 0 n) (Some k)) (sym (keep_last-nil (n - (0 + 1)))) ∙ m
last_step false n xs (Some k) =
    let z : n - 0 ≡ n = omega arith in
    let z' : 0 + 1 ≡ 1 = refl in
    rw z at (keep_last-more 0 n xs k)

module _ {X K : Type 0} (stored : List X → X → Option K) (emptied : List X → X → Bool) (size : List X → ℕ) where
  stored_by-append : (l m e : List X) → stored_by stored emptied size (l ++ m) e ≡ stored_by stored emptied size l (m ++ e) + stored_by stored emptied size m e
  unfolding stored_by
  stored_by-append [] m e = omega arith
  stored_by-append (x ∷ l) m e =
      let ih = stored_by-append l m e in
      let same : one_if (is_some (stored ((l ++ m) ++ e) x)) ≡ one_if (is_some (stored (l ++ (m ++ e)) x)) = ap (λ h. one_if (is_some (stored h x))) (append_assoc l m e) in
      omega arith

  stays-longer : (l m e : List X) → stays stored emptied size (l ++ m) e ≡ true → stays stored emptied size l (m ++ e) ≡ true
  unfolding stays
  stays-longer [] [] e h = h
  stays-longer [] (x ∷ m) e h =
      let lt : stored_by stored emptied size (x ∷ m) e < size (x ∷ (m ++ e)) = lt_of _ _ (and_right _ _ h) in
      of_lt _ _ (omega arith)
  stays-longer (x ∷ l) m e h =
      let P : List X → Type 0 = λ k. (stays stored emptied size (l ++ m) e && not (emptied k x) && nat_lt (stored_by stored emptied size (x ∷ (l ++ m)) e) (size (x ∷ k))) ≡ true in
      let h' : P (l ++ (m ++ e)) = subst P (append_assoc l m e) h in
      let lt : stored_by stored emptied size (x ∷ (l ++ m)) e < size (x ∷ (l ++ (m ++ e))) = lt_of _ _ (and_right _ _ h') in
      let more : stored_by stored emptied size (x ∷ (l ++ m)) e ≡ stored_by stored emptied size (x ∷ l) (m ++ e) + stored_by stored emptied size m e = stored_by-append (x ∷ l) m e in
      and_both _ _ (and_both _ _ (stays-longer l m e (and_left _ _ (and_left _ _ h'))) (and_right _ _ (and_left _ _ h'))) (of_lt _ _ (omega arith))

  dead : (l m e : List X) → stays stored emptied size l (m ++ e) ≡ false → kept_since stored emptied size (l ++ m) e ≡ []
  unfolding kept_since
  dead l m [] h = refl
  dead l m (x ∷ e) h =
      let gone : stays stored emptied size (l ++ m) (x ∷ e) ≡ false = false_from _ (λ s. sym (stays-longer l m (x ∷ e) s) ∙ h) in
      let assoc : (l ++ m) ++ x ∷ [] ≡ l ++ (m ++ x ∷ []) = append_assoc l m (x ∷ []) in
      let assoc' : (m ++ x ∷ []) ++ e ≡ m ++ x ∷ e = append_assoc m (x ∷ []) e in
      let h' : stays stored emptied size l ((m ++ x ∷ []) ++ e) ≡ false = rw assoc' h in
      rw (assoc, dead l (m ++ x ∷ []) e h', gone) (if_kept-false (stored e x))

  count_one : (x : X) (earlier : List X) → stored_by stored emptied size (x ∷ []) earlier ≡ one_if (is_some (stored earlier x))
  unfolding stored_by
  count_one x earlier = omega arith

  count : (y : X) (later : List X) (x : X) (earlier : List X) → stored_by stored emptied size (y ∷ (later ++ x ∷ [])) earlier ≡ stored_by stored emptied size (y ∷ later) (x ∷ earlier) + one_if (is_some (stored earlier x))
  count y later x earlier =
      let one : stored_by stored emptied size (x ∷ []) earlier ≡ one_if (is_some (stored earlier x)) = count_one x earlier in
      stored_by-append (y ∷ later) (x ∷ []) earlier ∙ ap (λ n. stored_by stored emptied size (y ∷ later) (x ∷ earlier) + n) one

  stays-is : (y : X) (later e : List X) → stays stored emptied size (y ∷ later) e
      ≡ (stays stored emptied size later e && not (emptied (later ++ e) y) && nat_lt (stored_by stored emptied size (y ∷ later) e) (size (y ∷ (later ++ e))))
  unfolding stays
  stays-is y later e = refl

  one_more : (y : X) (later earlier : List X) → kept_since stored emptied size (y ∷ later) earlier
      ≡ (if emptied (later ++ earlier) y then [] else keep_last (size (y ∷ (later ++ earlier)) - stored_by stored emptied size (y ∷ later) earlier) (kept_since stored emptied size later earlier))
  unfolding kept_since
  one_more y later [] = rw (keep_last-nil (size (y ∷ (later ++ [])) - stored_by stored emptied size (y ∷ later) [])) (same_nothing (emptied (later ++ []) y))
  one_more y later (x ∷ earlier) =
      let ih = rw append_assoc at (one_more y (later ++ x ∷ []) earlier) in
      let gone : stays stored emptied size later (x ∷ earlier) ≡ false → is_some (stored earlier x) ≡ true → kept_since stored emptied size (later ++ x ∷ []) earlier ≡ [] = λ s _. dead later (x ∷ []) earlier s in
      rw (ih, count y later x earlier, stays-is y later (x ∷ earlier))
      (step (stays stored emptied size later (x ∷ earlier)) (emptied (later ++ x ∷ earlier) y) (stored_by stored emptied size (y ∷ later) (x ∷ earlier)) (size (y ∷ (later ++ x ∷ earlier))) (kept_since stored emptied size (later ++ x ∷ []) earlier) (stored earlier x) gone)

  pub kept-more : (x : X) (earlier : List X) → kept stored emptied size (x ∷ earlier)
      ≡ keep_last (size (x ∷ earlier)) ((if emptied earlier x then [] else kept stored emptied size earlier) ++ if_kept true (stored earlier x))
  unfolding kept kept_since stays
  kept-more x earlier =
      rw (one_more x [] earlier, count_one x earlier) (last_step (emptied earlier x) (size (x ∷ earlier)) (kept_since stored emptied size [] earlier) (stored earlier x))

  pub kept-nil : (b : Bool) → kept stored emptied size [] ≡ []
  unfolding kept kept_since
  kept-nil b = refl
