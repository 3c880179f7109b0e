-- The lines that are handed out are those of the claims that take effect.
use Rattle.std.proofs.Common.{◌≡◌, ℕ, zero, suc, ◌+◌, ◌-◌, ◌≤◌, Bool, true, false, List, [], ◌∷◌, ◌++◌, map, length, take, Option, Some, None, refl, ap, ◌∙◌, sym, append_assoc, arith}
use Rattle.std.specs.Prelude.{◌==◌, nat_lt, if◌then◌else◌, slice_get}
use Rattle.std.proofs.lemmas.List.{append-nil}
use Rattle.irc_line.specs.Lines.{Parts}
use Rattle.machine_laws.specs.Classes.{Handed}
use Rattle.machine_laws.specs.Runs.{History, all_effects}
use Rattle.machine_laws.specs.Sessions.{is_that}
use Rattle.wire_bytes.specs.declared.origin.Origin.{Origin}
use Rattle.wire_bytes.specs.declared.session_id.SessionId.{SessionId}
use Rattle.upstream_claim.specs.declared.command.ClaimsCommand.{ClaimsCommand}
use Rattle.upstream_claim.specs.declared.command.ClaimsCommand.TheVariants.{Inner, Claim}
use Rattle.upstream_claim.specs.declared.effect.ClaimsEffect.{ClaimsEffect}
use Rattle.upstream_claim.specs.Hands.{hand_of, hands}
use Rattle.upstream_claim.specs.Numbered.{Numbered, room, lines_of, answer, answered, room_left, handed, is_next, is_taken, with_claim, plain, numbered, numbered_after, answers_by, answers, outgoing, claimed}
use Rattle.upstream_claim.proofs.Sound.{claims_once, none_not_some}
use Rattle.irc_line.proofs.Numbers.{eq_of, le_of}
use Rattle.irc_line.proofs.Booleans.{and_left, and_right}

-- lines that are numbered or refused are not handed out
no_hand : {E : Type 0} (r : ℕ) (e : E) (o : Option (Origin × Parts)) (b : Bool) (rest : List (ClaimsEffect E)) → nat_lt 0 r ≡ b → hands rest ≡ [] → hands (answer r e o ++ rest) ≡ []
no_hand r e None b rest t h = h
no_hand r e (Some p) true rest t h = rw t h
no_hand r e (Some p) false rest t h = rw t h

no_hands : {E : Type 0} (sends : E → Option (Origin × Parts)) (r : ℕ) (es : List E) → hands (answered sends r es) ≡ []
no_hands sends r [] = refl
no_hands sends r (e ∷ es) = no_hand r e (sends e) (nat_lt 0 r) (answered sends (room_left r (sends e)) es) refl (no_hands sends (room_left r (sends e)) es)

-- one hand, of the line that was found
one_hand : (E : Type 0) (claims : List (ℕ × SessionId)) (id : SessionId) (n : ℕ) (o : Option Parts) → (o ≡ None → ⊥) → claims ++ (n, id) ∷ [] ≡ claims ++ map (λ k. k.0) (hands {E = E} (handed id n o))
one_hand E claims id n None h = absurd (h refl)
one_hand E claims id n (Some line) h = refl

same_some : {A : Type 0} {x y : A} → Some x ≡ Some y → x ≡ y
same_some e = cc

-- the list has a line for each number up to its length
line_there : (xs : List Parts) (n : ℕ) → slice_get xs n ≡ None → length xs ≤ n
line_there [] n e = omega arith
line_there (x ∷ xs) zero e = absurd (none_not_some x (sym e))
line_there (x ∷ xs) (suc n) e = let h : length xs ≤ n = line_there xs n e in omega arith

module _ (E : Type 0) where
  claims-taken : (now : Option SessionId) (q : Numbered) (id : SessionId) (n : ℕ) (b : Bool) → is_taken now q id n ≡ b
      → (if b then with_claim q id n else q).claimed ≡ q.claimed ++ map (λ k. k.0) (hands {E = E} (if b then handed id n (slice_get q.outgoing (n - 1)) else []))
  claims-taken now q id n true e =
      let t : is_next q n ≡ true = and_right (is_that now id) _ e in
      let a : n ≡ length q.claimed + 1 = eq_of n _ (and_left _ _ t) in
      let b : n ≤ length q.outgoing = le_of n _ (and_right (n == length q.claimed + 1) _ t) in
      let there : slice_get q.outgoing (n - 1) ≡ None → ⊥ = λ f. let l : length q.outgoing ≤ n - 1 = line_there q.outgoing (n - 1) f in omega arith in
      one_hand E q.claimed id n (slice_get q.outgoing (n - 1)) there
  claims-taken now q id n false e = sym (append-nil q.claimed)

  -- the line that is handed out is the line of its number
  handed-line : (out : List Parts) (id : SessionId) (m : ℕ) (o : Option Parts) → o ≡ slice_get out (m - 1) → (i n : ℕ) (other : SessionId) (line : Parts)
      → slice_get (hands {E = E} (handed id m o)) i ≡ Some ((n, other), line) → slice_get out (n - 1) ≡ Some line
  handed-line out id m None f i n other line e = absurd (none_not_some _ e)
  handed-line out id m (Some l) f zero n other line e =
      let k : ◌≡◌ {A = Handed} ((m, id), l) ((n, other), line) = same_some e in
      let a : m ≡ n = ap (λ (p : Handed). p.0.0) k in
      let b : l ≡ line = ap (λ (p : Handed). p.1) k in
      ap (λ x. slice_get out (x - 1)) (sym a) ∙ (sym f ∙ ap (λ (x : Parts). Some x) b)
  handed-line out id m (Some l) f (suc i) n other line e = absurd (none_not_some _ e)

  lines-taken : (q : Numbered) (id : SessionId) (m : ℕ) (b : Bool) (i n : ℕ) (other : SessionId) (line : Parts)
      → slice_get (hands {E = E} (if b then handed id m (slice_get q.outgoing (m - 1)) else [])) i ≡ Some ((n, other), line) → slice_get q.outgoing (n - 1) ≡ Some line
  lines-taken q id m true i n other line e = handed-line q.outgoing id m (slice_get q.outgoing (m - 1)) refl i n other line e
  lines-taken q id m false i n other line e = absurd (none_not_some _ e)

pub take_all : (xs : List Parts) → take (length xs) xs ≡ xs
take_all [] = refl
take_all (x ∷ xs) = ap (λ ys. x ∷ ys) (take_all xs)

take_front : (xs ys : List Parts) → take (length xs) (xs ++ ys) ≡ xs
take_front [] ys = refl
take_front (x ∷ xs) ys = ap (λ zs. x ∷ zs) (take_front xs ys)

stay-taken : (q : Numbered) (id : SessionId) (m : ℕ) (b : Bool) → take (length q.outgoing) (if b then with_claim q id m else q).outgoing ≡ q.outgoing
stay-taken q id m true = take_all q.outgoing
stay-taken q id m false = take_all q.outgoing

module _ {C E : Type 0} (session : History C → Option SessionId) (sends : E → Option (Origin × Parts)) (effects : History C → ℕ → C → List E) where
  claims-after : (q : Numbered) (below : History C) (place : ℕ) (x : ClaimsCommand C)
      → (numbered_after session sends effects q below place x).claimed ≡ q.claimed ++ map (λ k. k.0) (hands (answers_by session sends effects q below place x))
  claims-after q below place (Inner c) = let h : hands (answered sends (room q) (effects below place c)) ≡ [] = no_hands sends (room q) (effects below place c) in rw h (sym (append-nil q.claimed))
  claims-after q below place (Claim id n) = claims-taken E (session below) q id n (is_taken (session below) q id n) refl

  lines-after : (q : Numbered) (below : History C) (place : ℕ) (x : ClaimsCommand C) (i n : ℕ) (id : SessionId) (line : Parts)
      → slice_get (hands (answers_by session sends effects q below place x)) i ≡ Some ((n, id), line) → slice_get q.outgoing (n - 1) ≡ Some line
  lines-after q below place (Inner c) i n id line e =
      let h : hands (answered sends (room q) (effects below place c)) ≡ [] = no_hands sends (room q) (effects below place c) in
      absurd (none_not_some _ (rw h at e))
  lines-after q below place (Claim one m) i n id line e = lines-taken E q one m (is_taken (session below) q one m) i n id line e

  stay-after : (q : Numbered) (below : History C) (place : ℕ) (x : ClaimsCommand C) → take (length q.outgoing) (numbered_after session sends effects q below place x).outgoing ≡ q.outgoing
  stay-after q below place (Inner c) = take_front q.outgoing (take (room q) (lines_of sends (effects below place c)))
  stay-after q below place (Claim id n) = stay-taken q id n (is_taken (session below) q id n)

  -- the claims that a command adds are those of the lines that it hands out
  pub hands_are_claims : (h : History (ClaimsCommand C)) (place : ℕ) (x : ClaimsCommand C) → claimed session sends effects ((place, x) ∷ h) ≡ claimed session sends effects h ++ map (λ k. k.0) (hands (answers session sends effects h place x))
  unfolding claimed answers numbered
  hands_are_claims h place x = claims-after (numbered session sends effects h) (plain h) place x

  pub hands_are_lines : (h : History (ClaimsCommand C)) (place : ℕ) (x : ClaimsCommand C) (i n : ℕ) (id : SessionId) (line : Parts)
      → slice_get (hands (answers session sends effects h place x)) i ≡ Some ((n, id), line) → slice_get (outgoing session sends effects h) (n - 1) ≡ Some line
  unfolding outgoing answers
  hands_are_lines h place x i n id line e = lines-after (numbered session sends effects h) (plain h) place x i n id line e

  pub lines_stay : (h : History (ClaimsCommand C)) (place : ℕ) (x : ClaimsCommand C) → take (length (outgoing session sends effects h)) (outgoing session sends effects ((place, x) ∷ h)) ≡ outgoing session sends effects h
  unfolding outgoing numbered
  lines_stay h place x = stay-after (numbered session sends effects h) (plain h) place x

-- ---- over a whole list

pub hands_append : {E : Type 0} (xs ys : List (ClaimsEffect E)) → hands (xs ++ ys) ≡ hands xs ++ hands ys
hands_append [] ys = refl
hands_append (x ∷ xs) ys = ap (λ (hs : List Handed). hand_of x ++ hs) (hands_append xs ys) ∙ sym (append_assoc (hand_of x) (hands xs) (hands ys))

pub map_append : (xs ys : List Handed) → map (λ k. k.0) (xs ++ ys) ≡ map (λ k. k.0) xs ++ map (λ k. k.0) ys
map_append [] ys = refl
map_append (x ∷ xs) ys = ap (λ zs. x.0 ∷ zs) (map_append xs ys)

-- the claim of the line that was handed out
pub claim_at : (hs : List Handed) (i : ℕ) (claim : ℕ × SessionId) (line : Parts) → slice_get hs i ≡ Some (claim, line) → slice_get (map (λ k. k.0) hs) i ≡ Some claim
claim_at [] i claim line e = absurd (none_not_some _ e)
claim_at (h ∷ hs) zero claim line e =
    let same : h ≡ (claim, line) = same_some e in
    ap (λ (x : Handed). Some x.0) same
claim_at (h ∷ hs) (suc i) claim line e = claim_at hs i claim line e

module _ {C E : Type 0} (session : History C → Option SessionId) (sends : E → Option (Origin × Parts)) (effects : History C → ℕ → C → List E) where
  -- the lines that are handed out are those of the claims that took effect
  pub all_hands_are_claims : (h : History (ClaimsCommand C)) → map (λ k. k.0) (hands (all_effects (answers session sends effects) h)) ≡ claimed session sends effects h
  unfolding claimed numbered
  all_hands_are_claims [] = refl
  all_hands_are_claims (x ∷ h) =
      ap (map (λ k. k.0)) (hands_append (all_effects (answers session sends effects) h) (answers session sends effects h x.0 x.1))
      ∙ (map_append (hands (all_effects (answers session sends effects) h)) (hands (answers session sends effects h x.0 x.1))
      ∙ (ap (λ cs. cs ++ map (λ k. k.0) (hands (answers session sends effects h x.0 x.1))) (all_hands_are_claims h) ∙ sym (hands_are_claims session sends effects h x.0 x.1)))

  -- no number is handed out twice
  pub hands_differ : (h : History (ClaimsCommand C)) (i j n : ℕ) (one other : SessionId) (line another : Parts) → slice_get (hands (all_effects (answers session sends effects) h)) i ≡ Some ((n, one), line)
      → slice_get (hands (all_effects (answers session sends effects) h)) j ≡ Some ((n, other), another) → i ≡ j
  hands_differ h i j n one other line another e f =
      let a : slice_get (claimed session sends effects h) i ≡ Some (n, one) = ap (λ (cs : List (ℕ × SessionId)). slice_get cs i) (sym (all_hands_are_claims h)) ∙ claim_at _ i (n, one) line e in
      let b : slice_get (claimed session sends effects h) j ≡ Some (n, other) = ap (λ (cs : List (ℕ × SessionId)). slice_get cs j) (sym (all_hands_are_claims h)) ∙ claim_at _ j (n, other) another f in
      claims_once session sends effects h i j n one other a b
