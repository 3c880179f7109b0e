-- What line feeds end, however the bytes are cut; the bytes that are held suffice in place of all bytes since the last
-- LF.
use Rattle.std.proofs.Common.{suc, ◌≡◌, ℕ, Bool, true, false, not, inl, inr, cond, List, [], ◌∷◌, ◌++◌, length, take, drop, get_or, refl, ap, sym, subst, ◌∙◌, arith, ◌≤◌, ◌<◌, ◌+◌, ◌-◌, append_assoc}
use Rattle.std.specs.Prelude.{if◌then◌else◌, ◌==◌, Some, None, nat_lt, flat_map, position}
use Rattle.std.specs.List.{list_all, position_or_len}
use Rattle.std.proofs.lemmas.Bool.Decides.{nat_tests}
use Rattle.std.proofs.lemmas.Bool.{cases_lt, lt-ltb}
use Rattle.std.proofs.Math.Seq.{take-append-add}
use Rattle.std.proofs.lemmas.List.{append-nil, take_all, take-take, length-take-le, take-append-le}
use Rattle.std.proofs.lemmas.List.Sums.{split_at_first, passes_at_first}
use Rattle.std.proofs.lemmas.List.Concat.{flat_map-append}
use Rattle.std.proofs.lemmas.List.Folds.{list_all-append}
use Rattle.irc_line.specs.declared.fault.LineFault.TheVariants.{TooLong}
use Rattle.irc_line.specs.declared.item.Item.{Item}
use Rattle.irc_line.specs.declared.item.Item.TheVariants.{Refused}
use Rattle.irc_line.specs.Splitting.{is_line_feed, HasNoLineFeed, since_byte, ended_at, ended_from, unended_from, without_return, content_item, content_items, ended_items, items_from, items, unended, Stands}
use Rattle.irc_line.proofs.Booleans.{and_left, and_right, and_both, not_true, not_from}

-- What lies between the LFs

pub ended_none : (since s : List ℕ) → HasNoLineFeed s → ended_from since s ≡ []
ended_none since [] h = refl
ended_none since (b ∷ s) h = rw (not_true (is_line_feed b) (and_left (not (is_line_feed b)) _ h)) (ended_none (since ++ b ∷ []) s (and_right (not (is_line_feed b)) _ h))

pub unended_none : (since s : List ℕ) → HasNoLineFeed s → unended_from since s ≡ since ++ s
unended_none since [] h = sym (append-nil since)
unended_none since (b ∷ s) h =
    rw (not_true (is_line_feed b) (and_left (not (is_line_feed b)) _ h)) (unended_none (since ++ b ∷ []) s (and_right (not (is_line_feed b)) _ h) ∙ append_assoc since (b ∷ []) s)

pub ended_one : (since content rest : List ℕ) → HasNoLineFeed content → ended_from since (content ++ 10 ∷ rest) ≡ (since ++ content) ∷ ended_from [] rest
ended_one since [] rest h = ap (λ t. t ∷ ended_from [] rest) (sym (append-nil since))
ended_one since (b ∷ s) rest h =
    rw (not_true (is_line_feed b) (and_left (not (is_line_feed b)) _ h)) (ended_one (since ++ b ∷ []) s rest (and_right (not (is_line_feed b)) _ h) ∙ ap (λ t. t ∷ ended_from [] rest) (append_assoc since (b ∷ []) s))

pub unended_one : (since content rest : List ℕ) → HasNoLineFeed content → unended_from since (content ++ 10 ∷ rest) ≡ unended_from [] rest
unended_one since [] rest h = refl
unended_one since (b ∷ s) rest h =
    rw (unended_from, not_true (is_line_feed b) (and_left (not (is_line_feed b)) _ h)) (unended_one (since ++ b ∷ []) s rest (and_right (not (is_line_feed b)) _ h))

-- Bytes that come in two pieces

pub ended_append : (since s t : List ℕ) → ended_from since (s ++ t) ≡ ended_from since s ++ ended_from (unended_from since s) t
ended_append since [] t = refl
ended_append since (b ∷ s) t =
    ap (λ u. ended_at since b ++ u) (ended_append (since_byte since b) s t) ∙ sym (append_assoc (ended_at since b) (ended_from (since_byte since b) s) _)

pub unended_append : (since s t : List ℕ) → unended_from since (s ++ t) ≡ unended_from (unended_from since s) t
unended_append since [] t = refl
unended_append since (b ∷ s) t = unended_append (since_byte since b) s t

pub items_append : (since s t : List ℕ) → items_from since (s ++ t) ≡ items_from since s ++ items_from (unended_from since s) t
unfolding items_from
items_append since s t =
    ap (λ u. flat_map ended_items u) (ended_append since s t) ∙ flat_map-append ended_items (ended_from since s) (ended_from (unended_from since s) t)

-- The first LF

one_more : (n : ℕ) → 1 + n ≡ suc n
one_more n = omega arith

front_passes_by : (b : ℕ) (s : List ℕ) (n : ℕ) (t : Bool) → is_line_feed b ≡ t → HasNoLineFeed (take n s) → HasNoLineFeed (take (cond (not t) (1 + n) 0) (b ∷ s))
front_passes_by b s n true e h = refl
front_passes_by b s n false e h = rw (one_more n, e) h

front_passes : (s : List ℕ) → HasNoLineFeed (take (position_or_len is_line_feed s) s)
front_passes [] = refl
front_passes (b ∷ s) = front_passes_by b s (position_or_len is_line_feed s) (is_line_feed b) refl (front_passes s)

-- what holds of the place of the first LF
pub record IsCut (s : List ℕ) (n : ℕ) : Type 0 where
  pub within : n < length s
  pub front : HasNoLineFeed (take n s)
  pub whole : s ≡ take n s ++ 10 ∷ drop (n + 1) s

some_by : (s : List ℕ) (m n : ℕ) (t : Bool) → nat_lt m (length s) ≡ t → cond t (Some m) None ≡ Some n → (m ≡ n) × (m < length s)
some_by s m n true e h = (cc, grind (arith, nat_tests))
some_by s m n false e h = cc

is_ten : (b : ℕ) → is_line_feed b ≡ true → b ≡ 10
is_ten b e = grind (arith, nat_tests)

pub at_line_feed : (s : List ℕ) (n : ℕ) → position is_line_feed s ≡ Some n → IsCut s n
at_line_feed s n h =
    let m = position_or_len is_line_feed s in
    let both : (m ≡ n) × (m < length s) = some_by s m n (nat_lt m (length s)) refl h in
    let ten : get_or s m 0 ≡ 10 = is_ten (get_or s m 0) (passes_at_first is_line_feed s 0 both.1) in
    let cut : IsCut s m =
    record {
      within = both.1;
      front = front_passes s;
      whole = split_at_first is_line_feed s 0 both.1 ∙ ap (λ b. take m s ++ b ∷ drop (m + 1) s) ten;
    } in
    subst (λ k. IsCut s k) both.0 cut

none_by : (s : List ℕ) (m : ℕ) (t : Bool) → nat_lt m (length s) ≡ t → cond t (Some m) None ≡ None → length s ≤ m
none_by s m true e h = cc
none_by s m false e h = grind (arith, nat_tests)

pub no_line_feed : (s : List ℕ) → position is_line_feed s ≡ None → HasNoLineFeed s
no_line_feed s h =
    let m = position_or_len is_line_feed s in
    subst (λ t. HasNoLineFeed t) (take_all m s (none_by s m (nat_lt m (length s)) refl h)) (front_passes s)

-- What is held suffices

pub return_len : (s : List ℕ) → length s ≤ length (without_return s) + 1
return_len [] = omega arith
return_len (b ∷ []) = omega arith
return_len (b ∷ c ∷ s) = let ih = return_len (c ∷ s) in omega (arith, ih)

long_items : (s : List ℕ) → 510 < length s → content_items s ≡ Refused TooLong ∷ []
unfolding content_item
long_items [] h = absurd (omega arith)
long_items (b ∷ s) h = rw (lt-ltb 510 (length (b ∷ s)) h) refl

long : (s : List ℕ) → 511 < length s → ended_items s ≡ Refused TooLong ∷ []
unfolding ended_items
long s h = long_items (without_return s) (let l = return_len s in omega (arith, l))

pub held_items : (s : List ℕ) → ended_items (take 512 s) ≡ ended_items s
held_items s =
    elim (cases_lt 511 (length s)) [
      | inl h ↦ long (take 512 s) (let l : length (take 512 s) ≡ 512 = length-take-le 512 s (omega arith) in omega (arith, l)) ∙ sym (long s h)
      | inr h ↦ ap ended_items (take_all 512 s (omega arith))
    ]

pub held_append : (s t : List ℕ) → take 512 (take 512 s ++ t) ≡ take 512 (s ++ t)
held_append s t =
    elim (cases_lt 512 (length s)) [
      | inl h ↦
          (let l : length (take 512 s) ≡ 512 = length-take-le 512 s (omega arith) in
          take-append-le 512 (take 512 s) t (omega (arith, l)) ∙ take-take 512 512 s (omega arith) ∙ sym (take-append-le 512 s t (omega arith)))
      | inr h ↦ ap (λ u. take 512 (u ++ t)) (take_all 512 s h)
    ]

-- The CR at the end

pub return_dropped : (s : List ℕ) → 0 < length s → get_or s (length s - 1) 0 ≡ 13 → without_return s ≡ take (length s - 1) s
return_dropped [] h e = absurd (omega arith)
return_dropped (b ∷ []) h e = rw e refl
return_dropped (b ∷ c ∷ s) h e =
    let i : length (b ∷ c ∷ s) - 1 ≡ suc (length s) = omega arith in
    let j : length (c ∷ s) - 1 ≡ length s = omega arith in
    let one : get_or (b ∷ c ∷ s) (suc (length s)) 0 ≡ 13 = subst (λ n. get_or (b ∷ c ∷ s) n 0 ≡ 13) i e in
    let ih : without_return (c ∷ s) ≡ take (length (c ∷ s) - 1) (c ∷ s) = return_dropped (c ∷ s) (omega arith) (subst (λ n. get_or (c ∷ s) n 0 ≡ 13) (sym j) one) in
    ap (λ t. b ∷ t) (ih ∙ ap (λ n. take n (c ∷ s)) j) ∙ ap (λ n. take n (b ∷ c ∷ s)) (sym i)

pub not_thirteen : (b : ℕ) → (b ≡ 13 → ⊥) → (b == 13) ≡ false
not_thirteen b h = grind (arith, nat_tests)

pub return_absent : (s : List ℕ) → (0 < length s → get_or s (length s - 1) 0 ≡ 13 → ⊥) → without_return s ≡ s
return_absent [] h = refl
return_absent (b ∷ []) h = rw (not_thirteen b (h (omega arith))) refl
return_absent (b ∷ c ∷ s) h =
    let i : length (b ∷ c ∷ s) - 1 ≡ suc (length s) = omega arith in
    let j : length (c ∷ s) - 1 ≡ length s = omega arith in
    ap (λ t. b ∷ t) (return_absent (c ∷ s) (λ k e. h (omega arith) (subst (λ n. get_or (b ∷ c ∷ s) n 0 ≡ 13) (sym i) (subst (λ n. get_or (c ∷ s) n 0 ≡ 13) j e))))

-- Holding

pub held_more : (s t : List ℕ) → length s ≤ 512 → take 512 (s ++ t) ≡ s ++ take (512 - length s) t
held_more s t h =
    let i : length s + (512 - length s) ≡ 512 = omega arith in
    ap (λ n. take n (s ++ t)) (sym i) ∙ take-append-add s t (512 - length s)

-- What the code asks

pub items_none : (since s : List ℕ) → HasNoLineFeed s → items_from since s ≡ []
unfolding items_from
items_none since s h = ap (λ u. flat_map ended_items u) (ended_none since s h)

pub items_one : (since content rest : List ℕ) → HasNoLineFeed content → items_from since (content ++ 10 ∷ rest) ≡ ended_items (since ++ content) ++ items_from [] rest
unfolding items_from
items_one since content rest h = ap (λ u. flat_map ended_items u) (ended_one since content rest h)

pub stands_none : (held fed bytes next : List ℕ) → Stands held fed → HasNoLineFeed bytes → next ≡ take 512 (held ++ bytes) → Stands next (fed ++ bytes)
unfolding Stands
stands_none held fed bytes next h n e =
    let u : unended (fed ++ bytes) ≡ unended fed ++ bytes = unended_append [] fed bytes ∙ unended_none (unended fed) bytes n in
    e ∙ ap (λ t. take 512 (t ++ bytes)) h ∙ held_append (unended fed) bytes ∙ ap (λ t. take 512 t) (sym u)

pub items_stay : (fed bytes : List ℕ) → HasNoLineFeed bytes → items fed ++ [] ≡ items (fed ++ bytes)
items_stay fed bytes n = ap (λ t. items fed ++ t) (sym (items_none (unended fed) bytes n)) ∙ sym (items_append [] fed bytes)

pub stands_some : (fed bytes ended rest next : List ℕ) → HasNoLineFeed ended → bytes ≡ ended ++ 10 ∷ rest → next ≡ take 512 (unended_from [] rest) → Stands next (fed ++ bytes)
unfolding Stands
stands_some fed bytes ended rest next n b e =
    let u : unended (fed ++ bytes) ≡ unended_from [] rest =
    unended_append [] fed bytes ∙ ap (λ t. unended_from (unended fed) t) b ∙ unended_one (unended fed) ended rest n in
    e ∙ ap (λ t. take 512 t) (sym u)

pub items_come : (held fed bytes ended rest : List ℕ) (got : List Item) → Stands held fed → HasNoLineFeed ended → bytes ≡ ended ++ 10 ∷ rest
    → got ≡ ended_items (take 512 (held ++ ended)) ++ items_from [] rest → items fed ++ got ≡ items (fed ++ bytes)
unfolding Stands
items_come held fed bytes ended rest got h n b e =
    let first : ended_items (take 512 (held ++ ended)) ≡ ended_items (unended fed ++ ended) =
    ap (λ t. ended_items (take 512 (t ++ ended))) h ∙ ap ended_items (held_append (unended fed) ended) ∙ held_items (unended fed ++ ended) in
    let all : items_from (unended fed) bytes ≡ ended_items (unended fed ++ ended) ++ items_from [] rest =
    ap (λ t. items_from (unended fed) t) b ∙ items_one (unended fed) ended rest n in
    ap (λ t. items fed ++ t) (e ∙ ap (λ t. t ++ items_from [] rest) first ∙ sym all) ∙ sym (items_append [] fed bytes)

-- The laws

unended_clean_by : (since s : List ℕ) (b : ℕ) (t : Bool) → is_line_feed b ≡ t → HasNoLineFeed since → HasNoLineFeed (if t then [] else since ++ b ∷ [])
unended_clean_by since s b true e h = refl
unended_clean_by since s b false e h =
    list_all-append (λ x. not (is_line_feed x)) since (b ∷ []) ∙ and_both (list_all (λ x. not (is_line_feed x)) since) _ h (and_both (not (is_line_feed b)) true (not_from (is_line_feed b) e) refl)

pub unended_clean : (since s : List ℕ) → HasNoLineFeed since → HasNoLineFeed (unended_from since s)
unended_clean since [] h = h
unended_clean since (b ∷ s) h = unended_clean (since_byte since b) s (unended_clean_by since s b (is_line_feed b) refl h)

pub items_cut : (fed more : List ℕ) → items (fed ++ more) ≡ items fed ++ items (unended fed ++ more)
items_cut fed more =
    let clean : HasNoLineFeed (unended fed) = unended_clean [] fed refl in
    let later : items (unended fed ++ more) ≡ items_from (unended fed) more =
    items_append [] (unended fed) more ∙ ap (λ t. t ++ items_from (unended_from [] (unended fed)) more) (items_none [] (unended fed) clean) ∙ ap (λ t. items_from t more) (unended_none [] (unended fed) clean) in
    items_append [] fed more ∙ ap (λ t. items fed ++ t) (sym later)

pub unended_cut : (fed more : List ℕ) → unended (fed ++ more) ≡ unended (unended fed ++ more)
unended_cut fed more =
    let clean : HasNoLineFeed (unended fed) = unended_clean [] fed refl in
    unended_append [] fed more ∙ ap (λ t. unended_from t more) (sym (unended_none [] (unended fed) clean)) ∙ sym (unended_append [] (unended fed) more)
