-- What a content gives; it is never an out-of-memory error.
use Rattle.std.proofs.Common.{◌≡◌, ℕ, Bool, true, false, List, [], ◌∷◌, ◌++◌, length, refl, ap, arith, ◌≤◌, ◌<◌}
use Rattle.std.specs.Prelude.{Option, if◌then◌else◌, Some, None, Result, Ok, Err, nat_lt, position}
use Rattle.std.proofs.lemmas.Bool.{lt-ltb, le-ltb}
use Rattle.irc_line.specs.Reading.{read, judged, judged_parts, judged_bytes}
use Rattle.irc_line.proofs.Words.{is_bad}
use Rattle.irc_line.specs.Lines.{Parts, spelling}
use Rattle.irc_line.specs.declared.fault.LineFault.{LineFault}
use Rattle.irc_line.specs.declared.fault.LineFault.TheVariants.{TooLong, TooManyParameters, Memory}
use Rattle.irc_line.specs.declared.item.Item.TheVariants.{Refused}
use Rattle.irc_line.specs.Splitting.{without_return, content_item, content_items, ended_items, judged_item}
use Rattle.irc_line.proofs.Splitting.{not_thirteen}

pub with_return : (content : List ℕ) → without_return (content ++ 13 ∷ []) ≡ content
with_return [] = refl
with_return (b ∷ []) = refl
with_return (b ∷ c ∷ s) = ap (λ t. b ∷ t) (with_return (c ∷ s))

pub no_return : (content : List ℕ) (b : ℕ) → (b ≡ 13 → ⊥) → without_return (content ++ b ∷ []) ≡ content ++ b ∷ []
no_return [] b h = rw (not_thirteen b h) refl
no_return (x ∷ []) b h = ap (λ t. x ∷ t) (no_return [] b h)
no_return (x ∷ c ∷ s) b h = ap (λ t. x ∷ t) (no_return (c ∷ s) b h)

pub empty_none : (ended : List ℕ) → without_return ended ≡ [] → ended_items ended ≡ []
unfolding ended_items
empty_none ended h = ap content_items h

content_one : (content : List ℕ) → 0 < length content → content_items content ≡ content_item content ∷ []
content_one [] h = absurd (omega arith)
content_one (b ∷ s) h = refl

pub ended_one_item : (ended : List ℕ) → 0 < length (without_return ended) → ended_items ended ≡ content_item (without_return ended) ∷ []
unfolding ended_items
ended_one_item ended h = content_one (without_return ended) h

pub content_long : (content : List ℕ) → 510 < length content → content_item content ≡ Refused TooLong
unfolding content_item
content_long content h = rw (lt-ltb 510 (length content) h) refl

pub content_judged : (content : List ℕ) (r : Result Parts LineFault) → length content ≤ 510 → judged content ≡ r → content_item content ≡ judged_item r
unfolding content_item
content_judged content r l h = rw (le-ltb 510 (length content) l) (ap judged_item h)

limits_by : (p : Parts) (b c : Bool) → (let r : Result Parts LineFault = if b then Err TooManyParameters else if c then Err TooLong else Ok p in r) ≡ Err Memory → ⊥
limits_by p true c h = cc
limits_by p false true h = cc
limits_by p false false h = cc

parts_by : (o : Option Parts) → judged_parts o ≡ Err Memory → ⊥
parts_by None h = cc
parts_by (Some p) h = limits_by p (nat_lt 15 (length p.parameters)) (nat_lt 511 (length (spelling p))) h

bytes_by : (content : List ℕ) (o : Option ℕ) → judged_bytes o content ≡ Err Memory → ⊥
bytes_by content None h = parts_by (read content) h
bytes_by content (Some place) h = cc

judged_by : (content : List ℕ) (o : Option ℕ) (b : Bool) → (if b then Err TooLong else judged_bytes o content) ≡ Err Memory → ⊥
judged_by content o true h = cc
judged_by content o false h = bytes_by content o h

item_by : (r : Result Parts LineFault) → (r ≡ Err Memory → ⊥) → judged_item r ≡ Refused Memory → ⊥
item_by (Ok p) n h = cc
item_by (Err e) n h = n (let same : e ≡ Memory = cc in ap Err same)

long_by : (content : List ℕ) (b : Bool) → (judged content ≡ Err Memory → ⊥) → (if b then Refused TooLong else judged_item (judged content)) ≡ Refused Memory → ⊥
long_by content true n h = cc
long_by content false n h = item_by (judged content) n h

-- a content is never judged to be out of memory
pub not_memory : (content : List ℕ) → judged content ≡ Err Memory → ⊥
unfolding judged
not_memory content h = judged_by content (position is_bad content) (nat_lt 511 (length content)) h

pub item_not_memory : (content : List ℕ) → content_item content ≡ Refused Memory → ⊥
unfolding content_item
item_not_memory content h = long_by content (nat_lt 510 (length content)) (not_memory content) h
