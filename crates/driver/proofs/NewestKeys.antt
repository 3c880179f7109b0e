-- How many keys are known, and which one of a channel is tried: the newest.
use Rattle.std.proofs.Common.{◌≡◌, ◌∙◌, ◌++◌, ◌≤◌, ◌<◌, ◌+◌, ℕ, suc, Bool, true, false, not, List, [], ◌∷◌, length, drop, refl, sym, ap, subst, arith}
use Rattle.std.specs.Prelude.{◌&&◌, ◌||◌, if◌then◌else◌, nat_le}
use Rattle.std.specs.List.{list_any}
use Rattle.std.proofs.lemmas.Bool.{leb-false, leb-true}
use Rattle.std.proofs.lemmas.List.{append_assoc, length-append, length-drop}
use Rattle.std.proofs.lemmas.List.Elements.{filter-append}
use Rattle.irc_line.specs.Lines.{Parts}
use Rattle.irc_line.specs.Names.{fold_name, same_bytes, same_name}
use Rattle.irc_line.proofs.SameBytes.{same_bytes-eq, same_bytes-refl}
use Rattle.driver.specs.Keys.{IsLast, KeyOf, is_of, key_in, learnt_all, learnt_by, learnt_from, told_by, with_key, with_room, without}

-- How many are known.

fewer_by : (b : Bool) (known : KeyOf) (rest : List KeyOf) (count : ℕ) → length rest ≤ count → length (if b then known ∷ rest else rest) ≤ suc count
fewer_by true known rest count few = omega (arith, few)
fewer_by false known rest count few = omega (arith, few)

pub fewer : (channel : List ℕ) (keys : List KeyOf) → length (without channel keys) ≤ length keys
fewer channel [] = omega (arith)
fewer channel (known ∷ keys) = fewer_by (not (is_of channel known)) known (without channel keys) (length keys) (fewer channel keys)

room_by : (full : Bool) (keys : List KeyOf) → nat_le 256 (length keys) ≡ full → length keys ≤ 256 → length (if full then drop 1 keys else keys) ≤ 255
room_by true keys is few = subst (λ (count : ℕ). count ≤ 255) (sym (length-drop 1 keys)) (omega (arith, few))
room_by false keys is few = let less = leb-false 256 (length keys) is in omega (arith, less)

one_more : (keys : List KeyOf) (known : KeyOf) → length keys ≤ 255 → length (keys ++ known ∷ []) ≤ 256
one_more keys known few = subst (λ (count : ℕ). count ≤ 256) (sym (length-append keys (known ∷ []))) (omega (arith, few))

with_few : (channel key : List ℕ) (keys : List KeyOf) → length keys ≤ 256 → length (with_key channel key keys) ≤ 256
with_few channel key keys few =
    let fewer_now = fewer channel keys in
    let left : length (without channel keys) ≤ 256 = omega (arith, few, fewer_now) in
    one_more (with_room (without channel keys)) _ (room_by (nat_le 256 (length (without channel keys))) (without channel keys) refl left)

from_few : (told keys : List KeyOf) → length keys ≤ 256 → length (learnt_from told keys) ≤ 256
from_few [] keys few = few
from_few (pair ∷ more) keys few = from_few more (with_key pair.channel pair.key keys) (with_few pair.channel pair.key keys few)

pub learnt_few : (lines : List Parts) (keys : List KeyOf) → length keys ≤ 256 → length (learnt_all lines keys) ≤ 256
unfolding learnt_all
learnt_few [] keys few = few
learnt_few (line ∷ lines) keys few = learnt_few lines (learnt_by line keys) (from_few (told_by line) keys few)

pub last_true : (a b : Bool) → (a && b) ≡ true → b ≡ true
last_true true b is = is
last_true false b is = absurd (cc is)

-- The key of a channel.

abbrev same_as : List ℕ → List ℕ → Bool
same_as name folded = same_bytes (fold_name name) folded

pub same_self : (name : List ℕ) → same_name name name ≡ true
unfolding same_name
same_self name = same_bytes-refl (fold_name name)

-- a name that differs from one of two equal names differs from the other
pub other_than : (name one two : List ℕ) → same_name name one ≡ false → same_name one two ≡ true → same_name name two ≡ false
unfolding same_name
other_than name one two other same = ap (same_as name) (sym (same_bytes-eq (fold_name one) (fold_name two) same)) ∙ other

pub past_by : (b : Bool) (key rest : List ℕ) → b ≡ false → (if b then key else rest) ≡ rest
past_by true key rest is = absurd (cc is)
past_by false key rest is = refl

pub first_none : (a b : Bool) → (a || b) ≡ false → a ≡ false
first_none true b is = is
first_none false b is = refl

pub rest_none : (a b : Bool) → (a || b) ≡ false → b ≡ false
rest_none true b is = absurd (cc is)
rest_none false b is = is

-- after keys none of which is of the channel
key_past : (channel : List ℕ) (keys more : List KeyOf) → list_any (is_of channel) keys ≡ false → key_in channel (keys ++ more) ≡ key_in channel more
key_past channel [] more none = refl
key_past channel (known ∷ keys) more none =
    past_by (is_of channel known) known.key (key_in channel (keys ++ more)) (first_none (is_of channel known) (list_any (is_of channel) keys) none)
    ∙ key_past channel keys more (rest_none (is_of channel known) (list_any (is_of channel) keys) none)

gone_by : (channel : List ℕ) (of : Bool) (known : KeyOf) (rest : List KeyOf) → is_of channel known ≡ of → list_any (is_of channel) rest ≡ false
    → list_any (is_of channel) (if not of then known ∷ rest else rest) ≡ false
gone_by channel true known rest is none = none
gone_by channel false known rest is none = ap (λ (b : Bool). b || list_any (is_of channel) rest) is ∙ none

pub gone : (channel : List ℕ) (keys : List KeyOf) → list_any (is_of channel) (without channel keys) ≡ false
gone channel [] = refl
gone channel (known ∷ keys) = gone_by channel (is_of channel known) known (without channel keys) refl (gone channel keys)

room_none : (channel : List ℕ) (full : Bool) (keys : List KeyOf) → list_any (is_of channel) keys ≡ false
    → list_any (is_of channel) (if full then drop 1 keys else keys) ≡ false
room_none channel true [] none = refl
room_none channel true (known ∷ keys) none = rest_none (is_of channel known) (list_any (is_of channel) keys) none
room_none channel false keys none = none

pub newest_with : (channel key : List ℕ) (keys : List KeyOf) → key_in channel (with_key channel key keys) ≡ key
newest_with channel key keys =
    let left = without channel keys in
    key_past channel (with_room left) (record { channel = channel; key = key } ∷ []) (room_none channel (nat_le 256 (length left)) left (gone channel keys))
    ∙ ap (λ (b : Bool). if b then key else []) (same_self channel)

-- the keys after those that include a channel's last place
from_append : (before more keys : List KeyOf) → learnt_from (before ++ more) keys ≡ learnt_from more (learnt_from before keys)
from_append [] more keys = refl
from_append (pair ∷ before) more keys = from_append before more (with_key pair.channel pair.key keys)

-- a channel's key is among these, with this many after it
record Stands (pair : KeyOf) (count : ℕ) (keys : List KeyOf) : Type 0 where
  front : List KeyOf
  back : List KeyOf
  are : keys ≡ front ++ pair ∷ back
  none : list_any (is_of pair.channel) front ≡ false
  few : length back ≤ count

back_by : (one two : List ℕ) (same : Bool) → same_name two one ≡ same → same_name one two ≡ false → same_name two one ≡ false
unfolding same_name
back_by one two false is other = is
back_by one two true is other =
    let equal : fold_name one ≡ fold_name two = sym (same_bytes-eq (fold_name two) (fold_name one) is) in
    absurd (cc (sym (ap (λ (name : List ℕ). same_bytes name (fold_name two)) equal ∙ same_bytes-refl (fold_name two)) ∙ other))

same_back : (one two : List ℕ) → same_name one two ≡ false → same_name two one ≡ false
same_back one two other = back_by one two (same_name two one) refl other

kept_by : (of : Bool) (known : KeyOf) (rest : List KeyOf) → of ≡ false → (if not of then known ∷ rest else rest) ≡ known ∷ rest
kept_by true known rest is = absurd (cc is)
kept_by false known rest is = refl

none_if : (channel : List ℕ) (kept : Bool) (known : KeyOf) (rest : List KeyOf) → is_of channel known ≡ false → list_any (is_of channel) rest ≡ false
    → list_any (is_of channel) (if kept then known ∷ rest else rest) ≡ false
none_if channel true known rest first none = ap (λ (b : Bool). b || list_any (is_of channel) rest) first ∙ none
none_if channel false known rest first none = none

none_kept : (channel other : List ℕ) (keys : List KeyOf) → list_any (is_of channel) keys ≡ false → list_any (is_of channel) (without other keys) ≡ false
none_kept channel other [] none = refl
none_kept channel other (known ∷ keys) none =
    none_if channel (not (is_of other known)) known (without other keys)
    (first_none (is_of channel known) (list_any (is_of channel) keys) none)
    (none_kept channel other keys (rest_none (is_of channel known) (list_any (is_of channel) keys) none))

stands_without : (pair : KeyOf) (other : List ℕ) (count : ℕ) (keys : List KeyOf) → same_name pair.channel other ≡ false → Stands pair count keys → Stands pair count (without other keys)
stands_without pair other count keys apart s = record {
  front = without other s.front;
  back = without other s.back;
  are =
      ap (without other) s.are
      ∙ filter-append (λ (known : KeyOf). not (is_of other known)) s.front (pair ∷ s.back)
      ∙ ap (λ (rest : List KeyOf). without other s.front ++ rest) (kept_by (is_of other pair) pair (without other s.back) (same_back pair.channel other apart));
  none = none_kept pair.channel other s.front s.none;
  few = let less = fewer other s.back in let few = s.few in omega (arith, less, few);
}

stands_room : (pair : KeyOf) (count : ℕ) (full : Bool) (front back : List KeyOf) → nat_le 256 (length (front ++ pair ∷ back)) ≡ full → list_any (is_of pair.channel) front ≡ false → length back ≤ count → count < 255
    → Stands pair count (if full then drop 1 (front ++ pair ∷ back) else front ++ pair ∷ back)
stands_room pair count false front back is none few less = record { front = front; back = back; are = refl; none = none; few = few }
stands_room pair count true [] back is none few less =
    let long : 256 ≤ suc (length back) = leb-true 256 (suc (length back)) is in absurd (omega (arith, long, few, less))
stands_room pair count true (known ∷ front) back is none few less =
    record { front = front; back = back; are = refl; none = rest_none (is_of pair.channel known) (list_any (is_of pair.channel) front) none; few = few }

stands_roomy : (pair : KeyOf) (count : ℕ) (keys : List KeyOf) → count < 255 → Stands pair count keys → Stands pair count (with_room keys)
stands_roomy pair count keys less s =
    subst (λ (keys : List KeyOf). Stands pair count (with_room keys)) (sym s.are)
    (stands_room pair count (nat_le 256 (length (s.front ++ pair ∷ s.back))) s.front s.back refl s.none s.few less)

stands_more : (pair known : KeyOf) (count : ℕ) (keys : List KeyOf) → Stands pair count keys → Stands pair (suc count) (keys ++ known ∷ [])
stands_more pair known count keys s = record {
  front = s.front;
  back = s.back ++ known ∷ [];
  are = ap (λ (keys : List KeyOf). keys ++ known ∷ []) s.are ∙ append_assoc s.front (pair ∷ s.back) (known ∷ []);
  none = s.none;
  few = subst (λ (n : ℕ). n ≤ suc count) (sym (length-append s.back (known ∷ []))) (let few = s.few in omega (arith, few));
}

stands_from : (pair : KeyOf) (count : ℕ) (later keys : List KeyOf) → list_any (is_of pair.channel) later ≡ false → length later + count < 256 → Stands pair count keys → Stands pair (length later + count) (learnt_from later keys)
stands_from pair count [] keys none less s = subst (λ (n : ℕ). Stands pair n keys) (omega arith) s
stands_from pair count (known ∷ later) keys none less s =
    let apart = first_none (is_of pair.channel known) (list_any (is_of pair.channel) later) none in
    let left = stands_without pair known.channel count keys apart s in
    let roomy = stands_roomy pair count (without known.channel keys) (omega (arith, less)) left in
    let more = stands_more pair (record { channel = known.channel; key = known.key }) count (with_room (without known.channel keys)) roomy in
    subst (λ (n : ℕ). Stands pair n (learnt_from later (with_key known.channel known.key keys))) (omega arith)
    (stands_from pair (suc count) later (with_key known.channel known.key keys)
    (rest_none (is_of pair.channel known) (list_any (is_of pair.channel) later) none) (omega (arith, less)) more)

stands_first : (pair : KeyOf) (keys : List KeyOf) → Stands pair 0 (with_key pair.channel pair.key keys)
stands_first pair keys =
    let left = without pair.channel keys in
    record {
      front = with_room left;
      back = [];
      are = refl;
      none = room_none pair.channel (nat_le 256 (length left)) left (gone pair.channel keys);
      few = omega arith;
    }

key_stands : (pair : KeyOf) (count : ℕ) (keys : List KeyOf) → Stands pair count keys → key_in pair.channel keys ≡ pair.key
key_stands pair count keys s =
    ap (key_in pair.channel) s.are
    ∙ key_past pair.channel s.front (pair ∷ s.back) s.none
    ∙ ap (λ (b : Bool). if b then pair.key else key_in pair.channel s.back) (same_self pair.channel)

pub newest_of : (line : Parts) (before : List KeyOf) (pair : KeyOf) (later keys : List KeyOf) → IsLast line before pair later → key_in pair.channel (learnt_by line keys) ≡ pair.key
newest_of line before pair later keys last =
    let first = with_key pair.channel pair.key (learnt_from before keys) in
    let few = last.few in
    let stands = stands_from pair 0 later first last.last (omega (arith, few)) (stands_first pair (learnt_from before keys)) in
    ap (λ (told : List KeyOf). key_in pair.channel (learnt_from told keys)) last.told
    ∙ ap (key_in pair.channel) (from_append before (pair ∷ later) keys)
    ∙ key_stands pair (length later + 0) (learnt_from later first) stands
