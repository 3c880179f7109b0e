-- How a stream of bytes is split into lines (RFC 2812, 2.3): an LF ends a content, and one CR before it is dropped.
use Rattle.std.specs.Prelude.{◌≡◌, ◌<◌, ℕ, Bool, true, not, if◌then◌else◌, ◌==◌, nat_lt, List, [], ◌∷◌, ◌++◌, length, take, flat_map, Result, Ok, Err}
use Rattle.std.specs.List.{list_all}
use Rattle.irc_line.specs.Lines.{Parts}
use Rattle.irc_line.specs.Reading.{judged}
use Rattle.irc_line.specs.declared.fault.LineFault.{LineFault}
use Rattle.irc_line.specs.declared.fault.LineFault.TheVariants.{TooLong}
use Rattle.irc_line.specs.declared.item.Item.{Item}
use Rattle.irc_line.specs.declared.item.Item.TheVariants.{Got, Refused}
use Rattle.irc_line.specs.Limits.{content_limit, held_limit}

-- What lies between the LFs

-- the byte 10
abbrev pub is_line_feed : ℕ → Bool
is_line_feed b = b == 10

-- no LF among them
abbrev pub HasNoLineFeed : List ℕ → Type 0
HasNoLineFeed s = list_all (λ b. not (is_line_feed b)) s ≡ true

-- the bytes since the last LF, where `since` are those before this byte
abbrev pub since_byte : List ℕ → ℕ → List ℕ
since_byte since b = if is_line_feed b then [] else since ++ b ∷ []

-- the content that this byte ends, if it ends one
abbrev pub ended_at : List ℕ → ℕ → List (List ℕ)
ended_at since b = if is_line_feed b then since ∷ [] else []

-- what lies between each LF of the bytes and the LF before it, where `since` came after the last LF before them
abbrev pub ended_from : List ℕ → List ℕ → List (List ℕ)
ended_from since [] = []
ended_from since (b ∷ s) = ended_at since b ++ ended_from (since_byte since b) s

-- the bytes that then follow the last LF of all
abbrev pub unended_from : List ℕ → List ℕ → List ℕ
unended_from since [] = since
unended_from since (b ∷ s) = unended_from (since_byte since b) s

-- The items for them

-- one CR at the end is dropped
abbrev pub without_return : List ℕ → List ℕ
without_return [] = []
without_return (b ∷ []) = if b == 13 then [] else b ∷ []
without_return (b ∷ c ∷ s) = b ∷ without_return (c ∷ s)

-- a line, or why there is none
abbrev pub judged_item : Result Parts LineFault → Item
judged_item (Ok p) = Got p
judged_item (Err e) = Refused e

-- a content's line or first fault, where more than 510 bytes are too long
unfoldable pub content_item : List ℕ → Item
content_item content = if nat_lt content_limit (length content) then Refused TooLong else judged_item (judged content)

-- an empty content is skipped
abbrev pub content_items : List ℕ → List Item
content_items [] = []
content_items (b ∷ content) = content_item (b ∷ content) ∷ []

-- the item, if any, of what lies between two LFs
unfoldable pub ended_items : List ℕ → List Item
ended_items ended = content_items (without_return ended)

-- the items of the bytes, where `since` came after the last LF before them
unfoldable pub items_from : List ℕ → List ℕ → List Item
items_from since bytes = flat_map ended_items (ended_from since bytes)

-- the items of all bytes
abbrev pub items : List ℕ → List Item
items bytes = items_from [] bytes

-- what follows the last LF of all bytes
abbrev pub unended : List ℕ → List ℕ
unended bytes = unended_from [] bytes

-- what a splitter holds after it was fed these bytes: what follows the last LF, up to its 512th byte (510 of a content,
-- a CR, and one more)
unfoldable pub Stands : List ℕ → List ℕ → Type 0
Stands held fed = held ≡ take held_limit (unended fed)

-- these bytes take a splitter that held the first to holding the last, whatever it was fed before
abbrev pub StandsBehind : List ℕ → List ℕ → List ℕ → Type 0
StandsBehind held bytes after = (fed : List ℕ) → Stands held fed → Stands after (fed ++ bytes)

-- these are the items that the bytes bring, whatever was fed before
abbrev pub BringsItems : List ℕ → List ℕ → List Item → Type 0
BringsItems held bytes got = (fed : List ℕ) → Stands held fed → items fed ++ got ≡ items (fed ++ bytes)

-- some bytes with no LF, of which some are still to be held
abbrev pub HoldsMore : List ℕ → List ℕ → Type 0
HoldsMore held bytes = HasNoLineFeed bytes → (length held < held_limit) × (0 < length bytes)

-- the items of an LF, of what is held and comes before it, and of what follows
abbrev pub items_at : List ℕ → List ℕ → List ℕ → List Item
items_at held ended rest = ended_items (take held_limit (held ++ ended)) ++ items_from [] rest

-- these bytes come before the first LF and after it
abbrev pub IsCutAtLineFeed : List ℕ → List ℕ → List ℕ → Type 0
IsCutAtLineFeed bytes ended rest = HasNoLineFeed ended × (bytes ≡ ended ++ 10 ∷ rest)

-- bytes before and after the first LF, joined by it, give the items of both
abbrev pub ItemsAreOfBoth : List ℕ → List ℕ → Type 0
ItemsAreOfBoth ended rest = items (ended ++ 10 ∷ rest) ≡ ended_items ended ++ items rest

-- however bytes are cut, their items are those of the first, then those of the second after what the first leave
-- unended
abbrev pub IsCutAnywhere : List ℕ → List ℕ → Type 0
IsCutAnywhere fed more = (items (fed ++ more) ≡ items fed ++ items (unended fed ++ more)) × (unended (fed ++ more) ≡ unended (unended fed ++ more))
