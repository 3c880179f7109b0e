-- A call counts each request that it numbers as one that waits.
use Rattle.std.proofs.Common.{◌≡◌, ℕ, ◌+◌, Bool, true, false, List, [], ◌∷◌, length, refl, arith, length-append}
use Rattle.std.specs.Prelude.{if◌then◌else◌}
use Rattle.irc_line.specs.declared.item.Item.{Item}
use Rattle.buffer_commands.specs.declared.command.Action.{Action}
use Rattle.client_gate.specs.declared.request.Request.{Request}
use Rattle.client_gate.specs.declared.settings.Settings.{Settings}
use Rattle.client_gate.specs.Turns.{Deed, Ask, Leave, Note, Write, Move, Close, Progress, all_done, asked, done, has_room, numbered_next}
use Rattle.client_gate.specs.Serving.{all_fed, fed, item_deeds}

-- as many more requests wait as were numbered
Counts : Progress → Progress → Type 0
Counts p q = q.waiting + length p.requests ≡ p.waiting + length q.requests

same : (p : Progress) → Counts p p
unfolding Counts
same p = refl

next : (p q r : Progress) → Counts p q → Counts q r → Counts p r
unfolding Counts
next p q r h i = omega arith

one_more : (p : Progress) (a : Action) → Counts p (numbered_next a p)
unfolding Counts
one_more p a = omega (arith, length-append {A = Request})

asked_by : (nick : List ℕ) (p : Progress) (a : Action) (b : Bool) → has_room p ≡ b → Counts p (asked nick a p)
unfolding Counts
asked_by nick p a true e = rw e (one_more p a)
asked_by nick p a false e = rw e refl

counts_done : (nick : List ℕ) (p : Progress) (d : Deed) → Counts p (done nick p d)
unfolding Counts
counts_done nick p (Ask a) = asked_by nick p a (has_room p) refl
counts_done nick p Leave = omega (arith, length-append {A = Request})
counts_done nick p (Write bytes) = refl
counts_done nick p (Note word) = refl
counts_done nick p (Move phase) = refl
counts_done nick p Close = refl

counts_all_done : (nick : List ℕ) (p : Progress) (ds : List Deed) → Counts p (all_done nick p ds)
counts_all_done nick p [] = same p
counts_all_done nick p (d ∷ ds) =
    next p (done nick p d) (all_done nick (done nick p d) ds) (counts_done nick p d) (counts_all_done nick (done nick p d) ds)

either : (p q : Progress) (b : Bool) → Counts p q → Counts p (if b then p else q)
either p q true h = same p
either p q false h = h

counts_fed : (s : Settings) (p : Progress) (item : Item) → Counts p (fed s p item)
unfolding fed
counts_fed s p item =
    either p (all_done s.nick p (item_deeds s p.phase item)) p.close (counts_all_done s.nick p (item_deeds s p.phase item))

counts_all_fed : (s : Settings) (p : Progress) (items : List Item) → Counts p (all_fed s p items)
unfolding all_fed
counts_all_fed s p [] = same p
counts_all_fed s p (item ∷ items) =
    next p (fed s p item) (all_fed s (fed s p item) items) (counts_fed s p item) (counts_all_fed s (fed s p item) items)

-- from the beginning of a call on
pub all_wait : (s : Settings) (p : Progress) (items : List Item) → p.requests ≡ [] → (all_fed s p items).waiting ≡ p.waiting + length (all_fed s p items).requests
unfolding Counts
all_wait s p items none = let e = counts_all_fed s p items in let f : length p.requests ≡ 0 = rw none refl in omega (arith, e, f)
