-- Bytes that are fed in two pieces.
use Rattle.std.proofs.Common.{◌≡◌, ℕ, ◌+◌, Bool, true, false, ◌||◌, List, [], ◌∷◌, ◌++◌, length, drop, refl, ap, sym, ◌∙◌, append_assoc, length-append}
use Rattle.std.specs.Prelude.{if◌then◌else◌}
use Rattle.std.proofs.lemmas.List.{append-nil}
use Rattle.std.proofs.Math.Seq.{drop-append_seam}
use Rattle.irc_line.specs.declared.item.Item.{Item}
use Rattle.irc_line.specs.Splitting.{items, items_from, unended}
use Rattle.irc_line.proofs.Splitting.{items_append, unended_append}
use Rattle.buffer_commands.specs.declared.command.Action.{Action}
use Rattle.buffer_commands.specs.declared.command.Action.TheVariants as action
use Rattle.client_gate.specs.declared.request.Request.{Request}
use Rattle.client_gate.specs.declared.settings.Settings.{Settings}
use Rattle.client_gate.specs.declared.status_word.StatusWord.{StatusWord}
use Rattle.client_gate.specs.Turns.{Deed, Ask, Leave, Note, Write, Move, Close, Progress, all_done, asked, done, has_room, noted, numbered_next, request, written}
use Rattle.client_gate.specs.Serving.{all_fed, fed, item_deeds}
use Rattle.client_gate.specs.Gates.{Gate, Given, after_items, begun, given, given_items, kept, nothing}
use Rattle.client_gate.specs.Calls.{Call, Feed, all_bytes, fed_answer, gate, items_brought}
use Rattle.client_gate.specs.Cutting.{AnswersAlike, LeadsAlike, joined}
use Rattle.client_gate.proofs.Counting.{all_wait}
use Rattle.client_gate.proofs.Standing.{closed_says, closed_stays, first_of_two, second_of_two}

-- What was answered before stays in front

-- this call, with the answers of an earlier one put before its own
abbrev behind : Progress → Progress → Progress
behind f p = record p { requests = f.requests ++ p.requests; reply = f.reply ++ p.reply; words = f.words ++ p.words }

behind_numbered : (f : Progress) (a : Action) (p : Progress) → numbered_next a (behind f p) ≡ behind f (numbered_next a p)
behind_numbered f a p =
    ap (λ (x : List Request). record p { waiting = p.waiting + 1; numbered = p.numbered + 1; requests = x; reply = f.reply ++ p.reply; words = f.words ++ p.words }) (append_assoc f.requests p.requests (request (p.numbered + 1) a ∷ []))

behind_written : (f : Progress) (bytes : List ℕ) (p : Progress) → written bytes (behind f p) ≡ behind f (written bytes p)
behind_written f bytes p =
    ap (λ (x : List ℕ). record p { requests = f.requests ++ p.requests; reply = x; words = f.words ++ p.words }) (append_assoc f.reply p.reply bytes)

behind_noted : (f : Progress) (word : StatusWord) (p : Progress) → noted word (behind f p) ≡ behind f (noted word p)
behind_noted f word p =
    ap (λ (x : List StatusWord). record p { requests = f.requests ++ p.requests; reply = f.reply ++ p.reply; words = x }) (append_assoc f.words p.words (word ∷ []))

behind_asked : (f : Progress) (nick : List ℕ) (a : Action) (p : Progress) (b : Bool) → has_room p ≡ b → asked nick a (behind f p) ≡ behind f (asked nick a p)
behind_asked f nick a p true e = rw e (behind_numbered f a p)
behind_asked f nick a p false e = rw e (behind_written f _ p)

behind_done : (f : Progress) (nick : List ℕ) (p : Progress) (d : Deed) → done nick (behind f p) d ≡ behind f (done nick p d)
behind_done f nick p (Ask a) = behind_asked f nick a p (has_room p) refl
behind_done f nick p Leave =
    ap (λ (q : Progress). record q { phase = (done nick p Leave).phase }) (behind_numbered f action.Leave p)
behind_done f nick p (Write bytes) = behind_written f bytes p
behind_done f nick p (Note word) = behind_noted f word p
behind_done f nick p (Move phase) = refl
behind_done f nick p Close = refl

behind_all_done : (f : Progress) (nick : List ℕ) (p : Progress) (ds : List Deed) → all_done nick (behind f p) ds ≡ behind f (all_done nick p ds)
behind_all_done f nick p [] = refl
behind_all_done f nick p (d ∷ ds) =
    ap (λ (q : Progress). all_done nick q ds) (behind_done f nick p d) ∙ behind_all_done f nick (done nick p d) ds

behind_either : (f p q u : Progress) (b : Bool) → u ≡ behind f q → (if b then behind f p else u) ≡ behind f (if b then p else q)
behind_either f p q u true e = refl
behind_either f p q u false e = e

behind_fed : (f : Progress) (s : Settings) (p : Progress) (item : Item) → fed s (behind f p) item ≡ behind f (fed s p item)
unfolding fed
behind_fed f s p item =
    behind_either f p (all_done s.nick p (item_deeds s p.phase item)) _ p.close (behind_all_done f s.nick p (item_deeds s p.phase item))

behind_all_fed : (f : Progress) (s : Settings) (p : Progress) (items : List Item) → all_fed s (behind f p) items ≡ behind f (all_fed s p items)
unfolding all_fed
behind_all_fed f s p [] = refl
behind_all_fed f s p (item ∷ items) =
    ap (λ (q : Progress). all_fed s q items) (behind_fed f s p item) ∙ behind_all_fed f s (fed s p item) items

all_fed_append : (s : Settings) (p : Progress) (xs ys : List Item) → all_fed s p (xs ++ ys) ≡ all_fed s (all_fed s p xs) ys
unfolding all_fed
all_fed_append s p [] ys = refl
all_fed_append s p (x ∷ xs) ys = all_fed_append s (fed s p x) xs ys

-- The first call closed the gate, or it did not

closed_fed : (s : Settings) (p : Progress) (item : Item) → p.close ≡ true → fed s p item ≡ p
unfolding fed
closed_fed s p item e = sym (first_of_two p.close p _ e)

closed_all_fed : (s : Settings) (p : Progress) (items : List Item) → p.close ≡ true → all_fed s p items ≡ p
unfolding all_fed
closed_all_fed s p [] e = refl
closed_all_fed s p (item ∷ items) e =
    ap (λ (q : Progress). all_fed s q items) (closed_fed s p item e) ∙ closed_all_fed s p items e

-- the progress of a call, from these parts
of_parts : Progress → ℕ → List Request → List ℕ → List StatusWord → Bool → Progress
of_parts p n r w t c = record p { waiting = n; requests = r; reply = w; words = t; close = c }

-- a call goes on where it stopped
goes_on : (g : Gate) (p : Progress) → p.waiting ≡ length g.waiting + length p.requests → p.close ≡ false → p ≡ behind p (begun (kept g p))
unfolding of_parts
goes_on g p n c =
    let waits = length (g.waiting ++ p.requests) in
    ap (λ (x : ℕ). of_parts p x p.requests p.reply p.words p.close) (n ∙ sym (length-append g.waiting p.requests))
    ∙ ap (λ (x : List Request). of_parts p waits x p.reply p.words p.close) (sym (append-nil p.requests))
    ∙ ap (λ (x : List ℕ). of_parts p waits (p.requests ++ []) x p.words p.close) (sym (append-nil p.reply))
    ∙ ap (λ (x : List StatusWord). of_parts p waits (p.requests ++ []) (p.reply ++ []) x p.close) (sym (append-nil p.words))
    ∙ ap (λ (x : Bool). of_parts p waits (p.requests ++ []) (p.reply ++ []) (p.words ++ []) x) c

-- an open gate takes items
open_takes : (s : Settings) (g : Gate) (xs : List Item) → g.closed ≡ false → after_items s g xs ≡ kept g (all_fed s (begun g) xs)
open_takes s g xs e = sym (second_of_two g.closed g _ e)

open_says : (s : Settings) (g : Gate) (xs : List Item) → g.closed ≡ false → given_items s g xs ≡ given (all_fed s (begun g) xs)
open_says s g xs e = sym (second_of_two g.closed nothing _ e)

-- what the second piece does to a gate that the first left open
second_kept : (s : Settings) (g : Gate) (p : Progress) (ys : List Item) → p.waiting ≡ length g.waiting + length p.requests → p.close ≡ false → all_fed s p ys ≡ behind p (all_fed s (begun (kept g p)) ys)
second_kept s g p ys n c =
    ap (λ (q : Progress). all_fed s q ys) (goes_on g p n c) ∙ behind_all_fed p s (begun (kept g p)) ys

kept_behind : (g : Gate) (p q : Progress) → kept (kept g p) q ≡ kept g (behind p q)
kept_behind g p q = ap (λ (x : List Request). record { phase = q.phase; waiting = x; numbered = q.numbered; closed = q.close }) (append_assoc g.waiting p.requests q.requests)

or_nothing : (b : Bool) → (b || false) ≡ b
or_nothing true = refl
or_nothing false = refl

joined_nothing : (a : Given) → joined a nothing ≡ a
joined_nothing a =
    ap (λ (x : List Request). record { requests = x; reply = a.reply ++ []; words = a.words ++ []; close = a.close || false }) (append-nil a.requests)
    ∙ ap (λ (x : List ℕ). record { requests = a.requests; reply = x; words = a.words ++ []; close = a.close || false }) (append-nil a.reply)
    ∙ ap (λ (x : List StatusWord). record { requests = a.requests; reply = a.reply; words = x; close = a.close || false }) (append-nil a.words)
    ∙ ap (λ (x : Bool). record { requests = a.requests; reply = a.reply; words = a.words; close = x }) (or_nothing a.close)

given_behind : (p q : Progress) → p.close ≡ false → joined (given p) (given q) ≡ given (behind p q)
given_behind p q c = ap (λ (b : Bool). record { requests = p.requests ++ q.requests; reply = p.reply ++ q.reply; words = p.words ++ q.words; close = b || q.close }) c

-- Two pieces fed to one gate

-- the gate and the answers are the same as when both are fed at once
record Alike (s : Settings) (g : Gate) (xs ys : List Item) : Type 0 where
  after : after_items s (after_items s g xs) ys ≡ after_items s g (xs ++ ys)
  said : joined (given_items s g xs) (given_items s (after_items s g xs) ys) ≡ given_items s g (xs ++ ys)

alike_closed : (s : Settings) (g : Gate) (xs ys : List Item) → g.closed ≡ true → Alike s g xs ys
alike_closed s g xs ys e =
    let stays = closed_stays s g xs e in
    record {
      after = ap (λ (x : Gate). after_items s x ys) stays ∙ closed_stays s g ys e ∙ sym (closed_stays s g (xs ++ ys) e);
      said =
          ap (λ (x : Gate). joined (given_items s g xs) (given_items s x ys)) stays ∙ ap (λ (x : Given). joined x (given_items s g ys)) (sym (closed_says s g xs e))
          ∙ ap (λ (x : Given). joined nothing x) (sym (closed_says s g ys e)) ∙ closed_says s g (xs ++ ys) e;
    }

-- the first piece closes the gate, or it does not
alike_by : (s : Settings) (g : Gate) (xs ys : List Item) (b : Bool) → g.closed ≡ false → (all_fed s (begun g) xs).close ≡ b → Alike s g xs ys
alike_by s g xs ys true e c =
    let p = all_fed s (begun g) xs in
    let first = open_takes s g xs e in
    let whole : all_fed s (begun g) (xs ++ ys) ≡ p = all_fed_append s (begun g) xs ys ∙ closed_all_fed s p ys c in
    record {
      after =
          ap (λ (x : Gate). after_items s x ys) first ∙ closed_stays s (kept g p) ys c
          ∙ sym (open_takes s g (xs ++ ys) e ∙ ap (λ (x : Progress). kept g x) whole);
      said =
          ap (λ (x : Gate). joined (given_items s g xs) (given_items s x ys)) first ∙ ap (λ (x : Given). joined (given_items s g xs) x) (sym (closed_says s (kept g p) ys c))
          ∙ joined_nothing (given_items s g xs) ∙ open_says s g xs e ∙ sym (open_says s g (xs ++ ys) e ∙ ap (λ (x : Progress). given x) whole);
    }
alike_by s g xs ys false e c =
    let p = all_fed s (begun g) xs in
    let q = all_fed s (begun (kept g p)) ys in
    let first = open_takes s g xs e in
    let whole : all_fed s (begun g) (xs ++ ys) ≡ behind p q = all_fed_append s (begun g) xs ys ∙ second_kept s g p ys (all_wait s (begun g) xs refl) c in
    record {
      after =
          ap (λ (x : Gate). after_items s x ys) first ∙ open_takes s (kept g p) ys c ∙ kept_behind g p q
          ∙ sym (open_takes s g (xs ++ ys) e ∙ ap (λ (x : Progress). kept g x) whole);
      said =
          ap (λ (x : Gate). joined (given_items s g xs) (given_items s x ys)) first ∙ ap (λ (x : Given). joined x (given_items s (kept g p) ys)) (open_says s g xs e)
          ∙ ap (λ (x : Given). joined (given p) x) (open_says s (kept g p) ys c) ∙ given_behind p q c
          ∙ sym (open_says s g (xs ++ ys) e ∙ ap (λ (x : Progress). given x) whole);
    }

alike_for : (s : Settings) (g : Gate) (xs ys : List Item) (b : Bool) → g.closed ≡ b → Alike s g xs ys
alike_for s g xs ys true e = alike_closed s g xs ys e
alike_for s g xs ys false e = alike_by s g xs ys (all_fed s (begun g) xs).close e refl

alike : (s : Settings) (g : Gate) (xs ys : List Item) → Alike s g xs ys
alike s g xs ys = alike_for s g xs ys g.closed refl

-- The items of two pieces

brought_is : (fed bytes : List ℕ) → drop (length (items fed)) (items (fed ++ bytes)) ≡ items_from (unended fed) bytes
brought_is fed bytes =
    ap (λ (x : List Item). drop (length (items fed)) x) (items_append [] fed bytes) ∙ drop-append_seam (items fed) (items_from (unended fed) bytes)

brought_by_both : (calls : List Call) (first second : List ℕ) → items_brought calls first ++ items_brought (Feed first ∷ calls) second ≡ items_brought calls (first ++ second)
brought_by_both calls first second =
    let fed = all_bytes calls in
    ap (λ (x : List Item). x ++ items_brought (Feed first ∷ calls) second) (brought_is fed first)
    ∙ ap (λ (x : List Item). items_from (unended fed) first ++ x) (brought_is (fed ++ first) second ∙ ap (λ (x : List ℕ). items_from x second) (unended_append [] fed first))
    ∙ sym (items_append (unended fed) first second) ∙ sym (brought_is fed (first ++ second))

pub leads_alike : (s : Settings) (calls : List Call) (first second : List ℕ) → LeadsAlike s calls first second
unfolding gate
leads_alike s calls first second =
    (alike s (gate s calls) (items_brought calls first) (items_brought (Feed first ∷ calls) second)).after
    ∙ ap (λ (x : List Item). after_items s (gate s calls) x) (brought_by_both calls first second)

pub answers_alike : (s : Settings) (calls : List Call) (first second : List ℕ) → AnswersAlike s calls first second
unfolding gate fed_answer
answers_alike s calls first second =
    (alike s (gate s calls) (items_brought calls first) (items_brought (Feed first ∷ calls) second)).said
    ∙ ap (λ (x : List Item). given_items s (gate s calls) x) (brought_by_both calls first second)
