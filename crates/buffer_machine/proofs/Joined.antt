-- All clients are shown, one after the other, that a channel is joined.
use Rattle.std.proofs.Common.{◌≡◌, ℕ, suc, ◌+◌, ◌<◌, ◌≤◌, List, [], ◌∷◌, ◌++◌, length, drop, get_or, refl, sym, ap, ◌∙◌, arith}
use Rattle.std.specs.Prelude.{flat_map, map, codes, None}
use Rattle.irc_line.specs.Lines.{spelling}
use Rattle.buffer_machine.specs.Effects.{copies}
use Rattle.buffer_machine.specs.Messages.{own_line}
use Rattle.buffer_machine.proofs.Shows.{show_each_is}
use Rattle.std.proofs.Math.ListN.{drop_of_length-le}
use Rattle.std.proofs.Math.Seq.{drop-cons}
use Rattle.std.proofs.lemmas.List.{append_assoc, append-nil}
use Rattle.wire_bytes.specs.declared.origin.Origin.{Origin}
use Rattle.buffer_targets.specs.Targets.{ChannelLines}
use Rattle.buffer_commands.specs.declared.effect.Effect.{Effect}
use Rattle.buffer_machine.specs.Answering.{each_shown_joined, played_by, reader_next, readers_left, shown_joined}

-- one more client
pub each_step : (offset : ℕ) (nick : List ℕ) (c : ChannelLines) (os : List Origin) (hs : List (Origin × ℕ)) (i : ℕ) (o : Origin) (done new whole : List Effect)
    → i < length os → o ≡ get_or os i o → done ++ each_shown_joined offset nick c (drop i os) hs ≡ whole → new ≡ done ++ shown_joined offset nick c (reader_next o hs) o
    → new ++ each_shown_joined offset nick c (drop (i + 1) os) (readers_left o hs) ≡ whole
each_step offset nick c os hs i o done new whole lt is e f =
    let next : i + 1 ≡ suc i = omega arith in
    let cons : drop i os ≡ o ∷ drop (suc i) os = drop-cons os i o lt ∙ ap (λ x. x ∷ drop (suc i) os) (sym is) in
    rw (next, f) (append_assoc done (shown_joined offset nick c (reader_next o hs) o) (each_shown_joined offset nick c (drop (suc i) os) (readers_left o hs)) ∙ (ap (λ xs. done ++ each_shown_joined offset nick c xs hs) (sym cons) ∙ e))

-- and at the end
pub each_end : (offset : ℕ) (nick : List ℕ) (c : ChannelLines) (os : List Origin) (hs : List (Origin × ℕ)) (i : ℕ) (done whole : List Effect) → length os ≤ i → done ++ each_shown_joined offset nick c (drop i os) hs ≡ whole → done ≡ whole
each_end offset nick c os hs i done whole h e =
    sym (append-nil done) ∙ (ap (λ xs. done ++ each_shown_joined offset nick c xs hs) (sym (drop_of_length-le os h)) ∙ e)

-- where nobody has a name, all are shown the same
pub none_has : (offset : ℕ) (nick : List ℕ) (c : ChannelLines) (os : List Origin) → each_shown_joined offset nick c os [] ≡ flat_map (shown_joined offset nick c None) os
none_has offset nick c [] = refl
none_has offset nick c (o ∷ os) = ap (λ es. shown_joined offset nick c None o ++ es) (none_has offset nick c os)

-- and then what each is shown is the same for all
pub all_same : (offset : ℕ) (nick : List ℕ) (c : ChannelLines) (os : List Origin) (hs : List (Origin × ℕ)) (lines : List (List ℕ)) → hs ≡ []
    → lines ≡ map spelling (own_line nick (codes "JOIN") c.target.name ∷ played_by offset None c.target) → flat_map (copies lines) os ≡ each_shown_joined offset nick c os hs
all_same offset nick c os hs lines e f =
    ap (λ ls. flat_map (copies ls) os) f
    ∙ (show_each_is os (own_line nick (codes "JOIN") c.target.name ∷ played_by offset None c.target)
    ∙ sym (ap (each_shown_joined offset nick c os) e ∙ none_has offset nick c os))
