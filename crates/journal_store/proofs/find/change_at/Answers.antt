use Rattle.std.proofs.Common.{rules, ◌≡◌, ◌≢◌, ◌+◌, ◌∙◌, sym, ap, subst, length, drop, take, List, ℕ, Ok, arith}
use Rattle.std.specs.Int.{w32}
use Rattle.wire_bytes.specs.Fields.{number_to}
use Rattle.stable_store.specs.Changes.{change_taken}
use Rattle.journal_store.specs.Journals.{payload_limit}
use Rattle.journal_store.specs.Payloads.{payloads}
use Rattle.journal_store.proofs.Reaching.{number_parts, no_size, no_room, no_change, no_end}
use Rattle.journal_store.proofs.Weighing.{short_is, bad_is}
use Rattle.journal_store.proofs.find.change_at.Goals as goal

pub returns-in-Err-clause-none : goal.returns-in-Err-clause-none
returns-in-Err-clause-none g c = λ h s.
    no_size (payloads g.B.Wire.taken) s (drop (c.args.place + 1) c.args.file.now) c.in-Err.field-0 (ap (number_to w32 payload_limit) (sym c.split_at.ensures.back) ∙ sym c.in-Err.ensures.value)

pub split_at-requires-2 : goal.split_at-requires-2
split_at-requires-2 g c = (number_parts c.split_at.result.1.now c.in-Ok.size c.in-Ok.field-0-1 (sym c.in-Ok.ensures.value)).0

pub returns-then-body-size-clause-none : goal.returns-then-body-size-clause-none
returns-then-body-size-clause-none g c = λ h s.
    let sized = (number_parts c.split_at.result.1.now c.in-Ok.size c.in-Ok.field-0-1 (sym c.in-Ok.ensures.value)).1 in
    let sized-here = subst (λ (l : List ℕ). number_to w32 payload_limit l ≡ Ok (c.in-Ok.size, 4)) c.split_at.ensures.back sized in
    let body : c.split_at-2.result.1.now ≡ drop 4 (drop (c.args.place + 1) c.args.file.now) = c.split_at-2.ensures.back ∙ ap (drop 4) c.split_at.ensures.back in
    no_room (payloads g.B.Wire.taken) s (drop (c.args.place + 1) c.args.file.now) c.in-Ok.size sized-here (omega (arith, ap length body, c.if-body-size.true))

pub returns-then-len-size-clause-ok : goal.returns-then-len-size-clause-ok
returns-then-len-size-clause-ok g c =
    let sized = (number_parts c.split_at.result.1.now c.in-Ok.size c.in-Ok.field-0-1 (sym c.in-Ok.ensures.value)).1 in
    let sized-here = subst (λ (l : List ℕ). number_to w32 payload_limit l ≡ Ok (c.in-Ok.size, 4)) c.split_at.ensures.back sized in
    let body : c.split_at-2.result.1.now ≡ drop 4 (drop (c.args.place + 1) c.args.file.now) = c.split_at-2.ensures.back ∙ ap (drop 4) c.split_at.ensures.back in
    let payload : c.split_at-3.result.0.now ≡ take c.in-Ok.size (drop 4 (drop (c.args.place + 1) c.args.file.now)) = c.split_at-3.ensures.front ∙ ap (take c.in-Ok.size) body in
    let len_is : c.in-Ok-take.len ≡ c.in-Ok.size = search rules in
    record {
      sized = sized-here;
      room = omega (arith, ap length body, c.if-body-size.false);
      one = ap (change_taken g.B.Wire.taken) (sym payload) ∙ (c.in-Ok-take.ensures.ok ∙ ap (λ (n : ℕ). Ok (c.in-Ok-take.change, n)) len_is);
    }

pub returns-else-len-size-clause-none : goal.returns-else-len-size-clause-none
returns-else-len-size-clause-none g c = λ h s.
    let sized = (number_parts c.split_at.result.1.now c.in-Ok.size c.in-Ok.field-0-1 (sym c.in-Ok.ensures.value)).1 in
    let sized-here = subst (λ (l : List ℕ). number_to w32 payload_limit l ≡ Ok (c.in-Ok.size, 4)) c.split_at.ensures.back sized in
    let body : c.split_at-2.result.1.now ≡ drop 4 (drop (c.args.place + 1) c.args.file.now) = c.split_at-2.ensures.back ∙ ap (drop 4) c.split_at.ensures.back in
    let payload : c.split_at-3.result.0.now ≡ take c.in-Ok.size (drop 4 (drop (c.args.place + 1) c.args.file.now)) = c.split_at-3.ensures.front ∙ ap (take c.in-Ok.size) body in
    let other : c.in-Ok-take.len ≢ c.in-Ok.size = search rules in
    no_end (payloads g.B.Wire.taken) s (drop (c.args.place + 1) c.args.file.now) c.in-Ok.size c.in-Ok-take.len c.in-Ok-take.change sized-here (omega (arith, ap length body, c.if-body-size.false)) (ap (change_taken g.B.Wire.taken) (sym payload) ∙ c.in-Ok-take.ensures.ok) other

pub returns-in-Err-Short-clause-none : goal.returns-in-Err-Short-clause-none
returns-in-Err-Short-clause-none g c = λ h s.
    let sized = (number_parts c.split_at.result.1.now c.in-Ok.size c.in-Ok.field-0-1 (sym c.in-Ok.ensures.value)).1 in
    let sized-here = subst (λ (l : List ℕ). number_to w32 payload_limit l ≡ Ok (c.in-Ok.size, 4)) c.split_at.ensures.back sized in
    let body : c.split_at-2.result.1.now ≡ drop 4 (drop (c.args.place + 1) c.args.file.now) = c.split_at-2.ensures.back ∙ ap (drop 4) c.split_at.ensures.back in
    let payload : c.split_at-3.result.0.now ≡ take c.in-Ok.size (drop 4 (drop (c.args.place + 1) c.args.file.now)) = c.split_at-3.ensures.front ∙ ap (take c.in-Ok.size) body in
    no_change (payloads g.B.Wire.taken) s (drop (c.args.place + 1) c.args.file.now) c.in-Ok.size c.in-Err-Short.field-0 sized-here (omega (arith, ap length body, c.if-body-size.false)) (ap (change_taken g.B.Wire.taken) (sym payload) ∙ c.in-Err-Short.ensures.err (short_is c.in-Err-Short.field-0 c.in-Err-Short.field-0-is))

pub returns-in-Err-Bad-clause-none : goal.returns-in-Err-Bad-clause-none
returns-in-Err-Bad-clause-none g c = λ h s.
    let sized = (number_parts c.split_at.result.1.now c.in-Ok.size c.in-Ok.field-0-1 (sym c.in-Ok.ensures.value)).1 in
    let sized-here = subst (λ (l : List ℕ). number_to w32 payload_limit l ≡ Ok (c.in-Ok.size, 4)) c.split_at.ensures.back sized in
    let body : c.split_at-2.result.1.now ≡ drop 4 (drop (c.args.place + 1) c.args.file.now) = c.split_at-2.ensures.back ∙ ap (drop 4) c.split_at.ensures.back in
    let payload : c.split_at-3.result.0.now ≡ take c.in-Ok.size (drop 4 (drop (c.args.place + 1) c.args.file.now)) = c.split_at-3.ensures.front ∙ ap (take c.in-Ok.size) body in
    no_change (payloads g.B.Wire.taken) s (drop (c.args.place + 1) c.args.file.now) c.in-Ok.size c.in-Err-Bad.field-0 sized-here (omega (arith, ap length body, c.if-body-size.false)) (ap (change_taken g.B.Wire.taken) (sym payload) ∙ c.in-Err-Bad.ensures.err (bad_is c.in-Err-Bad.field-0 c.in-Err-Bad.field-0-0 c.in-Err-Bad.field-0-is))
