-- Marks an hour apart, of a day.
use Rattle.std.proofs.Common.{◌≡◌, ◌≤◌, ◌<◌, ◌+◌, ◌*◌, ◌-◌, ◌/◌, ℕ, suc, true, false, nat_le, nat_lt, ◌&&◌, List, [], ◌∷◌, length, slice_get, Option, Some, None, ap, sym, subst, ◌∙◌, add-mul, one-mul, arith}
use Rattle.std.specs.Prelude.{IfSome, Ok, Err, OnOk, OnErr, Result}
use Rattle.std.proofs.lemmas.Bool.{cond_both}
use Rattle.std.proofs.lemmas.Nat.{mul-le}
use Rattle.std.proofs.Math.Nat.{div-mul-le_self, lt-div-mul-add}
use Rattle.bouncer_run.specs.Rates.{AreApart, AreMarks, IsPast, LeavesRoom, days_left, days_since, is_older, oldest, up_to_day}
use Rattle.driver.specs.declared.level.TheConstants.{FULL}
use Rattle.bouncer_run.specs.declared.log_rate.Mark.{Mark}
use Rattle.bouncer_run.specs.declared.log_rate.TheConstants.{DAY, HOUR}

-- what is left of a log, this many seconds long
pub few_seconds : (left passed : ℕ) → left ≤ 999000 → passed ≤ 250000000000 → left * passed ≤ 249750000000000000
few_seconds left passed h k = mul-le left passed 999000 250000000000 h k

past_to_day : (now seconds at : ℕ) (marks : List Mark) → IsPast now seconds marks → IsPast now seconds (up_to_day at marks)
past_to_day now seconds at [] past = tt
past_to_day now seconds at (mark ∷ earlier) past =
    cond_both (is_older DAY at mark) (mark ∷ []) (mark ∷ up_to_day at earlier) (IsPast now seconds) (λ old. past) (λ new. past)

-- marks up to the first that is a day old are apart, if all are
apart_to_day : (at : ℕ) (marks : List Mark) → AreApart marks → AreApart (up_to_day at marks)
apart_to_day at [] apart = tt
apart_to_day at (mark ∷ earlier) apart =
    cond_both (is_older DAY at mark) (mark ∷ []) (mark ∷ up_to_day at earlier) AreApart (λ old. (tt, tt)) (λ new. (past_to_day mark.at HOUR at earlier apart.0, apart_to_day at earlier apart.1))

behind : (at now next seconds : ℕ) → now + seconds ≤ at → next + 3600 ≤ now → next + (seconds + 3600) ≤ at
behind at now next seconds h k = omega (arith, h, k)

past_behind : (at now seconds : ℕ) (earlier : List Mark) → now + seconds ≤ at → IsPast now HOUR earlier → IsPast at (seconds + HOUR) earlier
past_behind at now seconds [] h past = tt
past_behind at now seconds (next ∷ earlier) h past = behind at now next.at seconds h past

within_day : (at now seconds : ℕ) → now + seconds ≤ at → nat_le (now + 86400) at ≡ false → seconds + 3600 < 90000
within_day at now seconds h new = grind arith

one_is_few : (seconds : ℕ) → seconds < 90000 → 1 * 3600 + seconds < 93600
one_is_few seconds h = omega (arith, h)

one_more_is_few : (n seconds : ℕ) → n * 3600 + (seconds + 3600) < 93600 → suc n * 3600 + seconds < 93600
one_more_is_few n seconds h = omega (arith, h)

-- the older the newest is, the fewer are kept
few_to_day : (at seconds : ℕ) (marks : List Mark) → AreApart marks → IsPast at seconds marks → seconds < 90000 → length (up_to_day at marks) * 3600 + seconds < 93600
few_to_day at seconds [] apart past h = omega (arith, h)
few_to_day at seconds (mark ∷ earlier) apart past h =
    cond_both (is_older DAY at mark) (mark ∷ []) (mark ∷ up_to_day at earlier) (λ kept. length kept * 3600 + seconds < 93600)
    (λ old. one_is_few seconds h)
    (λ new. one_more_is_few (length (up_to_day at earlier)) seconds
    (few_to_day at (seconds + 3600) earlier apart.1 (past_behind at mark.at seconds earlier past apart.0) (within_day at mark.at seconds past new)))

count : (n : ℕ) → n * 3600 + 3600 < 93600 → suc n ≤ 25
count n h = omega (arith, h)

pub one : (new : Mark) → AreMarks (new ∷ [])
one new = record { apart = (tt, tt); few = omega arith }

-- a new mark, if the newest is an hour old
pub one_more : (new : Mark) (marks : List Mark) → AreMarks marks → IsPast new.at HOUR marks → AreMarks (new ∷ up_to_day new.at marks)
one_more new marks are past = record {
  apart = (past_to_day new.at HOUR new.at marks past, apart_to_day new.at marks are.apart);
  few = count (length (up_to_day new.at marks)) (few_to_day new.at HOUR marks are.apart past (omega arith));
}

past_by : (since seconds at : ℕ) → nat_le (since + seconds) at ≡ true → since + seconds ≤ at
past_by since seconds at old = grind arith

the_one : Mark → Option Mark → Mark
the_one otherwise None = otherwise
the_one otherwise (Some mark) = mark

past_of : (at seconds : ℕ) (marks : List Mark) (newest : Mark) → slice_get marks 0 ≡ Some newest → is_older seconds at newest ≡ true → IsPast at seconds marks
unfolding the_one
past_of at seconds [] newest first old = tt
past_of at seconds (mark ∷ earlier) newest first old =
    let same : mark ≡ newest = ap (the_one mark) first in subst (λ (m : Mark). m.at + seconds ≤ at) (sym same) (past_by newest.at seconds at old)

-- the marks are those of a day whether the new one was added or not
pub one_more_or_none : {E : Type 0} (r : Result Unit E) (new newest : Mark) (before after : List Mark) → OnOk r (after ≡ new ∷ up_to_day new.at before) → OnErr r (after ≡ before)
    → slice_get before 0 ≡ Some newest → is_older HOUR new.at newest ≡ true → AreMarks before → AreMarks after
one_more_or_none (Ok done) new newest before after ok err first old are =
    subst (λ (marks : List Mark). AreMarks marks) (sym ok) (one_more new before are (past_of new.at HOUR before newest first old))
one_more_or_none (Err fault) new newest before after ok err first old are = subst (λ (marks : List Mark). AreMarks marks) (sym err) are

room : (whole grown : ℕ) → whole / grown / 86400 * 86400 * grown ≤ whole
room whole grown =
    let days : ℕ = whole / grown / 86400 in
    let of_days : days * 86400 * grown ≤ whole / grown * grown = mul-le (days * 86400) grown (whole / grown) grown (div-mul-le_self (whole / grown) 86400) (omega arith) in
    omega (arith, of_days, div-mul-le_self whole grown)

distributes : (q grown : ℕ) → (q + 1) * grown ≡ q * grown + grown
distributes q grown = add-mul q 1 grown ∙ ap (λ (n : ℕ). q * grown + n) (one-mul grown)

full : (whole grown : ℕ) → 0 < grown → whole < (whole / grown / 86400 + 1) * 86400 * grown
full whole grown h =
    let days : ℕ = whole / grown / 86400 in
    let within : whole / grown + 1 ≤ (days + 1) * 86400 = omega (arith, lt-div-mul-add {a = whole / grown} {b = 86400} (omega arith)) in
    let of_days : (whole / grown + 1) * grown ≤ (days + 1) * 86400 * grown = mul-le (whole / grown + 1) grown ((days + 1) * 86400) grown within (omega arith) in
    let next : whole < (whole / grown + 1) * grown = omega (arith, lt-div-mul-add {a = whole} {b = grown} h, distributes (whole / grown) grown) in
    omega (arith, of_days, next)

grew : (a b c d : ℕ) → (nat_le a b && nat_lt c d) ≡ true → c < d
grew a b c d h = grind arith

passed : (a b c d : ℕ) → (nat_le a b && nat_lt c d) ≡ true → a ≤ b
passed a b c d h = grind arith

more : (c d : ℕ) → c < d → 0 < d - c
more c d h = omega (arith, h)

leaves_by : (at entries : ℕ) (found : Option Mark) (r : Option ℕ) → r ≡ days_since at entries found → IfSome r (λ days. IfSome found (λ mark. LeavesRoom at entries mark days))
leaves_by at entries None None is = tt
leaves_by at entries None (Some days) is = tt
leaves_by at entries (Some mark) r is =
    subst (λ (days : Option ℕ). IfSome days (λ days. LeavesRoom at entries mark days)) (sym is)
    (cond_both (is_older HOUR at mark && nat_lt mark.entries entries) (Some ((FULL - entries) * (at - mark.at) / (entries - mark.entries) / DAY)) None
    (λ (days : Option ℕ). IfSome days (λ days. LeavesRoom at entries mark days))
    (λ h. record {
      grew = grew (mark.at + 3600) at mark.entries entries h;
      hour = passed (mark.at + 3600) at mark.entries entries h;
      room = room ((FULL - entries) * (at - mark.at)) (entries - mark.entries);
      full = full ((FULL - entries) * (at - mark.at)) (entries - mark.entries) (more mark.entries entries (grew (mark.at + 3600) at mark.entries entries h));
    })
    (λ h. tt))

-- this many days leave room, and one more does not
pub leaves_room : (at entries : ℕ) (marks : List Mark) (r : Option ℕ) → r ≡ days_left marks at entries → IfSome r (λ days. IfSome (oldest marks) (λ mark. LeavesRoom at entries mark days))
leaves_room at entries marks r is = leaves_by at entries (oldest marks) r is
