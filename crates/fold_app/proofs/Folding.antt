-- What more bytes of an input, and its end, do to what was fed.
use Rattle.std.proofs.Common.{◌≡◌, ℕ, ◌+◌, ◌<◌, List, [], ◌∷◌, ◌++◌, length, Result, Ok, Err, refl, sym, ap, ◌∙◌, append_assoc}
use Rattle.std.proofs.lemmas.List.{append-nil}
use Rattle.std.proofs.lemmas.List.Folds.{list_all-append}
use Rattle.machine_laws.specs.Runs.{History}
use Rattle.irc_line.proofs.Booleans.{and_both}
use Rattle.irc_line.specs.Splitting.{HasNoLineFeed}
use Rattle.fold_app.specs.Fold.{Request, printed, put_before, judged_line, bodies_of, printed_from, fold_text}
use Rattle.fold_app.specs.Fed.{Answers, GoesOn, Fails}
use Rattle.fold_app.specs.Lines.{lines_of}
use Rattle.fold_app.specs.declared.fault.FoldFault.{FoldFault}
use Rattle.fold_app.proofs.Splitting.{first_ended, first_open}

no_feed_in_both : (xs ys : List ℕ) → HasNoLineFeed xs → HasNoLineFeed ys → HasNoLineFeed (xs ++ ys)
no_feed_in_both xs ys h k = list_all-append _ xs ys ∙ and_both _ _ h k

-- if nothing was fed, all is to come
pub none_fed : GoesOn [] 0 [] []
unfolding fold_text
none_fed = record { one_line = refl; same = λ answers more. refl }

good_by : (answers : Answers) (place : ℕ) (earlier : History Request) (body : Request) (bodies : Result (List Request) FoldFault)
    → printed_from answers place earlier (put_before (Ok body) bodies) ≡ printed_from answers (place + 1) ((place, body) ∷ earlier) bodies
good_by answers place earlier body (Ok bodies) = refl
good_by answers place earlier body (Err e) = refl

cut_out : (begun end more : List ℕ) → begun ++ ((end ++ 10 ∷ []) ++ more) ≡ (begun ++ end) ++ 10 ∷ more
cut_out begun end more = ap (λ t. begun ++ t) (append_assoc end (10 ∷ []) more) ∙ sym (append_assoc begun end (10 ∷ more))

-- the line that is begun ends, and what follows
line_and_more : (fed : List ℕ) (place : ℕ) (earlier : History Request) (begun end : List ℕ) → GoesOn fed place earlier begun → HasNoLineFeed end → (answers : Answers) (more : List ℕ)
    → printed_from answers (place + 1) earlier (put_before (judged_line (place + 1) (begun ++ end)) (bodies_of (place + 1 + 1) (lines_of more))) ≡ fold_text answers ((fed ++ (end ++ 10 ∷ [])) ++ more)
line_and_more fed place earlier begun end was none answers more =
    let lines : lines_of (begun ++ ((end ++ 10 ∷ []) ++ more)) ≡ (begun ++ end) ∷ lines_of more = ap lines_of (cut_out begun end more) ∙ first_ended (begun ++ end) more (no_feed_in_both begun end was.one_line none) in
    ap (λ t. printed_from answers (place + 1) earlier (bodies_of (place + 1) t)) (sym lines) ∙ was.same answers ((end ++ 10 ∷ []) ++ more) ∙ ap (fold_text answers) (sym (append_assoc fed (end ++ 10 ∷ []) more))

-- if it is a body
pub line_goes_on : (fed : List ℕ) (place : ℕ) (earlier : History Request) (begun end : List ℕ) (body : Request)
    → GoesOn fed place earlier begun → HasNoLineFeed end → judged_line (place + 1) (begun ++ end) ≡ Ok body → GoesOn (fed ++ (end ++ 10 ∷ [])) (place + 1) ((place + 1, body) ∷ earlier) []
line_goes_on fed place earlier begun end body was none good = record {
  one_line = refl;
  same = λ answers more.
      sym (ap (λ t. printed_from answers (place + 1) earlier (put_before t (bodies_of (place + 1 + 1) (lines_of more)))) good ∙ good_by answers (place + 1) earlier body (bodies_of (place + 1 + 1) (lines_of more)))
      ∙ line_and_more fed place earlier begun end was none answers more;
}

-- if it is bad
pub line_fails : (fed : List ℕ) (place : ℕ) (earlier : History Request) (begun end : List ℕ) (e : FoldFault)
    → GoesOn fed place earlier begun → HasNoLineFeed end → judged_line (place + 1) (begun ++ end) ≡ Err e → Fails (fed ++ (end ++ 10 ∷ [])) e
line_fails fed place earlier begun end e was none bad = record {
  always = λ answers more.
      sym (line_and_more fed place earlier begun end was none answers more) ∙ ap (λ t. printed_from answers (place + 1) earlier (put_before t (bodies_of (place + 1 + 1) (lines_of more)))) bad;
}

-- if no line ends
pub none_ended : (fed : List ℕ) (place : ℕ) (earlier : History Request) (begun rest : List ℕ) → GoesOn fed place earlier begun → HasNoLineFeed rest → GoesOn (fed ++ rest) place earlier (begun ++ rest)
none_ended fed place earlier begun rest was none = record {
  one_line = no_feed_in_both begun rest was.one_line none;
  same = λ answers more.
      ap (λ t. printed_from answers (place + 1) earlier (bodies_of (place + 1) (lines_of t))) (append_assoc begun rest more)
      ∙ was.same answers (rest ++ more) ∙ ap (fold_text answers) (sym (append_assoc fed rest more));
}

-- what fails goes on failing
pub fails_on : (fed more : List ℕ) (e : FoldFault) → Fails fed e → Fails (fed ++ more) e
fails_on fed more e was = record { always = λ answers rest. ap (fold_text answers) (append_assoc fed more rest) ∙ was.always answers (more ++ rest) }

-- at the end, if no line is begun
pub ends_even : (fed : List ℕ) (place : ℕ) (earlier : History Request) → GoesOn fed place earlier [] → (answers : Answers) → fold_text answers fed ≡ Ok (printed answers earlier)
ends_even fed place earlier was answers = ap (fold_text answers) (sym (append-nil fed)) ∙ sym (was.same answers [])

-- at the end, if a line is begun
ends_in : (fed : List ℕ) (place : ℕ) (earlier : History Request) (begun : List ℕ) → GoesOn fed place earlier begun → 0 < length begun → (answers : Answers)
    → fold_text answers fed ≡ printed_from answers (place + 1) earlier (put_before (judged_line (place + 1) begun) (Ok []))
ends_in fed place earlier begun was some answers =
    let lines : lines_of (begun ++ []) ≡ begun ∷ [] = ap lines_of (append-nil begun) ∙ first_open begun some was.one_line in
    ap (fold_text answers) (sym (append-nil fed)) ∙ sym (was.same answers []) ∙ ap (λ t. printed_from answers (place + 1) earlier (bodies_of (place + 1) t)) lines

pub ends_good : (fed : List ℕ) (place : ℕ) (earlier : History Request) (begun : List ℕ) (body : Request) → GoesOn fed place earlier begun → 0 < length begun → judged_line (place + 1) begun ≡ Ok body
    → (answers : Answers) → fold_text answers fed ≡ Ok (printed answers ((place + 1, body) ∷ earlier))
ends_good fed place earlier begun body was some good answers =
    ends_in fed place earlier begun was some answers ∙ ap (λ t. printed_from answers (place + 1) earlier (put_before t (Ok []))) good

pub ends_bad : (fed : List ℕ) (place : ℕ) (earlier : History Request) (begun : List ℕ) (e : FoldFault) → GoesOn fed place earlier begun → 0 < length begun → judged_line (place + 1) begun ≡ Err e
    → (answers : Answers) → fold_text answers fed ≡ Err e
ends_bad fed place earlier begun e was some bad answers =
    ends_in fed place earlier begun was some answers ∙ ap (λ t. printed_from answers (place + 1) earlier (put_before t (Ok []))) bad
