-- The state of a folding, after more of an input.
use Rattle.std.proofs.Common.{◌≡◌, ◌≢◌, ℕ, suc, ◌+◌, ◌<◌, ◌≤◌, ◌⊎◌, List, [], ◌∷◌, ◌++◌, length, Option, None, Some, Ok, Err, inr, sym, ap, subst, ◌∙◌, append_assoc, arith}
use Rattle.std.proofs.lemmas.List.{append-nil, length-append}
use Rattle.machine_laws.specs.Runs.{History}
use Rattle.irc_line.specs.Splitting.{HasNoLineFeed}
use Rattle.std.specs.Prelude.{MatchOption, IfSome}
use Rattle.fold_app.specs.Faults.{IsOfALine}
use Rattle.fold_app.specs.Fold.{Request, printed, judged_line, fold_text}
use Rattle.fold_app.specs.Fed.{Answers, GoesOn, Fails, HasFolded, HasFailed, StandsFor, FoldsOn, FailsOn, GivesText, GivesFault}
use Rattle.fold_app.specs.declared.fault.FoldFault.{FoldFault}
use Rattle.fold_app.specs.declared.fault.FoldFault.TheVariants.{Memory}
use Rattle.fold_app.specs.declared.feeding.Folding.{Folding}
use Rattle.fold_app.proofs.Folding.{none_fed, line_goes_on, line_fails, none_ended, fails_on, ends_even, ends_good, ends_bad}

-- a machine and its output, after one more line
abbrev pub Applied : {S M : Type 0} → (M → S → History Request → Type 0) → (S → Answers) → M → List ℕ → (ℕ × Request) → M → List ℕ → Type 0
Applied {S} {M} stands effects m output x after told =
    (s : S) (earlier : History Request) → stands m s earlier → output ≡ printed (effects s) earlier → stands after s (x ∷ earlier) × (told ≡ printed (effects s) (x ∷ earlier))

-- when a line ends that is a body
pub line_folded : {S M : Type 0} (stands : M → S → History Request → Type 0) (effects : S → Answers) (m : M) (f : Folding) (end line : List ℕ) (after : M) (g : Folding) (body : Request)
    → HasNoLineFeed end → f.begun.items ++ end ≡ line → judged_line (f.place + 1) line ≡ Ok body
    → Applied stands effects m f.output.items (f.place + 1, body) after g.output.items → g.place ≡ f.place + 1 → g.begun.items ≡ []
    → FoldsOn stands effects m f (end ++ 10 ∷ []) after g
line_folded stands effects m f end line after g body none whole good applied place begun = record {
  carries = λ first fed h. record {
    earlier = (f.place + 1, body) ∷ h.earlier;
    goes_on = rw (place, begun) (line_goes_on fed f.place h.earlier f.begun.items end body h.goes_on none (ap (judged_line (f.place + 1)) whole ∙ good));
    told = λ s b. let was = h.told s b in applied s h.earlier was.0 was.1;
  };
}

-- when a line ends that is bad
pub line_bad : {S M : Type 0} (stands : M → S → History Request → Type 0) (effects : S → Answers) (m : M) (f : Folding) (end line : List ℕ) (e : FoldFault)
    → HasNoLineFeed end → f.begun.items ++ end ≡ line → judged_line (f.place + 1) line ≡ Err e → FailsOn stands effects m f (end ++ 10 ∷ []) e
line_bad stands effects m f end line e none whole bad = record {
  carries = λ first fed h. line_fails fed f.place h.earlier f.begun.items end e h.goes_on none (ap (judged_line (f.place + 1)) whole ∙ bad);
}

-- when nothing more came
pub folds_none : {S M : Type 0} (stands : M → S → History Request → Type 0) (effects : S → Answers) (m : M) (f : Folding) → FoldsOn stands effects m f [] m f
folds_none stands effects m f = record { carries = λ first fed h. subst (λ t. HasFolded stands effects first t m f) (sym (append-nil fed)) h }

-- one piece and then another
pub folds_more : {S M : Type 0} (stands : M → S → History Request → Type 0) (effects : S → Answers) (m : M) (f : Folding) (xs : List ℕ) (n : M) (g : Folding) (ys : List ℕ) (o : M) (h : Folding)
    → FoldsOn stands effects m f xs n g → FoldsOn stands effects n g ys o h → FoldsOn stands effects m f (xs ++ ys) o h
folds_more stands effects m f xs n g ys o h one two = record {
  carries = λ first fed was. subst (λ t. HasFolded stands effects first t o h) (append_assoc fed xs ys) (two.carries first (fed ++ xs) (one.carries first fed was));
}

-- a piece, and then one with a bad line, and whatever else
pub fails_more : {S M : Type 0} (stands : M → S → History Request → Type 0) (effects : S → Answers) (m : M) (f : Folding) (xs : List ℕ) (n : M) (g : Folding) (ys rest all : List ℕ) (e : FoldFault)
    → FoldsOn stands effects m f xs n g → FailsOn stands effects n g ys e → (xs ++ ys) ++ rest ≡ all → FailsOn stands effects m f all e
fails_more stands effects m f xs n g ys rest all e one two whole = record {
  carries = λ first fed was.
      let bad = fails_on ((fed ++ xs) ++ ys) rest e (two.carries first (fed ++ xs) (one.carries first fed was)) in
      let same : ((fed ++ xs) ++ ys) ++ rest ≡ fed ++ all = ap (λ t. t ++ rest) (append_assoc fed xs ys) ∙ append_assoc fed (xs ++ ys) rest ∙ ap (λ t. fed ++ t) whole in
      subst (λ t. Fails t e) same bad;
}

-- when no line ends
pub folds_open : {S M : Type 0} (stands : M → S → History Request → Type 0) (effects : S → Answers) (m : M) (f : Folding) (rest : List ℕ) (g : Folding)
    → HasNoLineFeed rest → g.place ≡ f.place → g.output.items ≡ f.output.items → g.begun.items ≡ f.begun.items ++ rest → FoldsOn stands effects m f rest m g
folds_open stands effects m f rest g none place output begun = record {
  carries = λ first fed h. record {
    earlier = h.earlier;
    goes_on = rw (place, begun) (none_ended fed f.place h.earlier f.begun.items rest h.goes_on none);
    told = λ s b. let was = h.told s b in (was.0, output ∙ was.1);
  };
}

-- what is left after a line
pub cut_length : (rest end behind : List ℕ) → rest ≡ end ++ 10 ∷ behind → length behind + 1 ≤ length rest
cut_length rest end behind e = let h : length rest ≡ length end + suc (length behind) = ap length e ∙ length-append end (10 ∷ behind) in omega (arith, h)

-- what is done with a line
pub cut_gone : (gone rest end behind all : List ℕ) → rest ≡ end ++ 10 ∷ behind → gone ++ rest ≡ all → (gone ++ (end ++ 10 ∷ [])) ++ behind ≡ all
cut_gone gone rest end behind all e whole =
    append_assoc gone (end ++ 10 ∷ []) behind ∙ ap (λ t. gone ++ t) (append_assoc end (10 ∷ []) behind ∙ sym e) ∙ whole

-- At the beginning and at the end

-- the state of a folding that was fed nothing
pub stands_at_first : {S M : Type 0} (stands : M → S → History Request → Type 0) (effects : S → Answers) (m : M) (f : Folding)
    → f.fault ≡ None → f.place ≡ 0 → f.begun.items ≡ [] → f.output.items ≡ [] → StandsFor stands effects m [] m f
stands_at_first stands effects m f fault place begun output =
    let folded : HasFolded stands effects m [] m f = record { earlier = []; goes_on = rw (place, begun) none_fed; told = λ s b. (b, output) } in
    record { how = subst (λ o. MatchOption o (HasFolded stands effects m [] m f) (HasFailed [])) (sym fault) folded }

is_folded : {S M : Type 0} (stands : M → S → History Request → Type 0) (effects : S → Answers) (first : M) (fed : List ℕ) (m : M) (f : Folding)
    → StandsFor stands effects first fed m f → f.fault ≡ None → HasFolded stands effects first fed m f
is_folded stands effects first fed m f was none = subst (λ o. MatchOption o (HasFolded stands effects first fed m f) (HasFailed fed)) none was.how

-- a bad line was found
pub gives_found : {S M : Type 0} (stands : M → S → History Request → Type 0) (effects : S → Answers) (m : M) (f : Folding) (e : FoldFault) → f.fault ≡ Some e → GivesFault stands effects m f e
gives_found stands effects m f e some = record {
  gives = λ first fed was.
      let failed : HasFailed fed e = subst (λ o. MatchOption o (HasFolded stands effects first fed m f) (HasFailed fed)) some was.how in
      (inr failed.of_a_line, λ other answers. ap (fold_text answers) (sym (append-nil fed)) ∙ failed.fails.always answers []);
}

-- the last line, which lacks its LF, is bad
pub gives_bad : {S M : Type 0} (stands : M → S → History Request → Type 0) (effects : S → Answers) (m : M) (f : Folding) (e : FoldFault)
    → f.fault ≡ None → 0 < length f.begun.items → (e ≢ Memory → judged_line (f.place + 1) f.begun.items ≡ Err e) → (e ≡ Memory) ⊎ IsOfALine e → GivesFault stands effects m f e
gives_bad stands effects m f e none some bad kind = record {
  gives = λ first fed was. let h = is_folded stands effects first fed m f was none in (kind, λ other answers. ends_bad fed f.place h.earlier f.begun.items e h.goes_on some (bad other) answers);
}

-- it is a body
pub gives_good : {S M : Type 0} (stands : M → S → History Request → Type 0) (effects : S → Answers) (m : M) (f : Folding) (body : Request) (after : M) (text : List ℕ)
    → f.fault ≡ None → 0 < length f.begun.items → judged_line (f.place + 1) f.begun.items ≡ Ok body → Applied stands effects m f.output.items (f.place + 1, body) after text → GivesText stands effects m f text
gives_good stands effects m f body after text none some good applied = record {
  gives = λ first fed was s b.
      let h = is_folded stands effects first fed m f was none in
      let told = h.told s b in
      let x = applied s h.earlier told.0 told.1 in
      ends_good fed f.place h.earlier f.begun.items body h.goes_on some good (effects s) ∙ ap (λ t. Ok t) (sym x.1);
}

-- no line lacks its LF
pub gives_even : {S M : Type 0} (stands : M → S → History Request → Type 0) (effects : S → Answers) (m : M) (f : Folding) → f.fault ≡ None → f.begun.items ≡ [] → GivesText stands effects m f f.output.items
gives_even stands effects m f none empty = record {
  gives = λ first fed was s b.
      let h = is_folded stands effects first fed m f was none in
      ends_even fed f.place h.earlier (subst (λ t. GoesOn fed f.place h.earlier t) empty h.goes_on) (effects s) ∙ ap (λ t. Ok t) (sym (h.told s b).1);
}

-- a weaker statement about known bytes
pub if_known : {T : Type 0} (known : Option T) (P Q : T → Type 0) → ((x : T) → P x → Q x) → IfSome known P → IfSome known Q
if_known None P Q f h = tt
if_known (Some x) P Q f h = f x h
