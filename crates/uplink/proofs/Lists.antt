-- What items bring one after the other.
use Rattle.std.proofs.Common.{◌≡◌, List, [], ◌∷◌, ◌++◌, refl, ap, sym, ◌∙◌, append_assoc}
use Rattle.irc_line.specs.declared.item.Item.{Item}
use Rattle.uplink.specs.declared.session.Session.{Session}
use Rattle.uplink.specs.Sessions.{after_item, after_items, inputs_at, inputs_from, replies_from, reply_at}

pub after-append : (s : Session) (xs ys : List Item) → after_items s (xs ++ ys) ≡ after_items (after_items s xs) ys
after-append s [] ys = refl
after-append s (x ∷ xs) ys = after-append (after_item s x) xs ys

pub inputs-append : (s : Session) (xs ys : List Item) → inputs_from s (xs ++ ys) ≡ inputs_from s xs ++ inputs_from (after_items s xs) ys
inputs-append s [] ys = refl
inputs-append s (x ∷ xs) ys =
    ap (λ t. inputs_at s x ++ t) (inputs-append (after_item s x) xs ys) ∙ sym (append_assoc (inputs_at s x) _ _)

pub replies-append : (s : Session) (xs ys : List Item) → replies_from s (xs ++ ys) ≡ replies_from s xs ++ replies_from (after_items s xs) ys
replies-append s [] ys = refl
replies-append s (x ∷ xs) ys =
    ap (λ t. reply_at s x ++ t) (replies-append (after_item s x) xs ys) ∙ sym (append_assoc (reply_at s x) _ _)
