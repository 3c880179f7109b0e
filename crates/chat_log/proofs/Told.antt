-- The chat of the state that a journal stands for.
use Rattle.std.proofs.Common.{◌≡◌, ℕ, List, map, Option, Result, Ok, ap, sym, ◌∙◌}
use Rattle.raft_log.specs.declared.entry.Entry.{Entry}
use Rattle.stable_store.specs.declared.saved.Saved.{Saved}
use Rattle.stable_store.specs.declared.store_fault.StoreFault.{StoreFault}
use Rattle.buffer_commands.specs.Settings.{plain}
use Rattle.bouncer_tower.specs.Bodies.{TowerBody}
use Rattle.chat_log.specs.Chats.{chat_text}
use Rattle.chat_log.specs.Logs.{bodies, chat_of, plain_commands}
use Rattle.chat_log.specs.declared.choice.Extent.{Extent}
use Rattle.chat_log.specs.declared.setup.ChatSetup.{ChatSetup}

pub told_is : (x : Extent) (t : Option (List ℕ)) (r : Result (Saved TowerBody) StoreFault) (saved : Saved TowerBody) (text : List ℕ)
    → r ≡ Ok saved → text ≡ chat_text plain x t (plain_commands (bodies saved)) → chat_of x t r ≡ Ok text
unfolding chat_of
told_is x t r saved text e h = ap (chat_of x t) e ∙ ap Ok (sym h)

pub same_text : (x : Extent) (t : Option (List ℕ)) (entries : List (Entry TowerBody)) (saved : Saved TowerBody) (s : ChatSetup) (text : List ℕ)
    → entries ≡ saved.log → s.buffers ≡ plain → s.choice.extent ≡ x → s.choice.target ≡ t
    → text ≡ chat_text s.buffers s.choice.extent s.choice.target (plain_commands (map (λ e. e.body) entries)) → text ≡ chat_text plain x t (plain_commands (bodies saved))
same_text x t entries saved s text log buffers extent target h = h ∙ (λ i. chat_text (buffers i) (extent i) (target i) (plain_commands (map (λ e. e.body) (log i))))
