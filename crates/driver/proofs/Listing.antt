-- Lemmas on lists that are sent to clients, and words that are answered, one after another.
use Rattle.std.proofs.Common.{◌≡◌, ◌∷◌, ℕ, Bool, true, List, [], Option, Some, refl, subst, sym}
use Rattle.client_gate.specs.declared.status_word.StatusWord.{StatusWord}
use Rattle.driver.specs.declared.client.Client.{Client}
use Rattle.driver.specs.declared.clients.Clients.{Clients}
use Rattle.driver.specs.declared.driver.Driver.{Driver}
use Rattle.driver.specs.Answering.{Answers, AnswersAll, IsListed, IsListedIf, ListEach}
use Rattle.driver.specs.Nicks.{IsWritten, is_reached, notice}
use Rattle.driver.specs.Rosters.{client_at}
use Rattle.driver.specs.Standing.{client_text}
use Rattle.driver.specs.Telling.{Ordered}

-- one client is listed, and then those after it
pub list_more : (clients : Clients) (found : Option Client) (nick : List ℕ) (number : ℕ) (left more : List ℕ) (old behind new : Ordered) → left ≡ number ∷ more → IsListed (client_at clients number) found nick old behind → ListEach more clients found nick behind new → ListEach left clients found nick old new
unfolding ListEach
list_more clients found nick number left more old behind new is listed all =
    subst (λ (left : List ℕ). ListEach left clients found nick old new) (sym is) (behind, listed, all)

-- no client is left to list
pub list_none : (clients : Clients) (found : Option Client) (nick : List ℕ) (left : List ℕ) (last : Ordered) → left ≡ [] → ListEach left clients found nick last last
unfolding ListEach
list_none clients found nick left last none =
    subst (λ (left : List ℕ). ListEach left clients found nick last last) (sym none) refl

-- a client that is attached is listed by a line with this text
pub one_listed : (listed found : Option Client) (client : Client) (nick text : List ℕ) (before after : Ordered) → listed ≡ Some client → is_reached client ≡ true → text ≡ notice nick (client_text client.origin client.name) → IsWritten found text before after → IsListed listed found nick before after
one_listed listed found client nick text before after is reached same wrote =
    subst (λ (o : Option Client). IsListed o found nick before after) (sym is)
    (subst (λ (b : Bool). IsListedIf b client found nick before after) (sym reached)
    (subst (λ (text : List ℕ). IsWritten found text before after) same wrote))

-- one word is answered, and then those after it
pub answer_more : (now number : ℕ) (word : StatusWord) (left more : List StatusWord) (old behind new : Driver) → left ≡ word ∷ more → Answers word now number old behind → AnswersAll more now number behind new → AnswersAll left now number old new
unfolding AnswersAll
answer_more now number word left more old behind new is answers all =
    subst (λ (left : List StatusWord). AnswersAll left now number old new) (sym is) (behind, answers, all)

-- no word is left to answer
pub answer_none : (now number : ℕ) (left : List StatusWord) (last : Driver) → left ≡ [] → AnswersAll left now number last last
unfolding AnswersAll
answer_none now number left last none =
    subst (λ (left : List StatusWord). AnswersAll left now number last last) (sym none) refl
