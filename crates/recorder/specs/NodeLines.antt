-- Nodes as lines of text.
use Rattle.std.specs.Prelude.{ℕ, List, [], ◌∷◌, ◌++◌, length, codes, decimal, Option, Some, None}
use Rattle.raft_log.specs.declared.role.Role.{Role}
use Rattle.raft_log.specs.declared.role.Role.TheVariants.{Follower, Candidate, Leader}
use Rattle.raft_log.specs.Logs.{last_term}
use Rattle.raft_log.specs.Node.{Node}
use Rattle.recorder.specs.declared.node_line.NodeFields.{NodeFields}

-- the role of a node in its term, as a word
abbrev pub role_word : Role → List ℕ
role_word Follower = codes "follower"
role_word Candidate = codes "candidate"
role_word Leader = codes "leader"

-- the node that was voted for, 0 if none was
abbrev pub vote_number : Option ℕ → ℕ
vote_number None = 0
vote_number (Some node) = node

-- the role in its term, the term, and for whom it voted
abbrev pub term_words : Role → ℕ → Option ℕ → List ℕ
term_words role term vote = 32 ∷ role_word role ++ codes " term " ++ decimal term ++ codes " vote " ++ decimal (vote_number vote)

-- how many entries its log has, and the term of the last, 0 if there is none
abbrev pub log_words : ℕ → ℕ → List ℕ
log_words log last = codes " log " ++ decimal log ++ codes " last " ++ decimal last

-- the places up to which it committed and applied, and the end of the line
abbrev pub place_words : ℕ → ℕ → List ℕ
place_words commit applied = codes " commit " ++ decimal commit ++ codes " applied " ++ decimal applied ++ 10 ∷ []

-- what the line of a node says
abbrev pub fields_of : {B : Type 0} → Node B → NodeFields
fields_of s = record { role = s.role; term = s.term; vote = s.vote; log = length s.log; last = last_term s.log; commit = s.commit; applied = s.applied }

-- the line that says this of a node, with its end
abbrev pub fields_line : ℕ → NodeFields → List ℕ
fields_line node f = (codes "node " ++ decimal node) ++ term_words f.role f.term f.vote ++ log_words f.log f.last ++ place_words f.commit f.applied

-- the line of a node with its end
abbrev pub node_line : {B : Type 0} → ℕ → Node B → List ℕ
node_line node s = fields_line node (fields_of s)
