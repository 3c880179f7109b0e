-- Worked cases of the nodes alone, computed on the definitions; a body is a number, the blank one 0.
use Rattle.std.proofs.Common.{◌≡◌, ℕ, true, false, List, [], ◌∷◌, map, length, Option, Some, None, refl}
use Rattle.raft_log.specs.declared.entry.Entry.{Entry}
use Rattle.raft_log.specs.declared.role.Role.{Role}
use Rattle.raft_log.specs.declared.role.Role.TheVariants.{Follower, Candidate, Leader}
use Rattle.raft_log.specs.Node.{Node}
use Rattle.raft_log.specs.Logs.{last_term}
use Rattle.raft_log.specs.Votes.{commit_place}
use Rattle.agreement.specs.World.{Timeout, Beat, Deliver, Ask, Does, Restart, StopIn, run, start}
use Rattle.agreement.specs.Laws.{agreed}

abbrev blank : ℕ
blank = 0

abbrev number : Option ℕ → ℕ
number None = 0
number (Some v) = v

abbrev Line : Type 0
Line = Role × ℕ × ℕ × ℕ × ℕ × ℕ

-- role, term, vote, log, last, commit
abbrev line : Node ℕ → Line
line s = (s.role, s.term, number s.vote, length s.log, last_term s.log, s.commit)

a_request_commits : map line (run blank (Does (Timeout 1) ∷ Does (Deliver 1 1) ∷ Does (Deliver 2 1) ∷ Does (Ask 1 1) ∷ Does (Ask 1 2) ∷ Does (Beat 1) ∷ Does (Deliver 1 3) ∷ Does (Deliver 2 2) ∷ []) (start 3)) ≡ (Leader, 1, 1, 3, 1, 3) ∷ (Follower, 1, 1, 3, 1, 0) ∷ (Follower, 0, 0, 0, 0, 0) ∷ []
a_request_commits = refl

a_vote_counts_once : map line (run blank (Does (Timeout 1) ∷ Does (Deliver 1 1) ∷ Does (Deliver 2 1) ∷ Does (Deliver 2 1) ∷ Does (Deliver 2 1) ∷ []) (start 5)) ≡ (Candidate, 1, 1, 0, 0, 0) ∷ (Follower, 1, 1, 0, 0, 0) ∷ (Follower, 0, 0, 0, 0, 0) ∷ (Follower, 0, 0, 0, 0, 0) ∷ (Follower, 0, 0, 0, 0, 0) ∷ []
a_vote_counts_once = refl

a_late_append_cuts_nothing : map line (run blank (Does (Timeout 1) ∷ Does (Deliver 1 1) ∷ Does (Deliver 2 1) ∷ Does (Ask 1 3) ∷ Does (Beat 1) ∷ Does (Ask 1 4) ∷ Does (Beat 1) ∷ Does (Deliver 1 5) ∷ Does (Deliver 1 3) ∷ Does (Deliver 2 3) ∷ Does (Deliver 2 2) ∷ []) (start 3)) ≡ (Leader, 1, 1, 3, 1, 3) ∷ (Follower, 1, 1, 3, 1, 0) ∷ (Follower, 0, 0, 0, 0, 0) ∷ []
a_late_append_cuts_nothing = refl

one_vote_in_a_term : map line (run blank (Does (Timeout 1) ∷ Does (Timeout 2) ∷ Does (Deliver 1 2) ∷ Restart 3 ∷ Does (Deliver 2 2) ∷ Does (Deliver 3 2) ∷ []) (start 3)) ≡ (Candidate, 1, 1, 0, 0, 0) ∷ (Candidate, 1, 2, 0, 0, 0) ∷ (Follower, 1, 1, 0, 0, 0) ∷ []
one_vote_in_a_term = refl

-- Figure 8 of Raft's paper: node 2 has the entry of term 3, so node 5 is not elected in term 4
figure_eight : map line (run blank (Does (Timeout 1) ∷ Does (Deliver 1 1) ∷ Does (Deliver 1 2) ∷ Does (Deliver 2 1) ∷ Does (Deliver 3 1) ∷ Does (Ask 1 5) ∷ Does (Beat 1) ∷ Does (Deliver 1 5) ∷ Does (Timeout 5) ∷ Does (Timeout 5) ∷ Does (Deliver 5 7) ∷ Does (Deliver 5 8) ∷ Does (Deliver 3 2) ∷ Does (Deliver 4 1) ∷ Does (Ask 5 6) ∷ Restart 1 ∷ Does (Timeout 1) ∷ Does (Timeout 1) ∷ Does (Deliver 1 13) ∷ Does (Deliver 1 14) ∷ Does (Deliver 2 3) ∷ Does (Deliver 3 3) ∷ Does (Beat 1) ∷ Does (Deliver 1 17) ∷ Does (Deliver 1 18) ∷ Does (Deliver 3 4) ∷ Does (Beat 1) ∷ Does (Deliver 1 22) ∷ Does (Deliver 2 4) ∷ Does (Deliver 3 5) ∷ Restart 5 ∷ Does (Timeout 5) ∷ Does (Timeout 5) ∷ Does (Deliver 5 14) ∷ Does (Deliver 5 15) ∷ Does (Deliver 2 5) ∷ Does (Deliver 3 6) ∷ Does (Beat 5) ∷ Does (Deliver 5 18) ∷ Does (Deliver 2 6) ∷ Does (Beat 5) ∷ Does (Deliver 5 22) ∷ Does (Deliver 2 7) ∷ []) (start 5)) ≡ (Leader, 3, 1, 3, 3, 0) ∷ (Follower, 4, 0, 3, 3, 0) ∷ (Follower, 4, 5, 0, 0, 0) ∷ (Follower, 2, 5, 0, 0, 0) ∷ (Candidate, 4, 5, 2, 2, 0) ∷ []
figure_eight = refl

-- so the last deliveries of the nodes 5 and 2 name messages that were never sent
figure_eight_sent : map (λ (s : Node ℕ). length s.sent) (run blank (Does (Timeout 1) ∷ Does (Deliver 1 1) ∷ Does (Deliver 1 2) ∷ Does (Deliver 2 1) ∷ Does (Deliver 3 1) ∷ Does (Ask 1 5) ∷ Does (Beat 1) ∷ Does (Deliver 1 5) ∷ Does (Timeout 5) ∷ Does (Timeout 5) ∷ Does (Deliver 5 7) ∷ Does (Deliver 5 8) ∷ Does (Deliver 3 2) ∷ Does (Deliver 4 1) ∷ Does (Ask 5 6) ∷ Restart 1 ∷ Does (Timeout 1) ∷ Does (Timeout 1) ∷ Does (Deliver 1 13) ∷ Does (Deliver 1 14) ∷ Does (Deliver 2 3) ∷ Does (Deliver 3 3) ∷ Does (Beat 1) ∷ Does (Deliver 1 17) ∷ Does (Deliver 1 18) ∷ Does (Deliver 3 4) ∷ Does (Beat 1) ∷ Does (Deliver 1 22) ∷ Does (Deliver 2 4) ∷ Does (Deliver 3 5) ∷ Restart 5 ∷ Does (Timeout 5) ∷ Does (Timeout 5) ∷ Does (Deliver 5 14) ∷ Does (Deliver 5 15) ∷ Does (Deliver 2 5) ∷ Does (Deliver 3 6) ∷ Does (Beat 5) ∷ Does (Deliver 5 18) ∷ Does (Deliver 2 6) ∷ Does (Beat 5) ∷ Does (Deliver 5 22) ∷ Does (Deliver 2 7) ∷ []) (start 5)) ≡ 24 ∷ 5 ∷ 6 ∷ 1 ∷ 16 ∷ []
figure_eight_sent = refl

committed_at_two_nodes : map line (run blank (Does (Timeout 1) ∷ Does (Deliver 1 1) ∷ Does (Deliver 2 1) ∷ Does (Ask 1 13) ∷ Does (Ask 1 14) ∷ Does (Ask 1 15) ∷ Does (Beat 1) ∷ Does (Deliver 1 4) ∷ Does (Deliver 3 1) ∷ Does (Beat 1) ∷ Does (Deliver 1 6) ∷ []) (start 3)) ≡ (Leader, 1, 1, 4, 1, 4) ∷ (Follower, 1, 1, 0, 0, 0) ∷ (Follower, 1, 0, 4, 1, 4) ∷ []
committed_at_two_nodes = refl

all_start_again : map line (run blank (Does (Timeout 1) ∷ Does (Deliver 1 1) ∷ Does (Deliver 2 1) ∷ Does (Ask 1 13) ∷ Does (Ask 1 14) ∷ Does (Ask 1 15) ∷ Does (Beat 1) ∷ Does (Deliver 1 4) ∷ Does (Deliver 3 1) ∷ Does (Beat 1) ∷ Does (Deliver 1 6) ∷ Restart 1 ∷ Restart 2 ∷ Restart 3 ∷ Does (Timeout 3) ∷ Does (Deliver 3 3) ∷ Does (Deliver 1 7) ∷ Does (Ask 3 10) ∷ Does (Beat 3) ∷ Does (Deliver 3 5) ∷ Does (Deliver 1 8) ∷ []) (start 3)) ≡ (Follower, 2, 3, 6, 2, 0) ∷ (Follower, 1, 1, 0, 0, 0) ∷ (Leader, 2, 3, 6, 2, 6) ∷ []
all_start_again = refl

a_stop_after_an_append : map line (run blank (Does (Timeout 1) ∷ Does (Deliver 1 1) ∷ Does (Deliver 2 1) ∷ Does (Ask 1 11) ∷ Does (Beat 1) ∷ StopIn (Deliver 1 3) true ∷ Does (Deliver 2 2) ∷ []) (start 3)) ≡ (Leader, 1, 1, 2, 1, 0) ∷ (Follower, 1, 1, 2, 1, 0) ∷ (Follower, 0, 0, 0, 0, 0) ∷ []
a_stop_after_an_append = refl

a_stop_before_an_append : map line (run blank (Does (Timeout 1) ∷ Does (Deliver 1 1) ∷ Does (Deliver 2 1) ∷ Does (Ask 1 12) ∷ Does (Beat 1) ∷ StopIn (Deliver 1 3) false ∷ Does (Deliver 2 2) ∷ []) (start 3)) ≡ (Leader, 1, 1, 2, 1, 0) ∷ (Follower, 1, 1, 0, 0, 0) ∷ (Follower, 0, 0, 0, 0, 0) ∷ []
a_stop_before_an_append = refl

-- a stop after the electing vote: the blank entry is saved, and no moment shows a leader of term 1
a_stop_after_the_electing_vote : map line (run blank (Does (Timeout 1) ∷ Does (Deliver 1 1) ∷ StopIn (Deliver 2 1) true ∷ []) (start 3)) ≡ (Follower, 1, 1, 1, 1, 0) ∷ (Follower, 1, 1, 0, 0, 0) ∷ (Follower, 0, 0, 0, 0, 0) ∷ []
a_stop_after_the_electing_vote = refl

a_stop_before_the_electing_vote : map line (run blank (Does (Timeout 1) ∷ Does (Deliver 1 1) ∷ StopIn (Deliver 2 1) false ∷ []) (start 3)) ≡ (Follower, 1, 1, 0, 0, 0) ∷ (Follower, 1, 1, 0, 0, 0) ∷ (Follower, 0, 0, 0, 0, 0) ∷ []
a_stop_before_the_electing_vote = refl

-- three_of_three votes of seven nodes are no majority, four are
three_of_seven : map line (run blank (Does (Timeout 1) ∷ Does (Deliver 1 1) ∷ Does (Deliver 1 2) ∷ Does (Deliver 1 3) ∷ Does (Deliver 2 1) ∷ Does (Deliver 3 1) ∷ []) (start 7)) ≡ (Candidate, 1, 1, 0, 0, 0) ∷ (Follower, 1, 1, 0, 0, 0) ∷ (Follower, 1, 1, 0, 0, 0) ∷ (Follower, 1, 1, 0, 0, 0) ∷ (Follower, 0, 0, 0, 0, 0) ∷ (Follower, 0, 0, 0, 0, 0) ∷ (Follower, 0, 0, 0, 0, 0) ∷ []
three_of_seven = refl

four_of_seven : map line (run blank (Does (Timeout 1) ∷ Does (Deliver 1 1) ∷ Does (Deliver 1 2) ∷ Does (Deliver 1 3) ∷ Does (Deliver 2 1) ∷ Does (Deliver 3 1) ∷ Does (Deliver 4 1) ∷ []) (start 7)) ≡ (Leader, 1, 1, 1, 1, 0) ∷ (Follower, 1, 1, 0, 0, 0) ∷ (Follower, 1, 1, 0, 0, 0) ∷ (Follower, 1, 1, 0, 0, 0) ∷ (Follower, 0, 0, 0, 0, 0) ∷ (Follower, 0, 0, 0, 0, 0) ∷ (Follower, 0, 0, 0, 0, 0) ∷ []
four_of_seven = refl

-- a leader of an older term may come after a commit, and lacks the entries
late_leader : map line (run blank (Does (Timeout 1) ∷ Does (Deliver 1 1) ∷ Does (Timeout 3) ∷ Does (Timeout 3) ∷ Does (Deliver 3 4) ∷ Does (Deliver 2 2) ∷ Does (Ask 3 7) ∷ Does (Beat 3) ∷ Does (Deliver 3 6) ∷ Does (Deliver 2 3) ∷ Does (Deliver 2 1) ∷ []) (start 3)) ≡ (Leader, 1, 1, 1, 1, 0) ∷ (Follower, 2, 3, 2, 2, 0) ∷ (Leader, 2, 3, 2, 2, 2) ∷ []
late_leader = refl

-- a new leader over a log of one entry: next is the place of the blank
abbrev indices : Node ℕ → List ℕ × List ℕ × List (Entry ℕ)
indices s = (s.next, s.matched, s.log)

second_leader : map indices (run blank (Does (Timeout 1) ∷ Does (Deliver 1 1) ∷ StopIn (Deliver 2 1) true ∷ Does (Timeout 1) ∷ Does (Deliver 1 3) ∷ Does (Deliver 2 2) ∷ []) (start 3)) ≡ (2 ∷ 2 ∷ 2 ∷ [], 0 ∷ 0 ∷ 0 ∷ [], record { term = 1; body = blank } ∷ record { term = 2; body = blank } ∷ []) ∷ (0 ∷ 0 ∷ 0 ∷ [], 0 ∷ 0 ∷ 0 ∷ [], []) ∷ (0 ∷ 0 ∷ 0 ∷ [], 0 ∷ 0 ∷ 0 ∷ [], []) ∷ []
second_leader = refl

-- an entry of an older term, counted on three of five, does not commit
older_entry : commit_place {B = ℕ} 5 (1 ∷ 1 ∷ 1 ∷ 0 ∷ 0 ∷ []) (record { term = 1; body = 1 } ∷ []) 3 0 1 ≡ 0
older_entry = refl

-- what is agreed after a commit
agreed_after_a_commit : map (λ (e : Entry ℕ). e.body) (agreed blank 3 (Does (Timeout 1) ∷ Does (Deliver 1 1) ∷ Does (Deliver 2 1) ∷ Does (Ask 1 7) ∷ Does (Beat 1) ∷ Does (Deliver 1 3) ∷ Does (Deliver 2 2) ∷ [])) ≡ blank ∷ 7 ∷ []
agreed_after_a_commit = refl
