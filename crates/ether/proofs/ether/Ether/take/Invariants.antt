use Rattle.ether.proofs.ether.Ether.take.Given as goal

abbrev pub ghosts-look : goal.ghosts-look
ghosts-look g a = record { becomes = λ _ k. k; from = a.from; fact = λ _. Unit {0} }
