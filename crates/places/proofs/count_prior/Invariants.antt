-- `count_prior` meets its contract. The invariant: the operation is not found before `at`. Assumes nothing.
use Rattle.places.proofs.Lookups.{Unfound}
use Rattle.places.proofs.count_prior.Given as goal

abbrev pub invariant-loop-at : goal.invariant-loop-at
invariant-loop-at l = Unfound l.index.order l.first l.k l.at
