use Rattle.std.proofs.Common.{◌≡◌, ◌-◌, ◌<◌, ◌≤◌, get_or}
use Rattle.search.specs.Nets.{net_of}
use Rattle.search.proofs.Turns.{Bfs}
use Rattle.search.proofs.search.search.Given as goal

abbrev pub invariant-search : goal.invariant-search
invariant-search g l =
    Bfs (net_of (g.P.Placing.placement l.p)) ((g.P.Placing.placement l.p).lies l.word) l.came l.queue l.head l.tail 0 0
    × (l.head ≤ l.tail)

abbrev pub invariant-loop-slot : goal.invariant-loop-slot
invariant-loop-slot g l =
    Bfs (net_of (g.P.Placing.placement l.p)) ((g.P.Placing.placement l.p).lies l.word) l.came l.queue l.head l.tail l.slot 0
    × (l.head < l.tail)
    × (l.bucket ≡ get_or l.queue l.head 0)

abbrev pub invariant-loop-choice : goal.invariant-loop-choice
invariant-loop-choice g l =
    Bfs (net_of (g.P.Placing.placement l.p)) ((g.P.Placing.placement l.p).lies l.word) l.came l.queue l.head l.tail l.slot l.choice
    × (l.head < l.tail)
    × (l.bucket ≡ get_or l.queue l.head 0)

abbrev pub decreases-search : goal.decreases-search
decreases-search g l = (g.P.Placing.placement l.p).size - l.head
