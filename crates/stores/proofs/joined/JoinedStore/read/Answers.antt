use Rattle.std.proofs.Common.{◌-◌, ◌^◌, ◌<◌, ◌≤◌, ◌++◌, length, take, sym, ◌∙◌, arith}
use Rattle.stores.proofs.Rows.{read_out}
use Rattle.stores.proofs.Spans.{read_same, joined_length, joined_left, joined_right}
use Rattle.stores.proofs.joined.JoinedStore.read.Goals as goal

pub returns-then-at-whole : goal.returns-then-at-whole
returns-then-at-whole g c =
    let xs = g.A.Store.cells c.args.self.now.first in
    let ys = g.B.Store.cells c.args.self.now.second in
    let e = joined_length (2 ^ 40) xs ys in
    let h : length (take (2 ^ 40) (xs ++ ys)) ≤ c.args.at = omega arith in
    sym (read_out (take (2 ^ 40) (xs ++ ys)) c.args.at h)

pub returns-then-at-a : goal.returns-then-at-a
returns-then-at-a g c =
    let at = c.args.at in
    let xs = g.A.Store.cells c.args.self.now.first in
    let ys = g.B.Store.cells c.args.self.now.second in
    let e = joined_length (2 ^ 40) xs ys in
    let h : at < length xs = omega arith in
    let k : at < length (take (2 ^ 40) (xs ++ ys)) = omega arith in
    let m : at < 2 ^ 40 = omega arith in
    c.read.ensures ∙ read_same xs (take (2 ^ 40) (xs ++ ys)) at at h k (joined_left (2 ^ 40) xs ys at m h)

pub returns-else-at-a : goal.returns-else-at-a
returns-else-at-a g c =
    let at = c.args.at in
    let n = c.length-a.result in
    let xs = g.A.Store.cells c.args.self.now.first in
    let ys = g.B.Store.cells c.args.self.now.second in
    let e = joined_length (2 ^ 40) xs ys in
    let k : at < length (take (2 ^ 40) (xs ++ ys)) = omega arith in
    let h : at - n < length ys = omega arith in
    let m : at < 2 ^ 40 = omega arith in
    let l : n ≤ at = omega arith in
    c.read-else-at-a.ensures
    ∙ read_same ys (take (2 ^ 40) (xs ++ ys)) (at - n) at h k (joined_right (2 ^ 40) xs ys n at m (sym c.length-a.ensures.value) l)
