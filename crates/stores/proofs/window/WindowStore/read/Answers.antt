use Rattle.std.proofs.Common.{◌+◌, ◌<◌, ◌≤◌, length, take, drop, sym, ◌∙◌, arith}
use Rattle.stores.proofs.Rows.{read_out}
use Rattle.stores.proofs.Spans.{read_same, window_length, window_get}
use Rattle.stores.proofs.window.WindowStore.read.Goals as goal

pub returns-then-at-whole : goal.returns-then-at-whole
returns-then-at-whole g c =
    let at = c.args.at in
    let start = c.args.self.now.start in
    let len = c.args.self.now.len in
    let xs = g.S.Store.cells c.args.self.now.inner in
    let e = window_length start len xs in
    let h : length (take len (drop start xs)) ≤ at = omega arith in
    sym (read_out (take len (drop start xs)) at h)

pub returns : goal.returns
returns g c =
    let at = c.args.at in
    let start = c.args.self.now.start in
    let len = c.args.self.now.len in
    let xs = g.S.Store.cells c.args.self.now.inner in
    let e = window_length start len xs in
    let k : at < length (take len (drop start xs)) = omega arith in
    let h : start + at < length xs = omega arith in
    let m : at < len = omega arith in
    c.read.ensures ∙ read_same xs (take len (drop start xs)) (start + at) at h k (window_get start len xs at m)

pub overflow_add-self : goal.overflow_add-self
overflow_add-self g c =
    let e = window_length c.args.self.now.start c.args.self.now.len (g.S.Store.cells c.args.self.now.inner) in
    omega arith
