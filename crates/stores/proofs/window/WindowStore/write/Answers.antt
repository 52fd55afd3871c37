use Rattle.std.proofs.Common.{◌≡◌, ◌+◌, ◌<◌, ◌≤◌, length, take, drop, sym, refl, ap, ◌∙◌, arith}
use Rattle.stores.specs.Cells.{asked}
use Rattle.stores.proofs.Rows.{err_not_ok}
use Rattle.stores.proofs.Spans.{write_same, write_past, after_past, after_take, after_drop, after_before, after_behind, window_length, window_get}
use Rattle.stores.proofs.window.WindowStore.write.Goals as goal

pub returns-then-at-whole : goal.returns-then-at-whole
returns-then-at-whole g c =
    let o = asked g.R.Record.made c.args.cell.now in
    let at = c.args.at in
    let start = c.args.self.now.start in
    let len = c.args.self.now.len in
    let xs = g.S.Store.cells c.args.self.now.inner in
    let e = window_length start len xs in
    let h : length (take len (drop start xs)) ≤ at = omega arith in
    record {
      answer = write_past o _ (take len (drop start xs)) at (sym c.asked_cell.ensures ∙ c.in_ok-asked_cell.was) h;
      cells = after_past o (take len (drop start xs)) at h;
      place = refl;
      others = λ k _. refl;
      made = λ e. absurd (err_not_ok e);
      codes = λ k v. refl;
    }

pub returns : goal.returns
returns g c =
    let o = asked g.R.Record.made c.args.cell.now in
    let at = c.args.at in
    let s = c.args.self.now in
    let start = s.start in
    let len = s.len in
    let xs = g.S.Store.cells s.inner in
    let w = c.write.ensures in
    let t = c.write.new.self in
    let e = window_length start len xs in
    let k : at < length (take len (drop start xs)) = omega arith in
    let h : start + at < length xs = omega arith in
    let m : at < len = omega arith in
    record {
      answer = w.answer ∙ write_same o xs (take len (drop start xs)) (start + at) at h k;
      cells =
          ap (λ zs. take len (drop start zs)) w.cells
          ∙ ap (take len) (after_drop o start xs at)
          ∙ after_take o len (drop start xs) at;
      place =
          let p : take start (g.S.Store.cells t) ≡ take start xs =
          ap (take start) w.cells ∙ after_before o start xs (start + at) (omega arith) in
          let q : drop (start + len) (g.S.Store.cells t) ≡ drop (start + len) xs =
          ap (drop (start + len)) w.cells ∙ after_behind o (start + len) xs (start + at) (omega arith) in
          let r = w.place in
          cc;
      others = λ k q. w.others (start + k) (λ z. q (omega arith));
      made = λ q. w.made q ∙ ap (g.S.Store.code s.inner (start + at)) (window_get start len (g.S.Store.cells t) at m);
      codes = λ k v. w.codes (start + k) v;
    }

pub overflow_add-self : goal.overflow_add-self
overflow_add-self g c =
    let e = window_length c.args.self.now.start c.args.self.now.len (g.S.Store.cells c.args.self.now.inner) in
    omega arith
