use Rattle.std.specs.Prelude.{None}
use Rattle.std.proofs.Common.{◌≡◌, ◌-◌, ◌^◌, ◌<◌, ◌≤◌, ◌++◌, length, get_or, take, sym, refl, ap, ◌∙◌, arith}
use Rattle.stores.specs.Cells.{asked}
use Rattle.stores.specs.Makings.{both}
use Rattle.stores.proofs.Rows.{length_after, err_not_ok}
use Rattle.stores.proofs.Spans.{write_same, write_past, after_past, after_take, after_left, after_right, joined_length, joined_left, joined_right, either_first, either_second, either_same}
use Rattle.stores.proofs.joined.JoinedStore.write.Goals as goal

pub returns-then-at-whole : goal.returns-then-at-whole
returns-then-at-whole g c =
    let o = asked g.R.Record.made c.args.cell.now in
    let at = c.args.at in
    let xs = g.A.Store.cells c.args.self.now.first in
    let ys = g.B.Store.cells c.args.self.now.second in
    let e = joined_length (2 ^ 40) xs ys in
    let h : length (take (2 ^ 40) (xs ++ ys)) ≤ at = omega arith in
    record {
      answer = write_past o _ (take (2 ^ 40) (xs ++ ys)) at (sym c.asked_cell.ensures ∙ c.in_ok-asked_cell.was) h;
      cells = after_past o (take (2 ^ 40) (xs ++ ys)) at h;
      place = refl;
      others = λ k _. refl;
      made = λ e. absurd (err_not_ok e);
      codes = λ k v. refl;
    }

pub returns-then-at-a : goal.returns-then-at-a
returns-then-at-a g c =
    let o = asked g.R.Record.made c.args.cell.now in
    let at = c.args.at in
    let s = c.args.self.now in
    let xs = g.A.Store.cells s.first in
    let ys = g.B.Store.cells s.second in
    let w = c.write.ensures in
    let t = c.write.new.self in
    let zs = g.A.Store.cells t in
    let e = joined_length (2 ^ 40) xs ys in
    let h : at < length xs = omega arith in
    let k : at < length (take (2 ^ 40) (xs ++ ys)) = omega arith in
    let m : at < 2 ^ 40 = omega arith in
    let n : length zs ≡ length xs = ap length w.cells ∙ length_after o xs at in
    let hz : at < length zs = omega arith in
    record {
      answer = w.answer ∙ write_same o xs (take (2 ^ 40) (xs ++ ys)) at at h k;
      cells =
          ap (λ zs. take (2 ^ 40) (zs ++ ys)) w.cells
          ∙ ap (take (2 ^ 40)) (after_left o xs ys at h)
          ∙ after_take o (2 ^ 40) (xs ++ ys) at;
      place = ap (λ p. both p (g.B.Store.place s.second)) w.place;
      others = λ k q. either_same (length xs) (length zs) (g.A.Store.raw s.first) (g.A.Store.raw t) (g.B.Store.raw s.second) (g.B.Store.raw s.second) k n (λ _. w.others k q) (λ _. refl);
      made = λ q.
          either_first (length zs) (g.A.Store.raw t) (g.B.Store.raw s.second) at hz
          ∙ w.made q
          ∙ ap (g.A.Store.code s.first at) (joined_left (2 ^ 40) zs ys at m hz)
          ∙ ap (λ f. f (get_or (take (2 ^ 40) (zs ++ ys)) at None)) (sym (either_first (length xs) (g.A.Store.code s.first) (g.B.Store.code s.second) at h));
      codes = λ k v.
          ap (λ f. f v)
          (either_same (length xs) (length zs) (g.A.Store.code s.first) (g.A.Store.code t) (g.B.Store.code s.second) (g.B.Store.code s.second) k n (λ _ i v. w.codes k v i) (λ _. refl));
    }

pub returns-else-at-a : goal.returns-else-at-a
returns-else-at-a g c =
    let o = asked g.R.Record.made c.args.cell.now in
    let at = c.args.at in
    let s = c.args.self.now in
    let xs = g.A.Store.cells s.first in
    let ys = g.B.Store.cells s.second in
    let w = c.write-else-at-a.ensures in
    let t = c.write-else-at-a.new.self in
    let zs = g.B.Store.cells t in
    let e = joined_length (2 ^ 40) xs ys in
    let n = c.length-a.result in
    let en : n ≡ length xs = c.length-a.ensures.value in
    let k : at < length (take (2 ^ 40) (xs ++ ys)) = omega arith in
    let h : at - n < length ys = omega arith in
    let l : n ≤ at = omega arith in
    let lx : length xs ≤ at = omega arith in
    let m : at < 2 ^ 40 = omega arith in
    record {
      answer = w.answer ∙ write_same o ys (take (2 ^ 40) (xs ++ ys)) (at - n) at h k;
      cells =
          ap (λ zs. take (2 ^ 40) (xs ++ zs)) w.cells
          ∙ ap (take (2 ^ 40)) (after_right o xs ys n at (sym en) l)
          ∙ after_take o (2 ^ 40) (xs ++ ys) at;
      place = ap (λ p. both (g.A.Store.place s.first) p) w.place;
      others = λ k q. either_same (length xs) (length xs) (g.A.Store.raw s.first) (g.A.Store.raw s.first) (g.B.Store.raw s.second) (g.B.Store.raw t) k refl (λ _. refl) (λ p. w.others (k - length xs) (λ z. q (omega arith)));
      made = λ q.
          either_second (length xs) (g.A.Store.raw s.first) (g.B.Store.raw t) at lx
          ∙ ap (λ n. g.B.Store.raw t (at - n)) (sym en)
          ∙ w.made q
          ∙ ap (g.B.Store.code s.second (at - n)) (joined_right (2 ^ 40) xs zs n at m (sym en) l)
          ∙ ap (λ n. g.B.Store.code s.second (at - n) (get_or (take (2 ^ 40) (xs ++ zs)) at None)) en
          ∙ ap (λ f. f (get_or (take (2 ^ 40) (xs ++ zs)) at None)) (sym (either_second (length xs) (g.A.Store.code s.first) (g.B.Store.code s.second) at lx));
      codes = λ k v.
          ap (λ f. f v)
          (either_same (length xs) (length xs) (g.A.Store.code s.first) (g.A.Store.code s.first) (g.B.Store.code s.second) (g.B.Store.code t) k refl (λ _. refl) (λ _ i v. w.codes (k - length xs) v i));
    }
