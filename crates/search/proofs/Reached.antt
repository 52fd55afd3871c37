-- An edge of the search to a bucket that was not seen before.
use Rattle.std.proofs.Common.{◌≡◌, ℕ, zero, suc, ◌+◌, ◌*◌, ◌<◌, false, ◌≢◌, List, length, get_or, set, sym, ap, ◌∙◌, subst, ⊎_elim, arith}
use Rattle.std.proofs.lemmas.List.{get_or-set_same}
use Rattle.std.proofs.lemmas.Bool.{cases_lt}
use Rattle.search.specs.Nets.{Net, Trail}
use Rattle.search.specs.Marks.{begun, reached, Marks, Lined}
use Rattle.search.specs.Searches.{Nearest}
use Rattle.search.proofs.Depths.{put, put_same, put_other}
use Rattle.search.proofs.Firsts.{Cover, came_at, apart, stays, marks_more, started_more, cover_more, queue_old, lined_more}
use Rattle.search.proofs.Seeds.{lined_room}
use Rattle.search.proofs.Turns.{Bfs, Within, layers}

-- the way back from a bucket at depth d has d steps
trail_of : (n : Net) (start : ℕ → ℕ) (came : List ℕ) (depth : ℕ → ℕ) → Marks n start came depth → (d x : ℕ) → x < n.size → get_or came x 0 ≢ 0 → depth x ≡ d → Trail n came d x
trail_of n start came depth ms zero x xn h e =
    elim (ms x xn h) [ begun r m d ↦ m | reached p b s d ↦ absurd (omega arith) ]
trail_of n start came depth ms (suc d) x xn h e =
    elim (ms x xn h) [ begun r m f ↦ absurd (omega arith) | reached p b s f ↦ (p, b, trail_of n start came depth ms d p b.inside s (omega arith)) ]

module _ (n : Net) (start : ℕ → ℕ) (came queue : List ℕ) (head tail slot way : ℕ) (b : Bfs n start came queue head tail slot way) (sd : Within n) (ht : head < tail) (sl : slot < n.cells) (wl : way < n.choices) (q v : ℕ) (qe : n.next (get_or queue head 0) slot way ≡ q) (ve : v ≡ 2 + (get_or queue head 0 * n.cells + slot)) (qn : q < n.size) (ql : q < length came) (z : get_or came q 0 ≡ 0) where
  vn : v ≢ 0
  vn e = omega arith

  depth' : ℕ → ℕ
  depth' = put b.depth q (suc (b.depth (get_or queue head 0)))

  same : (x : ℕ) → x ≢ q → depth' x ≡ b.depth x
  unfolding depth'
  same x ne = put_other b.depth q _ x ne

  at_q : depth' q ≡ suc (b.depth (get_or queue head 0))
  unfolding depth'
  at_q = put_same b.depth q _

  at_p : depth' (get_or queue head 0) ≡ b.depth (get_or queue head 0)
  at_p = same _ (apart n came q v qn ql z vn _ (b.lined.seen head ht))

  marks' : Marks n start (set came q v) depth'
  marks' = marks_more n came q v qn ql z vn b.depth depth' same start b.marks
      (reached (get_or queue head 0)
      (record { edge = record { slot = slot; choice = way; slot_in = sl; choice_in = wl; leads = qe }; inside = b.lined.buckets head ht; says = came_at n came q v qn ql z vn ∙ ve })
      (stays n came q v qn ql z vn _ (b.lined.seen head ht))
      (at_q ∙ ap suc (sym at_p)))

  -- an edge to a bucket with room, not seen before
  pub bfs_found : ((k : ℕ) → k < n.choices → start k < n.size) → Nearest n start (set came q v) q
  bfs_found ri = record {
    inside = qn;
    steps = suc (b.depth (get_or queue head 0));
    short = let a = b.lined.low head ht in let r = lined_room n came queue tail b.depth b.lined q qn ql z in omega arith;
    ones = λ x xn e. elim (marks' x xn (λ k. omega arith)) [ begun r m d ↦ r | reached p k s d ↦ (let y = k.says in absurd (omega arith)) ];
    trail = trail_of n start (set came q v) depth' marks' _ q qn (λ e. vn (sym (came_at n came q v qn ql z vn) ∙ e)) at_q;
    layered = layers n start came queue head tail slot way b sd ri ht;
  }

  -- an edge to a full bucket, not seen before
  module _ (tl : tail < length queue) (full : n.room q ≡ false) where
    old : (i : ℕ) → i < tail → get_or (set queue tail q) i 0 ≡ get_or queue i 0
    old = queue_old n came q v qn ql z vn b.depth depth' same queue tail tl b.lined

    lined' : Lined n (set came q v) (set queue tail q) (tail + 1) depth'
    lined' = lined_more n came q v qn ql z vn b.depth depth' same queue tail tl b.lined full
        (λ i l. let a = b.near ht i l in let e = at_q in omega arith)
        (let a = b.lined.low head ht in let e = at_q in omega arith)

    cover' : (i s w : ℕ) → i < tail → Cover n came b.depth (get_or queue i 0) s w → Cover n (set came q v) depth' (get_or (set queue tail q) i 0) s w
    cover' i s w l c = subst (λ y. Cover n (set came q v) depth' y s w) (sym (old i l))
        (cover_more n came q v qn ql z vn b.depth depth' same (get_or queue i 0) s w (b.lined.seen i l) c)

    pub bfs_push : Bfs n start (set came q v) (set queue tail q) head (tail + 1) slot (way + 1)
    bfs_push = record {
      depth = depth';
      marks = marks';
      lined = lined';
      started = started_more n came q v qn ql z vn b.depth depth' same start n.choices b.started;
      near = λ h j l.
          let hd : depth' (get_or (set queue tail q) head 0) ≡ b.depth (get_or queue head 0) = ap depth' (old head ht) ∙ at_p in
          ⊎_elim
          (λ jt. let a = b.near ht j jt in
          let e : depth' (get_or (set queue tail q) j 0) ≡ b.depth (get_or queue j 0) = ap depth' (old j jt) ∙ same _ (apart n came q v qn ql z vn _ (b.lined.seen j jt)) in omega arith)
          (λ tj. let e : j ≡ tail = omega arith in
          let f : depth' (get_or (set queue tail q) j 0) ≡ depth' q = ap (λ y. depth' (get_or (set queue tail q) y 0)) e ∙ ap depth' (get_or-set_same queue tail q 0 tl) in
          let g = at_q in omega arith)
          (cases_lt j tail);
      done = λ i l s w sl' wl'. cover' i s w (omega arith) (b.done i l s w sl' wl');
      rows = λ s w sl' wl'. cover' head s w ht (b.rows s w sl' wl');
      row = λ w wl'. ⊎_elim
          (λ l. cover' head slot w ht (b.row w l))
          (λ g. let e : w ≡ way = omega arith in
          let t : n.next (get_or (set queue tail q) head 0) slot w ≡ q = ap (λ y. n.next (get_or (set queue tail q) head 0) slot y) e ∙ ap (λ y. n.next y slot way) (old head ht) ∙ qe in
          let hd : depth' (get_or (set queue tail q) head 0) ≡ b.depth (get_or queue head 0) = ap depth' (old head ht) ∙ at_p in
          let dq = ap depth' t in let dv = at_q in
          ((λ y. vn (sym (came_at n came q v qn ql z vn) ∙ ap (λ j. get_or (set came q v) j 0) (sym t) ∙ y)), omega arith))
          (cases_lt w way);
    }
