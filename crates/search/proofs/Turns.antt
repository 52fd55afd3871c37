-- The search, edge by edge: what it keeps, and what it knows when all is done.
use Rattle.std.proofs.Common.{◌≡◌, ℕ, suc, ◌+◌, ◌<◌, ◌≤◌, false, ◌≢◌, List, get_or, sym, ap, subst, ⊎_elim, arith}
use Rattle.std.proofs.lemmas.Bool.{cases_lt}
use Rattle.search.specs.Nets.{Net}
use Rattle.search.specs.Marks.{Marks, Lined, Started}
use Rattle.search.specs.Searches.{Layered}
use Rattle.search.proofs.Firsts.{Cover}
use Rattle.search.proofs.Depths.{member, member_in, member_out}

-- the search at the entry `head` of the queue, at its edge by `slot` and `choice`
pub record Bfs (n : Net) (start : ℕ → ℕ) (came queue : List ℕ) (head tail slot choice : ℕ) : Type 0 where
  pub depth : ℕ → ℕ
  pub marks : Marks n start came depth
  pub lined : Lined n came queue tail depth
  pub started : Started start came depth n.choices
  pub near : head < tail → (j : ℕ) → j < tail → depth (get_or queue j 0) ≤ suc (depth (get_or queue head 0))
  pub done : (i : ℕ) → i < head → (s w : ℕ) → s < n.cells → w < n.choices → Cover n came depth (get_or queue i 0) s w
  pub rows : (s w : ℕ) → s < slot → w < n.choices → Cover n came depth (get_or queue head 0) s w
  pub row : (w : ℕ) → w < choice → Cover n came depth (get_or queue head 0) slot w

-- edges lead to buckets that there are
abbrev pub Within : Net → Type 0
Within n = (p s i : ℕ) → p < n.size → s < n.cells → i < n.choices → n.next p s i < n.size

module _ (n : Net) (start : ℕ → ℕ) (came queue : List ℕ) (head tail slot way : ℕ) (b : Bfs n start came queue head tail slot way) where
  pub bfs_row : n.choices ≤ way → Bfs n start came queue head tail (slot + 1) 0
  bfs_row all = record {
    depth = b.depth;
    marks = b.marks;
    lined = b.lined;
    started = b.started;
    near = b.near;
    done = b.done;
    rows = λ s w sl wl. ⊎_elim
        (λ l. b.rows s w l wl)
        (λ g. let e : s ≡ slot = omega arith in
        subst (λ t. Cover n came b.depth (get_or queue head 0) t w) (sym e) (b.row w (omega arith)))
        (cases_lt s slot);
    row = λ w wl. absurd (omega arith);
  }

  pub bfs_turn : n.cells ≤ slot → head < tail → Bfs n start came queue (head + 1) tail 0 0
  bfs_turn all ht = record {
    depth = b.depth;
    marks = b.marks;
    lined = b.lined;
    started = b.started;
    near = λ h j l. let a = b.near ht j l in let r = b.lined.rising head (head + 1) (omega arith) h in omega arith;
    done = λ i l s w sl wl. ⊎_elim
        (λ k. b.done i k s w sl wl)
        (λ k. let e : i ≡ head = omega arith in
        subst (λ j. Cover n came b.depth (get_or queue j 0) s w) (sym e) (b.rows s w (omega arith) wl))
        (cases_lt i head);
    rows = λ s w sl wl. absurd (omega arith);
    row = λ w wl. absurd (omega arith);
  }

  pub bfs_edge : Cover n came b.depth (get_or queue head 0) slot way → Bfs n start came queue head tail slot (way + 1)
  bfs_edge c = record {
    depth = b.depth;
    marks = b.marks;
    lined = b.lined;
    started = b.started;
    near = b.near;
    done = b.done;
    rows = b.rows;
    row = λ w wl. ⊎_elim
        (λ l. b.row w l)
        (λ g. let e : w ≡ way = omega arith in
        subst (λ t. Cover n came b.depth (get_or queue head 0) slot t) (sym e) c)
        (cases_lt w way);
  }

  -- an edge to a bucket that is seen
  pub bfs_skip : Within n → head < tail → slot < n.cells → way < n.choices → get_or came (n.next (get_or queue head 0) slot way) 0 ≢ 0 → Bfs n start came queue head tail slot (way + 1)
  bfs_skip sd ht sl wl h =
      let xn = sd (get_or queue head 0) slot way (b.lined.buckets head ht) sl wl in
      let k = b.lined.kept (n.next (get_or queue head 0) slot way) xn h in
      let a = b.near ht k.0 k.1 in
      let e = ap b.depth k.2 in
      bfs_edge (h, omega arith)

  -- what lies less deep than the queue's next but one layer
  pub layers : Within n → ((k : ℕ) → k < n.choices → start k < n.size) → head < tail → Layered n start (suc (b.depth (get_or queue head 0)))
  layers sd ri ht = record {
    set = member n.size came b.depth;
    starts = λ k kl. let s = b.started k kl in let z = s.1 in member_in n.size came b.depth 0 _ (ri k kl) s.0 (omega arith);
    grows = λ d p dl e. let o = member_out n.size came b.depth d p e in let z = o.2 in member_in n.size came b.depth (suc d) p o.0 o.1 (omega arith);
    next = λ d dl p s w sl wl e.
        let o = member_out n.size came b.depth d p e in
        let k = b.lined.kept p o.0 o.1 in
        let dk = ap b.depth k.2 in
        let od = o.2 in
        let lt : k.0 < head = ⊎_elim (λ l. l) (λ g. let r = b.lined.rising head k.0 g k.1 in absurd (omega arith)) (cases_lt k.0 head) in
        let c = b.done k.0 lt s w sl wl in
        let nx : n.next (get_or queue k.0 0) s w ≡ n.next p s w = ap (λ y. n.next y s w) k.2 in
        let dx = ap b.depth nx in
        let cd = c.1 in
        member_in n.size came b.depth (suc d) (n.next p s w) (sd p s w o.0 sl wl) (subst (λ y. get_or came y 0 ≢ 0) nx c.0) (omega arith);
    full = λ d dl p e.
        let o = member_out n.size came b.depth d p e in
        let k = b.lined.kept p o.0 o.1 in
        (o.0, subst (λ y. n.room y ≡ false) k.2 (b.lined.shut k.0 k.1));
  }
