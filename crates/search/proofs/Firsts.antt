-- A bucket q is seen for the first time, marked v, at the depth that depth' gives it.
use Rattle.std.proofs.Common.{◌≡◌, ℕ, suc, ◌+◌, ◌<◌, ◌≤◌, false, ◌≢◌, List, length, get_or, set, sym, ap, ◌∙◌, subst, ⊎_elim, arith}
use Rattle.std.proofs.lemmas.List.{get_or-set_same, get_or-set_other}
use Rattle.std.proofs.lemmas.Bool.{cases_eq, cases_lt}
use Rattle.search.specs.Nets.{Net, Back}
use Rattle.search.specs.Marks.{Mark, begun, reached, Marks, Lined, Started}
use Rattle.search.proofs.Zeros.{zeros_set}

-- the edge of p by s and i leads to a bucket that is seen, and at most one deeper
abbrev pub Cover : Net → List ℕ → (ℕ → ℕ) → ℕ → ℕ → ℕ → Type 0
Cover n came depth p s i = (get_or came (n.next p s i) 0 ≢ 0) × (depth (n.next p s i) ≤ suc (depth p))

module _ (n : Net) (came : List ℕ) (q v : ℕ) (qn : q < n.size) (ql : q < length came) (z : get_or came q 0 ≡ 0) (vn : v ≢ 0) where
  pub came_at : get_or (set came q v) q 0 ≡ v
  came_at = get_or-set_same came q v 0 ql

  -- what is seen is not q, keeps its mark, and stays seen
  pub apart : (x : ℕ) → get_or came x 0 ≢ 0 → x ≢ q
  apart x h e = h (ap (λ y. get_or came y 0) e ∙ z)

  keeps : (x : ℕ) → x ≢ q → get_or (set came q v) x 0 ≡ get_or came x 0
  keeps x ne = get_or-set_other came q x v 0 ne

  pub stays : (x : ℕ) → get_or came x 0 ≢ 0 → get_or (set came q v) x 0 ≢ 0
  stays x h e = h (sym (keeps x (apart x h)) ∙ e)

  was : (x : ℕ) → x ≢ q → get_or (set came q v) x 0 ≢ 0 → get_or came x 0 ≢ 0
  was x ne h e = h (keeps x ne ∙ e)

  module _ (depth depth' : ℕ → ℕ) (same : (x : ℕ) → x ≢ q → depth' x ≡ depth x) where
    back_more : (p x : ℕ) → x ≢ q → Back n came p x → Back n (set came q v) p x
    back_more p x ne b = record { edge = b.edge; inside = b.inside; says = keeps x ne ∙ b.says }

    mark_more : (start : ℕ → ℕ) (x : ℕ) → x ≢ q → Mark n start came depth x → Mark n start (set came q v) depth' x
    mark_more start x ne (begun r m d) = begun r (keeps x ne ∙ m) (same x ne ∙ d)
    mark_more start x ne (reached p b s d) =
        reached p (back_more p x ne b) (stays p s) (same x ne ∙ d ∙ ap suc (sym (same p (apart p s))))

    pub marks_more : (start : ℕ → ℕ) → Marks n start came depth → Mark n start (set came q v) depth' q → Marks n start (set came q v) depth'
    marks_more start ms new x xn h = ⊎_elim
        (λ e. subst (λ y. Mark n start (set came q v) depth' y) (sym e) new)
        (λ ne. mark_more start x ne (ms x xn (was x ne h)))
        (cases_eq x q)

    pub started_more : (start : ℕ → ℕ) (m : ℕ) → Started start came depth m → Started start (set came q v) depth' m
    started_more start m st k km =
        let a = (st k km).0 in (stays _ a, same _ (apart _ a) ∙ (st k km).1)

    pub cover_more : (p s w : ℕ) → get_or came p 0 ≢ 0 → Cover n came depth p s w → Cover n (set came q v) depth' p s w
    cover_more p s w h c =
        let a = same _ (apart _ c.0) in
        let b = same p (apart p h) in
        let d = c.1 in (stays _ c.0, omega arith)

    module _ (queue : List ℕ) (tail : ℕ) (tl : tail < length queue) (lined : Lined n came queue tail depth) where
      queue_at : get_or (set queue tail q) tail 0 ≡ q
      queue_at = get_or-set_same queue tail q 0 tl

      pub queue_old : (i : ℕ) → i < tail → get_or (set queue tail q) i 0 ≡ get_or queue i 0
      queue_old i l = get_or-set_other queue tail i q 0 (λ e. omega arith)

      depth_old : (i : ℕ) → i < tail → depth' (get_or (set queue tail q) i 0) ≡ depth (get_or queue i 0)
      depth_old i l = ap depth' (queue_old i l) ∙ same _ (apart _ (lined.seen i l))

      -- a fact of each entry: it holds of the old ones, and of q
      each : (P : ℕ → Type 0) → ((i : ℕ) → i < tail → P (get_or queue i 0)) → P q → (i : ℕ) → i < tail + 1 → P (get_or (set queue tail q) i 0)
      each P old new i l = ⊎_elim
          (λ it. subst P (sym (queue_old i it)) (old i it))
          (λ ti. let e : i ≡ tail = omega arith in subst (λ j. P (get_or (set queue tail q) j 0)) (sym e) (subst P (sym queue_at) new))
          (cases_lt i tail)

      pub lined_more : n.room q ≡ false → ((i : ℕ) → i < tail → depth (get_or queue i 0) ≤ depth' q) → depth' q ≤ tail → Lined n (set came q v) (set queue tail q) (tail + 1) depth'
      lined_more full top deep = record {
        filled = let r = zeros_set n.size came q v qn ql z vn in let f = lined.filled in omega arith;
        buckets = each (λ x. x < n.size) lined.buckets qn;
        seen = each (λ x. get_or (set came q v) x 0 ≢ 0) (λ i l. stays _ (lined.seen i l)) (λ e. vn (sym came_at ∙ e));
        shut = each (λ x. n.room x ≡ false) lined.shut full;
        kept = λ x xn h. ⊎_elim
            (λ e. (tail, omega arith, queue_at ∙ sym e))
            (λ ne. let k = lined.kept x xn (was x ne h) in (k.0, omega (arith, k.1), queue_old k.0 k.1 ∙ k.2))
            (cases_eq x q);
        rising = λ i j ij l. ⊎_elim
            (λ jt. let it : i < tail = omega arith in
            let a = depth_old i it in let b = depth_old j jt in let r = lined.rising i j ij jt in omega arith)
            (λ tj. let e : j ≡ tail = omega arith in
            let b : depth' (get_or (set queue tail q) j 0) ≡ depth' q = ap (λ y. depth' (get_or (set queue tail q) y 0)) e ∙ ap depth' queue_at in
            ⊎_elim
            (λ it. let a = depth_old i it in let t = top i it in omega arith)
            (λ ti. let f : i ≡ tail = omega arith in
            let a : depth' (get_or (set queue tail q) i 0) ≡ depth' q = ap (λ y. depth' (get_or (set queue tail q) y 0)) f ∙ ap depth' queue_at in omega arith)
            (cases_lt i tail))
            (cases_lt j tail);
        low = λ i l. ⊎_elim
            (λ it. let a = depth_old i it in let b = lined.low i it in omega arith)
            (λ ti. let e : i ≡ tail = omega arith in
            let b : depth' (get_or (set queue tail q) i 0) ≡ depth' q = ap (λ y. depth' (get_or (set queue tail q) y 0)) e ∙ ap depth' queue_at in omega arith)
            (cases_lt i tail);
      }
