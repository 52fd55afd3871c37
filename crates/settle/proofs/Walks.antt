-- The walk back along the way of the search, cell by cell.
use Rattle.std.specs.Prelude.{Some, None, Option}
use Rattle.std.proofs.Common.{◌≡◌, ℕ, zero, suc, ◌+◌, ◌-◌, ◌*◌, ◌/◌, ◌%◌, ◌<◌, ◌≤◌, ◌≢◌, List, [], ◌∷◌, length, get_or, set, sym, refl, ap, ◌∙◌, subst, inl, inr, arith}
use Rattle.std.proofs.lemmas.Nat.{div-add-mod', mul-add-lt}
use Rattle.std.proofs.lemmas.List.{get_or-set_other, get_or-set_same, length-set}
use Rattle.assignment.specs.Assign.{In}
use Rattle.stores.specs.Makings.{Raw}
use Rattle.rules.specs.Placements.{Placement, Apart, Lawful, LowestEmpty, Path, handed, word}
use Rattle.rules.specs.Written.{Wrote}
use Rattle.rules.proofs.Handings.{in_place}
use Rattle.placing.specs.Held.{led, with_held}
use Rattle.placing.proofs.Contents.{led_away}
use Rattle.search.specs.Nets.{Trail, net_of}
use Rattle.settle.specs.declared.spot.Spot.{Spot}
use Rattle.settle.specs.Rooms.{Walked}
use Rattle.settle.proofs.Ranks.{Onward, onward, rank, rank_is, rank_le}

-- no cell is written
pub wrote_none : {N R : Type 0} (code : ℕ → Option R → Raw N) (raw : ℕ → Raw N) (held : List (Option R)) → Wrote code raw raw held (λ c. ⊥)
wrote_none code raw held = record { others = λ c h. refl; made = λ c h. absurd h }

-- one more cell is written
module _ {N R : Type 0} (code : ℕ → Option R → Raw N) (raw raw' raw'' : ℕ → Raw N) (held : List (Option R)) where
  pub wrote_more :
      (cs : List ℕ) (to : ℕ) (v : Option R) → Wrote code raw raw' held (λ c. In c cs) → to < length held → (In to cs → ⊥) →
      ((k : ℕ) → (k ≡ to → ⊥) → raw'' k ≡ raw' k) → raw'' to ≡ code to v → Wrote code raw raw'' (set held to v) (λ c. In c (to ∷ cs))
  wrote_more cs to v w l out others made = record {
    others = λ c h. others c (λ e. h (inl e)) ∙ w.others c (λ i. h (inr i));
    made = λ c h. elim h [
      | inl e ↦ subst (λ k. raw'' k ≡ code k (get_or (set held to v) k None)) (sym e) (made ∙ ap (code to) (sym (get_or-set_same held to v None l)))
      | inr i ↦
          let ne : c ≡ to → ⊥ = λ e. out (subst (λ k. In k cs) e i) in
          others c ne ∙ w.made c i ∙ ap (code c) (sym (get_or-set_other held to c v None ne))
    ];
  }

-- two changes of the cells, one after the other
pub held_more :
    {R : Type 0} (f g h : Placement R) (l : List (Option R)) → g ≡ with_held f g.held → h ≡ with_held g l → (h ≡ with_held f h.held) × (h.held ≡ l)
held_more f g h l p q =
    let e : h.held ≡ l = ap (λ z. z.held) q in
    (q ∙ ap (λ z. with_held z l) p ∙ ap (λ y. with_held f y) (sym e), e)

module _ {R : Type 0} (f : Placement R) (came : List ℕ) where
  -- how far a bucket is from a start
  abbrev pub far : ℕ → ℕ
  far q = rank (net_of f) came f.size q

  -- the walk so far, from bucket q back to the cell `cell` of bucket `at`
  pub record Walking (q bucket cell moves : ℕ) (held : List (Option R)) (Wrote : (ℕ → Type 0) → Type 0) : Type 0 where
    pub rest : List ℕ
    pub left : ℕ
    pub fewer : left < f.size
    pub trail : Trail (net_of f) came left bucket
    pub inside : bucket < f.size
    pub below : cell < f.size * f.cells
    pub within : cell / f.cells ≡ bucket
    pub path : Path f (cell ∷ rest)
    pub ranks : (n : ℕ) → n < length rest → far bucket < far (get_or rest n 0 / f.cells)
    pub apart : Apart f.cells (cell ∷ rest)
    pub long : length rest ≡ moves
    pub count : moves + far bucket ≡ far q
    pub reach : length held ≡ length f.held
    pub cells : held ≡ handed rest (get_or f.held cell None) f.held
    pub fresh : (c : ℕ) → far (c / f.cells) < far bucket → get_or held c None ≡ get_or f.held c None
    pub wrote : Wrote (λ c. In c rest)

  pub walking_none :
      (q cell : ℕ) (Wrote : (ℕ → Type 0) → Type 0) → LowestEmpty f q cell → cell < f.size * f.cells → q < f.size →
      (d : ℕ) × (d < f.size) × Trail (net_of f) came d q → Wrote (λ c. ⊥) → Walking q q cell 0 f.held Wrote
  walking_none q cell Wrote low cl ql t w = record {
    rest = [];
    left = t.0;
    fewer = t.1;
    trail = t.2;
    inside = ql;
    below = cl;
    within = low.within;
    path = subst (λ y. LowestEmpty f y cell) (sym low.within) low;
    ranks = λ n l. absurd (omega arith);
    apart = ((λ n l e. omega arith), tt);
    long = refl;
    count = omega arith;
    reach = refl;
    cells = refl;
    fresh = λ c l. refl;
    wrote = w;
  }

  module _
      (law : Lawful f) (q bucket cell moves : ℕ) (held : List (Option R)) (Wrote : (ℕ → Type 0) → Type 0)
      (w : Walking q bucket cell moves held Wrote) (ne : get_or came bucket 0 ≢ 1)
    where
      o : Onward (net_of f) came bucket
      o = onward (net_of f) came w.left bucket w.fewer w.trail ne

      pub marked : 2 ≤ get_or came bucket 0
      marked = o.marked

      pub nearer : far ((get_or came bucket 0 - 2) / f.cells) < far bucket
      nearer = o.falls

      whole : (get_or came bucket 0 - 2) / f.cells * f.cells + (get_or came bucket 0 - 2) % f.cells ≡ get_or came bucket 0 - 2
      whole = div-add-mod' (get_or came bucket 0 - 2) f.cells

      pub from_below : get_or came bucket 0 - 2 < f.size * f.cells
      from_below = let m = mul-add-lt _ _ _ _ o.inside o.slot_in in let e = whole in omega arith

      apart : (get_or came bucket 0 - 2) / f.cells ≢ bucket
      apart e = let k = ap far e in let n = nearer in omega arith

      lies : (r : R) × (get_or f.held (get_or came bucket 0 - 2) None ≡ Some r) × (f.lies (word f r) o.choice ≡ bucket)
      lies =
          led_away (λ r. f.lies (word f r) o.choice) ((get_or came bucket 0 - 2) / f.cells) bucket (get_or f.held (get_or came bucket 0 - 2) None)
          (ap (λ y. led (λ r. f.lies (word f r) o.choice) ((get_or came bucket 0 - 2) / f.cells) (get_or f.held y None)) (sym whole) ∙ o.leads)
          apart

      other : (c : ℕ) → far (c / f.cells) < far bucket → c ≢ cell
      other c l e = let k = ap (λ y. far (y / f.cells)) e in let m = ap far w.within in omega arith

      ranked : (n : ℕ) → n < length (cell ∷ w.rest) → far ((get_or came bucket 0 - 2) / f.cells) < far (get_or (cell ∷ w.rest) n 0 / f.cells)
      ranked zero l = let n = nearer in let k = ap far w.within in omega arith
      ranked (suc m) l = let n = nearer in let k = w.ranks m (omega arith) in omega arith

      -- the cell that is written next is none of those that were
      pub unwritten : In cell w.rest → ⊥
      unwritten i =
          let r = in_place cell w.rest i in
          w.apart.0 r.0 r.1 (ap (λ y. y / f.cells) r.2)

      pub walking_more :
          (Wrote' : (ℕ → Type 0) → Type 0) → Wrote' (λ c. In c (cell ∷ w.rest)) →
          Walking q ((get_or came bucket 0 - 2) / f.cells) (get_or came bucket 0 - 2) (moves + 1) (set held cell (get_or held (get_or came bucket 0 - 2) None)) Wrote'
      walking_more Wrote' written = record {
        rest = cell ∷ w.rest;
        left = o.left;
        fewer = o.fewer;
        trail = o.trail;
        inside = o.inside;
        below = from_below;
        within = refl;
        path = ((lies.0, lies.1, (o.choice, o.choice_in, lies.2 ∙ sym w.within)), (λ e. apart (sym e ∙ w.within)), w.path);
        ranks = ranked;
        apart = ((λ n l e. let r = ranked n l in let k = ap far e in omega arith), w.apart);
        long = let l = w.long in omega arith;
        count = let k = o.one in let m = w.count in omega arith;
        reach = length-set held cell (get_or held (get_or came bucket 0 - 2) None) ∙ w.reach;
        cells =
            ap (λ y. set held cell y) (w.fresh (get_or came bucket 0 - 2) nearer)
            ∙ ap (λ y. set y cell (get_or f.held (get_or came bucket 0 - 2) None)) w.cells;
        fresh = λ c l. let n = nearer in get_or-set_other held cell c _ None (other c (omega arith)) ∙ w.fresh c (omega arith);
        wrote = written;
      }

  pub few_moves : (q bucket cell moves : ℕ) (held : List (Option R)) (Wrote : (ℕ → Type 0) → Type 0) → Walking q bucket cell moves held Wrote → moves ≤ f.size
  few_moves q bucket cell moves held Wrote w = let k = w.count in let r = rank_le (net_of f) came f.size q in omega arith

  pub walked :
      (q bucket : ℕ) (s : Spot) (held : List (Option R)) (Wrote : (ℕ → Type 0) → Type 0) → Walking q bucket s.cell s.moves held Wrote →
      get_or came bucket 0 ≡ 1 → (d : ℕ) → d < f.size → Trail (net_of f) came d q → Walked f came s d held Wrote
  walked q bucket s held Wrote w e d dl t =
      let a = rank_is (net_of f) came f.size 0 bucket e (omega arith) in
      let b = rank_is (net_of f) came f.size d q t (omega arith) in
      record {
        rest = w.rest;
        inside = subst (λ y. y < f.size) (sym w.within) w.inside;
        below = w.below;
        start = ap (λ y. get_or came y 0) w.within ∙ e;
        path = w.path;
        apart = w.apart;
        long = w.long;
        steps = let k = w.count in omega arith;
        cells = w.cells;
        wrote = w.wrote;
      }

  -- one step of the walk, from the placement `here` to the placement `there`
  module _ {N : Type 0} (code code' : ℕ → Option R → Raw N) (raw raw' raw'' : ℕ → Raw N) where
    pub walk_step :
        Lawful f → (q bucket cell moves : ℕ) (here there : Placement R) → here ≡ with_held f here.held →
        Walking q bucket cell moves here.held (Wrote code raw raw' here.held) → get_or came bucket 0 ≢ 1 → code' ≡ code →
        there ≡ with_held here (set here.held cell (get_or here.held (get_or came bucket 0 - 2) None)) →
        ((k : ℕ) → (k ≡ cell → ⊥) → raw'' k ≡ raw' k) → raw'' cell ≡ code' cell (get_or here.held (get_or came bucket 0 - 2) None) →
        (there ≡ with_held f there.held)
        × Walking q ((get_or came bucket 0 - 2) / f.cells) (get_or came bucket 0 - 2) (moves + 1) there.held (Wrote code raw raw'' there.held)
    walk_step law q bucket cell moves here there p w ne ce e others made =
        let x = held_more f here there (set here.held cell (get_or here.held (get_or came bucket 0 - 2) None)) p e in
        let l : cell < length here.held = let r = w.reach in let k = w.below in let h = law.reach in omega arith in
        let out = unwritten law q bucket cell moves here.held (Wrote code raw raw' here.held) w ne in
        let more = wrote_more code raw raw' raw'' here.held w.rest cell (get_or here.held (get_or came bucket 0 - 2) None) w.wrote l out others (made ∙ ap (λ k. k cell (get_or here.held (get_or came bucket 0 - 2) None)) ce) in (
          x.0,
          subst (λ h. Walking q ((get_or came bucket 0 - 2) / f.cells) (get_or came bucket 0 - 2) (moves + 1) h (Wrote code raw raw'' h)) (sym x.1)
              (walking_more law q bucket cell moves here.held (Wrote code raw raw' here.held) w ne _ more),
        )
