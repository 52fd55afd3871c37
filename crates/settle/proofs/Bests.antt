-- The own bucket with most room, choice by choice; and what it means to settle there.
use Rattle.std.proofs.Common.{◌≡◌, ℕ, ◌+◌, ◌*◌, ◌%◌, ◌<◌, ◌≤◌, true, [], Some, None, sym, refl, ap, ◌∙◌, subst, ⊎_elim, arith}
use Rattle.std.proofs.lemmas.Option.{same_Some}
use Rattle.std.proofs.lemmas.Nat.{div-add-mod', div-mul-add, mod_below}
use Rattle.std.proofs.lemmas.Bool.{cases_lt}
use Rattle.records.specs.declared.numbers.Words.{Words}
use Rattle.rules.specs.Placements.{Placement, Direct, Lawful, vacant}
use Rattle.rules.specs.Reach.{Layers}
use Rattle.placing.specs.declared.looks.Gap.{Gap}
use Rattle.placing.specs.Looks.{Gapped, HasWords, NotIn}
use Rattle.placing.proofs.Contents.{cell_in}
use Rattle.settle.specs.Surveys.{Absent, Best, FoundAt, Surveyed}

module _ {R : Type 0} (f : Placement R) (v : ℕ) where
  module _ (n : ℕ) (g h : Gap) (b : Best f v n g) (k : Gapped f (f.lies v n) h) where
    here : (i : ℕ) → i < n + 1 → n ≤ i → vacant f (f.lies v i) ≡ h.count
    here i l m = let e : i ≡ n = omega arith in ap (λ j. vacant f (f.lies v j)) e ∙ sym k.count

    pub best_more : g.count < h.count → Best f v (n + 1) h
    best_more l = record {
      most = λ i il. ⊎_elim (λ x. let m = b.most i x in omega arith) (λ x. let e = here i il x in omega arith) (cases_lt i n);
      chosen = λ p. record { choice = n; below = omega arith; count = k.count; earliest = λ i il. let m = b.most i il in omega arith; lowest = k.lowest p };
    }

    pub best_keep : h.count ≤ g.count → Best f v (n + 1) g
    best_keep l = record {
      most = λ i il. ⊎_elim (λ x. b.most i x) (λ x. let e = here i il x in omega arith) (cases_lt i n);
      chosen = λ p.
          let c = b.chosen p in
          record { choice = c.choice; below = let x = c.below in omega arith; count = c.count; earliest = c.earliest; lowest = c.lowest };
    }

  -- a bucket with room
  pub direct : (g : Gap) → Best f v f.choices g → 0 < g.count → Direct f v g.cell []
  direct g b p =
      let c = b.chosen p in
      let e = c.count in
      record {
        choice = c.choice;
        below = c.below;
        room = omega arith;
        most = λ i il. let m = b.most i il in omega arith;
        earliest = λ i il. let m = c.earliest i il in omega arith;
        lowest = c.lowest;
        alone = refl;
      }

  -- it is there
  pub direct_below : Lawful f → (g : Gap) → Best f v f.choices g → 0 < g.count → g.cell < f.size * f.cells
  direct_below law g b p =
      let c = b.chosen p in
      let l = law.some_cells in
      let m = mod_below g.cell f.cells (omega arith) in
      let i = cell_in f law (f.lies v c.choice) (g.cell % f.cells) (law.inside v c.choice c.below) m in
      let e : f.lies v c.choice * f.cells + g.cell % f.cells ≡ g.cell =
      ap (λ y. y * f.cells + g.cell % f.cells) (sym c.lowest.within) ∙ div-add-mod' g.cell f.cells in
      let b = i.1 in omega arith

  -- all are full
  pub all_full : (g : Gap) → Best f v f.choices g → g.count ≤ 0 → (i : ℕ) → i < f.choices → vacant f (f.lies v i) ≡ 0
  all_full g b z i il = let m = b.most i il in omega arith

  -- no moves are none too many
  pub no_layers : Layers f v 0
  no_layers = record {
    set = λ d p. true;
    first = λ i il. refl;
    grows = λ d p l e. refl;
    next = λ d l c r e h i il. refl;
    full = λ d l. absurd (omega arith);
  }

module _ {R : Type 0} (f : Placement R) (law : Lawful f) (w : Words) where
  pub absent : ((i : ℕ) → i < f.choices → NotIn f (f.lies (f.hash w) i) w) → Absent f w
  absent h c (i, il, e) k =
      let l = law.some_cells in
      let d : f.lies (f.hash w) i * f.cells + c % f.cells ≡ c = ap (λ y. y * f.cells + c % f.cells) e ∙ div-add-mod' c f.cells in
      h i il (c % f.cells) (mod_below c f.cells (omega arith)) (subst (λ y. HasWords f y w) (sym d) k)

  pub found : (i s : ℕ) → i < f.choices → s < f.cells → HasWords f (f.lies (f.hash w) i * f.cells + s) w → (c : ℕ) × FoundAt f w c
  found i s il sl k = (
    f.lies (f.hash w) i * f.cells + s,
    record {
      own = (i, il, sym (div-mul-add (f.lies (f.hash w) i) f.cells s sl));
      has = k;
      below = (cell_in f law (f.lies (f.hash w) i) s (law.inside (f.hash w) i il) sl).1;
    },
  )

  module _ (v : ℕ) (e : v ≡ f.hash w) where
    -- the key lies in the bucket of choice i
    pub surveyed_none : (i : ℕ) → i < f.choices → (s : ℕ) × (s < f.cells) × HasWords f (f.lies v i * f.cells + s) w → Surveyed f w None
    surveyed_none i il (s, sl, k) = record {
      there = λ x. found i s il sl (subst (λ y. HasWords f (f.lies y i * f.cells + s) w) e k);
      best = λ g x. cc;
      absent = λ g x. cc;
    }

    pub surveyed_some : (g : Gap) (n : ℕ) → f.choices ≡ n → Best f v n g → ((i : ℕ) → i < n → NotIn f (f.lies v i) w) → Surveyed f w (Some g)
    surveyed_some g n m b h = record {
      there = λ x. cc;
      best = λ y x. subst (Best f (f.hash w) f.choices) (same_Some g y x) (subst (λ u. Best f u f.choices g) e (subst (λ k. Best f v k g) (sym m) b));
      absent = λ y x. absent (λ i il. subst (λ u. NotIn f (f.lies u i) w) e (h i (omega arith)));
    }
