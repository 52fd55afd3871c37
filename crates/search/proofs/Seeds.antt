-- The starts of the search, one choice at a time.
use Rattle.std.proofs.Common.{◌≡◌, ℕ, ◌+◌, ◌<◌, ◌≤◌, false, ◌≢◌, List, length, get_or, set, sym, refl, ap, ◌∙◌, subst, ⊎_elim, arith}
use Rattle.std.proofs.lemmas.Bool.{cases_lt}
use Rattle.search.specs.Nets.{Net}
use Rattle.search.specs.Marks.{begun, Lined, Seeded}
use Rattle.search.proofs.Zeros.{zeros_all, zeros_set}
use Rattle.search.proofs.Firsts.{came_at, lined_more, marks_more, started_more}

pub lined_room : (n : Net) (came queue : List ℕ) (tail : ℕ) (depth : ℕ → ℕ) → Lined n came queue tail depth → (q : ℕ) → q < n.size → q < length came → get_or came q 0 ≡ 0 → tail < n.size
lined_room n came queue tail depth lined q qn ql z =
    let r = zeros_set n.size came q 1 qn ql z (λ e. omega arith) in
    let f = lined.filled in omega arith

pub seeded_none : (n : Net) (start : ℕ → ℕ) (came queue : List ℕ) → n.size ≤ length came → ((q : ℕ) → q < n.size → get_or came q 0 ≡ 0) → Seeded n start came queue 0 0
seeded_none n start came queue l h = record {
  marks = λ x xn k. absurd (k (h x xn));
  lined = record {
    filled = let z = zeros_all n.size came l h in omega arith;
    buckets = λ i k. absurd (omega arith);
    seen = λ i k. absurd (omega arith);
    shut = λ i k. absurd (omega arith);
    kept = λ x xn k. absurd (k (h x xn));
    rising = λ i j ij k. absurd (omega arith);
    low = λ i k. absurd (omega arith);
  };
  started = λ k l. absurd (omega arith);
}

module _ (n : Net) (start : ℕ → ℕ) (came queue : List ℕ) (m tail : ℕ) (st : Seeded n start came queue m tail) where
  pub seeded_skip : get_or came (start m) 0 ≢ 0 → Seeded n start came queue (m + 1) tail
  seeded_skip h = record {
    marks = st.marks;
    lined = st.lined;
    started = λ k l. ⊎_elim
        (λ km. st.started k km)
        (λ mk. let e : k ≡ m = omega arith in (subst (λ j. get_or came (start j) 0 ≢ 0) (sym e) h, refl))
        (cases_lt k m);
  }

  pub seeded_push : (q : ℕ) → start m ≡ q → m < n.choices → q < n.size → q < length came → get_or came q 0 ≡ 0 → tail < length queue → n.room q ≡ false → Seeded n start (set came q 1) (set queue tail q) (m + 1) (tail + 1)
  seeded_push q e ml qn ql z tl full =
      let vn : ◌≢◌ {A = ℕ} 1 0 = λ k. omega arith in
      let old = started_more n came q 1 qn ql z vn (λ _. 0) (λ _. 0) (λ x ne. refl) start m st.started in
      record {
        marks = marks_more n came q 1 qn ql z vn (λ _. 0) (λ _. 0) (λ x ne. refl) start st.marks
            (begun (m, ml, e) (came_at n came q 1 qn ql z vn) refl);
        lined = lined_more n came q 1 qn ql z vn (λ _. 0) (λ _. 0) (λ x ne. refl) queue tail tl st.lined full (λ i l. omega arith) (omega arith);
        started = λ k l. ⊎_elim
            (λ km. old k km)
            (λ mk. let f : k ≡ m = omega arith in
            let a : start k ≡ q = ap (λ j. start j) f ∙ e in
            ((λ y. vn (sym (came_at n came q 1 qn ql z vn) ∙ ap (λ j. get_or (set came q 1) j 0) (sym a) ∙ y)), refl))
            (cases_lt k m);
      }
