-- Whether a trailer is lawful can be decided, and a lawful one has a layout.
use Rattle.std.proofs.Common.{◌≡◌, ℕ, suc, ◌+◌, ◌*◌, ◌%◌, ◌^◌, ◌<◌, ◌≤◌, ◌⊎◌, List, length, drop, refl, inl, inr, arith}
use Rattle.std.proofs.lemmas.Bool.{cases_lt, cases_eq, cases_Bool, both_ways}
use Rattle.records.specs.Bytes.{all_are_lem}
use Rattle.addresses.specs.Ranges.{buckets}
use Rattle.addresses.proofs.Bounds.{x_small}
use Rattle.trailers.specs.declared.layouts.Layout.{Layout}
use Rattle.trailers.specs.Layouts.{numbers_of}
use Rattle.trailers.specs.Trailers.{Numbers, LawfulSize, Placed, LawfulTrailer, numbers_in, off}

abbrev Decided : Type 0 → Type 0
Decided A = A ⊎ (A → ⊥)

both : {A B : Type 0} → Decided A → Decided B → Decided (A × B)
both (inl a) (inl b) = inl (a, b)
both (inl a) (inr n) = inr (λ p. n p.1)
both (inr n) d = inr (λ p. n p.0)

turned : {A B : Type 0} → (A → B) → (B → A) → Decided A → Decided B
turned to from (inl a) = inl (to a)
turned to from (inr n) = inr (λ b. n (from b))

le : (m n : ℕ) → Decided (m ≤ n)
le m n = turned (λ (h : m < n + 1). let z : m ≤ n = omega arith in z) (λ h. omega arith) (elim (cases_lt m (n + 1)) [ inl h ↦ inl h | inr h ↦ inr (λ k. omega arith) ])

size_decided : (m : Numbers) → Decided (LawfulSize m)
size_decided m =
    turned (λ p. record { range = (p.0.0, p.0.1.0, p.0.1.1.0, p.0.1.1.1.0, p.0.1.1.1.1.0, p.0.1.1.1.1.1.0, p.0.1.1.1.1.1.1); floor = p.1.0; below = p.1.1.0; room = p.1.1.1 })
    (λ l. ((l.range.0, (l.range.1, (l.range.2, (l.range.3, (l.range.4, (l.range.5, l.range.6)))))), (l.floor, (l.below, l.room))))
    (both
    (both (le m.t 6) (both (le 1 m.cells) (both (le m.cells 8) (both (le 2 m.choices) (both (le m.choices 4) (both (le m.start 8) (le m.load 98)))))))
    (both (le m.start m.x) (both (le (suc m.j) (2 ^ m.t)) (le (buckets m.t m.x m.j) 16384))))

placed_decided : (len : ℕ) (m : Numbers) → Decided (Placed len m)
placed_decided len m =
    turned
    (λ p. record {
      long = p.0;
      short = p.1.0;
      kind_low = p.1.1.0;
      kind_high = p.1.1.1.0;
      family_low = p.1.1.1.1.0;
      family_high = p.1.1.1.1.1.0;
      whole = p.1.1.1.1.1.1.0;
      enough = p.1.1.1.1.1.1.1.0;
      within = p.1.1.1.1.1.1.1.1;
    })
    (λ l. (l.long, (l.short, (l.kind_low, (l.kind_high, (l.family_low, (l.family_high, (l.whole, (l.enough, l.within)))))))))
    (both (le 32 len) (both (le len (2 ^ 31)) (both (le 1 m.kind) (both (le m.kind 2) (both (le 1 m.family) (both (le m.family 2)
    (both (cases_eq (m.distance % 32) 0) (both (le (32 * (buckets m.t m.x m.j * m.cells)) m.distance) (le (m.distance + 32) len)))))))))

pub lawful_or_not : (bs : List ℕ) → LawfulTrailer bs ⊎ (LawfulTrailer bs → ⊥)
lawful_or_not bs =
    turned (λ p. record { numbers = record { size = p.0; placed = p.1.0 }; blank = p.1.1 })
    (λ l. (l.numbers.size, (l.numbers.placed, l.blank)))
    (both (size_decided (numbers_in bs))
    (both (placed_decided (length bs) (numbers_in bs))
    (elim (cases_Bool (all_are_lem 0 (drop (off bs + 18) bs))) [ inl t ↦ inl t | inr f ↦ inr (λ t. both_ways (all_are_lem 0 (drop (off bs + 18) bs)) f t) ])))

-- the layout that a lawful trailer names
pub layout_of : (bs : List ℕ) → LawfulTrailer bs → (l : Layout) × (numbers_of l ≡ numbers_in bs)
layout_of bs l =
    let m = numbers_in bs in
    let z = l.numbers.size in
    let r = z.range in (
      record {
        kind = m.kind;
        family = m.family;
        size = record {
          settings = record {
            t = m.t;
            cells = m.cells;
            choices = m.choices;
            start = m.start;
            load = m.load;
            few_subtables = r.0;
            some_cells = r.1;
            few_cells = r.2;
            two_choices = r.3;
            few_choices = r.4;
            small_start = r.5;
            load_below = r.6;
          };
          x = m.x;
          j = m.j;
          floor = z.floor;
          below = z.below;
          narrow = x_small m.t m.x m.j z.room;
          room = z.room;
        };
        distance = m.distance;
        count = m.count;
      },
      refl,
    )
