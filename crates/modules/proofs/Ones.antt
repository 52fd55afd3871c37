-- One answer only.
use Rattle.std.proofs.Common.{◌≡◌, ℕ, ◌+◌, ◌*◌, ◌<◌, Bool, ◌⊎◌, List, [], ◌∷◌, get_or, Some, None, Ok, Err, Option, Result, sym, refl, ap, ◌∙◌, subst, inl, inr, arith}
use Rattle.std.proofs.lemmas.Bool.{cases_eq, cases_order}
use Rattle.records.specs.declared.declines.Decline.{Decline}
use Rattle.records.specs.declared.numbers.Words.{Words}
use Rattle.records.specs.declared.plates.Plate.{Plate}
use Rattle.records.specs.Declines.{number}
use Rattle.records.specs.Kinds.{plate_words, tag_words}
use Rattle.records.specs.Taken.{same_decline}
use Rattle.octets.specs.Kinds.{tag_decoded, tare_decoded}
use Rattle.octets.specs.Codec.{byte_row, lawful_at}
use Rattle.rules.specs.Rows.{Row, First}
use Rattle.rules.specs.Tables.{State, used_in}
use Rattle.rules.proofs.Sounds.{same_held}
use Rattle.trailers.specs.declared.layouts.Layout.{Layout}
use Rattle.trailers.specs.Trailers.{LawfulTrailer, numbers_in}
use Rattle.trailers.proofs.Decided.{lawful_or_not, layout_of}
use Rattle.modules.specs.declared.faults.Fault.{Fault}
use Rattle.modules.specs.Checks.{AllFine, Named, Checks, faults}
use Rattle.lookup.specs.Finds.{FirstIn, FirstMatch, NoMatch}
use Rattle.modules.specs.Modules.{cells_part_lem, hash_by, in_module, words_of_tare, words_of_tag, NoTrailer, DeclinedWith, CellIs, RecordIs}
use Rattle.modules.specs.Laws.{CheckHasOneAnswer, FindHasOneAnswer, FindCellHasOneAnswer}

one_first : (rows : List Row) (n m : ℕ) → First rows n → First rows m → n ≡ m
one_first [] n m a b = a ∙ sym b
one_first (row ∷ rows) n m (inl a) (inl b) = a.1 ∙ sym b.1
one_first (row ∷ rows) n m (inl a) (inr b) = absurd (b.0 a.0)
one_first (row ∷ rows) n m (inr a) (inl b) = absurd (a.0 b.0)
one_first (row ∷ rows) n m (inr a) (inr b) = one_first rows n m a.1 b.1

module _ {R K : Type 0} (law : ℕ → Bool) (key : R → K) (words : K → Words) (hash : Words → ℕ) (s : State R) where
  -- a named cell is no fine one
  not_fine : (k n : ℕ) → Named law key words hash s (Some k) n → (b : ℕ) → AllFine law key words hash s b → k < b → ⊥
  not_fine k n h b f lt = h.2.1 (one_first (faults law key words hash s k) n 0 h.2.0 (f k lt))

  one_named : (c d : Option ℕ) (n m : ℕ) → Named law key words hash s c n → Named law key words hash s d m → (c ≡ d) × (n ≡ m)
  one_named None None n m h g = (refl, h.0 ∙ sym g.0)
  one_named None (Some k) n m h g = absurd (not_fine k m g (used_in s.size) h.1 g.0)
  one_named (Some k) None n m h g = absurd (not_fine k n h (used_in s.size) g.1 h.0)
  one_named (Some k) (Some l) n m h g =
      elim (cases_order k l) [
        | inl e ↦ (ap (λ k. Some k) e, one_first (faults law key words hash s l) n m (subst (λ k. First (faults law key words hash s k) n) e h.2.0) g.2.0)
        | inr (inl lt) ↦ absurd (not_fine k n h l g.1 lt)
        | inr (inr gt) ↦ absurd (not_fine l m g k h.1 gt)
      ]

  none_accepted : (c : Option ℕ) (n : ℕ) (u : Unit {0}) → Checks law key words hash s (Ok u) → Named law key words hash s c n → ⊥
  none_accepted None n u h g = g.2 h.1
  none_accepted (Some k) n u h g = not_fine k n g (used_in s.size) h.0 g.0

same_fault : (f g : Fault) → number f.decline ≡ number g.decline → f.cell ≡ g.cell → f ≡ g
same_fault f g n c = let d = same_decline f.decline g.decline n in λ i. record { decline = d i; cell = c i }

pub one_check : {R K : Type 0} (law : ℕ → Bool) (key : R → K) (words : K → Words) (hash : Words → ℕ) (s : State R) (r q : Result (Unit {0}) Fault) →
    Checks law key words hash s r → Checks law key words hash s q → r ≡ q
one_check law key words hash s (Ok u) (Ok v) h g = refl
one_check law key words hash s (Ok u) (Err f) h g = absurd (none_accepted law key words hash s f.cell (number f.decline) u h g)
one_check law key words hash s (Err f) (Ok v) h g = absurd (none_accepted law key words hash s f.cell (number f.decline) v g h)
one_check law key words hash s (Err f) (Err e) h g =
    let o = one_named law key words hash s f.cell e.cell (number f.decline) (number e.decline) h g in
    ap (λ f. Err f) (same_fault f e o.1 o.0)

-- a lawful trailer's kind is 1 or 2
kind_of : (bs : List ℕ) → LawfulTrailer bs → ((numbers_in bs).kind ≡ 1) ⊎ ((numbers_in bs).kind ≡ 2)
kind_of bs l =
    let low = l.numbers.placed.kind_low in
    let high = l.numbers.placed.kind_high in
    elim (cases_eq (numbers_in bs).kind 1) [ inl e ↦ inl e | inr n ↦ inr (omega arith) ]

pub no_trailers : (r q : Result (Unit {0}) Fault) → NoTrailer r → NoTrailer q → r ≡ q
no_trailers (Ok u) q a b = absurd a
no_trailers (Err f) (Ok u) a b = absurd b
no_trailers (Err f) (Err g) a b = ap (λ f. Err f) (same_fault f g (a.0 ∙ sym b.0) (a.1 ∙ sym b.1))

pub check_has_one_answer : CheckHasOneAnswer
check_has_one_answer bs r q h g =
    elim (lawful_or_not bs) [
      | inr broken ↦ no_trailers r q (h.trailer broken) (g.trailer broken)
      | inl lawful ↦
          let l = layout_of bs lawful in
          let k : l.0.kind ≡ (numbers_in bs).kind = ap (λ n. n.kind) l.1 in
          elim (kind_of bs lawful) [
            | inl one ↦ one_check {K = Plate} (lawful_at tare_decoded (cells_part_lem bs)) (λ x. x.plate) plate_words (hash_by l.0.family) (in_module tare_decoded l.0 bs) r q (h.tares lawful l.0 l.1 (k ∙ one)) (g.tares lawful l.0 l.1 (k ∙ one))
            | inr two ↦ one_check {K = ℕ} (lawful_at tag_decoded (cells_part_lem bs)) (λ x. x.tag) tag_words (hash_by l.0.family) (in_module tag_decoded l.0 bs) r q (h.tags lawful l.0 l.1 (k ∙ two)) (g.tags lawful l.0 l.1 (k ∙ two))
          ]
    ]

-- the first match
module _ (M : ℕ → Type 0) (pos : ℕ → ℕ) (H B : ℕ) where
  none_first : (c : ℕ) → NoMatch M pos H B → FirstMatch M pos H B c → ⊥
  none_first c none h = none h.choice h.below c h.first.low h.first.high h.first.here

  one_in : (from end c d : ℕ) → FirstIn M from end c → FirstIn M from end d → c ≡ d
  one_in from end c d h g =
      elim (cases_order c d) [
        | inl e ↦ e
        | inr (inl lt) ↦ absurd (g.before c h.low lt h.here)
        | inr (inr gt) ↦ absurd (h.before d g.low gt g.here)
      ]

  pub one_match : (c d : ℕ) → FirstMatch M pos H B c → FirstMatch M pos H B d → c ≡ d
  one_match c d h g =
      elim (cases_order h.choice g.choice) [
        | inl e ↦ one_in (pos g.choice * B) (pos g.choice * B + B) c d (subst (λ i. FirstIn M (pos i * B) (pos i * B + B) c) e h.first) g.first
        | inr (inl lt) ↦ absurd (g.others h.choice lt c h.first.low h.first.high h.first.here)
        | inr (inr gt) ↦ absurd (h.others g.choice gt d g.first.low g.first.high g.first.here)
      ]

declined_same : {X : Type 0} (n : ℕ) (r q : Result X Decline) → DeclinedWith n r → DeclinedWith n q → r ≡ q
declined_same n (Ok x) q a b = absurd a
declined_same n (Err d) (Ok x) a b = absurd b
declined_same n (Err d) (Err e) a b = ap (λ d. Err d) (same_decline d e (a ∙ sym b))

one_cell : {R : Type 0} (D : List ℕ → Option R) (words : R → Words) (bs : List ℕ) (w : Words) (l : Layout) (r q : Result (Option ℕ) Decline) → CellIs D words bs w l r → CellIs D words bs w l q → r ≡ q
one_cell D words bs w l (Ok None) (Ok None) a b = refl
one_cell D words bs w l (Ok None) (Ok (Some c)) a b = absurd (none_first _ _ _ _ c a b)
one_cell D words bs w l (Ok (Some c)) (Ok None) a b = absurd (none_first _ _ _ _ c b a)
one_cell D words bs w l (Ok (Some c)) (Ok (Some d)) a b = ap (λ c. Ok (Some c)) (one_match _ _ _ _ c d a b)
one_cell D words bs w l (Ok o) (Err d) a b = absurd b
one_cell D words bs w l (Err d) q a b = absurd a

pub find_cell_has_one_answer : FindCellHasOneAnswer
find_cell_has_one_answer bs w r q h g =
    elim (lawful_or_not bs) [
      | inr broken ↦ declined_same 14 r q (h.trailer broken) (g.trailer broken)
      | inl lawful ↦
          let l = layout_of bs lawful in
          let k : l.0.kind ≡ (numbers_in bs).kind = ap (λ n. n.kind) l.1 in
          elim (kind_of bs lawful) [
            | inl one ↦ one_cell tare_decoded words_of_tare bs w l.0 r q (h.tares lawful l.0 l.1 (k ∙ one)) (g.tares lawful l.0 l.1 (k ∙ one))
            | inr two ↦ one_cell tag_decoded words_of_tag bs w l.0 r q (h.tags lawful l.0 l.1 (k ∙ two)) (g.tags lawful l.0 l.1 (k ∙ two))
          ]
    ]

one_record : {R : Type 0} (D : List ℕ → Option R) (words : R → Words) (bs : List ℕ) (w : Words) (l : Layout) (r q : Result (Option R) Decline) → RecordIs D words bs w l r → RecordIs D words bs w l q → r ≡ q
one_record D words bs w l (Ok None) (Ok None) a b = refl
one_record D words bs w l (Ok None) (Ok (Some y)) a b = absurd (none_first _ _ _ _ b.0 a b.1)
one_record D words bs w l (Ok (Some x)) (Ok None) a b = absurd (none_first _ _ _ _ a.0 b a.1)
one_record D words bs w l (Ok (Some x)) (Ok (Some y)) a b =
    ap (λ x. Ok (Some x)) (let e = one_match _ _ _ _ a.0 b.0 a.1 b.1 in same_held _ x y a.2.here (ap (λ k. get_or (byte_row D (cells_part_lem bs)) k None) e ∙ b.2.here))
one_record D words bs w l (Ok o) (Err d) a b = absurd b
one_record D words bs w l (Err d) q a b = absurd a

pub find_has_one_answer : {R : Type 0} → FindHasOneAnswer R
find_has_one_answer D words bs w r q h g =
    elim (lawful_or_not bs) [
      | inr broken ↦ declined_same 14 r q (h.trailer broken) (g.trailer broken)
      | inl lawful ↦ let l = layout_of bs lawful in one_record D words bs w l.0 r q (h.found lawful l.0 l.1) (g.found lawful l.0 l.1)
    ]
