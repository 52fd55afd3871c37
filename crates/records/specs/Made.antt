-- What plain numbers make.
use Rattle.std.specs.Prelude.{◌≡◌, ℕ, ◌≤◌, Bool, true, false, ◌⊎◌, Ok, Err, Result, ◌≢◌, refl}
use Rattle.std.proofs.Common.{sym, ap, ap₂, ◌∙◌, inl, inr}
use mathlib.Core.HLevel.{is_prop→PathP}
use Rattle.std.proofs.Math.Bool.{Bool-set}
use Rattle.std.proofs.Math.Decide.{dec_le}
use Rattle.std.proofs.Math.Bridge.{le_prop}
use Rattle.std.proofs.lemmas.Bool.{both_ways}
use Rattle.records.specs.declared.declines.Decline.{Decline}
use Rattle.records.specs.declared.declines.Decline.TheVariants.{NoPlate, OutOfRange}
use Rattle.records.specs.declared.numbers.TagNumbers.{TagNumbers}
use Rattle.records.specs.declared.numbers.TareNumbers.{TareNumbers}
use Rattle.records.specs.declared.plates.Plate.{Plate}
use Rattle.records.specs.declared.records.TagRecord.{TagRecord}
use Rattle.records.specs.declared.records.TareRecord.{TareRecord}
use Rattle.records.specs.Declines.{number, TakenIf}
use Rattle.records.specs.Plates.{is_plate}
use Rattle.records.specs.Kinds.{made_tag, tag_if, tag_numbers, made_tare, tare_if, plated_if, tare_numbers}
use Rattle.records.specs.Taken.{same_decline}

-- tag records

pub tag_again : (r : TagRecord) → made_tag (tag_numbers r) ≡ Ok r
unfolding made_tag tag_if
tag_again r =
    elim (dec_le 1 r.grain) as (λ d. tag_if (tag_numbers r) d (dec_le r.grain 9) ≡ Ok r) [
      | yes p ↦ elim (dec_le r.grain 9) as (λ e. tag_if (tag_numbers r) (yes p) e ≡ Ok r) [
        | yes q ↦ λ i. Ok (record { tag = r.tag; grower = r.grower; grain = r.grain; low = le_prop p r.low i; high = le_prop q r.high i })
        | no q ↦ absurd (q r.high)
      ]
      | no p ↦ absurd (p r.low)
    ]

tag_declined : (n : TagNumbers) → ((1 ≤ n.grain) × (n.grain ≤ 9) → ⊥) → made_tag n ≡ Err OutOfRange
unfolding made_tag tag_if
tag_declined n h =
    elim (dec_le 1 n.grain) as (λ d. tag_if n d (dec_le n.grain 9) ≡ Err OutOfRange) [
      | yes p ↦ elim (dec_le n.grain 9) as (λ e. tag_if n (yes p) e ≡ Err OutOfRange) [ yes q ↦ absurd (h (p, q)) | no q ↦ refl ]
      | no p ↦ refl
    ]

pub tag_made :
    (n : TagNumbers) (r : Result TagRecord Decline) →
    TakenIf ((1 ≤ n.grain) × (n.grain ≤ 9)) 4 (λ x. (x.tag ≡ n.tag) × (x.grower ≡ n.grower) × (x.grain ≡ n.grain)) r → r ≡ made_tag n
tag_made n (Ok x) h =
    let e : tag_numbers x ≡ n = λ i. record { tag = h.1.0 i; grower = h.1.1 i; grain = h.1.2 i } in
    sym (tag_again x) ∙ ap made_tag e
tag_made n (Err d) h = ap Err (same_decline d OutOfRange h.1) ∙ sym (tag_declined n h.0)

-- tare records

-- equal words, equal plates
pub same_plate : {p q : Plate} → p.first ≡ q.first → p.second ≡ q.second → p ≡ q
same_plate {p} {q} a b = λ i. record {
  first = a i;
  second = b i;
  lawful = is_prop→PathP (λ i. is_plate (a i) (b i) ≡ true) (λ i. Bool-set (is_plate (a i) (b i)) true) p.lawful q.lawful i;
}

-- with a plate in hand
tare_with : (n : TareNumbers) (p : Plate) → p.first ≡ n.first → p.second ≡ n.second →
    made_tare n ≡ tare_if p n.tare n.day (dec_le 1 n.tare) (dec_le n.tare 100000)
unfolding made_tare plated_if
tare_with n p a b = go (is_plate n.first n.second) refl
  where
    go : (l : Bool) (e : is_plate n.first n.second ≡ l) → plated_if n.first n.second n.tare n.day l e ≡ tare_if p n.tare n.day (dec_le 1 n.tare) (dec_le n.tare 100000)
    go true e = ap (λ z. tare_if z n.tare n.day (dec_le 1 n.tare) (dec_le n.tare 100000)) (same_plate {p = record { first = n.first; second = n.second; lawful = e }} {q = p} (sym a) (sym b))
    go false e = absurd (both_ways (is_plate n.first n.second) e (sym (ap₂ is_plate a b) ∙ p.lawful))

tare_is : (r : TareRecord) → tare_if r.plate r.tare r.day (dec_le 1 r.tare) (dec_le r.tare 100000) ≡ Ok r
unfolding tare_if
tare_is r =
    elim (dec_le 1 r.tare) as (λ d. tare_if r.plate r.tare r.day d (dec_le r.tare 100000) ≡ Ok r) [
      | yes p ↦ elim (dec_le r.tare 100000) as (λ e. tare_if r.plate r.tare r.day (yes p) e ≡ Ok r) [
        | yes q ↦ λ i. Ok (record { plate = r.plate; tare = r.tare; day = r.day; low = le_prop p r.low i; high = le_prop q r.high i })
        | no q ↦ absurd (q r.high)
      ]
      | no p ↦ absurd (p r.low)
    ]

pub tare_again : (r : TareRecord) → made_tare (tare_numbers r) ≡ Ok r
tare_again r = tare_with (tare_numbers r) r.plate refl refl ∙ tare_is r

tare_declined : (p : Plate) (t d : ℕ) → ((1 ≤ t) × (t ≤ 100000) → ⊥) → tare_if p t d (dec_le 1 t) (dec_le t 100000) ≡ Err OutOfRange
unfolding tare_if
tare_declined p t d h =
    elim (dec_le 1 t) as (λ e. tare_if p t d e (dec_le t 100000) ≡ Err OutOfRange) [
      | yes l ↦ elim (dec_le t 100000) as (λ e. tare_if p t d (yes l) e ≡ Err OutOfRange) [ yes q ↦ absurd (h (l, q)) | no q ↦ refl ]
      | no l ↦ refl
    ]

pub tare_made :
    (n : TareNumbers) (p : Plate) → p.first ≡ n.first → p.second ≡ n.second → (r : Result TareRecord Decline) →
    TakenIf ((1 ≤ n.tare) × (n.tare ≤ 100000)) 4 (λ x. (x.plate ≡ p) × (x.tare ≡ n.tare) × (x.day ≡ n.day)) r → r ≡ made_tare n
tare_made n p a b (Ok x) h =
    let f : x.plate.first ≡ n.first = ap (λ q. q.first) h.1.0 ∙ a in
    let s : x.plate.second ≡ n.second = ap (λ q. q.second) h.1.0 ∙ b in
    let e : tare_numbers x ≡ n = λ i. record { first = f i; second = s i; tare = h.1.1 i; day = h.1.2 i } in
    sym (tare_again x) ∙ ap made_tare e
tare_made n p a b (Err d) h =
    ap Err (same_decline d OutOfRange h.1) ∙ sym (tare_with n p a b ∙ tare_declined p n.tare n.day h.0)

pub no_tare : (n : TareNumbers) (d : Decline) → (is_plate n.first n.second ≢ true) → number d ≡ 3 → Err d ≡ made_tare n
unfolding made_tare plated_if
no_tare n d h k = ap Err (same_decline d NoPlate k) ∙ sym (go (is_plate n.first n.second) refl)
  where
    go : (l : Bool) (e : is_plate n.first n.second ≡ l) → plated_if n.first n.second n.tare n.day l e ≡ Err NoPlate
    go true e = absurd (h e)
    go false e = refl

tare_if_alone : (p : Plate) (t d : ℕ) (r : TareRecord) → tare_if p t d (dec_le 1 t) (dec_le t 100000) ≡ Ok r → (r.plate ≡ p) × (r.tare ≡ t) × (r.day ≡ d)
unfolding tare_if
tare_if_alone p t d r e = go (dec_le 1 t) (dec_le t 100000) e
  where
    go : (c : Dec (1 ≤ t)) (b : Dec (t ≤ 100000)) → tare_if p t d c b ≡ Ok r → (r.plate ≡ p) × (r.tare ≡ t) × (r.day ≡ d)
    go (yes l) (yes h) e =
        let z : record { plate = p; tare = t; day = d; low = l; high = h } ≡ r = cc in
        (sym (ap (λ r. r.plate) z), sym (ap (λ r. r.tare) z), sym (ap (λ r. r.day) z))
    go (yes l) (no h) e = absurd cc
    go (no l) b e = absurd cc

pub tare_alone : (n : TareNumbers) (r : TareRecord) → made_tare n ≡ Ok r → tare_numbers r ≡ n
unfolding made_tare plated_if
tare_alone n r e = go (is_plate n.first n.second) refl e
  where
    go : (l : Bool) (k : is_plate n.first n.second ≡ l) → plated_if n.first n.second n.tare n.day l k ≡ Ok r → tare_numbers r ≡ n
    go true k e =
        let z = tare_if_alone (record { first = n.first; second = n.second; lawful = k }) n.tare n.day r e in
        λ i. record { first = (z.0 i).first; second = (z.0 i).second; tare = z.1 i; day = z.2 i }
    go false k e = absurd cc

pub tare_numbers_lem : (n : TareNumbers) (d : Decline) → made_tare n ≡ Err d → (number d ≡ 3) ⊎ (number d ≡ 4)
unfolding made_tare plated_if tare_if
tare_numbers_lem n d e = go (is_plate n.first n.second) refl e
  where
    by : (p : Plate) (c : Dec (1 ≤ n.tare)) (b : Dec (n.tare ≤ 100000)) → tare_if p n.tare n.day c b ≡ Err d → (number d ≡ 3) ⊎ (number d ≡ 4)
    by p (yes l) (yes h) e = absurd cc
    by p (yes l) (no h) e = let z : OutOfRange ≡ d = cc in inr (sym (ap number z))
    by p (no l) b e = let z : OutOfRange ≡ d = cc in inr (sym (ap number z))

    go : (l : Bool) (k : is_plate n.first n.second ≡ l) → plated_if n.first n.second n.tare n.day l k ≡ Err d → (number d ≡ 3) ⊎ (number d ≡ 4)
    go true k e = by (record { first = n.first; second = n.second; lawful = k }) (dec_le 1 n.tare) (dec_le n.tare 100000) e
    go false k e = let z : NoPlate ≡ d = cc in inl (sym (ap number z))
