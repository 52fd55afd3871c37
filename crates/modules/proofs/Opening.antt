-- Parts of a module, and opening one.
use Rattle.std.proofs.Common.{◌≡◌, ℕ, ◌-◌, ◌≤◌, ◌⊎◌, List, length, take, drop, Ok, Err, Option, Result, sym, ap, ◌∙◌, subst, inl, inr, arith}
use Rattle.std.specs.Result.{result_unwrap_or}
use Rattle.std.proofs.lemmas.Bool.{cases_eq, le-leb}
use Rattle.records.specs.declared.numbers.Words.{Words}
use Rattle.octets.specs.Codec.{lawful_at}
use Rattle.addresses.proofs.Steps.{same_settings, same_size}
use Rattle.trailers.specs.declared.layouts.Layout.{Layout}
use Rattle.trailers.specs.Closing.{closing}
use Rattle.trailers.specs.Layouts.{numbers_of}
use Rattle.trailers.specs.Trailers.{LawfulTrailer, numbers_in}
use Rattle.trailers.proofs.Decided.{lawful_or_not, layout_of}
use Rattle.modules.specs.declared.faults.Fault.{Fault}
use Rattle.modules.specs.declared.opens.Opened.{Opened}
use Rattle.modules.specs.declared.parts.Part.{Part}
use Rattle.modules.specs.Checks.{Checks, table_over}
use Rattle.modules.specs.Modules.{cells_part_lem, in_module}
use Rattle.modules.specs.Laws.{OpenHasOneAnswer, WhatWasClosedOpens}
use Rattle.modules.specs.Opens.{FirstOpens, IsOpened, Names, Opens, OpensSound, SecondOpens, Smallest}
use Rattle.modules.specs.Parts.{part_of}
use Rattle.modules.proofs.Whole.{for_layout, accepts, reaches, part_length}
use Rattle.modules.proofs.Ones.{no_trailers, one_check}

pub part_is : (bs : List ℕ) (p : Part) → p.start ≤ p.end → p.end ≤ length bs → take (p.end - p.start) (drop p.start bs) ≡ part_of bs p
part_is bs p a b = sym (rw (le-leb p.start p.end a, le-leb p.end (length bs) b))

-- the cells that a lawful trailer names, as a part
pub opened_part : (bs : List ℕ) (l : Layout) (p : Part) → LawfulTrailer bs → numbers_of l ≡ numbers_in bs → p.end ≡ length bs - 32 → p.start ≡ length bs - 32 - l.distance → part_of bs p ≡ cells_part_lem bs
opened_part bs l p lawful e end start =
    let d : l.distance ≡ (numbers_in bs).distance = ap (λ n. n.distance) e in
    let within = lawful.numbers.placed.within in
    let n : p.end - p.start ≡ (numbers_in bs).distance = omega arith in
    let s : p.start ≡ length bs - 32 - (numbers_in bs).distance = omega arith in
    sym (part_is bs p (omega arith) (omega arith)) ∙ ap (λ n. take n (drop p.start bs)) n ∙ ap (λ s. take (numbers_in bs).distance (drop s bs)) s

names_or_not : (k f : ℕ) (bs : List ℕ) → Names k f bs ⊎ (Names k f bs → ⊥)
names_or_not k f bs =
    elim (lawful_or_not bs) [
      | inr broken ↦ inr (λ n. broken n.lawful)
      | inl lawful ↦ elim (cases_eq (numbers_in bs).kind k) [
        | inr other ↦ inr (λ n. other n.kind)
        | inl kind ↦ elim (cases_eq (numbers_in bs).family f) [
          | inr other ↦ inr (λ n. other n.family)
          | inl family ↦ inl (record { lawful = lawful; kind = kind; family = family })
        ]
      ]
    ]

module _ {R K : Type 0} (D : List ℕ → Option R) (k f : ℕ) (key : R → K) (words : K → Words) (hash : Words → ℕ) (bs : List ℕ) where
  -- the check of the cells, once the trailer is right
  pub first_opens :
      (part : List ℕ) (m : Layout) (r : Result (Unit {0}) Fault) → Names k f bs → numbers_of m ≡ numbers_in bs → part ≡ cells_part_lem bs →
      Checks (lawful_at D part) key words hash (table_over D m part) r →
      FirstOpens D k f key words hash bs r × (r ≡ Ok tt → OpensSound D key words hash bs)
  first_opens part m r names e q h =
      let every : (l : Layout) → numbers_of l ≡ numbers_in bs → Checks (lawful_at D (cells_part_lem bs)) key words hash (in_module D l bs) r =
      λ l g.
      for_layout (λ l. Checks (lawful_at D (cells_part_lem bs)) key words hash (in_module D l bs) r) m l (numbers_in bs) e g
      (subst (λ p. Checks (lawful_at D p) key words hash (table_over D m p) r) q h) in (
        record { trailer = λ not. absurd (not names); cells = λ _ l g. every l g },
        λ ok l g. accepts (lawful_at D (cells_part_lem bs)) key words hash (in_module D l bs) r (reaches D bs l names.lawful g) ok (every l g),
      )

  pub one_opening : (r q : Result (Unit {0}) Fault) → FirstOpens D k f key words hash bs r → FirstOpens D k f key words hash bs q → r ≡ q
  one_opening r q a b =
      elim (names_or_not k f bs) [
        | inr other ↦ no_trailers r q (a.trailer other) (b.trailer other)
        | inl names ↦
            let l = layout_of bs names.lawful in
            one_check (lawful_at D (cells_part_lem bs)) key words hash (in_module D l.0 bs) r q (a.cells names l.0 l.1) (b.cells names l.0 l.1)
      ]

  -- a decline is no acceptance
  not_both : (e : Fault) → FirstOpens D k f key words hash bs (Err e) → FirstOpens D k f key words hash bs (Ok tt) → ⊥
  not_both e a b = let same = one_opening (Err e) (Ok tt) a b in let z : ◌≡◌ {A = ℕ} 0 1 = cc in omega arith

  -- what is opened, or the smallest table where the module does not open
  pub second_opens : (r : Result Opened Fault) (n : Opened) → Opens D k f key words hash bs r → Smallest n → SecondOpens D k f key words hash bs (result_unwrap_or r n)
  second_opens (Ok o) n h s = record { accepted = λ _. h.2; declined = λ not. absurd (not h.0) }
  second_opens (Err e) n h s = record { accepted = λ ok. absurd (not_both e h ok); declined = λ _. s }

pub open_has_one_answer : {R K : Type 0} → OpenHasOneAnswer R K
open_has_one_answer D k f key words hash bs r q a b = one_opening D k f key words hash bs r q a b

-- what the second call gives, where the trailer is lawful
pub is_opened : (bs : List ℕ) (o : Opened) (m : Layout) → LawfulTrailer bs → numbers_of m ≡ numbers_in bs → o.size ≡ m.size → o.count ≡ m.count → o.part.end ≡ length bs - 32 → o.part.start ≡ length bs - 32 - m.distance →
    (l : Layout) → numbers_of l ≡ numbers_in bs → IsOpened bs o l
is_opened bs o m lawful e size count end start l g =
    for_layout (λ l. IsOpened bs o l) m l (numbers_in bs) e g (record { size = size; count = count; ends = end; begins = start; part = opened_part bs m o.part lawful e end start })

pub what_was_closed_opens : {R K : Type 0} → WhatWasClosedOpens R K
what_was_closed_opens D k f key words hash bs cs n o closed second =
    let lawful = closed.1 in
    let l = layout_of cs lawful in
    let e : numbers_of l.0 ≡ closing n = l.1 ∙ closed.2 in
    let s =
    same_settings {s = l.0.size.settings} {u = n.size.settings} (ap (λ m. m.t) e) (ap (λ m. m.cells) e) (ap (λ m. m.choices) e) (ap (λ m. m.start) e) (ap (λ m. m.load) e) in
    let z = same_size {z = l.0.size} {y = n.size} s (ap (λ m. m.x) e) (ap (λ m. m.j) e) in (
      lawful,
      λ first.
          let open' = second.accepted first l.0 l.1 in
          (open'.size ∙ z, open'.count ∙ ap (λ m. m.count) e, ap length open'.part ∙ part_length cs lawful ∙ ap (λ m. m.distance) closed.2),
    )
