-- From the cells to the module.
use Rattle.std.proofs.Common.{◌≡◌, ℕ, ◌+◌, ◌*◌, ◌/◌, ◌^◌, ◌<◌, ◌≤◌, min, Bool, List, length, Some, None, Ok, Option, Result, sym, refl, ap, ◌∙◌, subst, ⊎_elim, mul_comm, arith}
use Rattle.std.proofs.lemmas.Nat.{le-div}
use Rattle.std.proofs.lemmas.List.{length-take, length-drop}
use Rattle.std.proofs.lemmas.Bool.{cases_order}
use Rattle.records.specs.declared.numbers.Words.{Words}
use Rattle.records.specs.declared.kind.RecordKind.{RecordKind}
use Rattle.records.specs.declared.kind.RecordKind.TheVariants.{Tare, Tag}
use Rattle.records.specs.Kinds.{kind_number, plate_words, tag_words}
use Rattle.addresses.specs.declared.families.FamilyKind.{FamilyKind}
use Rattle.addresses.specs.declared.families.FamilyKind.TheVariants.{Fnv, Straight}
use Rattle.addresses.specs.Hashes.{family_hash, family_number}
use Rattle.octets.specs.Codec.{byte_row, lawful_at}
use Rattle.octets.specs.Kinds.{tag_decoded, tare_decoded}
use Rattle.octets.proofs.Frames.{row_length}
use Rattle.rules.specs.Tables.{State, Sound, used_in}
use Rattle.trailers.specs.declared.layouts.Layout.{Layout}
use Rattle.trailers.specs.Layouts.{numbers_of}
use Rattle.trailers.specs.Trailers.{Numbers, Lawful, LawfulTrailer, numbers_in}
use Rattle.trailers.proofs.Same.{same_layout}
use Rattle.modules.specs.declared.faults.Fault.{Fault}
use Rattle.modules.specs.Checks.{Checks, table_over}
use Rattle.lookup.specs.Finds.{FoundCell, FoundRecord}
use Rattle.modules.specs.Modules.{cells_part_lem, hash_by, in_module, words_of_tare, words_of_tag, CellIs, FindsCell, FindsRecord, IsModule, ModuleChecks, ModuleIsSound, RecordIs}
use Rattle.modules.proofs.Faulty.{home_of, alone_of}

-- a family hashes as its number says
hash_named : (f : FamilyKind) → family_hash f ≡ hash_by (family_number f)
hash_named Fnv = refl
hash_named Straight = refl

-- what holds of one layout with a module's numbers holds of every one
pub for_layout : (P : Layout → Type 0) (m l : Layout) (n : Numbers) → numbers_of m ≡ n → numbers_of l ≡ n → P m → P l
for_layout P m l n a b p = subst P (same_layout {l = m} {m = l} (a ∙ sym b)) p

-- an accepted check means a sound table
pub accepted :
    {R K : Type 0} (law : ℕ → Bool) (key : R → K) (words : K → Words) (hash : Words → ℕ) (s : State R) →
    used_in s.size ≤ length s.cells → Checks law key words hash s (Ok tt) → Sound key words hash s
accepted law key words hash s reach h = record {
  reach = reach;
  home = λ c r at. home_of law key words hash s c (h.0 c at.used) r at;
  once = λ b c q r at bt e.
      ⊎_elim (λ (z : b ≡ c). z)
      (⊎_elim
      (λ (z : b < c). absurd (alone_of law key words hash s c (h.0 c bt.used) (r, bt, (b, q, z, at, e))))
      (λ (z : c < b). absurd (alone_of law key words hash s b (h.0 b at.used) (q, at, (c, r, z, bt, sym e)))))
      (cases_order b c);
  counted = h.1;
}

pub part_length : (bs : List ℕ) → LawfulTrailer bs → length (cells_part_lem bs) ≡ (numbers_in bs).distance
part_length bs l =
    let h : (numbers_in bs).distance + 32 ≤ length bs = l.numbers.placed.within in
    simp (length-take, length-drop) (omega arith)

-- the used cells are there
pub reaches : {R : Type 0} (D : List ℕ → Option R) (bs : List ℕ) (l : Layout) → LawfulTrailer bs → numbers_of l ≡ numbers_in bs → used_in l.size ≤ length (byte_row D (cells_part_lem bs))
reaches D bs l lawful e =
    let m : Lawful (length bs) (numbers_of l) = subst (λ n. Lawful (length bs) n) (sym e) lawful.numbers in
    let enough : 32 * used_in l.size ≤ l.distance = m.placed.enough in
    let within : l.distance + 32 ≤ length bs = m.placed.within in
    let short = m.placed.short in
    let d : l.distance ≡ (numbers_in bs).distance = ap (λ n. n.distance) e in
    let p : length (cells_part_lem bs) ≡ l.distance = part_length bs lawful ∙ sym d in
    let c : used_in l.size ≤ l.distance / 32 = le-div (used_in l.size) l.distance 32 (omega arith) (let x = mul_comm 32 (used_in l.size) in omega arith) in
    let r : length (byte_row D (cells_part_lem bs)) ≡ min (2 ^ 40) (l.distance / 32) = row_length D (cells_part_lem bs) ∙ ap (λ n. min (2 ^ 40) (n / 32)) p in
    omega arith

-- an answered check, once it is known to be an acceptance
pub accepts :
    {R K : Type 0} (law : ℕ → Bool) (key : R → K) (words : K → Words) (hash : Words → ℕ) (s : State R) (r : Result (Unit {0}) Fault) →
    used_in s.size ≤ length s.cells → r ≡ Ok tt → Checks law key words hash s r → Sound key words hash s
accepts law key words hash s r reach e h = accepted law key words hash s reach (subst (λ r. Checks law key words hash s r) e h)

-- a cell or none, as an answer
cell_is : {R : Type 0} (D : List ℕ → Option R) (words : R → Words) (bs : List ℕ) (w : Words) (l : Layout) (o : Option ℕ) →
    FoundCell words (byte_row D (cells_part_lem bs)) (hash_by l.family) l.size w (used_in l.size) o → CellIs D words bs w l (Ok o)
cell_is D words bs w l None h = h
cell_is D words bs w l (Some c) h = h

record_is : {R : Type 0} (D : List ℕ → Option R) (words : R → Words) (bs : List ℕ) (w : Words) (l : Layout) (o : Option R) →
    FoundRecord words (byte_row D (cells_part_lem bs)) (hash_by l.family) l.size w (used_in l.size) o → RecordIs D words bs w l (Ok o)
record_is D words bs w l None h = h
record_is D words bs w l (Some x) h = h

-- the kinds apart
two_not_one : (l : Layout) (n : Numbers) (m : Layout) → numbers_of m ≡ n → numbers_of l ≡ n → m.kind ≡ 1 → l.kind ≡ 2 → ⊥
two_not_one l n m a b one two = let e : m.kind ≡ l.kind = ap (λ n. n.kind) (a ∙ sym b) in omega arith

module _ (bs : List ℕ) (k : RecordKind) (f : FamilyKind) (m : Layout) (cs : List ℕ) (lawful : LawfulTrailer bs) (is : IsModule bs k f m cs) where
  hash_is : family_hash f ≡ hash_by m.family
  hash_is = hash_named f ∙ ap hash_by is.family

  -- what holds of the cells and the hash as they were read holds of each layout with the module's numbers
  named : (P : List ℕ → (Words → ℕ) → Layout → Type 0) → P cs (family_hash f) m → (l : Layout) → numbers_of l ≡ numbers_in bs → P (cells_part_lem bs) (hash_by l.family) l
  named P h l g =
      for_layout (λ l. P (cells_part_lem bs) (hash_by l.family) l) m l (numbers_in bs) is.numbers g
      (subst (λ h. P (cells_part_lem bs) h m) hash_is (subst (λ p. P p (family_hash f) m) is.cells h))

  is_tare : k ≡ Tare → (l : Layout) → numbers_of l ≡ numbers_in bs → l.kind ≡ 2 → ⊥
  is_tare e l g two = let one : m.kind ≡ 1 = sym is.kind ∙ ap kind_number e in two_not_one l (numbers_in bs) m is.numbers g one two

  is_tag : k ≡ Tag → (l : Layout) → numbers_of l ≡ numbers_in bs → l.kind ≡ 1 → ⊥
  is_tag e l g one = let two : m.kind ≡ 2 = sym is.kind ∙ ap kind_number e in two_not_one m (numbers_in bs) l g is.numbers one two

  -- what the check of the cells says of the module, for either kind
  module _ (r : Result (Unit {0}) Fault) where
    module _ {R K : Type 0} (D : List ℕ → Option R) (key : R → K) (words : K → Words)
        (h : Checks (lawful_at D cs) key words (family_hash f) (table_over D m cs) r) where
      every : (l : Layout) → numbers_of l ≡ numbers_in bs → Checks (lawful_at D (cells_part_lem bs)) key words (hash_by l.family) (in_module D l bs) r
      every = named (λ p h l. Checks (lawful_at D p) key words h (table_over D l p) r) h

      each_sound : r ≡ Ok tt → (l : Layout) → numbers_of l ≡ numbers_in bs → Sound key words (hash_by l.family) (in_module D l bs)
      each_sound e l g = accepts (lawful_at D (cells_part_lem bs)) key words (hash_by l.family) (in_module D l bs) r (reaches D bs l lawful g) e (every l g)

    pub tares_checked : k ≡ Tare → Checks (lawful_at tare_decoded cs) (λ r. r.plate) plate_words (family_hash f) (table_over tare_decoded m cs) r → ModuleChecks bs r
    tares_checked e h = record {
      trailer = λ not. absurd (not lawful);
      tares = λ _ l g _. every tare_decoded (λ r. r.plate) plate_words h l g;
      tags = λ _ l g two. absurd (is_tare e l g two);
    }

    pub tares_sound : k ≡ Tare → Checks (lawful_at tare_decoded cs) (λ r. r.plate) plate_words (family_hash f) (table_over tare_decoded m cs) r → r ≡ Ok tt → ModuleIsSound bs
    tares_sound e h ok = record {
      lawful = lawful;
      tares = λ l g _. each_sound tare_decoded (λ r. r.plate) plate_words h ok l g;
      tags = λ l g two. absurd (is_tare e l g two);
    }

    pub tags_checked : k ≡ Tag → Checks (lawful_at tag_decoded cs) (λ r. r.tag) tag_words (family_hash f) (table_over tag_decoded m cs) r → ModuleChecks bs r
    tags_checked e h = record {
      trailer = λ not. absurd (not lawful);
      tares = λ _ l g one. absurd (is_tag e l g one);
      tags = λ _ l g _. every tag_decoded (λ r. r.tag) tag_words h l g;
    }

    pub tags_sound : k ≡ Tag → Checks (lawful_at tag_decoded cs) (λ r. r.tag) tag_words (family_hash f) (table_over tag_decoded m cs) r → r ≡ Ok tt → ModuleIsSound bs
    tags_sound e h ok = record {
      lawful = lawful;
      tares = λ l g one. absurd (is_tag e l g one);
      tags = λ l g _. each_sound tag_decoded (λ r. r.tag) tag_words h ok l g;
    }

  -- what the search of the cells says of it
  module _ (w : Words) where
    some_cell : {R : Type 0} (D : List ℕ → Option R) (words : R → Words) (o : Option ℕ) → FoundCell words (byte_row D cs) (family_hash f) m.size w (used_in m.size) o →
        (l : Layout) → numbers_of l ≡ numbers_in bs → CellIs D words bs w l (Ok o)
    some_cell D words o h l g = cell_is D words bs w l o (named (λ p h l. FoundCell words (byte_row D p) h l.size w (used_in l.size) o) h l g)

    pub tare_found : (o : Option ℕ) → k ≡ Tare → FoundCell words_of_tare (byte_row tare_decoded cs) (family_hash f) m.size w (used_in m.size) o → FindsCell bs w (Ok o)
    tare_found o e h = record {
      trailer = λ not. absurd (not lawful);
      tares = λ _ l g _. some_cell tare_decoded words_of_tare o h l g;
      tags = λ _ l g two. absurd (is_tare e l g two);
    }

    pub tag_found : (o : Option ℕ) → k ≡ Tag → FoundCell words_of_tag (byte_row tag_decoded cs) (family_hash f) m.size w (used_in m.size) o → FindsCell bs w (Ok o)
    tag_found o e h = record {
      trailer = λ not. absurd (not lawful);
      tares = λ _ l g one. absurd (is_tag e l g one);
      tags = λ _ l g _. some_cell tag_decoded words_of_tag o h l g;
    }

    pub record_found : {R : Type 0} (D : List ℕ → Option R) (words : R → Words) (o : Option R) → FoundRecord words (byte_row D cs) (family_hash f) m.size w (used_in m.size) o →
        FindsRecord D words bs w (Ok o)
    record_found D words o h = record {
      trailer = λ not. absurd (not lawful);
      found = λ _ l g. record_is D words bs w l o (named (λ p h l. FoundRecord words (byte_row D p) h l.size w (used_in l.size) o) h l g);
    }
