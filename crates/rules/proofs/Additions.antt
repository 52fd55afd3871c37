-- A new key and the stored ones lie as an assignment gives them once its record took a route.
use Rattle.std.specs.Prelude.{Some}
use Rattle.std.proofs.Common.{◌≡◌, ℕ, ◌*◌, ◌≤◌, Bool, false, List, ◌∷◌, Decides, sym, refl, subst, arith}
use Rattle.std.proofs.lemmas.Bool.{false≢true}
use Rattle.assignment.specs.Assign.{In, Part, count}
use Rattle.assignment.proofs.Counts.{count_lt, count_none, passes_alone}
use Rattle.assignment.proofs.Parts.{restricted}
use Rattle.assignment.proofs.Places.{count_map}
use Rattle.rules.specs.Placements.{Placement, Lawful, Route, handed, word}
use Rattle.rules.specs.Stored.{Lying, keys_below, located, placement_in, stored_keys}
use Rattle.rules.specs.Tables.{own_buckets}
use Rattle.rules.specs.Theorems.{AnInsertIsAnAssignment}
use Rattle.rules.proofs.Entries.{entered, entered_sound}
use Rattle.rules.proofs.Handings.{count_handed, own_used}
use Rattle.rules.proofs.Holdings.{a_sound_table_is_held, same_key, told_by}
use Rattle.rules.proofs.Lawfuls.{lawful_placement}
use Rattle.rules.proofs.Sounds.{same_state}

-- a list with all elements of another, by counts
part_by_counts :
    {K : Type 0} (same : K → K → Bool) → ((x y : K) → Decides (same x y) (x ≡ y)) →
    (some all : List K) → ((p : K → Bool) → count p some ≤ count p all) → Part some all
part_by_counts {K} same told some all more = record {
  members =
      λ k i.
      let none : count (λ (_ : K). false) all ≡ 0 = count_none (λ _. false) all (λ _ _. refl) in
      let no : count (λ (_ : K). false) some ≡ 0 = count_none (λ _. false) some (λ _ _. refl) in
      let one = count_lt (λ _. false) (same k) some k i refl ((told k k).1 refl) (λ _ _ e. absurd (false≢true e)) in
      let l = more (same k) in
      let r = passes_alone (same k) (λ _. false) all (omega arith) in
      subst (λ y. In y all) (sym ((told k r.0).0 r.2)) r.1;
  counts = more;
}

-- the keys afterwards are those before and the new one
keys_after :
    {R K : Type 0} (key : R → K) (f : Placement R) → Lawful f → (r : R) (c : ℕ) (path : List ℕ) → Route f (word f r) c path →
    (p : K → Bool) →
    count p (key r ∷ keys_below key f.held (f.size * f.cells))
    ≡ count p (keys_below key (handed (c ∷ path) (Some r) f.held) (f.size * f.cells))
keys_after {R} key f law r c path route p =
    let n = f.size * f.cells in
    let k : ℕ × R → _ = λ q. key q.1 in
    let a = count_map p k (located f.held n) in
    let b = count_map p k (located (handed (c ∷ path) (Some r) f.held) n) in
    let h = count_handed f law (λ q. p (key q)) c path (Some r) (own_used f law (word f r) c route.own) route.path route.apart in
    omega arith

pub an_insert_is_an_assignment : {R K : Type 0} → AnInsertIsAnAssignment R K
an_insert_is_an_assignment {R} {K} key words apart hash s r first rest u sound enters =
    let after = entered s r first rest in
    let now =
    a_sound_table_is_held key words apart hash after (entered_sound key words hash s sound r first rest enters.fresh enters.route) in
    let law = lawful_placement (λ q. words (key q)) hash s.size s.cells sound.reach in (
      now.0,
      subst (λ x. Lying key x now.0) (sym (same_state enters.size enters.count enters.cells)) now.1,
      restricted (λ k. own_buckets hash s.size (words k)) (λ _. s.size.settings.cells) (key r ∷ stored_keys key s) (stored_keys key after)
          (part_by_counts (same_key words) (told_by words apart) (key r ∷ stored_keys key s) (stored_keys key after)
          (λ p. let e = keys_after key (placement_in key words hash s) law r first rest enters.route p in omega arith))
          now.0 now.2,
    )
