-- A sound table after a record took a route into it.
use Rattle.std.specs.Prelude.{Some, None, Option}
use Rattle.std.proofs.Common.{◌≡◌, ℕ, ◌+◌, ◌*◌, ◌/◌, ◌<◌, true, ◌≢◌, List, ◌∷◌, get_or, take, sym, ap, ◌∙◌, subst, inl, inr, arith}
use Rattle.std.proofs.lemmas.Bool.{cases_eq}
use Rattle.records.specs.declared.numbers.Words.{Words}
use Rattle.assignment.specs.Assign.{count}
use Rattle.rules.specs.Placements.{Placement, Lawful, Own, Route, handed, word}
use Rattle.rules.specs.Stored.{StoredKey, placement_in}
use Rattle.rules.specs.Tables.{State, Sound, holding}
use Rattle.rules.specs.Theorems.{AnInsertKeepsSound}
use Rattle.rules.proofs.Handings.{count_handed, handed_length, own_used}
use Rattle.rules.proofs.Lawfuls.{lawful_placement}
use Rattle.rules.proofs.Origins.{AtHome, Came, From, Lodges, at_first, came, once_from}
use Rattle.rules.proofs.Owned.{own_from, own_in}
use Rattle.rules.proofs.Sounds.{same_held, same_state}
use Rattle.rules.proofs.Tallies.{count_holding}

-- no key stands twice in these cells
abbrev Once : {R K : Type 0} → (R → K) → Placement R → List (Option R) → Type 0
Once {R} key f cs = (b c : ℕ) (p q : R) → Lodges f cs b p → Lodges f cs c q → key p ≡ key q → b ≡ c

module _ {R K : Type 0} (key : R → K) (f : Placement R) (law : Lawful f) (home : AtHome f) (once : Once key f f.held) (r : R)
    (fresh : (c : ℕ) (q : R) → Lodges f f.held c q → key q ≡ key r → ⊥) (c : ℕ) (path : List ℕ) (route : Route f (word f r) c path) where
  abbrev after : List (Option R)
  after = handed (c ∷ path) (Some r) f.held

  below : c < f.size * f.cells
  below = own_used f law (word f r) c route.own

  -- what lies in the first cell is the new record
  is_new : (x : ℕ) (q : R) → x ≡ c → Lodges f after x q → r ≡ q
  is_new x q e h =
      same_held (get_or after c None) r q (at_first f law c path (Some r) below) (ap (λ z. get_or after z None) (sym e) ∙ h.1)

  old : (x : ℕ) (q : R) → x ≢ c → Lodges f after x q → Came f c path x q
  old = came f law home c path (Some r) below route.path

  new_home : (x : ℕ) (q : R) → Lodges f after x q → Own f (word f q) (x / f.cells)
  new_home x q h =
      elim (cases_eq x c) [
        | inl e ↦
            subst (λ t. Own f (word f t) (x / f.cells)) (is_new x q e h)
            (subst (λ z. Own f (word f r) (z / f.cells)) (sym e) route.own)
        | inr ne ↦ (old x q ne h).own
      ]

  both_old : (x z : ℕ) (p q : R) → x ≢ c → z ≢ c → key p ≡ key q → Came f c path x p → Came f c path z q → x ≡ z
  both_old x z p q nx nz e s t =
      let w = once s.cell t.cell p q s.lay t.lay e in
      once_from f.cells c path route.apart x z t.cell nx nz (subst (λ y. From c path x y) w s.from) t.from

  new_once : Once key f after
  new_once x z p q h k e =
      elim (cases_eq x c) [
        | inl ex ↦ elim (cases_eq z c) [
          | inl ez ↦ ex ∙ sym ez
          | inr nz ↦ let t = old z q nz k in absurd (fresh t.cell q t.lay (sym e ∙ ap key (sym (is_new x p ex h))))
        ]
        | inr nx ↦ elim (cases_eq z c) [
          | inl ez ↦ let t = old x p nx h in absurd (fresh t.cell p t.lay (e ∙ ap key (sym (is_new z q ez k))))
          | inr nz ↦ both_old x z p q nx nz e (old x p nx h) (old z q nz k)
        ]
      ]

  new_count : count holding (take (f.size * f.cells) after) ≡ count holding (take (f.size * f.cells) f.held) + 1
  new_count =
      let a = count_holding after (f.size * f.cells) in
      let b = count_holding f.held (f.size * f.cells) in
      let h = count_handed f law (λ _. true) c path (Some r) below route.path route.apart in
      omega arith

-- the table with the new record
abbrev pub entered : {R : Type 0} → State R → R → ℕ → List ℕ → State R
entered s r first rest = record { size = s.size; count = s.count + 1; cells = handed (first ∷ rest) (Some r) s.cells }

module _ {R K : Type 0} (key : R → K) (words : K → Words) (hash : Words → ℕ) (s : State R) (sound : Sound key words hash s) where
  abbrev place : Placement R
  place = placement_in key words hash s

  was_home : AtHome place
  was_home c q (l, h) = own_from place (word place q) (c / s.size.settings.cells) (sound.home c q (record { used = l; here = h }))

  was_once : Once key place s.cells
  was_once b c p q (l, h) (m, k) e = sound.once b c p q (record { used = l; here = h }) (record { used = m; here = k }) e

  module _ (r : R) (first : ℕ) (rest : List ℕ) (fresh : StoredKey key s (key r) → ⊥) (route : Route place (word place r) first rest) where
    was_fresh : (c : ℕ) (q : R) → Lodges place s.cells c q → key q ≡ key r → ⊥
    was_fresh c q (l, h) e = fresh (q, (c, record { used = l; here = h }), e)

    law : Lawful place
    law = lawful_placement (λ q. words (key q)) hash s.size s.cells sound.reach

    pub entered_sound : Sound key words hash (entered s r first rest)
    entered_sound = record {
      reach = let a = sound.reach in let b = handed_length (first ∷ rest) (Some r) s.cells in omega arith;
      home =
          λ c q h.
          own_in place (word place q) (c / s.size.settings.cells)
          (new_home key place law was_home was_once r was_fresh first rest route c q (h.used, h.here));
      once =
          λ b c p q h k e.
          new_once key place law was_home was_once r was_fresh first rest route b c p q (h.used, h.here) (k.used, k.here) e;
      counted = new_count key place law was_home was_once r was_fresh first rest route ∙ ap (λ n. n + 1) sound.counted;
    }

pub an_insert_keeps_sound : {R K : Type 0} → AnInsertKeepsSound R K
an_insert_keeps_sound key words hash s r first rest u sound enters =
    subst (Sound key words hash) (sym (same_state enters.size enters.count enters.cells))
    (entered_sound key words hash s sound r first rest enters.fresh enters.route)
