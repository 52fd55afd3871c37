-- What an insert leaves once a place is settled for its record.
use Rattle.std.specs.Prelude.{Some, None, Option}
use Rattle.std.proofs.Common.{◌≡◌, ℕ, ◌+◌, ◌-◌, ◌/◌, ◌^◌, ◌<◌, ◌≤◌, ◌⊎◌, List, ◌∷◌, length, get_or, min, set, Ok, Err, Result, sym, refl, ap, ◌∙◌, subst, inl, inr, ⊎_elim, arith}
use Rattle.records.specs.declared.declines.Decline.{Decline}
use Rattle.records.specs.declared.numbers.Words.{Words}
use Rattle.records.specs.Declines.{number}
use Rattle.addresses.specs.Sized.{buckets_in}
use Rattle.assignment.specs.Assign.{In}
use Rattle.stores.specs.Makings.{Raw}
use Rattle.rules.specs.Calls.{Inserted, Inserts, insert_rows}
use Rattle.rules.specs.Placements.{Placement, Direct, Displaced, Lawful, LowestEmpty, Own, Route, handed}
use Rattle.rules.specs.Rows.{First}
use Rattle.rules.specs.Stored.{StoredKey, placement_in}
use Rattle.rules.specs.Tables.{State, Sound, used_in}
use Rattle.rules.specs.Theorems.{Enters, ToldApart}
use Rattle.rules.specs.Written.{Kept, Wrote}
use Rattle.rules.proofs.Additions.{an_insert_is_an_assignment}
use Rattle.rules.proofs.Departures.{a_route_counts_moves}
use Rattle.rules.proofs.Entries.{an_insert_keeps_sound}
use Rattle.rules.proofs.Fulls.{blocked_is_full, layers_are_fewest}
use Rattle.rules.proofs.Handings.{handed_length, handed_off, not_again, path_used}
use Rattle.rules.proofs.Lawfuls.{lawful_placement}
use Rattle.rules.proofs.Owned.{own_from}
use Rattle.rules.proofs.Sounds.{same_state}
use Rattle.settle.specs.declared.spot.Spot.{Spot}
use Rattle.settle.specs.Settled.{Ready, Refused, Settled}
use Rattle.settle.specs.Surveys.{Absent}
use Rattle.settle.proofs.Places.{same_ok}
use Rattle.settle.proofs.Walks.{wrote_more}
use Rattle.table.proofs.Limits.{one_more}

-- a record that goes directly to its bucket takes a route too
direct_route : {R : Type 0} (f : Placement R) (v first : ℕ) (rest : List ℕ) → Direct f v first rest → Route f v first rest
direct_route f v first rest d = subst (Route f v first) (sym d.alone) (record {
  own = (d.choice, d.below, sym d.lowest.within);
  path = subst (λ p. LowestEmpty f p first) (sym d.lowest.within) d.lowest;
  apart = ((λ n l e. omega arith), tt);
})

pub route_of : {R : Type 0} (f : Placement R) (v first : ℕ) (rest : List ℕ) → Direct f v first rest ⊎ Displaced f v first rest → Route f v first rest
route_of f v first rest (inl d) = direct_route f v first rest d
route_of f v first rest (inr d) = d.route

module _ {R K : Type 0} (key : R → K) (words : K → Words) (hash : Words → ℕ) (s : State R) (r : R) where
  -- the key is stored if and only if it lies in an own bucket
  not_stored : Sound key words hash s → Absent (placement_in key words hash s) (words (key r)) → StoredKey key s (key r) → ⊥
  not_stored sound a (q, (c, h), e) =
      a c (subst (λ k. Own (placement_in key words hash s) (hash (words k)) (c / s.size.settings.cells)) e (own_from (placement_in key words hash s) (hash (words (key q))) (c / s.size.settings.cells) (sound.home c q h)))
      (q, h.here, ap words e)

  module _ (v w : ℕ) (lv : buckets_in s.size ≤ v) (lw : buckets_in s.size ≤ w) where
    long : (v < buckets_in s.size) ⊎ (w < buckets_in s.size) → ⊥
    long h = ⊎_elim {C = ⊥} (λ x. omega arith) (λ x. omega arith) h

    module _ {N : Type 0} (code : ℕ → Option R → Raw N) (raw raw' raw'' : ℕ → Raw N) (mid : List (Option R)) where
      -- a place is settled, and the record was written there
      module _ (spot : Spot) (ready : Ready (placement_in key words hash s) (words (key r)) mid (Wrote code raw raw' mid) spot) (u : State R)
          (reach : used_in s.size ≤ length s.cells) (size : u.size ≡ s.size) (cells : u.cells ≡ set mid spot.cell (Some r))
          (others : (c : ℕ) → (c ≡ spot.cell → ⊥) → raw'' c ≡ raw' c)
          (made : spot.cell < length mid → raw'' spot.cell ≡ code spot.cell (Some r)) where
        law : Lawful (placement_in key words hash s)
        law = lawful_placement (λ q. words (key q)) hash s.size s.cells reach

        route : Route (placement_in key words hash s) (hash (words (key r))) spot.cell ready.rest
        route = route_of (placement_in key words hash s) (hash (words (key r))) spot.cell ready.rest ready.way

        handing : u.cells ≡ handed (spot.cell ∷ ready.rest) (Some r) s.cells
        handing = cells ∙ ap (λ l. set l spot.cell (Some r)) ready.cells

        in_mid : spot.cell < length mid
        in_mid =
            let a = ap length ready.cells in
            let b = handed_length ready.rest (get_or s.cells spot.cell None) s.cells in
            let d = ready.below in
            omega arith

        wrote : Wrote code raw raw'' u.cells (λ c. In c (spot.cell ∷ ready.rest))
        wrote =
            subst (λ l. Wrote code raw raw'' l (λ c. In c (spot.cell ∷ ready.rest))) (sym cells)
            (wrote_more code raw raw' raw'' mid ready.rest spot.cell (Some r) ready.wrote in_mid
            (not_again s.size.settings.cells spot.cell ready.rest route.apart) others (made in_mid))

        -- cells past the used ones are none of the route's
        off : (c : ℕ) → used_in s.size ≤ c → In c (spot.cell ∷ ready.rest) → ⊥
        off c l i = let x = path_used (placement_in key words hash s) law spot.cell ready.rest ready.below route.path c i in omega arith

        pub inserted_kept : Kept (used_in s.size) s.cells u.cells raw raw''
        inserted_kept = record {
          reach = ap length handing ∙ handed_length (spot.cell ∷ ready.rest) (Some r) s.cells;
          past = λ c l. ap (λ ys. get_or ys c None) handing ∙ handed_off (spot.cell ∷ ready.rest) (Some r) s.cells c (off c l);
          made = λ c l. wrote.others c (off c l);
        }

        module _ (apart : ToldApart words) (sound : Sound key words hash s) (count : u.count ≡ s.count + 1) where
          enters : Enters key words hash s r spot.cell ready.rest u
          enters = record { fresh = not_stored sound ready.absent; route = route; size = size; count = count; cells = handing }

          inserted : Inserted key words hash s r u (Wrote code raw raw'' u.cells) spot.moves
          inserted = record {
            first = spot.cell;
            rest = ready.rest;
            way = ready.way;
            size = size;
            count = count;
            cells = handing;
            wrote = wrote;
            long = ready.long;
            assigned = an_insert_is_an_assignment key words apart hash s r spot.cell ready.rest u sound enters;
            changed = λ a b la lb. a_route_counts_moves key words hash s r spot.cell ready.rest u sound enters a b la lb ∙ ready.long;
            fewest = λ a b la ab. layers_are_fewest key words hash s reach r spot.moves ready.least a b la ab;
          }

          pub inserts_ok : Inserts key words hash s r v w u (Wrote code raw raw'' u.cells) (Ok spot.moves)
          inserts_ok =
              let a = inserted.assigned in
              record {
                first = inr (long, inr (not_stored sound ready.absent, inr ((λ n. n (a.0, a.2)), refl)));
                declined = λ d e. cc;
                taken = λ m e. subst (Inserted key words hash s r u (Wrote code raw raw'' u.cells)) (same_ok spot.moves m e) inserted;
              }

          pub inserted_sound : Sound key words hash u
          inserted_sound = an_insert_keeps_sound key words hash s r spot.cell ready.rest u sound enters

    -- no place is settled
    module _ {N : Type 0} (apart : ToldApart words) (code : ℕ → Option R → Raw N) (raw raw' : ℕ → Raw N) (d : Decline) (u : State R)
        (refused : Refused (placement_in key words hash s) (words (key r)) u.cells (Wrote code raw raw' u.cells) (number d)) (same : u ≡ s) where
      why : (sound : Sound key words hash s) → First (insert_rows key words hash s r v w) (number d)
      why sound =
          ⊎_elim
          (λ k.
          let h = k.1.1.has in
          let at = k.1.1.below in
          inr (long, inl ((h.0, (k.1.0, record { used = at; here = h.1 }), apart (key h.0) (key r) h.2), k.0)))
          (λ k. inr (long, inr (not_stored sound k.1, inl (blocked_is_full key words hash s sound.reach r k.2, k.0))))
          refused.why

      pub inserts_err : (sound : Sound key words hash s) → Inserts key words hash s r v w u (Wrote code raw raw' u.cells) (Err d)
      inserts_err sound = record {
        first = why sound;
        declined = λ e i. (same, refused.wrote);
        taken = λ m i. cc;
      }

      pub refused_kept : Kept (used_in s.size) s.cells u.cells raw raw'
      refused_kept = record {
        reach = ap (λ x. length x.cells) same;
        past = λ c l. ap (λ x. get_or x.cells c None) same;
        made = λ c l. refused.wrote.others c (λ z. z);
      }

-- what an insert leaves, and what it answers
pub record Leaves {N R K : Type 0} (key : R → K) (words : K → Words) (hash : Words → ℕ) (s : State R) (r : R) (v w : ℕ) (code : ℕ → Option R → Raw N) (raw raw' : ℕ → Raw N) (u : State R) (answer : Result ℕ Decline) : Type 0 where
  pub inserted : Sound key words hash s → Inserts key words hash s r v w u (Wrote code raw raw' u.cells) answer
  pub sound : Sound key words hash s → Sound key words hash u
  pub kept : Kept (used_in s.size) s.cells u.cells raw raw'

module _ {N R K : Type 0} (key : R → K) (words : K → Words) (apart : ToldApart words) (hash : Words → ℕ) (s : State R) (r : R) (k : Words) (ek : k ≡ words (key r))
    (v w : ℕ) (lv : buckets_in s.size ≤ v) (lw : buckets_in s.size ≤ w) (code : ℕ → Option R → Raw N) (raw raw' : ℕ → Raw N) (mid : List (Option R)) (answer : Result Spot Decline)
    (settled : Settled (placement_in key words hash s) k mid (Wrote code raw raw' mid) answer) where
  of_key : Settled (placement_in key words hash s) (words (key r)) mid (Wrote code raw raw' mid) answer
  of_key = subst (λ y. Settled (placement_in key words hash s) y mid (Wrote code raw raw' mid) answer) ek settled

  -- a place is settled, and the record was written there
  pub leaves_ok :
      (spot : Spot) → answer ≡ Ok spot → used_in s.size ≤ length s.cells → (code' : ℕ → Option R → Raw N) → code' ≡ code → (raw'' : ℕ → Raw N) (u : State R) →
      u.size ≡ s.size → u.cells ≡ set mid spot.cell (Some r) → ((c : ℕ) → (c ≡ spot.cell → ⊥) → raw'' c ≡ raw' c) →
      (spot.cell < length mid → raw'' spot.cell ≡ code' spot.cell (Some r)) → u.count ≡ min (s.count + 1) (2 ^ 32 - 1) →
      Leaves key words hash s r v w code raw raw'' u (Ok spot.moves)
  leaves_ok spot is reach code' ec raw'' u size cells others made count =
      let ready = of_key.ready spot is in
      let made' = λ (l : spot.cell < length mid). made l ∙ ap (λ q. q spot.cell (Some r)) ec in
      record {
        inserted = λ sound. inserts_ok key words hash s r v w lv lw code raw raw' raw'' mid spot ready u reach size cells others made' apart sound (one_more key words hash s sound _ count);
        sound = λ sound. inserted_sound key words hash s r v w lv lw code raw raw' raw'' mid spot ready u reach size cells others made' apart sound (one_more key words hash s sound _ count);
        kept = inserted_kept key words hash s r v w lv lw code raw raw' raw'' mid spot ready u reach size cells others made';
      }

  -- no place is settled
  pub leaves_err :
      (d : Decline) → answer ≡ Err d → Leaves key words hash s r v w code raw raw' (record { size = s.size; count = s.count; cells = mid }) (Err d)
  leaves_err d is =
      let u : State R = record { size = s.size; count = s.count; cells = mid } in
      let refused = of_key.refused d is in
      let same = same_state {s = u} {u = s} refl refl refused.cells in
      record {
        inserted = inserts_err key words hash s r v w lv lw apart code raw raw' d u refused same;
        sound = λ sound. subst (Sound key words hash) (sym same) sound;
        kept = refused_kept key words hash s r v w lv lw apart code raw raw' d u refused same;
      }
