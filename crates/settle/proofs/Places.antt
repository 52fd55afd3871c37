-- The place that is settled for a key, by each way to it.
use Rattle.std.specs.Prelude.{ok_or}
use Rattle.std.proofs.Common.{◌≡◌, ℕ, ◌<◌, ◌≤◌, List, [], Some, None, Ok, Err, Option, Result, refl, subst, inl, inr}
use Rattle.records.specs.declared.declines.Decline.{Decline}
use Rattle.records.specs.declared.declines.Decline.TheVariants.{Full, KeyStored}
use Rattle.records.specs.declared.numbers.Words.{Words}
use Rattle.records.specs.Declines.{number}
use Rattle.rules.specs.Placements.{Placement, Lawful}
use Rattle.placing.specs.declared.looks.Gap.{Gap}
use Rattle.settle.specs.declared.spot.Spot.{Spot}
use Rattle.settle.specs.Rooms.{Roomed}
use Rattle.settle.specs.Settled.{Ready, Refused, Settled}
use Rattle.settle.specs.Surveys.{Absent, Best, Surveyed}
use Rattle.settle.proofs.Bests.{all_full, direct, direct_below, no_layers}

pub same_ok : {X Y : Type 0} (x y : X) → ◌≡◌ {A = Result X Y} (Ok x) (Ok y) → x ≡ y
same_ok x y e = cc

pub same_err : {X Y : Type 0} (x y : Y) → ◌≡◌ {A = Result X Y} (Err x) (Err y) → x ≡ y
same_err x y e = cc

-- a survey that is no decline: the key lies in no own bucket, and which of these has most room
pub surveyed :
    {R : Type 0} (f : Placement R) (w : Words) (o : Option Gap) → Surveyed f w o → (g : Gap) (r : Result Gap Decline) → r ≡ ok_or o KeyStored → r ≡ Ok g →
    Absent f w × Best f (f.hash w) f.choices g
surveyed f w None s g r e k = cc
surveyed f w (Some x) s g r e k = let i : Some x ≡ Some g = cc in (s.absent g i, s.best g i)

module _ {R : Type 0} (f : Placement R) (w : Words) (after : List (Option R)) (Wrote : (ℕ → Type 0) → Type 0) where
  ready : (s : Spot) → Ready f w after Wrote s → Settled f w after Wrote (Ok s)
  ready s k = record {
    ready = λ x e. subst (Ready f w after Wrote) (same_ok s x e) k;
    refused = λ d e. cc;
  }

  refused : (d : Decline) → Refused f w after Wrote (number d) → Settled f w after Wrote (Err d)
  refused d k = record {
    ready = λ s e. cc;
    refused = λ x e. subst (λ y. Refused f w after Wrote (number y)) (same_err d x e) k;
  }

  module _ (v : ℕ) (h : v ≡ f.hash w) (g : Gap) (seen : Absent f w × Best f (f.hash w) f.choices g) where
    -- an own bucket has room
    pub settled_direct :
        Lawful f → 0 < g.count → after ≡ f.held → Wrote (λ c. ⊥) → Settled f w after Wrote (Ok (record { cell = g.cell; moves = 0 }))
    settled_direct law p e n = ready (record { cell = g.cell; moves = 0 }) (record {
      absent = seen.0;
      rest = [];
      way = inl (direct f (f.hash w) g seen.1 p);
      long = refl;
      cells = e;
      wrote = n;
      least = no_layers f (f.hash w);
      below = direct_below f (f.hash w) law g seen.1 p;
    })

    -- none has: other records made way, or none can
    pub settled_otherwise : g.count ≤ 0 → (o : Option Spot) → Roomed f v after Wrote o → Settled f w after Wrote (ok_or o Full)
    settled_otherwise z None m =
        let k = (subst (λ u. Roomed f u after Wrote None) h m).blocked refl in
        refused Full (record { why = inr (refl, seen.0, k.0); cells = k.1; wrote = k.2 })
    settled_otherwise z (Some s) m =
        let k = (subst (λ u. Roomed f u after Wrote (Some s)) h m).cleared s refl in
        ready s (record {
          absent = seen.0;
          rest = k.rest;
          way = inr (record { full = all_full f (f.hash w) g seen.1 z; route = k.route });
          long = k.long;
          cells = k.cells;
          wrote = k.wrote;
          least = k.least;
          below = k.below;
        })
