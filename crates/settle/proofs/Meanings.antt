-- What the search and the walk mean for a table: full buckets that nothing can leave, or a shortest route.
use Rattle.std.specs.Prelude.{Option}
use Rattle.std.proofs.Common.{◌≡◌, ℕ, suc, ◌/◌, ◌%◌, ◌<◌, true, false, ◌≢◌, List, get_or, Some, None, sym, ap, ◌∙◌, subst, arith}
use Rattle.std.proofs.lemmas.Option.{same_Some}
use Rattle.std.proofs.lemmas.Nat.{div-add-mod', mod_below}
use Rattle.std.proofs.lemmas.Bool.{ltb-false}
use Rattle.rules.specs.Placements.{Placement, Lawful, vacant, word}
use Rattle.rules.specs.Reach.{Blocked, Layers}
use Rattle.placing.proofs.Contents.{led_holds}
use Rattle.search.specs.Nets.{net_of}
use Rattle.search.specs.Searches.{Closed, Layered, Nearest}
use Rattle.search.proofs.Depths.{member, member_in, member_out}
use Rattle.settle.specs.declared.spot.Spot.{Spot}
use Rattle.settle.specs.Rooms.{Cleared, Roomed, Walked}

module _ {R : Type 0} (f : Placement R) (law : Lawful f) (v : ℕ) where
  no_room : (p : ℕ) → (net_of f).room p ≡ false → vacant f p ≡ 0
  no_room p e = let h = ltb-false 0 (vacant f p) e in omega arith

  slot_in : (c : ℕ) → c % f.cells < f.cells
  slot_in c = let l = law.some_cells in mod_below c f.cells (omega arith)

  -- where the record in a cell leads
  leads : (c : ℕ) (r : R) (i : ℕ) → get_or f.held c None ≡ Some r → (net_of f).next (c / f.cells) (c % f.cells) i ≡ f.lies (word f r) i
  leads c r i e = led_holds (λ r. f.lies (word f r) i) (c / f.cells) _ r (ap (λ y. get_or f.held y None) (div-add-mod' c f.cells) ∙ e)

  blocked : (came : List ℕ) → Closed (net_of f) (f.lies v) came → Blocked f v
  blocked came cl = record {
    set = member f.size came (λ _. 0) 0;
    first = λ i il. member_in f.size came (λ _. 0) 0 _ (law.inside v i il) (cl.starts i il) (omega arith);
    full = λ p e. let o = member_out f.size came (λ _. 0) 0 p e in (o.0, no_room p (cl.shut p o.0 o.1));
    shut = λ c r e h i il.
        let o = member_out f.size came (λ _. 0) 0 _ e in
        member_in f.size came (λ _. 0) 0 _ (law.inside (word f r) i il)
        (subst (λ y. get_or came y 0 ≢ 0) (leads c r i h) (cl.next (c / f.cells) (c % f.cells) i o.0 o.1 (slot_in c) il)) (omega arith);
  }

  layers : (m : ℕ) → Layered (net_of f) (f.lies v) m → Layers f v m
  layers m ly = record {
    set = ly.set;
    first = ly.starts;
    grows = ly.grows;
    next = λ d dl c r e h i il. subst (λ y. ly.set (suc d) y ≡ true) (leads c r i h) (ly.next d dl (c / f.cells) (c % f.cells) i (slot_in c) il e);
    full = λ d dl p e. let o = ly.full d dl p e in (o.0, no_room p o.1);
  }

  module _ (came : List ℕ) (after : List (Option R)) (Wrote : (ℕ → Type 0) → Type 0) where
    cleared : (q : ℕ) (s : Spot) (n : Nearest (net_of f) (f.lies v) came q) → Walked f came s n.steps after Wrote → Cleared f v after Wrote s
    cleared q s n w = record {
      rest = w.rest;
      route = record { own = n.ones _ w.inside w.start; path = w.path; apart = w.apart };
      long = w.long;
      cells = w.cells;
      wrote = w.wrote;
      least = layers s.moves (subst (Layered (net_of f) (f.lies v)) (sym w.steps) n.layered);
      below = w.below;
    }

    pub roomed_some : (q : ℕ) (s : Spot) (n : Nearest (net_of f) (f.lies v) came q) → Walked f came s n.steps after Wrote → Roomed f v after Wrote (Some s)
    roomed_some q s n w = record {
      blocked = λ e. cc;
      cleared = λ x e. subst (Cleared f v after Wrote) (same_Some s x e) (cleared q s n w);
    }

    pub roomed_none : Closed (net_of f) (f.lies v) came → after ≡ f.held → Wrote (λ c. ⊥) → Roomed f v after Wrote None
    roomed_none cl e w = record {
      blocked = λ k. (blocked came cl, e, w);
      cleared = λ s k. cc;
    }
