-- The graph of a placement's buckets.
use Rattle.std.specs.Prelude.{None, option_map}
use Rattle.std.proofs.Common.{◌≡◌, ℕ, ◌+◌, ◌*◌, ◌<◌, false, get_or, Option, sym, ap, ◌∙◌, arith, le-ltb}
use Rattle.rules.specs.Placements.{Placement, Lawful, vacant, word}
use Rattle.placing.specs.Held.{led_by}
use Rattle.placing.proofs.Contents.{led_below, led_by_lem}
use Rattle.search.specs.Nets.{net_of}
use Rattle.search.proofs.Turns.{Within}

module _ {R : Type 0} (f : Placement R) where
  pub within : Lawful f → Within (net_of f)
  within law p s i pl sl il = led_below _ p f.size (get_or f.held (p * f.cells + s) None) pl (λ r. law.inside (word f r) i il)

  -- a full bucket has no room
  pub shut : (p : ℕ) → vacant f p ≡ 0 → (net_of f).room p ≡ false
  shut p e = le-ltb 0 (vacant f p) (omega arith)

  -- where the cell of a slot leads, by its hash word: to a bucket that there is, along an edge, which the mark names
  pub edge :
      Lawful f → (p p' s i slots : ℕ) (held : Option ℕ) (q : ℕ) → p < f.size → s < f.cells → i < f.choices → slots ≡ f.cells → p ≡ p' →
      held ≡ option_map (word f) (get_or f.held (p * slots + s) None) → q ≡ led_by (λ v. f.lies v i) p held →
      (q < f.size) × ((net_of f).next p' s i ≡ q) × (2 + (p * slots + s) ≡ 2 + (p' * f.cells + s))
  edge law p p' s i slots held q pl sl il es ep eh eq =
      let to : q ≡ (net_of f).next p s i =
      eq
      ∙ ap (led_by (λ v. f.lies v i) p) (eh ∙ ap (λ (n : ℕ). option_map (word f) (get_or f.held (p * n + s) None)) es)
      ∙ led_by_lem (word f) (λ v. f.lies v i) p (get_or f.held (p * f.cells + s) None) in
      let inside = within law p s i pl sl il in
      (omega arith, ap (λ y. (net_of f).next y s i) (sym ep) ∙ sym to, ap (λ n. 2 + (p * n + s)) es ∙ ap (λ y. 2 + (y * f.cells + s)) ep)
