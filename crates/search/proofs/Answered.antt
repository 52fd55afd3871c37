-- What the search answers.
use Rattle.std.proofs.Common.{ℕ, ◌*◌, ◌<◌, List, Some, refl, subst}
use Rattle.std.proofs.lemmas.Option.{same_Some}
use Rattle.rules.specs.Placements.{Placement, LowestEmpty}
use Rattle.placing.specs.Looks.{Roomy}
use Rattle.search.specs.declared.found.Found.{Found}
use Rattle.search.specs.Nets.{net_of}
use Rattle.search.specs.Searches.{Nearest, Searched}

module _ {R : Type 0} (f : Placement R) (v : ℕ) (came : List ℕ) where
  pub searched_some : (q : Found) → Nearest (net_of f) (f.lies v) came q.bucket → Roomy f q.bucket (Some q.cell) → Searched f v came (Some q)
  searched_some q n r = record {
    closed = λ e. cc;
    nearest = λ p e. subst (λ (x : Found). Nearest (net_of f) (f.lies v) came x.bucket) (same_Some q p e) n;
    free = λ p e. subst (λ (x : Found). LowestEmpty f x.bucket x.cell) (same_Some q p e) (r.room q.cell refl);
    below = λ p e. subst (λ (x : Found). x.cell < f.size * f.cells) (same_Some q p e) (r.below q.cell refl);
  }
