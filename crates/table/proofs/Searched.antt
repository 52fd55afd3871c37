-- What a search of the own buckets says of a key.
use Rattle.std.specs.Prelude.{Some, None, Option}
use Rattle.std.proofs.Common.{◌≡◌, ℕ, ◌/◌, List, sym, ap, subst}
use Rattle.std.proofs.lemmas.Option.{same_Some}
use Rattle.records.specs.declared.numbers.Words.{Words}
use Rattle.addresses.specs.declared.sizes.Size.{Size}
use Rattle.rules.specs.Tables.{State, HoldsAt, choice_at, used_in}
use Rattle.rules.proofs.Owned.{choice_of_lem}
use Rattle.lookup.specs.declared.hit.Hit.{Hit}
use Rattle.lookup.specs.Finds.{Found, Match}
use Rattle.lookup.proofs.Seeks.{none_there}
use Rattle.table.specs.Seeks.{Sought}

module _ {R K : Type 0} (key : R → K) (words : K → Words) (hash : Words → ℕ) (z : Size) (cells : List (Option R)) (k : K) where
  abbrev table : State R
  table = record { size = z; count = 0; cells = cells }

  pub sought_found :
      ((a b : K) → words a ≡ words b → a ≡ b) → (o : Option (Hit R)) → Found (λ x. words (key x)) cells hash z (words k) (used_in z) o → Sought key words hash table k o
  sought_found apart None none = record {
    here = λ h e. cc;
    same = λ h e. cc;
    none = λ _ c r at e own.
        let i = choice_of_lem hash z (words k) (c / z.settings.cells) own in
        none_there (Match (λ x. words (key x)) cells (words k) (used_in z)) (choice_at hash z (words k)) z.settings.choices z.settings.cells z.settings.some_cells none i.0 c i.1 (sym i.2)
        (at.used, (r, record { here = at.here; same = ap words e }));
  }
  sought_found apart (Some x) (first, meets) = record {
    here = λ h e. subst (λ y. HoldsAt table y.cell y.held) (same_Some x h e) (record { used = first.first.here.0; here = meets.here });
    same = λ h e. subst (λ y. key y.held ≡ k) (same_Some x h e) (apart (key x.held) k meets.same);
    none = λ e. cc;
  }
