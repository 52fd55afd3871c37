use Rattle.std.proofs.Common.{◌≡◌, ◌∙◌, arith}
use Rattle.records.specs.declared.declines.Decline.TheVariants.{TooManyBuckets}
use Rattle.addresses.specs.Positions.{grown_x, grown_j}
use Rattle.addresses.specs.Sized.{Grown}
use Rattle.addresses.proofs.Splits.{grown_fits}
use Rattle.addresses.proofs.Steps.{next_buckets}
use Rattle.addresses.proofs.Computed.{taken_from}
use Rattle.addresses.proofs.sizes.Size.grown.Goals as goal

pub returns : goal.returns
returns c =
    let z = c.args.self in
    let x : c.if-self-subtables.x.0 ≡ grown_x z.settings.t z.x z.j = grind arith in
    let j : c.if-self-subtables.x.1 ≡ grown_j z.settings.t z.x z.j = grind arith in
    rw c.ok_or.ensures.value
    (taken_from TooManyBuckets c.new.result c.new.ensures
    (λ h. grown_fits z.settings.t z.x z.j _ _ z.settings.start x j z.below z.floor h)
    (λ s h.
    let g : Grown z s = record { settings = h.0; x = h.1 ∙ x; j = h.2 ∙ j } in
    let e = next_buckets z s g in
    let r = s.room in
    (omega arith, g)))
