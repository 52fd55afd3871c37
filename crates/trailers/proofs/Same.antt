-- A layout is told by its numbers.
use Rattle.std.proofs.Common.{◌≡◌, ap}
use Rattle.addresses.proofs.Steps.{same_settings, same_size}
use Rattle.trailers.specs.declared.layouts.Layout.{Layout}
use Rattle.trailers.specs.Layouts.{numbers_of}

pub same_layout : {l m : Layout} → numbers_of l ≡ numbers_of m → l ≡ m
same_layout {l} {m} e =
    let s = same_settings {s = l.size.settings} {u = m.size.settings} (ap (λ n. n.t) e) (ap (λ n. n.cells) e) (ap (λ n. n.choices) e) (ap (λ n. n.start) e) (ap (λ n. n.load) e) in
    let z = same_size {z = l.size} {y = m.size} s (ap (λ n. n.x) e) (ap (λ n. n.j) e) in
    λ i. record { kind = (e i).kind; family = (e i).family; size = z i; distance = (e i).distance; count = (e i).count }
