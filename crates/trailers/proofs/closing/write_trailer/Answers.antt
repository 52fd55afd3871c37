use Rattle.std.proofs.Common.{◌≡◌, ◌+◌, ◌-◌, ◌≤◌, [], ◌++◌, length, take, drop, ap, ◌∙◌, arith}
use Rattle.std.proofs.lemmas.List.{append-nil, drop-drop, drop_all}
use Rattle.trailers.proofs.closing.write_trailer.Goals as goal

pub returns : goal.returns
returns c =
    let bs = c.args.bytes.now in
    let b = length bs - 32 in
    let k : length bs ≤ b + ((b + 32) - b) = omega arith in
    let none : drop ((b + 32) - b) (drop b bs) ≡ [] = drop-drop ((b + 32) - b) b bs ∙ drop_all (b + ((b + 32) - b)) bs k in
    ap (λ zs. take b bs ++ (c.copy_from_slice.new.self ++ zs)) none
    ∙ ap (λ ys. take b bs ++ ys) (append-nil c.copy_from_slice.new.self ∙ c.copy_from_slice.ensures.after ∙ c.trailer_bytes-code.ensures)
