use Rattle.std.proofs.Common.{◌≡◌, ◌-◌, true, ◌++◌, length, drop, replicate, sym, ap, ◌∙◌, arith}
use Rattle.std.proofs.lemmas.List.{drop-replicate}
use Rattle.records.specs.Bytes.{word8, word4}
use Rattle.records.specs.Plates.{all_characters_lem, padded, plate_in}
use Rattle.records.specs.Taken.{taken_as}
use Rattle.records.proofs.Runs.{plate_text, padded_length}
use Rattle.records.proofs.plates.Plate.from_text.Goals as goal

pub returns : goal.returns
returns c =
    let cs = c.args.text.now in
    let all : all_characters_lem cs ≡ true = sym c.all_characters.ensures ∙ c.if-not-all_characters.false in
    let e : c.copy_from_slice.new.self ++ drop (length cs) (replicate 12 32) ≡ padded cs =
    ap (λ ys. ys ++ drop (length cs) (replicate 12 32)) c.copy_from_slice.ensures.after ∙ ap (λ ys. cs ++ ys) (drop-replicate (length cs) 12 32) in
    taken_as 3 c.from_bytes.result c.from_bytes.ensures
    (λ _. (grind arith, omega arith, all))
    (λ t. (ap length e ∙ padded_length cs t.1, ap plate_in e ∙ plate_text cs (12 - length cs) t.0 t.2))
    (λ x _ q. (q.0 ∙ ap (λ bs. word8 bs 0) e, q.1 ∙ ap (λ bs. word4 bs 8) e))
