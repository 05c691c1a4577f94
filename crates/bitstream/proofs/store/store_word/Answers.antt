-- Four bytes in a row are the 32 bits of the word.
use Rattle.std.proofs.Common.{◌≡◌, ◌+◌, ◌-◌, ◌/◌, ◌%◌, ◌^◌, [], ◌∷◌, refl, ◌∙◌, arith}
use Rattle.bitstream.proofs.Writes.{stored}
use Rattle.bitstream.proofs.store.store_word.Goals as goal

pub returns-then-at-out : goal.returns-then-at-out
returns-then-at-out c =
    let w = c.args.w in
    let four : c.args.at + 4 - c.args.at ≡ 4 = omega arith in
    let bytes : c.copy_from_slice.new.self ≡ w / 256 ^ 3 % 256 ∷ w / 256 ^ 2 % 256 ∷ w / 256 % 256 ∷ w % 256 ∷ [] =
    let third : w % 2 ^ 32 / 256 ^ 3 % 256 ≡ w / 256 ^ 3 % 256 = omega arith in
    let second : w % 2 ^ 32 / 256 ^ 2 % 256 ≡ w / 256 ^ 2 % 256 = omega arith in
    let first : w % 2 ^ 32 / 256 % 256 ≡ w / 256 % 256 = omega arith in
    let last : w % 2 ^ 32 % 256 ≡ w % 256 = omega arith in
    c.copy_from_slice.ensures.after ∙ c.to_be_bytes.ensures ∙ rw (third, second, first, last) refl in
    rw (four, bytes) (stored c.args.out.now c.args.at w (omega arith))
